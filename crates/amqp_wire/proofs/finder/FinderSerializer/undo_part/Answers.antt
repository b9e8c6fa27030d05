use Rattle.std.proofs.Common.{refl}
use Rattle.amqp_wire.proofs.Parts.{undone}
use Rattle.amqp_wire.proofs.finder.FinderSerializer.undo_part.Goals as goal

pub returns-clause-back : goal.returns-clause-back
returns-clause-back c = λ start ps p h even. (undone start c.args.compound.now _ ps p h.0 even refl refl refl refl, h.1)
