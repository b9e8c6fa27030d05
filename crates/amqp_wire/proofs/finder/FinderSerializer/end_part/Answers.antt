use Rattle.std.proofs.Common.{refl, subst}
use Rattle.amqp_wire.specs.EmptyArrays.{Finds}
use Rattle.amqp_ser.specs.Meant.{meant}
use Rattle.amqp_wire.specs.declared.finder.Finder.{Finder}
use Rattle.amqp_wire.specs.declared.finder.NoTree.{NoTree}
use Rattle.amqp_wire.proofs.Parts.{taken, refused}
use Rattle.amqp_wire.proofs.finder.FinderSerializer.end_part.Goals as goal

pub returns-in-Ok-clause-step : goal.returns-in-Ok-clause-step
returns-in-Ok-clause-step c = λ start kind before ps p h given.
    let finds = subst (λ (f : Finder). Finds {E = NoTree} (meant f.pending p) c.args.part) h.1 given.0 in
    (taken start c.in-Ok.found kind c.args.compound.now _ ps p h.0 (subst (Finds {E = NoTree} (meant c.args.compound.now.next.pending p)) c.in-Ok.is finds) refl c.new-compound.ensures refl c.either-compound.ensures refl, given.1)

pub returns-in-Err-clause-step : goal.returns-in-Err-clause-step
returns-in-Err-clause-step c = λ start kind before ps p h given.
    let finds = subst (λ (f : Finder). Finds {E = NoTree} (meant f.pending p) c.args.part) h.1 given.0 in
    ((h.0, given.1), λ rest. (refused start kind c.args.compound.now ps p c.in-Err.error h.0 (subst (Finds {E = NoTree} (meant c.args.compound.now.next.pending p)) c.in-Err.is finds) rest, given.1))
