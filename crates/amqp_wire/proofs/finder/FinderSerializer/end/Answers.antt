use Rattle.std.proofs.Common.{Ok, sym, subst}
use Rattle.amqp_ser.specs.Compounds.{tree_of_parts}
use Rattle.amqp_wire.specs.EmptyArrays.{Finds}
use Rattle.amqp_ser.specs.Meant.{meant}
use Rattle.amqp_wire.specs.declared.finder.NoTree.{NoTree}
use Rattle.amqp_wire.proofs.Parts.{ended, not_ended}
use Rattle.amqp_wire.proofs.finder.FinderSerializer.end.Goals as goal

pub returns-then-compound : goal.returns-then-compound
returns-then-compound c = λ start kind ps h done. (subst (λ b. Finds {E = NoTree} (meant start.pending (tree_of_parts kind ps)) (Ok b)) (sym c.either.ensures) (ended start kind c.args.compound ps h.0 done c.if-compound.true), h.1)

pub returns-else-compound : goal.returns-else-compound
returns-else-compound c = λ start kind ps h done. (not_ended start kind c.args.compound ps (record {}) h.0 c.if-compound.false, h.1)
