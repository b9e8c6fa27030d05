use Rattle.amqp_value.specs.TreeOf.{tree_of}
use Rattle.amqp_de.proofs.AnyForms.{looks_of}
use Rattle.amqp_de.proofs.held.HeldSource.source_kind.Goals as goal

pub returns : goal.returns
returns c w = looks_of c.source_kind_of.result (tree_of c.args.self.now.value) c.source_kind_of.ensures
