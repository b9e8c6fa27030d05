-- Results for a tree with a given image.
use Rattle.std.proofs.Common.{◌≡◌, Option, Some, None, sym, ◌∙◌}
use Rattle.amqp_data.specs.declared.error.Error.{Error}
use Rattle.amqp_data.specs.declared.error.Error.TheVariants.{OutOfMemory}
use Rattle.amqp_ser.specs.Tree.{Tree}
use Rattle.amqp_value.specs.TreeOf.{tree_of}
use Rattle.amqp_value.specs.declared.value.Value.{Value}
use Rattle.amqp_to_value.specs.ImageOf.{Represents, refuses}
use Rattle.amqp_to_value.proofs.LazyLemmas.{read_refused}
use Rattle.amqp_to_value.proofs.ReadLemmas.{opened-itself, represents-image}
use Rattle.amqp_from_value.specs.HasImage.{HasImage}

-- A value that represents the tree has that image.
pub read_for : (o : Option Tree) (u : Tree) (v : Value) → HasImage o u → Represents v o → tree_of v ≡ u
read_for None u v h is = absurd h
read_for (Some t) u v h is = represents-image t v h.1 is ∙ sym h.0

-- The only permitted error is out of memory.
pub refused_for : (o : Option Tree) (u : Tree) (e : Error) → HasImage o u → refuses e o → e ≡ OutOfMemory
refused_for None u e h is = absurd h
refused_for (Some t) u e h is = read_refused e t t (opened-itself t h.1) is
