use Rattle.std.proofs.Common.{◌∙◌}
use Rattle.amqp_value.specs.TreeOf.{tree_of}
use Rattle.amqp_value.proofs.SoundLemmas.{image-sound, never_transparent, sound-plain}
use Rattle.amqp_wire.proofs.LazyRoot.{refused_writable}
use Rattle.serde_amqp.proofs.LazyLemmas.{held-image, held-refused, own-bytes, plain-ordinary}
use Rattle.serde_amqp.proofs.laws.sound_values_return_from_lazy_values.Goals as goal

pub returns : goal.returns
returns c = record {
  value = λ v w h r ok le s. held-image (tree_of v) w (own-bytes (tree_of v) r ok (plain-ordinary (tree_of v) (sound-plain v h)) 256 le) s ∙ image-sound v h;
  written = λ v e ok refused. refused_writable (tree_of v) e (never_transparent v) ok refused;
  read = λ v e h r ok le s. held-refused (tree_of v) e (own-bytes (tree_of v) r ok (plain-ordinary (tree_of v) (sound-plain v h)) 256 le) s;
}
