use Rattle.std.proofs.Common.{sym, ap, ◌∙◌}
use Rattle.amqp_ser.specs.Encoding.{encoding}
use Rattle.amqp_value.proofs.ImageLemmas.{image-plain}
use Rattle.amqp_value.proofs.AsMapLemmas.{encoding-as_map}
use Rattle.amqp_decode.proofs.laws.same_image_same_bytes.Goals as goal

pub returns : goal.returns
returns c t u pt pu e =
    sym (encoding-as_map t) ∙ ap encoding (sym (image-plain t pt) ∙ e ∙ image-plain u pu) ∙ encoding-as_map u
