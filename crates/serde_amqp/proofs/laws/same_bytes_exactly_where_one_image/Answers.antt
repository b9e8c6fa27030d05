use Rattle.std.proofs.Common.{sym, subst, ap, ◌∙◌, arith}
use Rattle.amqp_ser.specs.Encoding.{encoding}
use Rattle.amqp_value.specs.Image.{image}
use Rattle.amqp_value.proofs.AsMapLemmas.{encoding-as_map}
use Rattle.amqp_value.proofs.ImageLemmas.{image-plain}
use Rattle.amqp_decode.specs.Depth.{depth_of}
use Rattle.amqp_decode.specs.Encodes.{Encodes}
use Rattle.amqp_decode.proofs.Whole.{one-tree}
use Rattle.serde_amqp.proofs.LazyLemmas.{own-bytes, plain-ordinary}
use Rattle.serde_amqp.proofs.laws.same_bytes_exactly_where_one_image.Goals as goal

pub returns : goal.returns
returns c = record {
  bytes = λ t u pt pu e. sym (encoding-as_map t) ∙ ap encoding (sym (image-plain t pt) ∙ e ∙ image-plain u pu) ∙ encoding-as_map u;
  image = λ t u rt ru wt wu pt pu e.
      let st = own-bytes t rt wt (plain-ordinary t pt) (depth_of t) (omega arith) in
      let su = own-bytes u ru wu (plain-ordinary u pu) (depth_of u) (omega arith) in
      one-tree (depth_of t) (depth_of u) (encoding t) (image t) (image u) st (subst (λ z. Encodes (depth_of u) z (image u)) (sym e) su);
}
