use Rattle.std.proofs.Common.{◌&&◌, sym, subst, arith}
use Rattle.std.proofs.lemmas.Bool.{and_parts}
use Rattle.amqp_ser.specs.Encoding.{encoding}
use Rattle.amqp_ser.specs.Writable.{within_limits, uniform_arrays, placed}
use Rattle.amqp_value.specs.Image.{image}
use Rattle.amqp_decode.specs.Depth.{depth_of}
use Rattle.amqp_decode.specs.Encodes.{Encodes}
use Rattle.amqp_decode.proofs.OwnEncoding.{own-encoding}
use Rattle.amqp_decode.proofs.Whole.{one-tree}
use Rattle.amqp_decode.proofs.laws.same_bytes_same_image.Goals as goal

pub returns : goal.returns
returns c t u rt ru wt wu ot ou e =
    let xt = and_parts (within_limits t) (uniform_arrays t && placed t) wt in
    let xu = and_parts (within_limits u) (uniform_arrays u && placed u) wu in
    let st = own-encoding t (rt, xt.0, (and_parts (uniform_arrays t) (placed t) xt.1).0, ot) (depth_of t) (omega arith) in
    let su = own-encoding u (ru, xu.0, (and_parts (uniform_arrays u) (placed u) xu.1).0, ou) (depth_of u) (omega arith) in
    one-tree (depth_of t) (depth_of u) (encoding t) (image t) (image u) st (subst (λ z. Encodes (depth_of u) z (image u)) (sym e) su)
