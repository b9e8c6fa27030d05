use Rattle.std.proofs.Common.{◌&&◌}
use Rattle.std.proofs.lemmas.Bool.{and_parts}
use Rattle.amqp_ser.specs.Writable.{within_limits, uniform_arrays, placed}
use Rattle.amqp_decode.proofs.OwnEncoding.{own-encoding}
use Rattle.amqp_decode.proofs.laws.own_bytes.Goals as goal

pub returns : goal.returns
returns c t d r w o le =
    let within_and = and_parts (within_limits t) (uniform_arrays t && placed t) w in
    let alike_and = and_parts (uniform_arrays t) (placed t) within_and.1 in
    own-encoding t (r, within_and.0, alike_and.0, o) d le
