use Rattle.std.proofs.Common.{◌∷◌, suc, sym}
use Rattle.amqp_value.specs.TreeOf.{tree_of}
use Rattle.amqp_decode.specs.Parsed.{parse}
use Rattle.amqp_de.proofs.EncodedLemmas.{found}
use Rattle.amqp_de.proofs.encoded.EncodedSource.untyped.Goals as goal

pub returns-in-Ok-clause-read : goal.returns-in-Ok-clause-read
returns-in-Ok-clause-read c =
    let s = c.args.self in
    let (is, left) = found (parse (suc s.depth) (s.code ∷ s.bytes.now)) (tree_of c.in-Ok.value) _ c.in-Ok.ensures.read in
    (sym is, (left, c.in-Ok.ensures.none))
