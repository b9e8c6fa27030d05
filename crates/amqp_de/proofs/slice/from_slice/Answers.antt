use Rattle.std.proofs.Common.{sym}
use Rattle.amqp_decode.proofs.Whole.{one-tree, encoded}
use Rattle.amqp_de.proofs.slice.from_slice.Goals as goal

pub returns-in-Some-clause-read : goal.returns-in-Some-clause-read
returns-in-Some-clause-read g c =
    let (t, found, read) = c.in-Some.ensures.read in
    (t, encoded 256 c.args.bytes.now t found, read.0)

pub returns-in-Some-clause-law : goal.returns-in-Some-clause-law
returns-in-Some-clause-law g c = λ x r sp.
    let (t, found, read) = c.in-Some.ensures.read in
    read.1 x r (one-tree 256 256 c.args.bytes.now t (g.T.Deserialize.image x) (encoded 256 c.args.bytes.now t found) sp)
