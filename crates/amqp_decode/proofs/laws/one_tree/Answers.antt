use Rattle.amqp_decode.proofs.Whole.{one-tree}
use Rattle.amqp_decode.proofs.laws.one_tree.Goals as goal

pub returns : goal.returns
returns c d e s t u st su = one-tree d e s t u st su
