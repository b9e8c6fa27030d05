use Rattle.std.proofs.Common.{◌+◌, ◌≤◌, length, vec_len, vec_capacity}
use Rattle.amqp_de.specs.Encodings.{IsPayloadOf}
use Rattle.amqp_de.proofs.Chunks.{Converts}
use Rattle.amqp_de.proofs.numbers.convert.Given as goal

abbrev pub invariant-chunks : goal.invariant-chunks
invariant-chunks g l = Converts (λ bs x. IsPayloadOf g.row.CODE bs (g.T.Number.content x)) l.rest l.fn.chunks l.items.items × (vec_len l.items + length l.rest ≤ vec_capacity l.items)

abbrev pub decreases-chunks : goal.decreases-chunks
decreases-chunks g l = length l.rest
