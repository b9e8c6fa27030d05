use Rattle.std.proofs.Common.{◌≡◌, arith, length}
use Rattle.std.proofs.lemmas.Grind.{common_steps}
use Rattle.amqp_de.specs.Encodings.{IsPayloadOf}
use Rattle.amqp_de.proofs.Chunks.{converted}
use Rattle.amqp_de.proofs.numbers.convert.Goals as goal

pub returns-in-None : goal.returns-in-None
returns-in-None g c =
    let none : length c.chunks.rest.now ≡ 0 = grind (arith, common_steps) in
    converted (λ bs x. IsPayloadOf g.row.CODE bs (g.T.Number.content x)) c.args.chunks.now c.chunks.items.items c.chunks.rest.now none c.chunks.invariant.0
