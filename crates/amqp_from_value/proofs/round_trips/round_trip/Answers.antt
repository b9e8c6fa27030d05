use Rattle.amqp_from_value.proofs.ImageLemmas.{read_for, refused_for}
use Rattle.amqp_from_value.proofs.round_trips.round_trip.Goals as goal

pub returns-in-Ok-from_value : goal.returns-in-Ok-from_value
returns-in-Ok-from_value g c = λ r.
    c.in-Ok-from_value.ensures.law c.args.value.now r
    (read_for (g.T.Serialize.tree c.args.value.now) (g.T.Deserialize.image c.args.value.now) c.in-Ok.untyped (c.law.ensures c.args.value.now r) c.in-Ok.ensures.image)

pub returns-in-Err-from_value : goal.returns-in-Err-from_value
returns-in-Err-from_value g c = λ r.
    c.in-Err-from_value.ensures.law c.args.value.now r
    (read_for (g.T.Serialize.tree c.args.value.now) (g.T.Deserialize.image c.args.value.now) c.in-Ok.untyped (c.law.ensures c.args.value.now r) c.in-Ok.ensures.image)

pub returns-in-Err : goal.returns-in-Err
returns-in-Err g c = λ r.
    refused_for (g.T.Serialize.tree c.args.value.now) (g.T.Deserialize.image c.args.value.now) c.in-Err.error (c.law.ensures c.args.value.now r) c.in-Err.ensures.image
