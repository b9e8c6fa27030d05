use Rattle.amqp_value.specs.contracts.value.ValueHash.TheImpl.Laws as hash
use Rattle.amqp_value.proofs.laws.order.equal_values_hash_alike.Goals as goal

pub returns : goal.returns
returns c = hash.respects_eq-law
