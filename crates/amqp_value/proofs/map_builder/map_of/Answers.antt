use Rattle.std.proofs.Common.{[], sym, subst}
use Rattle.std.specs.Map.{keys_of}
use Rattle.amqp_data.specs.Pairs.{AreDistinct}
use Rattle.amqp_data.proofs.PairLemmas.{inserted_distinct}
use Rattle.amqp_value.specs.Equal.{equal}
use Rattle.amqp_value.proofs.ValueKeys.{equal-symmetric}
use Rattle.amqp_value.proofs.map_builder.map_of.Goals as goal

pub from_distinct-requires : goal.from_distinct-requires
from_distinct-requires c = subst (λ es. AreDistinct equal (keys_of es)) (sym c.in_ok-entries.ensures) (inserted_distinct equal equal-symmetric c.args.pairs.items [] tt)
