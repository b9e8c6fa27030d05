use Rattle.std.proofs.Common.{[], sym, subst}
use Rattle.std.specs.Map.{keys_of}
use Rattle.amqp_data.specs.Pairs.{AreDistinct}
use Rattle.amqp_data.proofs.PairLemmas.{inserted_distinct}
use Rattle.amqp_de.proofs.impls.maps.insert_by_hashes.Goals as goal

pub from_distinct-requires : goal.from_distinct-requires
from_distinct-requires g c =
    subst (λ es. AreDistinct g.K.PartialEq.eq (keys_of es)) (sym c.in_ok-made.ensures) (inserted_distinct g.K.PartialEq.eq g.met.K.Eq.laws.symm c.args.entries.items [] tt)
