use Rattle.amqp_from_value.proofs.FieldLemmas.{short_map_has_image, none_has_image, must_has_image, may_has_image}
use Rattle.amqp_from_value.proofs.laws.named_maps_return.Goals as goal

pub returns : goal.returns
returns c = record { complete = short_map_has_image; none = none_has_image; must = must_has_image; may = may_has_image }
