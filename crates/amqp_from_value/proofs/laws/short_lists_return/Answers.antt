use Rattle.amqp_from_value.proofs.FieldLemmas.{short_list_has_image, kept_has_image}
use Rattle.amqp_from_value.proofs.laws.short_lists_return.Goals as goal

pub returns : goal.returns
returns c = record { complete = short_list_has_image; field = kept_has_image }
