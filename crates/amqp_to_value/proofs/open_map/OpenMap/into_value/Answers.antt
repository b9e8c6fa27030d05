use Rattle.std.proofs.Common.{sym, ap, ◌∙◌, option_map}
use Rattle.amqp_value.specs.TreeOf.{tree_of}
use Rattle.amqp_value.specs.MapBuilder.{collected_pairs}
use Rattle.amqp_to_value.proofs.HeldImagesLemmas.{pending_end, paired_end}
use Rattle.amqp_to_value.proofs.open_map.OpenMap.into_value.Goals as goal

pub returns-in-Some : goal.returns-in-Some
returns-in-Some c = λ ts h. pending_end ts (tree_of c.in-Some.field-0) (sym (ap (λ h. h.1) h) ∙ ap (option_map tree_of) c.in-Some.is)

pub returns-in-Ok : goal.returns-in-Ok
returns-in-Ok c = λ ts h. paired_end ts (collected_pairs c.args.self.pairs) c.in-Ok.value (sym h ∙ ap (λ o. (collected_pairs c.args.self.pairs, option_map tree_of o)) c.in-None.is) c.in-Ok.ensures
