use Rattle.std.proofs.Common.{sym, ◌∙◌}
use Rattle.amqp_value.specs.MapBuilder.{collected_pairs}
use Rattle.amqp_to_value.proofs.MapLemmas.{added_inserted}
use Rattle.amqp_to_value.proofs.open_map.OpenMap.add_part.Goals as goal

pub returns-in-Ok : goal.returns-in-Ok
returns-in-Ok c =
    added_inserted (collected_pairs c.args.self.now.pairs) (collected_pairs c.insert.new.self) c.args.self.now.key c.take.new.self c.in-Some.key c.args.part
    (sym c.take.ensures.value ∙ c.in-Some.is) c.take.ensures.after c.in-Ok.ensures.ok
