use Rattle.std.proofs.Common.{[], ap, ◌∙◌}
use Rattle.amqp_ser.specs.Tree.{map}
use Rattle.amqp_value.specs.TreeOf.{pairs_trees}
use Rattle.amqp_value.proofs.TreeLemmas.{tree_of-Map}
use Rattle.amqp_value.proofs.ValueKeys.{trees_inserted}
use Rattle.amqp_value.proofs.map_builder.MapBuilder.into_value.Goals as goal

pub returns : goal.returns
returns c =
    tree_of-Map c.in_ok-entries.entries
    ∙ ap (λ es. map (pairs_trees es)) c.in_ok-entries.ensures
    ∙ ap map (trees_inserted c.args.self.pairs.items [])
