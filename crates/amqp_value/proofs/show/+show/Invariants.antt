use Rattle.std.proofs.Common.{◌≡◌, ℕ, List, ◌++◌, drop}
use Rattle.std.specs.Fmt.{IsPlainFormatter, HasWritten}
use Rattle.amqp_value.specs.TreeOf.{all_of, pairs_trees}
use Rattle.amqp_value.specs.Text.{items_text, pairs_text}
use Rattle.amqp_value.proofs.show.+show.Given as goal

-- The output and the text of the remaining items make the complete text.
abbrev pub invariant-show_items-loop-index : goal.invariant-show_items-loop-index
invariant-show_items-loop-index g l =
    IsPlainFormatter l.initial.f → (done : List ℕ) × HasWritten g.W.Write.write_str_gives l.initial.f done l.f
    × (done ++ items_text (all_of (drop l.index l.items)) l.index ≡ items_text (all_of l.items) 0)

abbrev pub invariant-show_pairs-loop-index : goal.invariant-show_pairs-loop-index
invariant-show_pairs-loop-index g l =
    IsPlainFormatter l.initial.f → (done : List ℕ) × HasWritten g.W.Write.write_str_gives l.initial.f done l.f
    × (done ++ pairs_text (pairs_trees (drop l.index l.pairs)) l.index ≡ pairs_text (pairs_trees l.pairs) 0)
