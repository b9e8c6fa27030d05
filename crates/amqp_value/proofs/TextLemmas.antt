-- The text of lists and maps, written item by item.
use Rattle.std.proofs.Common.{◌≡◌, ℕ, suc, ◌+◌, ◌<◌, List, ◌++◌, length, drop, get_or, ap, ◌∙◌, add-one, drop-cons, append_assoc, codes}
use Rattle.amqp_value.specs.TreeOf.{tree_of, all_of, pairs_trees}
use Rattle.amqp_value.specs.Text.{text_of, items_text, pairs_text, separator}
use Rattle.amqp_value.specs.declared.value.Value.{Value}

-- After the item at index `i` has been written, the output and the text of the remaining items
-- still make the complete text.
pub items_step : (xs : List Value) (i : ℕ) (v : Value) (done whole : List ℕ) → i < length xs → v ≡ get_or xs i v → done ++ items_text (all_of (drop i xs)) i ≡ whole
    → ((done ++ separator i) ++ text_of (tree_of v)) ++ items_text (all_of (drop (i + 1) xs)) (i + 1) ≡ whole
items_step xs i v done whole lt is h =
    rw add-one (append_assoc (done ++ separator i) (text_of (tree_of v)) (items_text (all_of (drop (suc i) xs)) (suc i)) ∙ append_assoc done (separator i) _
    ∙ ap (λ e. done ++ (separator i ++ (text_of (tree_of e) ++ items_text (all_of (drop (suc i) xs)) (suc i)))) is
    ∙ (rw (drop-cons xs i v lt) at h))

-- The same for a pair.
pub pairs_step : (es : List (Value × Value)) (i : ℕ) (e : Value × Value) (done whole : List ℕ) → i < length es → e ≡ get_or es i e → done ++ pairs_text (pairs_trees (drop i es)) i ≡ whole
    → ((((done ++ separator i) ++ text_of (tree_of e.0)) ++ codes ": ") ++ text_of (tree_of e.1)) ++ pairs_text (pairs_trees (drop (i + 1) es)) (i + 1) ≡ whole
pairs_step es i e done whole lt is h =
    rw add-one (append_assoc (((done ++ separator i) ++ text_of (tree_of e.0)) ++ codes ": ") (text_of (tree_of e.1)) (pairs_text (pairs_trees (drop (suc i) es)) (suc i))
    ∙ append_assoc ((done ++ separator i) ++ text_of (tree_of e.0)) (codes ": ") _
    ∙ append_assoc (done ++ separator i) (text_of (tree_of e.0)) _
    ∙ append_assoc done (separator i) _
    ∙ ap (λ p. done ++ (separator i ++ (text_of (tree_of p.0) ++ (codes ": " ++ (text_of (tree_of p.1) ++ pairs_text (pairs_trees (drop (suc i) es)) (suc i)))))) is
    ∙ (rw (drop-cons es i e lt) at h))
