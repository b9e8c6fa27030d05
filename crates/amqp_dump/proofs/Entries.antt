-- A mask that is built entry by entry.
use Rattle.std.proofs.Common.{◌≡◌, ℕ, Bool, false, List, [], ◌∷◌, ◌++◌, ◌&&◌, ◌||◌, not, length, sym, ap, ◌∙◌, append_assoc, arith}
use Rattle.amqp_dump.specs.Masks.{mask_after}

-- an entry is pushed, and the others are those of the words after it
pub mask_pushed : (d s c m o : Bool) (matches later opens others items pushed whole : List Bool) → matches ≡ m ∷ later → opens ≡ o ∷ others
    → pushed ≡ items ++ (c || ((s || o) && (d && not m))) ∷ [] → items ++ mask_after d s c matches opens ≡ whole
    → pushed ++ mask_after d false ((s || o) && m) later others ≡ whole
unfolding mask_after
mask_pushed d s c m o matches later opens others items pushed whole is_matches is_opens is_pushed is =
    ap (λ (ys : List Bool). ys ++ mask_after d false ((s || o) && m) later others) is_pushed
    ∙ append_assoc items ((c || ((s || o) && (d && not m))) ∷ []) (mask_after d false ((s || o) && m) later others)
    ∙ sym (ap (λ (ys : List Bool). items ++ mask_after d s c ys opens) is_matches ∙ ap (λ (ys : List Bool). items ++ mask_after d s c (m ∷ later) ys) is_opens)
    ∙ is

-- the last entry is pushed after the last word
pub mask_ended : (d s c : Bool) (matches opens items pushed whole : List Bool) → length matches ≡ 0
    → pushed ≡ items ++ c ∷ [] → items ++ mask_after d s c matches opens ≡ whole → pushed ≡ whole
unfolding mask_after
mask_ended d s c [] opens items pushed whole none is_pushed is = is_pushed ∙ is
mask_ended d s c (m ∷ matches) opens items pushed whole none is_pushed is = absurd (omega arith)

-- the same if the mask before has no entry more
pub mask_short : (d s c m : Bool) (matches later opens items pushed whole : List Bool) → matches ≡ m ∷ later → length opens ≡ 0
    → pushed ≡ items ++ c ∷ [] → items ++ mask_after d s c matches opens ≡ whole → pushed ≡ whole
unfolding mask_after
mask_short d s c m matches later [] items pushed whole is_matches none is_pushed is =
    is_pushed ∙ sym (ap (λ (ys : List Bool). items ++ mask_after d s c ys []) is_matches) ∙ is
mask_short d s c m matches later (o ∷ opens) items pushed whole is_matches none is_pushed is = absurd (omega arith)
