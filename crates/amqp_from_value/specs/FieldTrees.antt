-- The trees of fields beside their images (AMQP 1.0 part 1, section 1.4).
use Rattle.std.specs.Prelude.{◌≡◌, ℕ, List, [], ◌∷◌, Option, Bool}
use Rattle.amqp_ser.specs.Tree.{Tree}
use Rattle.amqp_from_value.specs.HasImage.{HasImage}

-- Each field is present in both or in neither, and its tree has the image.
unfoldable pub FieldTreesHaveImages : List (Bool × Option Tree) → List (Bool × Tree) → Type 0
FieldTreesHaveImages [] [] = Unit {0}
FieldTreesHaveImages (p ∷ ps) (f ∷ fs) = (p.0 ≡ f.0) × HasImage p.1 f.1 × FieldTreesHaveImages ps fs
FieldTreesHaveImages [] (f ∷ fs) = ⊥
FieldTreesHaveImages (p ∷ ps) [] = ⊥

-- The trees of all fields, absent ones too, and the fields with names.
abbrev pub all_field_trees : List (Bool × Option Tree) → List (Option Tree)
all_field_trees [] = []
all_field_trees (p ∷ ps) = p.1 ∷ all_field_trees ps

abbrev pub with_names : List (List ℕ) → List (Bool × Option Tree) → List (List ℕ × (Bool × Option Tree))
with_names (n ∷ ns) (p ∷ ps) = (n, p) ∷ with_names ns ps
with_names _ _ = []
