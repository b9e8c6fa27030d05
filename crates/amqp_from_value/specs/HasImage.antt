-- The relation of a serialized tree to its image (AMQP 1.0 part 1, section 1.6).
use Rattle.std.specs.Prelude.{◌≡◌, ℕ, List, [], ◌∷◌, Option, Some, None, Bool, false}
use Rattle.amqp_ser.specs.Tree.{Tree, Trees, no_trees, more}
use Rattle.amqp_to_value.specs.HasLazy.{has_lazy}
use Rattle.amqp_value.specs.Image.{image}
use Rattle.amqp_de.specs.Present.{present_fields}

-- There is a tree, it contains nothing lazy, and this is its image.
abbrev pub HasImage : Option Tree → Tree → Type 0
HasImage None u = ⊥
HasImage (Some t) u = (u ≡ image t) × (has_lazy t ≡ false)

-- Each part has such a tree, and these are the images.
abbrev pub HaveImages : List (Option Tree) → Trees → Type 0
HaveImages [] no_trees = Unit {0}
HaveImages (p ∷ ps) (more u us) = HasImage p u × HaveImages ps us
HaveImages [] (more u us) = ⊥
HaveImages (p ∷ ps) no_trees = ⊥

-- Alternating keys and values: each key has the tree of the entry's key, and each value has a tree
-- without lazy trees whose image is the entry's value.
abbrev pub EntriesHaveImages : List (Option Tree) → List (Tree × Tree) → Type 0
EntriesHaveImages [] [] = Unit {0}
EntriesHaveImages (k ∷ v ∷ ps) (e ∷ es) = (k ≡ Some e.0) × HasImage v e.1 × EntriesHaveImages ps es
EntriesHaveImages _ _ = ⊥

-- The keys and values of a map have the images of the fields that are present.
unfoldable pub FieldsHaveImages : List (Option Tree) → List (List ℕ) → List (Bool × Tree) → Type 0
FieldsHaveImages ps ns fs = EntriesHaveImages ps (present_fields ns fs)
