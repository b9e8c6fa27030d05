-- Fields that may be absent: whether each is present, and its image (AMQP 1.0 part 1, section 1.4).
use Rattle.std.specs.Prelude.{◌≡◌, ◌⊎◌, ℕ, List, [], ◌∷◌, Bool, true, false, not, ◌||◌, ◌&&◌, if◌then◌else◌, bytes_eq}
use Rattle.amqp_ser.specs.Tree.{Tree, scalar, string, list, map, trees_of}
use Rattle.amqp_value.specs.TreeOf.{pairs_of}

-- A required field, which is always present.
abbrev pub required : Tree → Bool × Tree
required t = (true, t)

-- The images of all fields, including absent ones.
abbrev pub all_images : List (Bool × Tree) → List Tree
all_images [] = []
all_images (f ∷ fs) = f.1 ∷ all_images fs

-- Whether at least one field is present.
abbrev pub any_there : List (Bool × Tree) → Bool
any_there [] = false
any_there (f ∷ fs) = f.0 || any_there fs

-- The images of the fields up to the last that is present.
abbrev pub up_to_last : List (Bool × Tree) → List Tree
up_to_last [] = []
up_to_last (f ∷ fs) = if f.0 || any_there fs then f.1 ∷ up_to_last fs else []

-- The trees are the images of the fields, without some or none of the absent fields at the end.
abbrev pub EndsEarly : List (Bool × Tree) → List Tree → Type 0
EndsEarly fs [] = any_there fs ≡ false
EndsEarly [] (t ∷ ts) = ⊥
EndsEarly (f ∷ fs) (t ∷ ts) = (t ≡ f.1) × EndsEarly fs ts

-- The entries of a map: the name and the image of each field that is present.
abbrev pub present_fields : List (List ℕ) → List (Bool × Tree) → List (Tree × Tree)
present_fields (n ∷ ns) (f ∷ fs) = if f.0 then (scalar (string n), f.1) ∷ present_fields ns fs else present_fields ns fs
present_fields _ _ = []

-- The list without the absent fields at its end, and the map without the absent fields.
unfoldable pub short_list : List (Bool × Tree) → Tree
short_list fs = list (trees_of (up_to_last fs))

unfoldable pub short_map : List (List ℕ) → List (Bool × Tree) → Tree
short_map ns fs = map (pairs_of (present_fields ns fs))

-- The tree is an image of fields: the list of all, the list without the absent ones at its end, or the map of the
-- present ones.
abbrev pub IsImage : List (List ℕ) → List (Bool × Tree) → Tree → Type 0
IsImage ns fs t = (t ≡ list (trees_of (all_images fs))) ⊎ ((t ≡ short_list fs) ⊎ (t ≡ short_map ns fs))

-- Whether `n` is one of the names.
abbrev pub has_name : List ℕ → List (List ℕ) → Bool
has_name n [] = false
has_name n (m ∷ ms) = bytes_eq m n || has_name n ms

-- Whether no two names are equal.
abbrev pub distinct_names : List (List ℕ) → Bool
distinct_names [] = true
distinct_names (n ∷ ns) = not (has_name n ns) && distinct_names ns
