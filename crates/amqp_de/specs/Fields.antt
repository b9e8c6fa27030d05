-- The trees that the fields of a struct are read from: a list by position, or a map by name
-- (AMQP 1.0 part 1, sections 1.4 and 1.6).
use Rattle.std.specs.Prelude.{◌≡◌, ℕ, List, [], ◌∷◌, Option, Some, None, Bool, false, bytes_eq, if◌then◌else◌}
use Rattle.amqp_ser.specs.Tree.{Scalar, string, Descriptor, Tree, scalar, list, array, map, described}
use Rattle.amqp_de.specs.Values.{elements_in, entries_in}

-- The scalar is the string with this text.
abbrev pub is_text : List ℕ → Scalar → Bool
is_text n (string s) = bytes_eq s n
is_text n s = false

-- The key is the string with this name. A key that is not a string is no name.
abbrev pub is_name : List ℕ → Tree → Bool
is_name n (scalar s) = is_text n s
is_name n t = false

-- The value of the first key with this name.
abbrev pub value_at : List ℕ → List (Tree × Tree) → Option Tree
value_at n [] = None
value_at n (e ∷ es) = if is_name n e.0 then Some e.1 else value_at n es

-- The entries without the first one with this name.
abbrev pub without : List ℕ → List (Tree × Tree) → List (Tree × Tree)
without n [] = []
without n (e ∷ es) = if is_name n e.0 then es else e ∷ without n es

-- What fields are read from: elements or entries.
pub data FieldSource : Type 0 where
  by_position : List Tree → FieldSource
  by_name : List (Tree × Tree) → FieldSource

-- A required value is present and is read.
abbrev pub ReadsPresent : {T : Type 0} → (Tree → T → Type 0) → Option Tree → T → Type 0
ReadsPresent R None x = ⊥
ReadsPresent R (Some t) x = R t x

-- A field is read from its value, and `Absent` holds for what is read if there is none.
abbrev pub ReadsIfPresent : {T : Type 0} → (T → Type 0) → (Tree → T → Type 0) → Option Tree → T → Type 0
ReadsIfPresent Absent R None x = Absent x
ReadsIfPresent Absent R (Some t) x = R t x

-- A field, and the fields after it.
unfoldable pub ReadsField : {T : Type 0} → (T → Type 0) → List ℕ → (Tree → T → Type 0) → T → (FieldSource → Type 0) → FieldSource → Type 0
ReadsField Absent n R x K (by_position []) = Absent x × K (by_position [])
ReadsField Absent n R x K (by_position (t ∷ ts)) = R t x × K (by_position ts)
ReadsField Absent n R x K (by_name es) = ReadsIfPresent Absent R (value_at n es) x × K (by_name (without n es))

-- A required field, and the fields after it.
abbrev pub ReadsRequired : {T : Type 0} → List ℕ → (Tree → T → Type 0) → T → (FieldSource → Type 0) → FieldSource → Type 0
ReadsRequired n R x K = ReadsField (λ _. ⊥) n R x K

-- No more fields. Further elements or entries are ignored.
unfoldable pub NoMoreFields : FieldSource → Type 0
NoMoreFields b = Unit {0}

-- The fields are read from a list.
unfoldable pub OnFields : (FieldSource → Type 0) → Tree → Type 0
OnFields K (list ts) = K (by_position (elements_in ts))
OnFields K t = ⊥

-- The fields are read from a list, an array or a map.
unfoldable pub OnNamed : (FieldSource → Type 0) → Tree → Type 0
OnNamed K (list ts) = K (by_position (elements_in ts))
OnNamed K (array ts) = K (by_position (elements_in ts))
OnNamed K (map ps) = K (by_name (entries_in ps))
OnNamed K t = ⊥

-- A value with this descriptor is read.
unfoldable pub OnDescribed : Descriptor → (Tree → Type 0) → Tree → Type 0
OnDescribed d K (described e t) = (e ≡ d) × K t
OnDescribed d K t = ⊥

-- The fields are read from a map.
unfoldable pub OnEntries : (FieldSource → Type 0) → Tree → Type 0
OnEntries K (map ps) = K (by_name (entries_in ps))
OnEntries K t = ⊥
