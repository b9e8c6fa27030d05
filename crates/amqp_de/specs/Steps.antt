-- The steps of reading fields from elements and entries, of any source.
use Rattle.std.specs.Prelude.{◌≡◌, ◌⊎◌, ℕ, List, [], ◌∷◌, Bool, true, not, Some, None}
use Rattle.amqp_ser.specs.Tree.{Tree}
use Rattle.amqp_de.specs.Fields.{FieldSource, by_position, by_name, value_at, without}
use Rattle.amqp_de.specs.Present.{EndsEarly, has_name, distinct_names, present_fields}

-- What is held as elements is read as the fields v, and `same` holds for v and all restorable fields with
-- these images, of which absent ones may be left out at the end.
abbrev pub ReadsElements : {V : Type 0} → (V → FieldSource → Type 0) → (V → List (Bool × Tree)) → (V → Type 0) → (V → V → Type 0) → (List Tree → Type 0) → V → Type 0
ReadsElements {V} reads images P S holds v = (ts : List Tree) × holds ts × reads v (by_position ts) × ((x : V) → P x → EndsEarly (images x) ts → S v x)

-- The field is read from an element before those that are left; or it is absent, and nothing is left.
abbrev pub TakesField : {T : Type 0} → (Tree → T → Type 0) → (T → Type 0) → (List Tree → Type 0) → List Tree → T → Type 0
TakesField R Absent old ts x = ((ts ≡ []) × old [] × Absent x) ⊎ ((t : Tree) × old (t ∷ ts) × R t x)

-- An element was taken, or there was none.
abbrev pub Follows : List Tree → List Tree → Type 0
Follows old new = ((old ≡ []) × (new ≡ [])) ⊎ ((t : Tree) × (old ≡ t ∷ new))

-- The error refuses the tree as a value.
abbrev pub RefusesValue : {T : Type 0} → (Tree → T → Type 0) → (T → Tree) → (T → Type 0) → Type 0 → Tree → Type 0
RefusesValue {T} R image P memory t = (memory ⊎ ((x : T) → ¬ R t x)) × ((x : T) → P x → t ≡ image x → memory)

-- The field must be there.
abbrev pub IsRequired : {T : Type 0} → (T → Type 0) → (T → Bool) → Type 0
IsRequired {T} Absent present = (x : T) → (¬ Absent x) × (present x ≡ true)

-- The error refuses the first element as a value; or there is none, and the field must be there.
abbrev pub RefusesFirst : (Tree → Type 0) → Type 0 → List Tree → Type 0
RefusesFirst Refused must old = ((t : Tree) × (ts : List Tree) × (old ≡ t ∷ ts) × Refused t) ⊎ ((old ≡ []) × must)

-- The value of the name is read, and the others are left; or there is none.
abbrev pub TakesNamed : {T : Type 0} → (Tree → T → Type 0) → (T → Type 0) → (List (List ℕ) → List (Tree × Tree) → Type 0) → (Bool → Type 0) → List ℕ → List (Tree × Tree) → List (Tree × Tree) → T → Type 0
TakesNamed R Absent only needs n qs ps x =
    ((t : Tree) × (value_at n qs ≡ Some t) × (without n qs ≡ ps) × R t x × ((ns : List (List ℕ)) → only ns ps → only (n ∷ ns) qs))
    ⊎ ((qs ≡ ps) × Absent x × ((ns : List (List ℕ)) → only ns ps → only (n ∷ ns) ps
    × (needs (not (has_name n ns)) → (value_at n ps ≡ None) × (without n ps ≡ ps))))

-- The error refuses the value of the name; or there is none, and the field must be there.
abbrev pub RefusesNamed : (Tree → Type 0) → Type 0 → List ℕ → List (Tree × Tree) → Type 0
RefusesNamed Refused must n old = ((t : Tree) × (value_at n old ≡ Some t) × Refused t) ⊎ ((value_at n old ≡ None) × must)

-- What is held as entries is read as the fields v, by their names, if these are distinct as far as it is needed,
-- and `same` holds for v and all restorable fields with these entries.
abbrev pub ReadsEntries : {V : Type 0} → (V → FieldSource → Type 0) → List (List ℕ) → (V → List (Bool × Tree)) → (V → Type 0) → (V → V → Type 0) → (Bool → Type 0) → (List (List ℕ) → List (Tree × Tree) → Type 0) → (List (Tree × Tree) → Type 0) → V → Type 0
ReadsEntries {V} reads names images P S needs only holds v =
    (ps : List (Tree × Tree)) × holds ps × only names ps × (needs (distinct_names names) → reads v (by_name ps))
    × ((x : V) → P x → distinct_names names ≡ true → ps ≡ present_fields names (images x) → S v x)
