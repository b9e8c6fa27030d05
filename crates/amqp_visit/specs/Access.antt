-- Results of the accessors of lists, maps and variants, and what remains after each call
-- (AMQP 1.0 part 1, sections 1.6.22 and 1.6.23).
use Rattle.std.specs.Prelude.{◌≡◌, ◌⊎◌, List, [], ◌∷◌, Option, Some, None, Result, Ok, Err, IsSome, IsSomeAnd, MatchResult}
use Rattle.amqp_data.specs.declared.error.Error.{Error}
use Rattle.amqp_ser.specs.Tree.{Tree}
use Rattle.amqp_visit.specs.Results.{IsOutOfMemory, Refuses}
use Rattle.amqp_visit.specs.Trees.{variant_left, variant_content}
use Rattle.amqp_visit.specs.declared.access.variant.VariantAccess.{VariantAccess}

-- The next element is consumed, and the result is its value or an error. After the last element,
-- the result is `None`.
abbrev pub ReadsNext : {T : Type 0} → (Tree → T → Type 0) → List Tree → List Tree → Result (Option T) Error → Type 0
ReadsNext R old new (Ok None) = (old ≡ []) × (new ≡ [])
ReadsNext R old new (Ok (Some x)) = (t : Tree) × (old ≡ t ∷ new) × R t x
ReadsNext R old new (Err e) = (t : Tree) × (old ≡ t ∷ new) × Refuses (R t) e

-- If the next element is the image of a restorable `x`, it is read as a value with the same
-- contents, unless the error is out of memory.
abbrev pub RestoresNext : {T : Type 0} → (T → Tree) → (T → Type 0) → (T → T → Type 0) → List Tree
    → Result (Option T) Error → Type 0
RestoresNext {T} image P S old r =
    (x : T) (ts : List Tree) → P x → old ≡ image x ∷ ts → MatchResult r (λ o. IsSomeAnd o (λ y. S y x)) IsOutOfMemory

-- The pending value and the remaining pairs are unchanged.
abbrev pub Stays : Option Tree → List (Tree × Tree) → Option Tree → List (Tree × Tree) → Type 0
Stays pending left pending' left' = (pending' ≡ pending) × (left' ≡ left)

-- The next pair is consumed and its key is read. The value is then pending; if the key cannot be
-- read, no value is pending. While a value is pending, no key is read, nothing changes, and the
-- error is not out of memory.
abbrev pub ReadsKey : {T : Type 0} → (Tree → T → Type 0) → Option Tree → List (Tree × Tree) → Option Tree
    → List (Tree × Tree)
    → Result (Option T) Error → Type 0
ReadsKey R pending left pending' left' (Ok None) = (pending ≡ None) × (left ≡ []) × Stays pending left pending' left'
ReadsKey R pending left pending' left' (Ok (Some x)) =
    (pending ≡ None) × ((e : Tree × Tree) × (left ≡ e ∷ left') × (pending' ≡ Some e.1) × R e.0 x)
ReadsKey R pending left pending' left' (Err r) =
    (IsSome pending × ¬ IsOutOfMemory r × Stays pending left pending' left')
    ⊎ ((pending ≡ None) × (pending' ≡ None) × ((e : Tree × Tree) × (left ≡ e ∷ left') × Refuses (R e.0) r))

-- The pending value is read. If no value is pending, the error is not out of memory. Afterwards no
-- value is pending. The remaining pairs are unchanged.
abbrev pub ReadsValue : {T : Type 0} → (Tree → T → Type 0) → Option Tree → List (Tree × Tree) → Option Tree
    → List (Tree × Tree)
    → Result T Error → Type 0
ReadsValue R pending left pending' left' (Ok x) =
    (pending' ≡ None) × (left' ≡ left) × ((t : Tree) × (pending ≡ Some t) × R t x)
ReadsValue R pending left pending' left' (Err r) =
    (pending' ≡ None) × (left' ≡ left) × (((pending ≡ None) × ¬ IsOutOfMemory r) ⊎ ((t : Tree) ×
    (pending ≡ Some t) × Refuses (R t) r))

-- The next pair is consumed, and the result is its key and value or an error. While a value is
-- pending, no pair is read, nothing changes, and the error is not out of memory.
abbrev pub ReadsEntry : {K V : Type 0} → (Tree → K → Type 0) → (Tree → V → Type 0) → Option Tree
    → List (Tree × Tree) → Option Tree
    → List (Tree × Tree) → Result (Option (K × V)) Error → Type 0
ReadsEntry R S pending left pending' left' (Ok None) =
    (pending ≡ None) × (left ≡ []) × Stays pending left pending' left'
ReadsEntry R S pending left pending' left' (Ok (Some x)) =
    (pending ≡ None) × (pending' ≡ None) × ((e : Tree × Tree) × (left ≡ e ∷ left') × R e.0 x.0 × S e.1 x.1)
ReadsEntry {K} {V} R S pending left pending' left' (Err r) =
    (IsSome pending × ¬ IsOutOfMemory r × Stays pending left pending' left')
    ⊎ ((pending ≡ None) × (pending' ≡ None) × ((e : Tree × Tree) × (left ≡ e ∷ left') × Refuses (λ
    (x : K × V). R e.0 x.0 × S e.1 x.1) r))

-- Images of restorable keys, pairs and values are read as values with the same contents, unless the
-- error is out of memory.
abbrev pub RestoresKey : {T : Type 0} → (T → Tree) → (T → Type 0) → (T → T → Type 0) → Option Tree → List (Tree × Tree)
    → Result (Option T) Error → Type 0
RestoresKey {T} image P S pending left r =
    (x : T) (t : Tree) (es : List (Tree × Tree)) → P x → pending ≡ None → left ≡ (image x, t) ∷ es →
    MatchResult r (λ o. IsSomeAnd o (λ y. S y x)) IsOutOfMemory

abbrev pub RestoresEntry : {K V : Type 0} → (K → Tree) → (K → Type 0) → (K → K → Type 0) → (V → Tree) → (V
    → Type 0) → (V → V → Type 0)
    → Option Tree → List (Tree × Tree) → Result (Option (K × V)) Error → Type 0
RestoresEntry {K} {V} f P S g Q T pending left r =
    (x : K × V) (es : List (Tree × Tree)) → P x.0 → Q x.1 → pending ≡ None → left ≡ (f x.0, g x.1) ∷ es →
    MatchResult r (λ o. IsSomeAnd o (λ y. S y.0 x.0 × T y.1 x.1)) IsOutOfMemory

-- The same for the value of a variant, or one that is pending.
abbrev pub RestoresHeld : {T : Type 0} → (T → Tree) → (T → Type 0) → (T → T → Type 0) → Option Tree
    → Result T Error → Type 0
RestoresHeld {T} image P S held r = (x : T) → P x → held ≡ Some (image x) → MatchResult r (λ y. S y x) IsOutOfMemory

-- The index of a variant is read, and the value after it is unchanged.
abbrev pub Picks : {T : Type 0} → (Tree → T → Type 0) → Tree → Option Tree → Result (T × VariantAccess) Error → Type 0
Picks R index held (Ok x) = R index x.0 × (variant_content x.1 ≡ held)
Picks R index held (Err r) = Refuses (R index) r

-- If the index is the image of a restorable `x`, it is read as a value with the same contents,
-- unless the error is out of memory.
abbrev pub RestoresPicked : {T : Type 0} → (T → Tree) → (T → Type 0) → (T → T → Type 0) → Tree
    → Result (T × VariantAccess) Error → Type 0
RestoresPicked {T} image P S index r = (x : T) → P x → index ≡ image x → MatchResult r (λ y. S y.0 x) IsOutOfMemory

-- The first element is read as the index, and the others remain. Without an element, the error is
-- not out of memory.
abbrev pub PicksNext : {T : Type 0} → (Tree → T → Type 0) → List Tree → Result (T × VariantAccess) Error → Type 0
PicksNext R left (Ok x) = (t : Tree) × (left ≡ t ∷ variant_left x.1) × R t x.0
PicksNext R left (Err e) =
    ((left ≡ []) × ¬ IsOutOfMemory e) ⊎ ((t : Tree) × ((ts : List Tree) × (left ≡ t ∷ ts) × Refuses (R t) e))

abbrev pub RestoresPickedNext : {T : Type 0} → (T → Tree) → (T → Type 0) → (T → T → Type 0) → List Tree
    → Result (T × VariantAccess) Error → Type 0
RestoresPickedNext {T} image P S left r =
    (x : T) (ts : List Tree) → P x → left ≡ image x ∷ ts → MatchResult r (λ y. S y.0 x) IsOutOfMemory
