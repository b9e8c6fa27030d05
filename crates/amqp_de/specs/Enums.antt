-- The trees that an enum is read from: the index of a variant and its value
-- (AMQP 1.0 part 1, sections 1.6.5, 1.6.22 and 1.6.23).
use Rattle.std.specs.Prelude.{◌≡◌, ◌⊎◌, ℕ, List, [], ◌∷◌, Option, Some, None, Result, Ok, Err, MatchResult, ◌≤◌, ◌+◌, ◌-◌}
use Rattle.amqp_ser.specs.Tree.{Scalar, uint, Tree, scalar, list, map}
use Rattle.amqp_value.specs.Image.{variant_map}
use Rattle.amqp_value.specs.TreeOf.{tree_of}
use Rattle.amqp_value.specs.declared.value.Value.{Value}
use Rattle.amqp_de.specs.Fields.{ReadsPresent}
use Rattle.amqp_de.specs.Results.{IsMemory}
use Rattle.amqp_de.specs.Values.{elements_in, entries_in}
use Rattle.amqp_de.specs.declared.branches.Either.{Either}
use Rattle.amqp_de.specs.declared.branches.Either.TheVariants.{This, Other}
use Rattle.amqp_de.specs.declared.fault.Fault.{Fault}

-- The first tree, if there is one.
abbrev pub first : List Tree → Option Tree
first [] = None
first (t ∷ ts) = Some t

-- The index of a variant is a uint.
abbrev pub index_of_scalar : Scalar → Option ℕ
index_of_scalar (uint n) = Some n
index_of_scalar s = None

abbrev pub index_of_tree : Tree → Option ℕ
index_of_tree (scalar s) = index_of_scalar s
index_of_tree t = None

-- What is read at an index. Without an index, nothing is read.
abbrev pub ReadsAtIndex : {V : Type 0} → (ℕ → Option Tree → V → Type 0) → Option ℕ → Option Tree → V → Type 0
ReadsAtIndex K None d x = ⊥
ReadsAtIndex K (Some n) d x = K n d x

-- A list has the index and then the value. Further elements are ignored.
abbrev pub OnListed : {V : Type 0} → (ℕ → Option Tree → V → Type 0) → List Tree → V → Type 0
OnListed K [] x = ⊥
OnListed K (t ∷ ts) x = ReadsAtIndex K (index_of_tree t) (first ts) x

-- A map has one pair, from the index to the value.
abbrev pub OnKeyed : {V : Type 0} → (ℕ → Option Tree → V → Type 0) → List (Tree × Tree) → V → Type 0
OnKeyed K [] x = ⊥
OnKeyed K (e ∷ []) x = ReadsAtIndex K (index_of_tree e.0) (Some e.1) x
OnKeyed K (e ∷ f ∷ es) x = ⊥

-- An enum is an index, a list or a map.
unfoldable pub OnEnum : {V : Type 0} → (ℕ → Option Tree → V → Type 0) → Tree → V → Type 0
OnEnum K (scalar s) x = ReadsAtIndex K (index_of_scalar s) None x
OnEnum K (list ts) x = OnListed K (elements_in ts) x
OnEnum K (map ps) x = OnKeyed K (entries_in ps) x
OnEnum K t x = ⊥

-- A variant without a value, and the variants after it.
abbrev pub IsUnitVariant : {U R : Type 0} → (ℕ → Option Tree → R → Type 0) → ℕ → Option Tree → Either U R → Type 0
IsUnitVariant K n d (This u) = n ≡ 0
IsUnitVariant K n d (Other y) = (1 ≤ n) × K (n - 1) d y

-- A variant with a value, and the variants after it.
abbrev pub IsDataVariant : {T R : Type 0} → (Tree → T → Type 0) → (ℕ → Option Tree → R → Type 0) → ℕ → Option Tree → Either T R → Type 0
IsDataVariant R K n d (This x) = (n ≡ 0) × ReadsPresent R d x
IsDataVariant R K n d (Other y) = (1 ≤ n) × K (n - 1) d y

-- No more variants.
abbrev pub IsNoVariant : {R : Type 0} → ℕ → Option Tree → R → Type 0
IsNoVariant n d x = ⊥

-- The image of a variant: its index, or the map from the index to the value.
abbrev pub enum_image : ℕ → Option Tree → Tree
enum_image n None = scalar (uint n)
enum_image n (Some t) = variant_map n t

-- For one of the variants: its index, the image of its value, and whether it is restorable.
abbrev pub index_of : {A R : Type 0} → (R → ℕ) → Either A R → ℕ
index_of f (This x) = 0
index_of f (Other y) = 1 + f y

abbrev pub data_of : {A R : Type 0} → (A → Option Tree) → (R → Option Tree) → Either A R → Option Tree
data_of f g (This x) = f x
data_of f g (Other y) = g y

abbrev pub RestorableEither : {A R : Type 0} → (A → Type 0) → (R → Type 0) → Either A R → Type 0
RestorableEither P Q (This x) = P x
RestorableEither P Q (Other y) = Q y

-- A result at an index, of this value or of none.
abbrev pub TakesAt : {V : Type 0} → (ℕ → Option Tree → V → Type 0) → ℕ → Option Tree → Result V Fault → Type 0
TakesAt K n d (Ok x) = K n d x
TakesAt {V} K n d (Err e) = IsMemory e ⊎ ((x : V) → ¬ K n d x)

-- From the index and the value of a restorable variant one with the same contents is read.
abbrev pub BringsAt : {V : Type 0} → (V → ℕ) → (V → Option Tree) → (V → Type 0) → (V → V → Type 0) → ℕ → Option Tree → Result V Fault → Type 0
BringsAt {V} position content P S n d r = (x : V) → P x → n ≡ position x → d ≡ content x → MatchResult r (λ y. S y x) IsMemory

-- The tree of a value, if there is one.
abbrev pub value_of : {D : Type 0} → (D → Tree) → Option D → Option Tree
value_of tree None = None
value_of tree (Some d) = Some (tree d)

-- A variant that satisfies `P`, or an error that is out of memory unless no variant satisfies it.
abbrev pub ReturnsVariant : {V : Type 0} → (V → Type 0) → Result V Fault → Type 0
ReturnsVariant P (Ok x) = P x
ReturnsVariant {V} P (Err e) = IsMemory e ⊎ ((x : V) → ¬ P x)

-- The trees of a key and a value.
abbrev pub trees_of_pair : Value × Value → Tree × Tree
trees_of_pair p = (tree_of p.0, tree_of p.1)
