-- The trees that maps are read from: pairs of a key and a value, inserted in order
-- (AMQP 1.0 part 1, section 1.6.23).
use Rattle.std.specs.Prelude.{◌≡◌, Bool, false, List}
use Rattle.std.specs.BTreeMap as tree
use Rattle.std.specs.HashMap as hashed
use Rattle.std.specs.List.{AllZip}
use Rattle.std.specs.List.Sorted.{IsPermutation}
use Rattle.std.specs.declared.cmp.Ordering.{Ordering}
use Rattle.std.specs.declared.cmp.Ordering.TheVariants.{Greater}
use Rattle.amqp_data.specs.Pairs.{entries_of}
use Rattle.amqp_data.specs.declared.ordered_map.OrderedMap.{OrderedMap}
use Rattle.amqp_ser.specs.Tree.{Tree, map}
use Rattle.amqp_value.specs.Converts.{inserted_in_order, inserted_sorted}
pub use Rattle.amqp_value.specs.Inserted.{EachBefore, HoldsHashed}
use Rattle.amqp_de.specs.Values.{entries_in}
use Rattle.amqp_ser.specs.Same.{same_tree}

-- A map whose pairs satisfy `K`.
unfoldable pub OnMap : (List (Tree × Tree) → Type 0) → Tree → Type 0
OnMap K (map ps) = K (entries_in ps)
OnMap K t = ⊥

module _ {K V : Type 0} where
  -- The key is read from the first tree, and the value from the second.
  abbrev pub ReadsPair : (Tree → K → Type 0) → (Tree → V → Type 0) → Tree × Tree → K × V → Type 0
  ReadsPair R Q t p = R t.0 p.0 × Q t.1 p.1

  abbrev pub pair_image : (K → Tree) → (V → Tree) → K × V → Tree × Tree
  pair_image f g p = (f p.0, g p.1)

  -- The key satisfies `P`, and the value satisfies `Q`.
  abbrev pub IsPair : (K → Type 0) → (V → Type 0) → K × V → Type 0
  IsPair P Q p = P p.0 × Q p.1

  abbrev pub SamePair : (K → K → Type 0) → (V → V → Type 0) → K × V → K × V → Type 0
  SamePair S U p q = S p.0 q.0 × U p.1 q.1

  -- Pairs are read from these trees, and `Holds` relates them to the map.
  abbrev pub ReadsPairs : {M : Type 0} → (Tree → K → Type 0) → (Tree → V → Type 0) → (List (K × V) → M → Type 0) → List (Tree × Tree) → M → Type 0
  ReadsPairs R Q Holds ts m = (ps : List (K × V)) × AllZip (ReadsPair R Q) ts ps × Holds ps m

  -- The map results from inserting the pairs in order. A key that is present keeps its position and
  -- takes the new value; a new key is appended.
  abbrev pub HoldsInOrder : (K → K → Bool) → List (K × V) → OrderedMap K V → Type 0
  HoldsInOrder eq ps m = entries_of m ≡ inserted_in_order eq ps

  -- The map results from inserting the pairs in order, each key at its sorted position.
  abbrev pub HoldsSorted : (K → K → Ordering) → List (K × V) → tree.BTreeMap K V → Type 0
  HoldsSorted cmp ps m = m.entries ≡ inserted_sorted cmp ps

-- `R` relates all keys with the contents of `k` to all keys with the contents of `l`.
abbrev pub ForAllSame : {K : Type 0} → (K → K → Type 0) → (K → K → Type 0) → K → K → Type 0
ForAllSame {K} S R k l = (x y : K) → S x k → S y l → R x y

-- The keys are distinct, even if they are replaced by keys with the same contents.
abbrev pub AreDistinct : {K : Type 0} → (K → K → Type 0) → (K → K → Bool) → List K → Type 0
AreDistinct S eq = EachBefore (ForAllSame S (λ x y. eq y x ≡ false))

-- The keys strictly ascend, even if they are replaced by keys with the same contents.
abbrev pub AreAscending : {K : Type 0} → (K → K → Type 0) → (K → K → Ordering) → List K → Type 0
AreAscending S cmp = EachBefore (ForAllSame S (λ x y. cmp y x ≡ Greater))

-- No two of the trees are equal.
abbrev pub AreApart : List Tree → Type 0
AreApart = EachBefore (λ t u. same_tree u t ≡ false)

module _ {K V H : Type 0} where
  -- In some order, the pairs of one map have the same contents as those of the other.
  abbrev pub SameInSomeOrder : (K × V → K × V → Type 0) → hashed.HashMap K V H → hashed.HashMap K V H → Type 0
  SameInSomeOrder S m n = (ps : List (K × V)) × IsPermutation ps m.entries × AllZip S ps n.entries
