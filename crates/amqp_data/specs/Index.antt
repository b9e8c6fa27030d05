-- The index of a map that is being built: for each bucket of hashes the last entry, and for each entry the one before it.
use Rattle.std.specs.Prelude.{◌≡◌, ℕ, suc, ◌/◌, ◌%◌, ◌^◌, ◌<◌, ◌≤◌, ◌∷◌, ◌++◌, [], Bool, List, map, length, slice_index}
use Rattle.std.specs.List.{fold}
use Rattle.std.specs.Map.{keys_of}
use Rattle.std.specs.Hash.{HashWrites}
use Rattle.std.specs.Hash.FoldHasher as folding
use Rattle.amqp_data.specs.Pairs.{AreDistinct}

-- the hash of what a key writes
unfoldable pub hash_of : HashWrites → ℕ
hash_of writes = folding.finish (fold folding.write folding.initial writes)

-- the bucket of a key, of `count` buckets
unfoldable pub bucket_of : ℕ → HashWrites → ℕ
bucket_of count writes = hash_of writes / 2 ^ 32 % count

-- the buckets of the keys of a list
abbrev pub buckets : {K V : Type 0} → (K → HashWrites) → ℕ → List (K × V) → List ℕ
buckets input count es = map (λ e. bucket_of count (input e.0)) es

-- among the first i buckets, b is last at position n - 1, or absent if n is 0
pub record IsLast (bs : List ℕ) (b i n : ℕ) : Type 0 where
  pub within : n ≤ i
  pub here : (p : ℕ) → n ≡ suc p → slice_index bs p ≡ b
  pub later : (j : ℕ) → n ≤ j → j < i → slice_index bs j ≡ b → ⊥

-- each bucket has the number of its last entry, and each entry that of the one before it in its bucket
pub record IsChained (heads earlier bs : List ℕ) : Type 0 where
  pub as_long : length earlier ≡ length bs
  pub heads_last : (b : ℕ) → b < length heads → IsLast bs b (length bs) (slice_index heads b)
  pub earlier_last : (i : ℕ) → i < length bs → IsLast bs (slice_index bs i) i (slice_index earlier i)

-- the last entry of a list is in its bucket, of the index before or of a new one
abbrev pub AddsLast : {K V : Type 0} → (K → HashWrites) → List (K × V) → ℕ → List ℕ → List ℕ → List ℕ → List ℕ → Type 0
AddsLast input entries bucket heads earlier new_heads new_earlier =
    (es : List _) (e : _) → entries ≡ es ++ e ∷ [] →
    (0 < length heads →
    (bucket ≡ bucket_of (length heads) (input e.0))
    × IsChained heads earlier (buckets input (length heads) es)) →
    0 < length new_heads →
    IsChained new_heads new_earlier (buckets input (length new_heads) entries)

-- no two keys are equal, and an index, if there is one, has each entry
pub record IsIndexed {K V : Type 0} (eq : K → K → Bool) (input : K → HashWrites) (heads earlier : List ℕ) (es : List (K × V)) : Type 0 where
  pub distinct : AreDistinct eq (keys_of es)
  pub chained : 0 < length heads → IsChained heads earlier (buckets input (length heads) es)
