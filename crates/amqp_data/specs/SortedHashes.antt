-- Entries whose keys are found by order of their hashes: a sorted map has the positions of each hash.
use Rattle.std.specs.Prelude.{◌≡◌, ℕ, ◌<◌, Bool, List, [], ◌∷◌, ◌++◌, length, Option, None, Some, Vec, fold, if◌then◌else◌}
use Rattle.std.specs.BTreeMap.{BTreeMap, get}
use Rattle.std.specs.Global.{Global}
use Rattle.std.specs.Hash.{HashWrites}
use Rattle.std.specs.Hash.DefaultHasher as sip
use Rattle.std.specs.List.{IsAmong, slice_index_or}
use Rattle.std.specs.Map.{keys_of}
use Rattle.std.specs.Ordering.{is_eq, nat_cmp}
use Rattle.amqp_data.specs.Pairs.{AreDistinct}

-- The SipHash-1-3 of what a key writes.
unfoldable pub hash_of : HashWrites → ℕ
hash_of writes = sip.finish (fold sip.write sip.initial writes)

abbrev pub items_of : Option (Vec ℕ Global) → List ℕ
items_of None = []
items_of (Some v) = v.items

-- The positions of a hash.
abbrev pub positions : BTreeMap ℕ (Vec ℕ Global) → ℕ → List ℕ
positions places hash = items_of (get nat_cmp places hash)

-- The position `at` is added to those of a hash.
abbrev pub AddsPosition : ℕ → ℕ → BTreeMap ℕ (Vec ℕ Global) → BTreeMap ℕ (Vec ℕ Global) → Type 0
AddsPosition hash at old new = (h : ℕ) → positions new h ≡ (if is_eq (nat_cmp hash h) then positions old h ++ at ∷ [] else positions old h)

-- No two keys are equal, and the position of each entry is among those of its key's hash.
pub record ArePlaced {K V : Type 0} (eq : K → K → Bool) (input : K → HashWrites) (places : BTreeMap ℕ (Vec ℕ Global)) (es : List (K × V)) : Type 0 where
  pub distinct : AreDistinct eq (keys_of es)
  pub placed : (i : ℕ) (d : K × V) → i < length es → IsAmong (positions places (hash_of (input (slice_index_or es i d).0))) i
