-- A map as the list of its entries, in order (AMQP 1.0 part 1, section 1.6.23).
use Rattle.std.specs.Prelude.{◌≡◌, Bool, false, List, [], ◌∷◌, if◌then◌else◌, fold}
use Rattle.amqp_data.specs.declared.ordered_map.OrderedMap.{OrderedMap}
use Rattle.amqp_data.specs.declared.ordered_map.Iter.{Iter}

-- the entries of a map
abbrev pub entries_of : {K V : Type 0} → OrderedMap K V → List (K × V)
entries_of map = map.entries.items

-- the entries that an iterator has not yielded yet
abbrev pub entries_left : {K V : Type 0} → Iter K V → List (K × V)
entries_left iter = iter.rest.now

module _ {K V : Type 0} (eq : K → K → Bool) where
  -- replaces the value of a key that is present, or appends an entry for a new key
  abbrev pub insert_pair : List (K × V) → K → V → List (K × V)
  insert_pair [] k v = (k, v) ∷ []
  insert_pair (e ∷ es) k v = if eq k e.0 then (e.0, v) ∷ es else e ∷ insert_pair es k v

  -- inserts pairs in order
  abbrev pub insert_pairs : List (K × V) → List (K × V) → List (K × V)
  insert_pairs es done = fold (λ made e. insert_pair made e.0 e.1) done es

module _ {K : Type 0} (eq : K → K → Bool) where
  -- no key of the list equals k
  abbrev pub LacksKey : K → List K → Type 0
  LacksKey k [] = Unit {0}
  LacksKey k (x ∷ xs) = (eq k x ≡ false) × LacksKey k xs

  -- no two keys of the list are equal
  abbrev pub AreDistinct : List K → Type 0
  AreDistinct [] = Unit {0}
  AreDistinct (x ∷ xs) = LacksKey x xs × AreDistinct xs
