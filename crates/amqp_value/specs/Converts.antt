-- The results of converting the elements or entries of a container, in order.
use Rattle.std.specs.Prelude.{◌≡◌, ◌⊎◌, Bool, List, [], ◌∷◌, ◌++◌, MatchOption, Result, Ok, Err, fold, Vec}
use Rattle.std.specs.BTreeMap.{insert_entry}
use Rattle.std.specs.Global.{Global}
use Rattle.std.specs.List.{AllZip}
use Rattle.std.specs.declared.cmp.Ordering.{Ordering}
use Rattle.amqp_data.specs.Items.{array_items}
use Rattle.amqp_data.specs.Pairs.{entries_of, insert_pairs}
use Rattle.amqp_data.specs.declared.array.Array.{Array}
use Rattle.amqp_data.specs.declared.ordered_map.OrderedMap.{OrderedMap}
use Rattle.amqp_value.specs.Contents.{list_in, array_in, map_in}
use Rattle.amqp_value.specs.declared.value.Value.{Value}
use Rattle.amqp_value.specs.declared.try_from.ConvertFault.{ConvertFault}
use Rattle.amqp_value.specs.declared.try_from.ConvertFault.TheVariants.{Unfit, Memory}

-- The parts before one part fit, and that part does not; `unfit` is the value that its conversion
-- returns.
pub record StopsAt {A B : Type 0} (Fits : A → B → Type 0) (Fails : A → Value → Type 0) (parts : List A) (unfit : Value) : Type 0 where
  pub before : List A
  pub done : List B
  pub at : A
  pub after : List A
  pub split : parts ≡ before ++ at ∷ after
  pub fit : AllZip Fits before done
  pub fails : Fails at unfit

-- There is a first part, and it fits.
abbrev pub FirstFits : {A B : Type 0} → (A → B → Type 0) → List A → Type 0
FirstFits Fits [] = ⊥
FirstFits {A} {B} Fits (part ∷ parts) = (made : B) × Fits part made

-- The results that are permitted: a collection made from all the parts; the first part that does
-- not fit; or out of memory, if the first part fits.
module _ {A B R : Type 0} (Fits : A → B → Type 0) (Fails : A → Value → Type 0) (Made : List B → R → Type 0) where
  abbrev pub ConvertsAll : List A → Result R ConvertFault → Type 0
  ConvertsAll parts (Ok made) = (done : List B) × AllZip Fits parts done × Made done made
  ConvertsAll parts (Err (Unfit unfit)) = StopsAt Fits Fails parts unfit
  ConvertsAll parts (Err Memory) = FirstFits Fits parts

-- The conversion of a value returns this content, or fails and returns this value.
abbrev pub Fits : {T : Type 0} → (Value → Result T Value → Type 0) → Value → T → Type 0
Fits gives v x = gives v (Ok x)

abbrev pub Fails : {T : Type 0} → (Value → Result T Value → Type 0) → Value → Value → Type 0
Fails gives v unfit = gives v (Err unfit)

-- The results of converting the items of a list or the elements of an array.
module _ {T : Type 0} (gives : Value → Result T Value → Type 0) where
  abbrev pub ItemsGive : {R : Type 0} → (R → List T) → List Value → Result R ConvertFault → Type 0
  ItemsGive items_of = ConvertsAll (Fits gives) (Fails gives) (λ done made. items_of made ≡ done)

  -- A value of another type is returned unchanged.
  abbrev pub ListGives : Value → Result (Vec T Global) ConvertFault → Type 0
  ListGives v r = MatchOption (list_in v) (r ≡ Err (Unfit v)) (λ list. ItemsGive (λ made. made.items) list.items r)

  abbrev pub ArrayGives : Value → Result (Array T) ConvertFault → Type 0
  ArrayGives v r = MatchOption (array_in v) (r ≡ Err (Unfit v)) (λ array. ItemsGive array_items (array_items array) r)

-- The results of converting the entries of a map, the key before the value.
module _ {K X : Type 0} (key_gives : Value → Result K Value → Type 0) (value_gives : Value → Result X Value → Type 0) where
  abbrev pub PairFits : Value × Value → K × X → Type 0
  PairFits p e = key_gives p.0 (Ok e.0) × value_gives p.1 (Ok e.1)

  abbrev pub PairFails : Value × Value → Value → Type 0
  PairFails p unfit = (key_gives p.0 (Err unfit)) ⊎ ((k : K) × key_gives p.0 (Ok k) × value_gives p.1 (Err unfit))

  -- The results of converting one entry.
  abbrev pub PairGives : Value × Value → Result (K × X) ConvertFault → Type 0
  PairGives p (Ok e) = PairFits p e
  PairGives p (Err (Unfit unfit)) = PairFails p unfit
  PairGives p (Err Memory) = ⊥

  module _ {R : Type 0} (Made : List (K × X) → R → Type 0) where
    abbrev pub PairsGive : List (Value × Value) → Result R ConvertFault → Type 0
    PairsGive = ConvertsAll PairFits PairFails Made

    -- A value of another type is returned unchanged.
    abbrev pub MapGives : Value → Result R ConvertFault → Type 0
    MapGives v r = MatchOption (map_in v) (r ≡ Err (Unfit v)) (λ map. PairsGive (entries_of map) r)

-- The entries inserted in order: a repeated key keeps its position and gets the new value, and a
-- new key is appended.
abbrev pub inserted_in_order : {K X : Type 0} → (K → K → Bool) → List (K × X) → List (K × X)
inserted_in_order eq es = insert_pairs eq es []

-- The same for a sorted map, in which the order of the keys determines their positions.
abbrev pub inserted_sorted : {K X : Type 0} → (K → K → Ordering) → List (K × X) → List (K × X)
inserted_sorted cmp es = fold (λ done e. insert_entry cmp done e.0 e.1) [] es

-- The key and the value are each converted to a value.
abbrev pub PairConverts : {K X : Type 0} → (K → Value → Type 0) → (X → Value → Type 0) → K × X → Value × Value → Type 0
PairConverts key_converts value_converts e p = key_converts e.0 p.0 × value_converts e.1 p.1

-- The map is the result of converting these entries and inserting them in order.
abbrev pub IsMapOf : {K X : Type 0} → (Value → Value → Bool) → (K → Value → Type 0) → (X → Value → Type 0) → List (K × X) → OrderedMap Value Value → Type 0
IsMapOf eq key_converts value_converts es map =
    (ps : List (Value × Value)) × AllZip (PairConverts key_converts value_converts) es ps × (entries_of map ≡ inserted_in_order eq ps)
