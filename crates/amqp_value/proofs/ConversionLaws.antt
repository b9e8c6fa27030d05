-- The conversions of containers, by the content of the value.
use Rattle.std.proofs.Common.{◌≡◌, List, Option, Some, Result, Ok, Err, MatchOption, refl, sym, subst}
use Rattle.std.specs.Prelude.{◌↔◌}
use Rattle.std.specs.List.{AllZip}
use Rattle.amqp_data.specs.Pairs.{entries_of}
use Rattle.amqp_data.specs.declared.ordered_map.OrderedMap.{OrderedMap}
use Rattle.amqp_value.specs.Contents.{map_in}
use Rattle.amqp_value.specs.Conversions.{ConvertsEach, ConvertsPairs, ReturnsOthers}
use Rattle.amqp_value.specs.Converts.{ItemsGive, MapGives, PairsGive, PairFits}
use Rattle.amqp_value.specs.declared.value.Value.{Value}
use Rattle.amqp_value.specs.declared.try_from.ConvertFault.{ConvertFault}
use Rattle.amqp_value.specs.declared.try_from.ConvertFault.TheVariants.{Unfit}

pub returns_others : {C R : Type 0} (content : Value → Option C) (Gives : C → Result R ConvertFault → Type 0)
    → ReturnsOthers content (λ v r. MatchOption (content v) (r ≡ Err (Unfit v)) (λ c. Gives c r))
returns_others content Gives v r none h = subst (λ o. MatchOption o (r ≡ Err (Unfit v)) (λ c. Gives c r)) none h

module _ {C T R : Type 0} (content : Value → Option C) (elements : C → List Value) (items : R → List T) (gives : Value → Result T Value → Type 0) where
  abbrev Each : Value → Result R ConvertFault → Option C → Type 0
  Each v r o = MatchOption o (r ≡ Err (Unfit v)) (λ c. ItemsGive gives items (elements c) r)

  abbrev Whole : C → R → Type 0
  Whole c made = AllZip (λ u x. gives u (Ok x)) (elements c) (items made)

  each_whole : (v : Value) (c : C) (made : R) → Each v (Ok made) (Some c) ↔ Whole c made
  each_whole v c made = (λ h. subst (λ l. AllZip (λ u x. gives u (Ok x)) (elements c) l) (sym h.2) h.1, λ h. (items made, h, refl))

  pub converts_each : ConvertsEach content elements items gives (λ v r. MatchOption (content v) (r ≡ Err (Unfit v)) (λ c. ItemsGive gives items (elements c) r))
  converts_each = (
    λ v c made some. subst (λ o. Each v (Ok made) o ↔ Whole c made) (sym some) (each_whole v c made),
    returns_others content (λ c r. ItemsGive gives items (elements c) r),
  )

module _ {K X R : Type 0} (Made : List (K × X) → R → Type 0) (key_gives : Value → Result K Value → Type 0) (value_gives : Value → Result X Value → Type 0) where
  abbrev Pairs : Value → Result R ConvertFault → Option (OrderedMap Value Value) → Type 0
  Pairs v r o = MatchOption o (r ≡ Err (Unfit v)) (λ m. PairsGive key_gives value_gives Made (entries_of m) r)

  abbrev All : OrderedMap Value Value → R → Type 0
  All m made = (done : List (K × X)) × AllZip (PairFits key_gives value_gives) (entries_of m) done × Made done made

  pub converts_pairs : ConvertsPairs Made key_gives value_gives (MapGives key_gives value_gives Made)
  converts_pairs = (
    λ v m made some. subst (λ o. Pairs v (Ok made) o ↔ All m made) (sym some) (λ h. h, λ h. h),
    returns_others map_in (λ m r. PairsGive key_gives value_gives Made (entries_of m) r),
  )
