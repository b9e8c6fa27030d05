-- The value at the position of the first key with a text, and its change.
use Rattle.std.proofs.Common.{◌≡◌, ℕ, zero, suc, ◌<◌, Bool, List, [], ◌∷◌, length, get_or, slice_get, option_map, position, Option, Some, None, IfNone, refl, sym, ap, ◌∙◌, arith}
use Rattle.std.proofs.lemmas.List.Quantifiers.{position-Some}
use Rattle.std.specs.Borrow.{MutBor}
use Rattle.std.specs.Map.{lookup, set_value}
use Rattle.std.specs.Option.{option_copied_mut}
use Rattle.amqp_data.specs.MapLends.{with_value_at}
use Rattle.amqp_data.proofs.PairLemmas.{IsFirst, tail_first}

module _ {K V : Type 0} (eq : K → K → Bool) (k : K) where
  with_first : (es : List (K × V)) (w : V) (i : ℕ) (d : K × V) → IsFirst eq k es i d → with_value_at es i w ≡ set_value (eq k) es w
  with_first [] w i d first = absurd (omega (arith, first.0))
  with_first (e ∷ es) w zero d first = rw first.1
  with_first (e ∷ es) w (suc i) d first = rw (first.2 0 (omega arith)) (ap (λ r. e ∷ r) (with_first es w i d (tail_first eq k e es i d first)))

  value_first : (es : List (K × V)) (i : ℕ) (d : K × V) → IsFirst eq k es i d → option_map (λ x. x.1) (slice_get es i) ≡ lookup (eq k) es
  value_first [] i d first = absurd (omega (arith, first.0))
  value_first (e ∷ es) zero d first = rw first.1
  value_first (e ∷ es) (suc i) d first = rw (first.2 0 (omega arith)) (value_first es i d (tail_first eq k e es i d first))

  some_first : (es : List (K × V)) (i : ℕ) (d : K × V) → IsFirst eq k es i d → option_map (λ x. x.1) (slice_get es i) ≡ Some (get_or es i d).1
  some_first [] i d first = absurd (omega (arith, first.0))
  some_first (e ∷ es) zero d first = refl
  some_first (e ∷ es) (suc i) d first = some_first es i d (tail_first eq k e es i d first)

never_none : {V : Type 0} (result : Option (MutBor V)) (v : V) (P : Type 0) → option_copied_mut result ≡ Some v → IfNone result P
never_none None v P is = absurd (cc)
never_none (Some x) v P is = tt

module _ {K V : Type 0} (test : K → Bool) (es : List (K × V)) (i : ℕ) (d : K × V) (found : Some i ≡ position (λ x. test x.0) es) where
  is_first : IsFirst (λ (_ k : K). test k) d.0 es i d
  is_first = position-Some (λ x. test x.0) es i d (sym found)

  -- the value at the position is changed
  pub changed_at : (w : V) → with_value_at es i w ≡ set_value test es w
  changed_at w = with_first (λ (_ k : K). test k) d.0 es w i d is_first

  -- the look-up returns the value at the position
  pub found_at : option_map (λ x. x.1) (slice_get es i) ≡ lookup test es
  found_at = value_first (λ (_ k : K). test k) d.0 es i d is_first

  -- there is one
  pub some_at : (result : Option (MutBor V)) (P : Type 0) → option_copied_mut result ≡ option_map (λ x. x.1) (slice_get es i) → IfNone result P
  some_at result P is = never_none result _ P (is ∙ some_first (λ (_ k : K). test k) d.0 es i d is_first)
