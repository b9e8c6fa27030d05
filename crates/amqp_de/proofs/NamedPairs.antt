-- The value of a name, by its index in the list of pairs.
use Rattle.std.proofs.Common.{◌≡◌, ℕ, zero, suc, ◌<◌, Bool, true, false, List, [], ◌∷◌, length, get_or, map, position, Some, None, refl, ap, arith}
use Rattle.std.proofs.lemmas.List.Quantifiers.{position-Some}
use Rattle.std.specs.List.{remove}
use Rattle.amqp_ser.specs.Tree.{Tree}
use Rattle.amqp_value.specs.TreeOf.{tree_of}
use Rattle.amqp_value.specs.declared.value.Value.{Value}
use Rattle.amqp_de.specs.Fields.{is_name, value_at, without}
use Rattle.amqp_data.proofs.Searches.{AllFail, fail_by_position}

abbrev pub both : Value × Value → Tree × Tree
both e = (tree_of e.0, tree_of e.1)

module _ (n : List ℕ) where
  abbrev named : Value × Value → Bool
  named e = is_name n (tree_of e.0)

  -- The pair at index `i` is the first with this name.
  abbrev IsFirst : List (Value × Value) → ℕ → Value × Value → Type 0
  IsFirst es i d = (i < length es) × (named (get_or es i d) ≡ true) × ((j : ℕ) → j < i → named (get_or es j d) ≡ false)

  tail_first : (e : Value × Value) (es : List (Value × Value)) (i : ℕ) (d : Value × Value) → IsFirst (e ∷ es) (suc i) d → IsFirst es i d
  tail_first e es i d first = (omega arith, first.1, λ j below. first.2 (suc j) (omega arith))

  value_absent : (es : List (Value × Value)) → AllFail named es → value_at n (map both es) ≡ None
  value_absent [] fails = refl
  value_absent (e ∷ es) fails = rw fails.0 (value_absent es fails.1)

  without_absent : (es : List (Value × Value)) → AllFail named es → map both es ≡ without n (map both es)
  without_absent [] fails = refl
  without_absent (e ∷ es) fails = rw fails.0 (ap (λ r. both e ∷ r) (without_absent es fails.1))

  value_first : (es : List (Value × Value)) (i : ℕ) (d : Value × Value) → IsFirst es i d → value_at n (map both es) ≡ Some (tree_of (get_or es i d).1)
  value_first [] i d first = absurd (omega (arith, first.0))
  value_first (e ∷ es) zero d first = rw first.1 refl
  value_first (e ∷ es) (suc i) d first = rw (first.2 0 (omega arith)) (value_first es i d (tail_first e es i d first))

  without_first : (es : List (Value × Value)) (i : ℕ) (d : Value × Value) → IsFirst es i d → map both (remove es i) ≡ without n (map both es)
  without_first [] i d first = absurd (omega (arith, first.0))
  without_first (e ∷ es) zero d first = rw first.1 refl
  without_first (e ∷ es) (suc i) d first =
      rw (first.2 0 (omega arith)) (ap (λ r. both e ∷ r) (without_first es i d (tail_first e es i d first)))

  -- The results for the index that a search returns.
  pub absent : (es : List (Value × Value)) → position named es ≡ None → (value_at n (map both es) ≡ None) × (map both es ≡ without n (map both es))
  absent es none = let fails = fail_by_position named es none in (value_absent es fails, without_absent es fails)

  pub present : (es : List (Value × Value)) (i : ℕ) (d : Value × Value) → position named es ≡ Some i
      → (value_at n (map both es) ≡ Some (tree_of (get_or es i d).1)) × (map both (remove es i) ≡ without n (map both es))
  present es i d found =
      let first : IsFirst es i d = position-Some named es i d found in
      (value_first es i d first, without_first es i d first)
