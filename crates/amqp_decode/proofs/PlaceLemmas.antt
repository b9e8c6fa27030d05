-- The place of bytes that are not exactly one encoded value.
use Rattle.std.proofs.Common.{◌≡◌, ℕ, List, [], ◌∷◌, Option, Some, None, IfNone, IfSome, refl, sym, ap, ◌∙◌, subst, length, ◌-◌}
use Rattle.amqp_ser.specs.Tree.{Tree}
use Rattle.amqp_decode.specs.Scalars.{and_then}
use Rattle.amqp_decode.specs.Located.{IsPlace, IsPlaced}
use Rattle.amqp_decode.specs.Parsed.{parse}
use Rattle.amqp_decode.specs.Places.{decode_place, place_of, skips}
use Rattle.amqp_decode.specs.Encodes.{Encodes}
use Rattle.amqp_decode.specs.declared.located.Place.{Place}
use Rattle.amqp_decode.proofs.Whole.{encoded, encoded-parsed}

pub one-value : (d : ℕ) (s : List ℕ) → skips (parse d) 1 s ≡ Some [] → (t : Tree) × Encodes d s t
one-value d s e = on (parse d s) refl e
  where
    on : (o : Option (Tree × List ℕ)) → parse d s ≡ o → and_then o (λ r. Some r.1) ≡ Some [] → (t : Tree) × Encodes d s t
    on None is e = absurd cc
    on (Some (t, [])) is e = (t, encoded d s t is)
    on (Some (t, b ∷ r)) is e = absurd cc

pub no-value : (d : ℕ) (s : List ℕ) → (skips (parse d) 1 s ≡ Some [] → ⊥) → (t : Tree) → Encodes d s t → ⊥
no-value d s left t sp =
    let filled : skips (parse d) 1 s ≡ Some [] = rw (encoded-parsed d s t sp) refl in
    left filled

pub placed : (r : Option Place) (d : ℕ) (s : List ℕ) → IfNone r ((t : Tree) × Encodes d s t) → IfSome r (λ p. IsPlace p d s) → ((t : Tree) → Encodes d s t → ⊥) → IsPlaced r d s
placed None d s some place none = absurd (none some.0 some.1)
placed (Some p) d s some place none = place
