-- A type that is read by a visitor: what the visitor's call gives is what is read from the source.
use Rattle.std.proofs.Common.{◌≡◌, ◌⊎◌, Result, Ok, Err, inl, inr, sym, subst, ap}
use Rattle.std.specs.Prelude.{MatchResult}
use Rattle.amqp_data.specs.declared.error.Error.{Error}
use Rattle.amqp_ser.specs.Tree.{Tree}
use Rattle.amqp_de.specs.Results.{IsMemory, Takes, Brings, Refuses}
use Rattle.amqp_de.specs.declared.fault.Fault.{Fault}
use Rattle.amqp_visit.specs.Events.{Visits}
use Rattle.amqp_visit.specs.Results.{IsOutOfMemory, Finishes}

module _ {T R : Type 0} (P Q : Tree → T → Type 0) (same : T → T → Type 0) (t u : Tree) (whole : Type 0) (left : R
    → Type 0) (rest : R) where
  pub takes : (r : Result T Error) (s : Result (T × R) Fault) → t ≡ u → left rest → Visits P Q same t r
      → Finishes r rest s → Takes P u whole left s
  takes (Ok x) (Ok s) is l v f = subst (λ o. P u o.0 × left o.1) (sym f) (subst (λ a. P a x) is v.0, l)
  takes (Ok x) (Err e) is l v f = absurd f
  takes (Err e) (Ok s) is l v f = absurd f
  takes (Err e) (Err g) is l v f = λ w. refused v.0
    where
      refused : IsOutOfMemory e ⊎ ((x : T) → ¬ P t x) → IsMemory g ⊎ ((x : T) → ¬ P u x)
      refused (inl m) = inl (f.0 m)
      refused (inr n) = inr (λ x p. n x (subst (λ a. P a x) (sym is) p))

  pub brings : (r : Result T Error) (s : Result (T × R) Fault) → t ≡ u → Visits P Q same t r → Finishes r rest s
      → (x : T) → Q u x → MatchResult s (λ y. same y.0 x) (λ e. whole → IsMemory e)
  brings (Ok y) (Ok s) is v f x q = subst (λ o. same o.0 x) (sym f) (v.1 x (subst (λ a. Q a x) (sym is) q))
  brings (Ok y) (Err e) is v f x q = absurd f
  brings (Err e) (Ok s) is v f x q = absurd f
  brings (Err e) (Err g) is v f x q = λ w. f.0 (v.1 x (subst (λ a. Q a x) (sym is) q))
