-- Elements that are read one after another.
use Rattle.std.proofs.Common.{◌≡◌, ℕ, ◌+◌, ◌-◌, ◌<◌, ◌≤◌, List, [], ◌∷◌, ◌++◌, length, Some, sym, ap, ◌∙◌, arith}
use Rattle.std.specs.List.{AllZip}
use Rattle.amqp_ser.specs.Tree.{Tree}
use Rattle.amqp_value.proofs.Zips.{zip_push}
use Rattle.amqp_decode.specs.Parsed.{ValueReader, gather}
use Rattle.amqp_decode.proofs.Steps.{gather-and_then}
use Rattle.amqp_decode.proofs.Whole.{nil-from_length}
use Rattle.amqp_de.specs.Encodings.{Fills}

-- The elements read so far: the rest gives, after them, all of them.
abbrev pub Filling : {T : Type 0} → (Tree → T → Type 0) → ValueReader → ℕ → ℕ → List ℕ → List ℕ → List T → Type 0
Filling R f n i rest body ys = (ts : List Tree) × (gather f (n - i) rest ts ≡ gather f n body []) × AllZip R ts ys

module _ {T : Type 0} (R : Tree → T → Type 0) (f : ValueReader) (n : ℕ) (body : List ℕ) where
  pub filling_none : Filling R f n 0 body body []
  filling_none =
      let all : n - 0 ≡ n = omega arith in
      ([], ap (λ m. gather f m body []) all, tt)

  pub filling_more : (i : ℕ) (s rest : List ℕ) (ys : List T) (t : Tree) (y : T) → i < n → Filling R f n i s body ys → f s ≡ Some (t, rest) → R t y
      → Filling R f n (i + 1) rest body (ys ++ y ∷ [])
  filling_more i s rest ys t y lt (ts, same, zip) e r =
      (ts ++ t ∷ [], gather-and_then f n i s rest t ts lt e ∙ same, zip_push R ts ys t y zip r)

  pub filled : (i : ℕ) (s : List ℕ) (ys : List T) → n ≤ i → Filling R f n i s body ys → length s ≡ 0 → Fills R f n body ys
  filled i s ys end (ts, same, zip) none =
      let done : n - i ≡ 0 = omega (arith, end) in
      let empty : s ≡ [] = nil-from_length s none in
      (ts, sym same ∙ ap (λ m. gather f m s ts) done ∙ ap (λ z. Some (ts, z)) empty, zip)
