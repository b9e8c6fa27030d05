-- A complete encoded value.
use Rattle.std.proofs.Common.{◌≡◌, ℕ, ◌+◌, List, [], ◌∷◌, ◌++◌, length, Option, Some, None, refl, sym, ap, ◌∙◌, subst, arith}
use Rattle.std.proofs.lemmas.List.{append-nil}
use Rattle.amqp_ser.specs.Tree.{Tree}
use Rattle.amqp_decode.specs.Encodes.{Encodes}
use Rattle.amqp_decode.specs.Parsed.{parse}
use Rattle.amqp_decode.proofs.Finds.{finds}
use Rattle.amqp_decode.proofs.Means.{Says, parse-says}

pub encoded-parsed : (d : ℕ) (s : List ℕ) (t : Tree) → Encodes d s t → parse d s ≡ Some (t, [])
encoded-parsed d s t sp = subst (λ z. parse d z ≡ Some (t, [])) (append-nil s) (finds sp d (omega arith) [])

pub none-encoded : (d : ℕ) (s : List ℕ) → parse d s ≡ None → (t : Tree) → Encodes d s t → ⊥
none-encoded d s e t sp =
    let f = encoded-parsed d s t sp in
    absurd cc

abbrev rest_of : {A : Type 0} → Option (A × List ℕ) → List ℕ
rest_of None = []
rest_of (Some p) = p.1

abbrev pub tree_or : {A : Type 0} → Tree → Option (Tree × A) → Tree
tree_or t None = t
tree_or t (Some p) = p.0

pub rest-encoded : (d : ℕ) (s r : List ℕ) (u : Tree) → parse d s ≡ Some (u, r) → (r ≡ [] → ⊥) → (t : Tree) → Encodes d s t → ⊥
rest-encoded d s r u e left t sp = left (ap rest_of (sym e ∙ encoded-parsed d s t sp))

module _ (d : ℕ) (s : List ℕ) (t : Tree) where
  encoded-from : (o : Option (Tree × List ℕ)) → Says (Encodes d) s o → o ≡ Some (t, []) → Encodes d s t
  encoded-from None h e = absurd cc
  encoded-from (Some r) h e =
      let whole : s ≡ h.0 = h.1 ∙ ap (λ z. h.0 ++ z) (ap rest_of e) ∙ append-nil h.0 in
      subst (λ z. Encodes d z t) (sym whole) (subst (Encodes d h.0) (ap (tree_or t) e) h.2)

  pub encoded : parse d s ≡ Some (t, []) → Encodes d s t
  encoded e = encoded-from (parse d s) (parse-says d s) e

-- Bytes encode at most one tree, at whatever depths.
pub one-tree : (d e : ℕ) (s : List ℕ) (t u : Tree) → Encodes d s t → Encodes e s u → t ≡ u
one-tree d e s t u st su = ap (tree_or t) (sym (finds st (d + e) (omega arith) []) ∙ finds su (d + e) (omega arith) [])

pub nil-from_length : (s : List ℕ) → length s ≡ 0 → s ≡ []
nil-from_length [] e = refl
nil-from_length (x ∷ s) e = absurd (omega arith)
