-- What is returned for bytes within limits, from what is returned for the tree that they encode.
use Rattle.std.proofs.Common.{◌≡◌, ◌≤◌, inl, inr, ℕ, suc, List, [], Option, Some, None, IfSome, length, sym, subst, arith}
use Rattle.std.specs.Io.KnownBytes.{Consumes}
use Rattle.amqp_data.specs.declared.error.Error.{Error}
use Rattle.amqp_frame.specs.EncodedValue.{IsEncodedValue}
use Rattle.amqp_ser.specs.Tree.{Tree}
use Rattle.amqp_decode.proofs.Whole.{one-tree, encoded}
use Rattle.amqp_decode.specs.Parsed.{parse}
use Rattle.amqp_decode.specs.Encodes.{Encodes}
use Rattle.amqp_decode.specs.WithoutBytes.{elements_without_bytes}
use Rattle.amqp_de.specs.Answers.{Refuses}
use Rattle.amqp_from_value.specs.Entries.{entry_count}
use Rattle.amqp_from_value.specs.Limited.{IsAllowed, ReadsAllowed, RefusesNextAllowed, levels}
use Rattle.amqp_from_value.specs.declared.limited.Limits.{Limits}
use Rattle.amqp_from_value.proofs.FromReaderLemmas.{IsMemory}

-- bytes within the limits encode one tree
pub allowed-tree : (l : Limits) (bs : List ℕ) (t u : Tree) → IsAllowed l bs t → IsAllowed l bs u → t ≡ u
allowed-tree l bs t u a b = one-tree (levels l) (levels l) bs t u a.2 b.2

-- bytes of a tree that is not read are not read
pub unread-allowed : {T : Type 0} (R : Tree → T → Type 0) (l : Limits) (bs : List ℕ) (e : Error) (u : Tree) → IsAllowed l bs u
    → Refuses IsMemory (R u) e → Refuses IsMemory (ReadsAllowed R l bs) e
unread-allowed R l bs e u a (inl m) = inl m
unread-allowed R l bs e u a (inr n) = inr (λ x r. n x (subst (λ v. R v x) (allowed-tree l bs r.0 u r.1 a) r.2))

-- and not from a reader whose next encoded value has these bytes
pub refused_next_allowed : {T : Type 0} (R : Tree → T → Type 0) (l : Limits) (old new : Option (List ℕ)) (before after : ℕ) (bs cs : List ℕ) (e : Error)
    → IsEncodedValue bs → Consumes old new bs → cs ≡ bs → Refuses IsMemory (ReadsAllowed R l cs) e → RefusesNextAllowed R l old new before after e
refused_next_allowed R l old new before after bs cs e encoded taken same refused =
    inr (bs, encoded, taken, subst (λ b. Refuses IsMemory (ReadsAllowed R l b) e) same refused)

-- bytes that are read with as many levels as the limits permit are within the limits if they are
-- short enough, with any number of entries
pub read-allowed : {T : Type 0} (R : Tree → T → Type 0) (l : Limits) (bs : List ℕ) (d : ℕ) (t : Tree) (x : T) → length bs ≤ l.bytes → suc d ≡ levels l → l.entries ≡ None
    → parse (suc d) bs ≡ Some (t, []) → elements_without_bytes (suc d) bs ≡ 0 → R t x → ReadsAllowed R l bs x
read-allowed R l bs d t x short deep any parsed none r =
    let few : elements_without_bytes (suc d) bs ≤ l.elements = omega (arith, none) in (
      t,
      (
        short,
        subst (λ n. elements_without_bytes n bs ≤ l.elements) deep few,
        subst (λ n. Encodes n bs t) deep (encoded (suc d) bs t parsed),
        subst (λ n. IfSome n (λ m. entry_count t ≤ m)) (sym any) tt,
      ),
      r,
    )
