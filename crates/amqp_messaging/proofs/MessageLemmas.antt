-- Sections that are read and written (AMQP 1.0 part 3, section 3.2).
use Rattle.std.specs.Prelude.{◌≡◌, ◌++◌, ◌∷◌, [], ℕ, List, Option, Some, None}
use Rattle.std.proofs.Common.{subst, sym, ap, ◌∙◌, append_assoc}
use Rattle.std.proofs.lemmas.List.{append-nil}
use Rattle.amqp_ser.specs.Tree.{Tree}
use Rattle.amqp_wire.specs.Encoded.{IsWritten}
use Rattle.amqp_from_value.specs.declared.limited.Limits.{Limits}
use Rattle.amqp_messaging.specs.Messages.{PutsFront, PutsTree, ReadsAll, ReadsWithin}

-- Bytes with those of a tree after them.
pub put_tree : (o : Option Tree) (s all : List ℕ) → IsWritten o s all → PutsTree o s all
put_tree None s all h = h
put_tree (Some t) s all h = h.1

-- Sections after no bytes.
pub after_nothing : {H D M : Type 0} (f : H → Option Tree) (g : D → Option Tree) (h : M → Option Tree) (s all : List ℕ) (x : Option H) (y : Option D) (z : Option M) →
    s ≡ [] → PutsFront f g h s all x y z → PutsFront f g h [] all x y z
after_nothing f g h s all x y z e p = subst (λ w. PutsFront f g h w all x y z) e p

-- Sections that are read, and one more.
pub add_read : {T : Type 0} (limits : Option Limits) (R : Tree → T → Type 0) (all taken rest bytes after : List ℕ) (xs : List T) (x : T) → ReadsAll limits R taken xs
    → all ≡ taken ++ rest → rest ≡ bytes ++ after → ReadsWithin limits R bytes x
    → (t : List ℕ) × ReadsAll limits R t (xs ++ x ∷ []) × (all ≡ t ++ after)
add_read limits R all taken rest bytes after xs x h e f is =
    (taken ++ bytes, ReadsAll.more taken bytes xs x h is, e ∙ ap (λ r. taken ++ r) f ∙ sym (append_assoc taken bytes after))

-- All sections are read.
pub all_read : {T : Type 0} (limits : Option Limits) (R : Tree → T → Type 0) (all taken rest : List ℕ) (xs : List T) → ReadsAll limits R taken xs → all ≡ taken ++ rest
    → rest ≡ [] → ReadsAll limits R all xs
all_read limits R all taken rest xs h e f =
    subst (λ s. ReadsAll limits R s xs) (sym (e ∙ ap (λ r. taken ++ r) f ∙ append-nil taken)) h
