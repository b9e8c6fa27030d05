-- Sections one after another (AMQP 1.0 part 3, section 3.2).
use Rattle.std.specs.Prelude.{◌≡◌, ◌<◌, ◌+◌, ◌-◌, ◌++◌, ℕ, List, [], Option, Some, None, length, take, drop}
use Rattle.std.proofs.Common.{subst, sym, ap, ◌∙◌, append_assoc, ◌⊎◌, inl, inr, length-append, arith}
use Rattle.std.proofs.Math.Seq.{take-append_seam, drop-append_seam}
use Rattle.amqp_frame.proofs.Cuts.{some-byte}
use Rattle.std.proofs.lemmas.List.{nil_from_length}
use Rattle.amqp_messaging.specs.Parts.{AreAll, IsPart}
use Rattle.amqp_messaging.specs.Sections.{AreSections, RefusesSection, RefusesSections, IsSection, Follows}
use Rattle.amqp_messaging.specs.declared.message.error.MessageError.{MessageError}
use Rattle.amqp_messaging.specs.declared.message.kind.SectionKind.{SectionKind}

-- What is known of the bytes after a section is known of the bytes with it.
pub add_section : (last : Option SectionKind) (k : SectionKind) (s bytes rest : List ℕ) → IsSection k bytes → Follows last k
    → s ≡ bytes ++ rest → AreSections (Some k) rest → AreSections last s
add_section last k s bytes rest is f e h = subst (AreSections last) (sym e) (AreSections.section last k bytes rest is f h)

pub add_refused : (last : Option SectionKind) (k : SectionKind) (s bytes rest : List ℕ) → IsSection k bytes → Follows last k
    → s ≡ bytes ++ rest → (e : MessageError) → RefusesSections (Some k) rest e → RefusesSections last s e
add_refused last k s bytes rest is f e err h =
    subst (λ t. RefusesSections last t err) (sym e) (RefusesSections.later last k bytes rest err is f h)

-- No bytes are sections in order.
pub nothing_left : (last : Option SectionKind) (s : List ℕ) → length s ≡ 0 → AreSections last s
nothing_left last s e = subst (AreSections last) (sym (nil_from_length s e)) (AreSections.end last)

-- The bytes after a section are fewer.
pub rest_is_shorter : (k : SectionKind) (s bytes rest : List ℕ) → IsSection k bytes → s ≡ bytes ++ rest → length rest < length s
rest_is_shorter k s bytes rest is e = omega (arith, some-byte bytes is.0, ap length e, length-append bytes rest)

-- A list of sections, and one more.
pub add_all : (k : SectionKind) (all taken rest bytes after : List ℕ) → AreAll k taken → all ≡ taken ++ rest → IsSection k bytes
    → rest ≡ bytes ++ after → (t : List ℕ) × AreAll k t × (all ≡ t ++ after)
add_all k all taken rest bytes after h e is f =
    (taken ++ bytes, AreAll.more k taken bytes h is, e ∙ ap (λ r. taken ++ r) f ∙ sym (append_assoc taken bytes after))

pub add_part : (k : SectionKind) (all rest part after : List ℕ) → IsPart k part → rest ≡ part ++ after
    → ((taken : List ℕ) × AreAll k taken × (all ≡ taken ++ rest)) → (t : List ℕ) × AreAll k t × (all ≡ t ++ after)
add_part k all rest part after (inl e) f (taken, h, g) = (taken, h, g ∙ ap (λ r. taken ++ r) (f ∙ ap (λ p. p ++ after) e))
add_part k all rest part after (inr is) f (taken, h, g) = add_all k all taken rest part after h g is f

-- Bytes split as far from their start as the rest is from their end.
pub split_front : (s r front a b : List ℕ) (n : ℕ) → n ≡ length s - length r → a ≡ take n s → b ≡ drop n s
    → s ≡ front ++ r → (a ≡ front) × (b ≡ r)
split_front s r front a b n en ea eb e =
    let m : n ≡ length front = omega (arith, en, ap length e, length-append front r) in (
      ea ∙ ap (take n) e ∙ ap (λ k. take k (front ++ r)) m ∙ take-append_seam front r,
      eb ∙ ap (drop n) e ∙ ap (λ k. drop k (front ++ r)) m ∙ drop-append_seam front r,
    )

-- The bytes before a bare message's rest are its parts.
pub bare_front : (s p q b r t u : List ℕ) → s ≡ p ++ t → t ≡ q ++ u → u ≡ b ++ r → s ≡ (p ++ (q ++ b)) ++ r
bare_front s p q b r t u e f g =
    e ∙ ap (λ x. p ++ x) (f ∙ ap (λ x. q ++ x) g ∙ sym (append_assoc q b r)) ∙ sym (append_assoc p (q ++ b) r)
