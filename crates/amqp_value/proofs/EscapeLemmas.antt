-- The escapes of a string's characters are those of its bytes.
use Rattle.std.proofs.Common.{◌≡◌, ℕ, suc, ◌+◌, ◌-◌, ◌<◌, ◌≤◌, List, [], ◌∷◌, ◌++◌, length, take, drop, get_or, append-nil, append_assoc, inl, inr, refl, sym, ap, subst, ◌∙◌, arith}
use Rattle.std.proofs.lemmas.Bool.{cases_lt}
use Rattle.std.proofs.lemmas.List.{drop-drop, drop_more, take_all, take_more}
use Rattle.std.proofs.lemmas.List.Concat.{flat_map-append}
use Rattle.std.proofs.lemmas.Str.{inside_one, encode_ascii, encodes-chars}
use Rattle.std.proofs.Math.Seq.{take-add}
use Rattle.std.specs.List.{flat_map}
use Rattle.std.specs.Str.{chars, IsUtf8}
use Rattle.amqp_value.specs.Text.{string_escaped}
use Rattle.amqp_value.specs.EscapedBytes.{byte_escaped}
use lib.Utf8.{encode, encodes}

-- a character that is not ASCII has no escape
high_escaped : (c : ℕ) → 128 ≤ c → string_escaped c ≡ encode c
high_escaped c high = grind arith

-- bytes that are not ASCII have no escapes
high_bytes : (bs : List ℕ) → ((k : ℕ) → k < length bs → 128 ≤ get_or bs k 0) → bs ≡ flat_map byte_escaped bs
high_bytes [] high = refl
high_bytes (b ∷ bs) high =
    let first : 128 ≤ b = high 0 (omega arith) in
    let plain : byte_escaped b ≡ b ∷ [] = grind arith in
    rw (plain, ← high_bytes bs (λ k inside. high (suc k) (omega arith))) refl

-- the bytes of a character that is not ASCII are not ASCII
high_inside : (c k : ℕ) → 128 ≤ c → k < length (encode c) → 128 ≤ get_or (encode c) k 0
high_inside c k high inside =
    elim (cases_lt (get_or (encode c) k 0) 128) [
      | inl low ↦ let same = inside_one c [] (encode c) k (sym (append-nil (encode c))) inside low in absurd (omega (arith, same))
      | inr not_low ↦ not_low
    ]

character : (c : ℕ) → string_escaped c ≡ flat_map byte_escaped (encode c)
character c =
    elim (cases_lt c 128) [
      | inl low ↦ let plain : byte_escaped c ≡ string_escaped c = grind arith in
          sym (append-nil (byte_escaped c) ∙ plain) ∙ ap (flat_map byte_escaped) (sym (encode_ascii c low))
      | inr high ↦ high_escaped c high ∙ high_bytes (encode c) (λ k inside. high_inside c k high inside)
    ]

characters : (cs : List ℕ) → flat_map string_escaped cs ≡ flat_map byte_escaped (encodes cs)
characters [] = refl
characters (c ∷ cs) =
    ap (λ (xs : List ℕ). xs ++ flat_map string_escaped cs) (character c) ∙ ap (λ (xs : List ℕ). flat_map byte_escaped (encode c) ++ xs) (characters cs)
    ∙ sym (flat_map-append byte_escaped (encode c) (encodes cs))

-- the escapes of a text
pub escaped_by_bytes : (bs : List ℕ) → IsUtf8 bs → flat_map byte_escaped bs ≡ flat_map string_escaped (chars bs)
escaped_by_bytes bs utf8 = sym (characters (chars bs) ∙ ap (flat_map byte_escaped) (encodes-chars bs utf8))

-- one more byte
pub one_more : (bs : List ℕ) (i : ℕ) → i < length bs → flat_map byte_escaped (take (i + 1) bs) ≡ flat_map byte_escaped (take i bs) ++ byte_escaped (get_or bs i 0)
one_more bs i inside =
    ap (flat_map byte_escaped) (take_more bs i 0 inside) ∙ flat_map-append byte_escaped (take i bs) (get_or bs i 0 ∷ [])
    ∙ ap (λ (xs : List ℕ). flat_map byte_escaped (take i bs) ++ xs) (append-nil (byte_escaped (get_or bs i 0)))

-- a run without escapes, up to `end`, after one up to `to`
pub run_grows : (bs : List ℕ) (from to end : ℕ) → from ≤ to → to ≤ end
    → flat_map byte_escaped (take to bs) ≡ flat_map byte_escaped (take from bs) ++ take (to - from) (drop from bs)
    → flat_map byte_escaped (take (end - to) (drop to bs)) ≡ take (end - to) (drop to bs)
    → flat_map byte_escaped (take end bs) ≡ flat_map byte_escaped (take from bs) ++ take (end - from) (drop from bs)
run_grows bs from to end low high before plain =
    let whole : end ≡ to + (end - to) = omega arith in
    let rest : to - from + (end - to) ≡ end - from = omega arith in
    let place : from + (to - from) ≡ to = omega arith in
    ap (λ (n : ℕ). flat_map byte_escaped (take n bs)) whole ∙ ap (flat_map byte_escaped) (take-add to (end - to) bs)
    ∙ flat_map-append byte_escaped (take to bs) (take (end - to) (drop to bs))
    ∙ ap (λ (xs : List ℕ). xs ++ flat_map byte_escaped (take (end - to) (drop to bs))) before
    ∙ append_assoc (flat_map byte_escaped (take from bs)) (take (to - from) (drop from bs)) (flat_map byte_escaped (take (end - to) (drop to bs)))
    ∙ ap (λ (xs : List ℕ). flat_map byte_escaped (take from bs) ++ (take (to - from) (drop from bs) ++ xs)) plain
    ∙ ap (λ (xs : List ℕ). flat_map byte_escaped (take from bs) ++ (take (to - from) (drop from bs) ++ take (end - to) xs)) (ap (λ (n : ℕ). drop n bs) (sym place) ∙ sym (drop-drop (to - from) from bs))
    ∙ ap (λ (xs : List ℕ). flat_map byte_escaped (take from bs) ++ xs) (sym (take-add (to - from) (end - to) (drop from bs)))
    ∙ ap (λ (n : ℕ). flat_map byte_escaped (take from bs) ++ take n (drop from bs)) rest

-- a run of one byte without an escape
pub one_unescaped : (bs : List ℕ) (i : ℕ) → i < length bs → byte_escaped (get_or bs i 0) ≡ get_or bs i 0 ∷ []
    → flat_map byte_escaped (take (i + 1 - i) (drop i bs)) ≡ take (i + 1 - i) (drop i bs)
one_unescaped bs i inside plain =
    let one : 1 ≡ i + 1 - i = omega arith in
    let first : take 1 (drop i bs) ≡ get_or bs i 0 ∷ [] = ap (take 1) (drop_more bs i 0 inside) in
    let fact : flat_map byte_escaped (take 1 (drop i bs)) ≡ take 1 (drop i bs) =
    ap (flat_map byte_escaped) first ∙ append-nil (byte_escaped (get_or bs i 0)) ∙ plain ∙ sym first in
    subst (λ (n : ℕ). flat_map byte_escaped (take n (drop i bs)) ≡ take n (drop i bs)) one fact

-- a run starts with a byte without an escape
pub run_starts : (bs : List ℕ) (i : ℕ) → i < length bs → byte_escaped (get_or bs i 0) ≡ get_or bs i 0 ∷ []
    → flat_map byte_escaped (take (i + 1) bs) ≡ flat_map byte_escaped (take i bs) ++ take (i + 1 - i) (drop i bs)
run_starts bs i inside plain =
    let none : 0 ≡ i - i = omega arith in
    let start : flat_map byte_escaped (take i bs) ≡ flat_map byte_escaped (take i bs) ++ take 0 (drop i bs) = sym (append-nil (flat_map byte_escaped (take i bs))) in
    run_grows bs i i (i + 1) (omega arith) (omega arith)
    (subst (λ (n : ℕ). flat_map byte_escaped (take i bs) ≡ flat_map byte_escaped (take i bs) ++ take n (drop i bs)) none start)
    (one_unescaped bs i inside plain)

-- what is written after a run
pub run_text : (bs text piece : List ℕ) (from to : ℕ) → bs ≡ text → piece ≡ take (to - from) (drop from text)
    → flat_map byte_escaped (take to bs) ≡ flat_map byte_escaped (take from bs) ++ take (to - from) (drop from bs)
    → flat_map byte_escaped (take from bs) ++ piece ≡ flat_map byte_escaped (take to bs)
run_text bs text piece from to same is plain =
    ap (λ (xs : List ℕ). flat_map byte_escaped (take from bs) ++ xs) (is ∙ ap (λ (xs : List ℕ). take (to - from) (drop from xs)) (sym same)) ∙ sym plain

-- what is written at the end
pub whole_text : (bs text : List ℕ) (n : ℕ) → bs ≡ text → IsUtf8 text → length bs ≤ n → flat_map byte_escaped (take n bs) ≡ flat_map string_escaped (chars text)
whole_text bs text n same utf8 all =
    ap (flat_map byte_escaped) (take_all n bs all ∙ same) ∙ escaped_by_bytes text utf8
