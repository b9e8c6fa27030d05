-- One code and its payload as a prefix of a byte string.
use Rattle.std.proofs.Common.{◌≡◌, ◌≢◌, ℕ, suc, ◌+◌, ◌-◌, ◌<◌, ◌≤◌, ◌⊎◌, inl, inr, false, IsTrue, List, [], ◌∷◌, ◌++◌, length, take, drop, slice_index, refl, sym, ap, ◌∙◌, arith, length-take, length-drop, append_assoc, take_all, get_or}
use Rattle.std.proofs.lemmas.List.{take-append-drop, take_more}
use Rattle.std.proofs.Math.Seq.{take-add}
use Rattle.amqp_frame.specs.Code.{is_primitive_code, category, body_len, payload_len}
use Rattle.amqp_frame.specs.EncodedValue.{IsEncodedValue, IsIncomplete, IsMalformed, HasEncodedValue, HasMalformed}
use Rattle.amqp_frame.proofs.FirstEncodedValue.{body_len-take}
use Rattle.amqp_frame.proofs.Prefixes.{encoded-encoded, encoded-malformed, encoded-incomplete}
use Rattle.amqp_frame.proofs.Open.{Open, open-less, open-more, open-malformed, open-incomplete}

pub prefix-refused : (bs : List ℕ) → 0 < length bs → slice_index bs 0 ≢ 0 → is_primitive_code (slice_index bs 0) ≡ false
    → HasMalformed bs
prefix-refused [] some code bad = absurd (omega arith)
prefix-refused (c ∷ p) some code bad = (c ∷ [], p, IsMalformed.refused c (omega arith) bad, refl)

pub prefix-short : (bs : List ℕ) → 0 < length bs → IsTrue (is_primitive_code (slice_index bs 0))
    → length (drop 1 bs) < payload_len (category (slice_index bs 0)) (drop 1 bs) → IsIncomplete bs
prefix-short [] some ok short = absurd (omega arith)
prefix-short (c ∷ p) some ok short = IsIncomplete.short c p ok short

pub prefix-encoded : (bs : List ℕ) (n : ℕ) → 0 < length bs → IsTrue (is_primitive_code (slice_index bs 0))
    → n ≡ payload_len (category (slice_index bs 0)) (drop 1 bs) → n ≤ length (drop 1 bs) → IsEncodedValue (take (1 + n) bs)
prefix-encoded [] n some ok len fits = absurd (omega arith)
prefix-encoded (c ∷ p) n some ok len fits =
    let k = category c in
    let same : body_len k (take n p) ≡ body_len k p = body_len-take k n p (omega arith) in
    let size : length (take n p) ≡ n = omega (arith, length-take n p) in
    let e : 1 + n ≡ suc n = omega arith in
    rw e (IsEncodedValue.primitive c (take n p) ok (omega arith))

-- no prefix is an encoded value if the rest is malformed or incomplete
pub open-none : (s : List ℕ) (at n : ℕ) → 0 < n → Open (take at s) n → HasMalformed (drop at s) ⊎ IsIncomplete (drop at s)
    → ¬ HasEncodedValue s
open-none s at n pos o (inl (b, r, br, e)) has =
    let all : s ≡ (take at s ++ b) ++ r = sym (take-append-drop at s) ∙ ap (λ l. take at s ++ l) e
    ∙ sym (append_assoc (take at s) b r) in
    encoded-malformed s has (take at s ++ b, r, open-malformed _ _ _ pos br o, all)
open-none s at n pos o (inr be) has =
    let whole : IsIncomplete s = rw (take-append-drop at s) at (open-incomplete (take at s) (drop at s) n pos be o) in
    encoded-incomplete s has whole

-- an encoded value that is a prefix has the length of the one that was found
pub only-length : (s prefix rest : List ℕ) (n : ℕ) → n ≤ length s → IsEncodedValue (take n s) → IsEncodedValue prefix
    → s ≡ prefix ++ rest → n ≡ length prefix
only-length s prefix rest n within f g e =
    let same = encoded-encoded (take n s) prefix (drop n s) rest f g (take-append-drop n s ∙ e) in
    let size : length (take n s) ≡ n = omega (arith, length-take n s) in
    sym size ∙ ap length same.0

pub rest-is : (bs : List ℕ) (n : ℕ) → take (length bs - n) (drop n bs) ≡ drop n bs
rest-is bs n = take_all _ _ (omega (arith, length-drop n bs))

-- one step over the bytes of s
pub open-skip : (s : List ℕ) (at len n : ℕ) → 0 < n → IsEncodedValue (take len (drop at s)) → Open (take at s) n
    → Open (take (at + len) s) (n - 1)
open-skip s at len n pos f o = rw take-add (open-less (take at s) (take len (drop at s)) n pos f o)

pub open-zero : (s : List ℕ) (at n : ℕ) → 0 < n → at < length s → get_or s at 0 ≡ 0 → Open (take at s) n
    → Open (take (at + 1) s) (n + 1)
open-zero s at n pos within is o =
    let more : take (at + 1) s ≡ take at s ++ 0 ∷ [] = take_more s at 0 within ∙ ap (λ x. take at s ++ x ∷ []) is in
    rw more (open-more (take at s) n pos o)
