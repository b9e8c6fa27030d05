-- A string and a symbol of each plain text.
use Rattle.std.proofs.Common.{◌≡◌, ℕ, ◌<◌, Bool, true, false, List, [], ◌∷◌, IsUtf8, length, String, string_bytes, if◌then◌else◌, refl, subst, arith, ltb-true}
use Rattle.std.proofs.StringFromBytes.{spelled}
use Rattle.std.proofs.lemmas.Bool.{and_parts}
use Rattle.std.proofs.lemmas.Str.{IsUtf8-append, IsUtf8-nil, IsUtf8-encode, encode_ascii}
use lib.Utf8.{low_scalar}
use Rattle.std.specs.Global.{Global}
use Rattle.amqp_data.specs.Text.{symbol_text}
use Rattle.amqp_data.specs.declared.symbol.Symbol.{Symbol}
use Rattle.amqp_de.specs.Texts.{are_ascii, is_short_ascii, short_ascii}

ascii_then : (b : ℕ) (bs : List ℕ) → b < 128 → IsUtf8 bs → IsUtf8 (b ∷ bs)
ascii_then b bs small u = IsUtf8-append (b ∷ []) bs (subst IsUtf8 (encode_ascii b small) (IsUtf8-encode b (low_scalar b (omega arith)))) u

utf8_ascii : (bs : List ℕ) → are_ascii bs ≡ true → IsUtf8 bs
utf8_ascii [] e = IsUtf8-nil
utf8_ascii (b ∷ bs) e = let p = and_parts _ _ e in ascii_then b bs (ltb-true _ _ p.0) (utf8_ascii bs p.1)

pub ascii_string : (heap : Global) (bs : List ℕ) → is_short_ascii bs ≡ true → (y : String Global) × (string_bytes y ≡ bs)
ascii_string heap bs e =
    let p = and_parts _ _ e in
    let few : length bs < 256 = ltb-true _ _ p.1 in
    (spelled heap bs ∣ utf8_ascii bs p.0 ∣₁ (omega (arith, few)), refl)

pub ascii_symbol : (heap : Global) (bs : List ℕ) → is_short_ascii bs ≡ true → (y : Symbol) × (symbol_text y ≡ bs)
ascii_symbol heap bs e =
    let (s, same) = ascii_string heap bs e in
    (record { 0 = s }, same)

pub short_ascii_is : (bs : List ℕ) → is_short_ascii (short_ascii bs) ≡ true
short_ascii_is bs = there (is_short_ascii bs) refl
  where
    there : (b : Bool) → is_short_ascii bs ≡ b → is_short_ascii (if b then bs else []) ≡ true
    there true e = e
    there false e = refl
