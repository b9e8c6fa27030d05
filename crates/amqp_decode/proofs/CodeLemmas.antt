-- Format codes and their bytes.
use Rattle.std.proofs.Common.{◌≡◌, ℕ, Bool, true, false, IsTrue, List, [], ◌∷◌, Option, Some, None, Result, Ok, Err, if◌then◌else◌, ◌==◌, refl, sym, ap, ◌∙◌, subst}
use Rattle.std.specs.Prelude.{IfOk, IfErr}
use Rattle.amqp_data.specs.FormatCode.{code_of, GivesName}
use Rattle.amqp_data.specs.declared.error.Error.{Error}
use Rattle.amqp_data.specs.declared.format_code.EncodingCodes.{EncodingCodes}
use Rattle.amqp_data.specs.declared.format_code.EncodingCodes.TheVariants as code
use Rattle.amqp_value.proofs.SameLemmas.{numbers}
use Rattle.amqp_decode.specs.Codes.{primitive_codes, is_primitive, code_among, primitive_of}

-- The primitive code with the byte of a primitive code is that code.
pub primitive-found : (c : EncodingCodes) → IsTrue (is_primitive c) → primitive_of (code_of c) ≡ Some c
unfolding primitive_of
primitive-found code.DescribedType ok = absurd cc
primitive-found code.Null ok = refl
primitive-found code.BooleanTrue ok = refl
primitive-found code.BooleanFalse ok = refl
primitive-found code.Uint0 ok = refl
primitive-found code.Ulong0 ok = refl
primitive-found code.List0 ok = refl
primitive-found code.Ubyte ok = refl
primitive-found code.Byte ok = refl
primitive-found code.SmallUint ok = refl
primitive-found code.SmallUlong ok = refl
primitive-found code.SmallInt ok = refl
primitive-found code.SmallLong ok = refl
primitive-found code.Boolean ok = refl
primitive-found code.Ushort ok = refl
primitive-found code.Short ok = refl
primitive-found code.Uint ok = refl
primitive-found code.Int ok = refl
primitive-found code.Float ok = refl
primitive-found code.Char ok = refl
primitive-found code.Decimal32 ok = refl
primitive-found code.Ulong ok = refl
primitive-found code.Long ok = refl
primitive-found code.Double ok = refl
primitive-found code.Timestamp ok = refl
primitive-found code.Decimal64 ok = refl
primitive-found code.Decimal128 ok = refl
primitive-found code.Uuid ok = refl
primitive-found code.Vbin8 ok = refl
primitive-found code.Str8 ok = refl
primitive-found code.Sym8 ok = refl
primitive-found code.Vbin32 ok = refl
primitive-found code.Str32 ok = refl
primitive-found code.Sym32 ok = refl
primitive-found code.List8 ok = refl
primitive-found code.Map8 ok = refl
primitive-found code.List32 ok = refl
primitive-found code.Map32 ok = refl
primitive-found code.Array8 ok = refl
primitive-found code.Array32 ok = refl

-- The byte of a primitive code is not 00.
pub primitive-nonzero : (c : EncodingCodes) → IsTrue (is_primitive c) → (code_of c == 0) ≡ false
primitive-nonzero code.DescribedType ok = absurd cc
primitive-nonzero code.Null ok = refl
primitive-nonzero code.BooleanTrue ok = refl
primitive-nonzero code.BooleanFalse ok = refl
primitive-nonzero code.Uint0 ok = refl
primitive-nonzero code.Ulong0 ok = refl
primitive-nonzero code.List0 ok = refl
primitive-nonzero code.Ubyte ok = refl
primitive-nonzero code.Byte ok = refl
primitive-nonzero code.SmallUint ok = refl
primitive-nonzero code.SmallUlong ok = refl
primitive-nonzero code.SmallInt ok = refl
primitive-nonzero code.SmallLong ok = refl
primitive-nonzero code.Boolean ok = refl
primitive-nonzero code.Ushort ok = refl
primitive-nonzero code.Short ok = refl
primitive-nonzero code.Uint ok = refl
primitive-nonzero code.Int ok = refl
primitive-nonzero code.Float ok = refl
primitive-nonzero code.Char ok = refl
primitive-nonzero code.Decimal32 ok = refl
primitive-nonzero code.Ulong ok = refl
primitive-nonzero code.Long ok = refl
primitive-nonzero code.Double ok = refl
primitive-nonzero code.Timestamp ok = refl
primitive-nonzero code.Decimal64 ok = refl
primitive-nonzero code.Decimal128 ok = refl
primitive-nonzero code.Uuid ok = refl
primitive-nonzero code.Vbin8 ok = refl
primitive-nonzero code.Str8 ok = refl
primitive-nonzero code.Sym8 ok = refl
primitive-nonzero code.Vbin32 ok = refl
primitive-nonzero code.Str32 ok = refl
primitive-nonzero code.Sym32 ok = refl
primitive-nonzero code.List8 ok = refl
primitive-nonzero code.Map8 ok = refl
primitive-nonzero code.List32 ok = refl
primitive-nonzero code.Map32 ok = refl
primitive-nonzero code.Array8 ok = refl
primitive-nonzero code.Array32 ok = refl

-- The predicate holds for each of these codes.
abbrev Each : (EncodingCodes → Type 0) → List EncodingCodes → Type 0
Each P [] = Unit {0}
Each P (c ∷ cs) = P c × Each P cs

abbrev Means : (EncodingCodes → Type 0) → ℕ → Option EncodingCodes → Type 0
Means P byte None = Unit {0}
Means P byte (Some c) = (code_of c ≡ byte) × P c

first-says : (P : EncodingCodes → Type 0) (byte : ℕ) (c : EncodingCodes) (o : Option EncodingCodes) → P c → Means P byte o
    → Means P byte (if code_of c == byte then Some c else o)
first-says P byte c o holds rest = by_test (code_of c == byte) refl
  where
    by_test : (b : Bool) → (code_of c == byte) ≡ b → Means P byte (if b then Some c else o)
    by_test true is = (numbers (code_of c) byte is, holds)
    by_test false is = rest

among-says : (P : EncodingCodes → Type 0) (cs : List EncodingCodes) (byte : ℕ) → Each P cs → Means P byte (code_among cs byte)
among-says P [] byte all = tt
among-says P (c ∷ cs) byte all = first-says P byte c (code_among cs byte) all.0 (among-says P cs byte all.1)

-- The code that is found for a byte has that byte and is primitive.
pub primitive-says : (byte : ℕ) (c : EncodingCodes) → primitive_of byte ≡ Some c → (code_of c ≡ byte) × IsTrue (is_primitive c)
unfolding primitive_of
primitive-says byte c e = subst (Means (λ z. IsTrue (is_primitive z)) byte) e (among-says (λ z. IsTrue (is_primitive z)) primitive_codes byte each)
  where
    each : Each (λ z. IsTrue (is_primitive z)) primitive_codes
    each = (refl, (refl, (refl, (refl, (refl, (refl, (refl, (refl, (refl, (refl, (refl, (refl, (refl, (refl, (refl, (refl, (refl, (refl, (refl, (refl, (refl, (refl, (refl, (refl, (refl, (refl, (refl, (refl, (refl, (refl, (refl, (refl, (refl, (refl, (refl, (refl, (refl, (refl, (refl, tt)))))))))))))))))))))))))))))))))))))))

-- The byte of the code that is not primitive is 00.
zero-described : (c : EncodingCodes) → is_primitive c ≡ false → code_of c ≡ 0
zero-described code.DescribedType e = refl
zero-described code.Null e = absurd cc
zero-described code.BooleanTrue e = absurd cc
zero-described code.BooleanFalse e = absurd cc
zero-described code.Uint0 e = absurd cc
zero-described code.Ulong0 e = absurd cc
zero-described code.List0 e = absurd cc
zero-described code.Ubyte e = absurd cc
zero-described code.Byte e = absurd cc
zero-described code.SmallUint e = absurd cc
zero-described code.SmallUlong e = absurd cc
zero-described code.SmallInt e = absurd cc
zero-described code.SmallLong e = absurd cc
zero-described code.Boolean e = absurd cc
zero-described code.Ushort e = absurd cc
zero-described code.Short e = absurd cc
zero-described code.Uint e = absurd cc
zero-described code.Int e = absurd cc
zero-described code.Float e = absurd cc
zero-described code.Char e = absurd cc
zero-described code.Decimal32 e = absurd cc
zero-described code.Ulong e = absurd cc
zero-described code.Long e = absurd cc
zero-described code.Double e = absurd cc
zero-described code.Timestamp e = absurd cc
zero-described code.Decimal64 e = absurd cc
zero-described code.Decimal128 e = absurd cc
zero-described code.Uuid e = absurd cc
zero-described code.Vbin8 e = absurd cc
zero-described code.Str8 e = absurd cc
zero-described code.Sym8 e = absurd cc
zero-described code.Vbin32 e = absurd cc
zero-described code.Str32 e = absurd cc
zero-described code.Sym32 e = absurd cc
zero-described code.List8 e = absurd cc
zero-described code.Map8 e = absurd cc
zero-described code.List32 e = absurd cc
zero-described code.Map32 e = absurd cc
zero-described code.Array8 e = absurd cc
zero-described code.Array32 e = absurd cc

module _ (byte : ℕ) where
  -- The primitive code of the byte of a format code, except 00.
  pub named : (c : EncodingCodes) → (byte ≡ 0 → ⊥) → code_of c ≡ byte → primitive_of byte ≡ Some c
  named c some e = by_test (is_primitive c) refl
    where
      by_test : (b : Bool) → is_primitive c ≡ b → primitive_of byte ≡ Some c
      by_test true is = ap primitive_of (sym e) ∙ primitive-found c is
      by_test false is = absurd (some (sym e ∙ zero-described c is))

  -- A byte that no format code has is not a primitive code.
  pub unnamed : ((c : EncodingCodes) → code_of c ≡ byte → ⊥) → primitive_of byte ≡ None
  unnamed fails = by_code (primitive_of byte) refl
    where
      by_code : (o : Option EncodingCodes) → primitive_of byte ≡ o → o ≡ None
      by_code None e = refl
      by_code (Some c) e = absurd (fails c (primitive-says byte c e).0)

pub primitive-zero : primitive_of 0 ≡ None
unfolding primitive_of
primitive-zero = refl

-- The primitive code of a byte, given the result of the conversion to a format code.
pub named-ok : (byte : ℕ) (r : Result EncodingCodes Error) → (byte ≡ 0 → ⊥) → GivesName byte r → IfOk r (λ c. primitive_of byte ≡ Some c)
named-ok byte (Ok c) some h = named byte c some h.1
named-ok byte (Err e) some h = tt

pub unnamed-err : (byte : ℕ) (r : Result EncodingCodes Error) → GivesName byte r → IfErr r (λ e. primitive_of byte ≡ None)
unnamed-err byte (Ok c) h = tt
unnamed-err byte (Err e) h = unnamed byte (λ c is. let no = h.0 c is in absurd cc)

-- Two primitive codes with the same byte are equal.
pub code-is : (c e : EncodingCodes) → IsTrue (is_primitive c) → IsTrue (is_primitive e) → code_of c ≡ code_of e → c ≡ e
code-is c e pc pe same =
    let found : Some c ≡ Some e = sym (primitive-found c pc) ∙ ap primitive_of same ∙ primitive-found e pe in
    cc
