-- Only the code of null gives null.
use Rattle.std.proofs.Common.{◌≡◌, ℕ, zero, suc, List, ◌∷◌, Some, refl, sym, ap, ◌∙◌}
use Rattle.amqp_data.specs.FormatCode.{code_of}
use Rattle.amqp_data.specs.declared.format_code.EncodingCodes.{EncodingCodes}
use Rattle.amqp_data.specs.declared.format_code.EncodingCodes.TheVariants as code
use Rattle.amqp_ser.specs.Tree as tree
use Rattle.amqp_ser.specs.Tree.{Tree, scalar}
use Rattle.amqp_decode.specs.Parsed.{ValueReader, ContentReader, value_in_bytes, parse, parse_content}
use Rattle.amqp_decode.proofs.CodeLemmas.{primitive-says}
use Rattle.amqp_decode.proofs.Classes.{class_of, class_of_code}
use Rattle.amqp_decode.proofs.ClassLemmas.{class_says}
use Rattle.amqp_decode.proofs.Levels.{level_in, described_in, parse_value}

null_code : (c : EncodingCodes) → class_of_code c ≡ 0 → code_of c ≡ 64
null_code code.Null e = refl
null_code code.DescribedType e = absurd cc
null_code code.BooleanTrue e = absurd cc
null_code code.BooleanFalse e = absurd cc
null_code code.Uint0 e = absurd cc
null_code code.Ulong0 e = absurd cc
null_code code.List0 e = absurd cc
null_code code.Ubyte e = absurd cc
null_code code.Byte e = absurd cc
null_code code.SmallUint e = absurd cc
null_code code.SmallUlong e = absurd cc
null_code code.SmallInt e = absurd cc
null_code code.SmallLong e = absurd cc
null_code code.Boolean e = absurd cc
null_code code.Ushort e = absurd cc
null_code code.Short e = absurd cc
null_code code.Uint e = absurd cc
null_code code.Int e = absurd cc
null_code code.Float e = absurd cc
null_code code.Char e = absurd cc
null_code code.Decimal32 e = absurd cc
null_code code.Ulong e = absurd cc
null_code code.Long e = absurd cc
null_code code.Double e = absurd cc
null_code code.Timestamp e = absurd cc
null_code code.Decimal64 e = absurd cc
null_code code.Decimal128 e = absurd cc
null_code code.Uuid e = absurd cc
null_code code.Vbin8 e = absurd cc
null_code code.Str8 e = absurd cc
null_code code.Sym8 e = absurd cc
null_code code.Vbin32 e = absurd cc
null_code code.Str32 e = absurd cc
null_code code.Sym32 e = absurd cc
null_code code.List8 e = absurd cc
null_code code.Map8 e = absurd cc
null_code code.List32 e = absurd cc
null_code code.Map32 e = absurd cc
null_code code.Array8 e = absurd cc
null_code code.Array32 e = absurd cc

-- Another code than that of null gives another tree.
not_null_in : (f : ValueReader) (h : ContentReader) (c : ℕ) (s : List ℕ) (t : Tree) (r : List ℕ) → (c ≡ 64 → ⊥) → value_in_bytes f h (c ∷ s) ≡ Some (t, r) → t ≡ scalar tree.null → ⊥
not_null_in f h zero s t r other e null =
    let d = described_in f h s t r e in
    let no : tree.described d.0 d.2 ≡ scalar tree.null = sym d.5 ∙ null in
    absurd cc
not_null_in f h (suc c) s t r other e null =
    let l = level_in f h (suc c) s t r (λ z. absurd cc) e in
    let is : code_of l.0 ≡ suc c = (primitive-says (suc c) l.0 l.1).0 in
    let kind : class_of_code l.0 ≡ 0 = sym (class_says f h l.0 l.2 t l.4) ∙ ap class_of null in
    other (sym is ∙ null_code l.0 kind)

pub not_null : (d c : ℕ) (s : List ℕ) (t : Tree) (r : List ℕ) → (c ≡ 64 → ⊥) → parse (suc d) (c ∷ s) ≡ Some (t, r) → t ≡ scalar tree.null → ⊥
not_null d c s t r other e = not_null_in (parse d) (parse_content d) c s t r other (sym (parse_value d (c ∷ s)) ∙ e)
