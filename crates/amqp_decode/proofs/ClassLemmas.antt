-- The kind of what a code's content encodes is that of the code.
use Rattle.std.proofs.Common.{◌≡◌, ◌==◌, ◌/◌, ◌%◌, ℕ, Bool, true, false, List, [], Option, Some, None, refl, sym, ap, ◌∙◌, if◌then◌else◌}
use Rattle.std.specs.Int.{w8, w16, w32, w64, from_be_bytes, cast_signed}
use Rattle.std.specs.Str.{is_utf8}
use Rattle.amqp_data.specs.declared.format_code.EncodingCodes.{EncodingCodes}
use Rattle.amqp_data.specs.declared.format_code.EncodingCodes.TheVariants as code
use Rattle.amqp_ser.specs.Tree as tree
use Rattle.amqp_ser.specs.Tree.{Tree, Scalar, Pairs, trees_of, no_pairs}
use Rattle.amqp_decode.specs.Scalars.{and_then, single, exact, truth, character, is_scalar_value, text, scalar_from, scalar_in, scalar_tree}
use Rattle.amqp_decode.specs.Parsed.{ValueReader, ContentReader, content_of, counted_in, gather, insert, all, items_in, parse_list, parse_map, parse_array}
use Rattle.amqp_decode.specs.declared.payload.Count.TheVariants.{Absent, OneByte, FourBytes}
use Rattle.amqp_decode.proofs.Classes.{class_of, class_of_scalar, class_of_code}
use Rattle.amqp_decode.proofs.Levels.{both}

abbrev class_in : Option Tree → ℕ
class_in None = 0
class_in (Some t) = class_of t

from_says : {A : Type 0} (k : A → Scalar) (o : Option A) (t : Tree) (n : ℕ) → ((a : A) → class_of_scalar (k a) ≡ n)
    → and_then (scalar_from k o) scalar_tree ≡ Some t → class_of t ≡ n
from_says k None t n is e = absurd cc
from_says k (Some a) t n is e = sym (ap class_in e) ∙ is a

text_says : (k : List ℕ → Scalar) (bs : List ℕ) (t : Tree) (n : ℕ) → ((a : List ℕ) → class_of_scalar (k a) ≡ n) → (b : Bool)
    → and_then (if b then Some (k bs) else None) scalar_tree ≡ Some t → class_of t ≡ n
text_says k bs t n is true e = sym (ap class_in e) ∙ is bs
text_says k bs t n is false e = absurd cc

truth_by : (b c : Bool) (t : Tree) → and_then (if b then Some (tree.bool false) else if c then Some (tree.bool true) else None) scalar_tree ≡ Some t → class_of t ≡ 1
truth_by true c t e = sym (ap class_in e)
truth_by false true t e = sym (ap class_in e)
truth_by false false t e = absurd cc

truth_says : (o : Option ℕ) (t : Tree) → and_then (and_then o truth) scalar_tree ≡ Some t → class_of t ≡ 1
truth_says None t e = absurd cc
truth_says (Some b) t e = truth_by (b == 0) (b == 1) t e

char_by : (n : ℕ) (b : Bool) (t : Tree) → and_then (if b then Some (tree.char n) else None) scalar_tree ≡ Some t → class_of t ≡ 12
char_by n true t e = sym (ap class_in e)
char_by n false t e = absurd cc

char_says : (o : Option (List ℕ)) (t : Tree) → and_then (and_then o (λ b. character (from_be_bytes w32 b))) scalar_tree ≡ Some t → class_of t ≡ 12
char_says None t e = absurd cc
char_says (Some b) t e = char_by (from_be_bytes w32 b) (is_scalar_value (from_be_bytes w32 b)) t e

list_says : (f : ValueReader) (o : Option (ℕ × List ℕ)) (t : Tree) → and_then o (parse_list f) ≡ Some t → class_of t ≡ 21
list_says f o t e =
    let a = both o (parse_list f) t e in
    let b = both (and_then (gather f a.0.0 a.0.1 []) all) (λ ts. Some (tree.list (trees_of ts))) t a.2 in
    sym (ap class_in b.2)

map_by : (q : Option Pairs) (b : Bool) (t : Tree) → (if b then and_then q (λ ps. Some (tree.map ps)) else None) ≡ Some t → class_of t ≡ 21
map_by q false t e = absurd cc
map_by q true t e =
    let b = both q (λ ps. Some (tree.map ps)) t e in
    sym (ap class_in b.2)

map_says : (f : ValueReader) (o : Option (ℕ × List ℕ)) (t : Tree) → and_then o (parse_map f) ≡ Some t → class_of t ≡ 21
map_says f o t e =
    let a = both o (parse_map f) t e in
    map_by (and_then (insert f (a.0.0 / 2) a.0.1 no_pairs) all) (a.0.0 % 2 == 0) t a.2

array_says : (h : ContentReader) (o : Option (ℕ × List ℕ)) (t : Tree) → and_then o (parse_array h) ≡ Some t → class_of t ≡ 21
array_says h o t e =
    let a = both o (parse_array h) t e in
    let b = both (items_in h a.0.0 a.0.1) (λ ts. Some (tree.array (trees_of ts))) t a.2 in
    sym (ap class_in b.2)

pub class_says : (f : ValueReader) (h : ContentReader) (c : EncodingCodes) (s : List ℕ) (t : Tree) → content_of f h c s ≡ Some t → class_of t ≡ class_of_code c
unfolding scalar_in
class_says f h code.Null s t e = sym (ap (λ o. class_in o) e)
class_says f h code.BooleanTrue s t e = sym (ap (λ o. class_in o) e)
class_says f h code.BooleanFalse s t e = sym (ap (λ o. class_in o) e)
class_says f h code.Uint0 s t e = sym (ap (λ o. class_in o) e)
class_says f h code.Ulong0 s t e = sym (ap (λ o. class_in o) e)
class_says f h code.Vbin8 s t e = sym (ap (λ o. class_in o) e)
class_says f h code.Vbin32 s t e = sym (ap (λ o. class_in o) e)
class_says f h code.Ubyte s t e = from_says tree.ubyte (single s) t (class_of_code code.Ubyte) (λ a. refl) e
class_says f h code.Byte s t e = from_says (λ b. tree.byte (cast_signed w8 b)) (single s) t (class_of_code code.Byte) (λ a. refl) e
class_says f h code.SmallUint s t e = from_says tree.uint (single s) t (class_of_code code.SmallUint) (λ a. refl) e
class_says f h code.SmallUlong s t e = from_says tree.ulong (single s) t (class_of_code code.SmallUlong) (λ a. refl) e
class_says f h code.SmallInt s t e = from_says (λ b. tree.int (cast_signed w8 b)) (single s) t (class_of_code code.SmallInt) (λ a. refl) e
class_says f h code.SmallLong s t e = from_says (λ b. tree.long (cast_signed w8 b)) (single s) t (class_of_code code.SmallLong) (λ a. refl) e
class_says f h code.Ushort s t e = from_says (λ b. tree.ushort (from_be_bytes w16 b)) (exact 2 s) t (class_of_code code.Ushort) (λ a. refl) e
class_says f h code.Short s t e = from_says (λ b. tree.short (cast_signed w16 (from_be_bytes w16 b))) (exact 2 s) t (class_of_code code.Short) (λ a. refl) e
class_says f h code.Uint s t e = from_says (λ b. tree.uint (from_be_bytes w32 b)) (exact 4 s) t (class_of_code code.Uint) (λ a. refl) e
class_says f h code.Int s t e = from_says (λ b. tree.int (cast_signed w32 (from_be_bytes w32 b))) (exact 4 s) t (class_of_code code.Int) (λ a. refl) e
class_says f h code.Float s t e = from_says (λ b. tree.float (from_be_bytes w32 b)) (exact 4 s) t (class_of_code code.Float) (λ a. refl) e
class_says f h code.Decimal32 s t e = from_says tree.decimal32 (exact 4 s) t (class_of_code code.Decimal32) (λ a. refl) e
class_says f h code.Ulong s t e = from_says (λ b. tree.ulong (from_be_bytes w64 b)) (exact 8 s) t (class_of_code code.Ulong) (λ a. refl) e
class_says f h code.Long s t e = from_says (λ b. tree.long (cast_signed w64 (from_be_bytes w64 b))) (exact 8 s) t (class_of_code code.Long) (λ a. refl) e
class_says f h code.Double s t e = from_says (λ b. tree.double (from_be_bytes w64 b)) (exact 8 s) t (class_of_code code.Double) (λ a. refl) e
class_says f h code.Timestamp s t e = from_says (λ b. tree.timestamp (cast_signed w64 (from_be_bytes w64 b))) (exact 8 s) t (class_of_code code.Timestamp) (λ a. refl) e
class_says f h code.Decimal64 s t e = from_says tree.decimal64 (exact 8 s) t (class_of_code code.Decimal64) (λ a. refl) e
class_says f h code.Decimal128 s t e = from_says tree.decimal128 (exact 16 s) t (class_of_code code.Decimal128) (λ a. refl) e
class_says f h code.Uuid s t e = from_says tree.uuid (exact 16 s) t (class_of_code code.Uuid) (λ a. refl) e
class_says f h code.Boolean s t e = truth_says (single s) t e
class_says f h code.Char s t e = char_says (exact 4 s) t e
class_says f h code.Str8 s t e = text_says tree.string s t (class_of_code code.Str8) (λ a. refl) (is_utf8 s) e
class_says f h code.Str32 s t e = text_says tree.string s t (class_of_code code.Str32) (λ a. refl) (is_utf8 s) e
class_says f h code.Sym8 s t e = text_says tree.symbol s t (class_of_code code.Sym8) (λ a. refl) (is_utf8 s) e
class_says f h code.Sym32 s t e = text_says tree.symbol s t (class_of_code code.Sym32) (λ a. refl) (is_utf8 s) e
class_says f h code.DescribedType s t e = absurd cc
class_says f h code.List0 s t e = list_says f (counted_in Absent s) t e
class_says f h code.List8 s t e = list_says f (counted_in OneByte s) t e
class_says f h code.List32 s t e = list_says f (counted_in FourBytes s) t e
class_says f h code.Map8 s t e = map_says f (counted_in OneByte s) t e
class_says f h code.Map32 s t e = map_says f (counted_in FourBytes s) t e
class_says f h code.Array8 s t e = array_says h (counted_in OneByte s) t e
class_says f h code.Array32 s t e = array_says h (counted_in FourBytes s) t e
