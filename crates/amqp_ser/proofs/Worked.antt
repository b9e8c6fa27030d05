-- Examples: trees and their bytes, computed from the definitions.
use Rattle.std.proofs.Common.{◌≡◌, ℕ, pos, negsuc, ◌+◌, ◌*◌, ◌-◌, List, [], ◌∷◌, Some, None, true, false, nat_le, if◌then◌else◌, length, take, replicate, codes, refl}
use Rattle.amqp_frame.specs.Code.{is_primitive_code, category, size_width, body_len}
use Rattle.amqp_frame.specs.Whole.{is_encoded_value}
use Rattle.amqp_ser.specs.Tree.{Scalar, null, bool, ubyte, ushort, uint, ulong, byte, short, int, long, float, double, decimal32, char, timestamp, binary, string, symbol, name, code, Tree, scalar, list, array, map, described, variant, lazy, transparent, no_pairs, pair, trees_of}
use Rattle.amqp_ser.specs.Encoding.{encoding}
use Rattle.amqp_ser.specs.Marked.{with_marker}
use Rattle.amqp_ser.specs.declared.marker.Marker.TheVariants as marker
use Rattle.amqp_ser.specs.Writable.{uniform_arrays, placed, within_limits, writable}

abbrev pub digit : ℕ → ℕ
digit c = if nat_le 97 c then c - 87 else c - 48

-- The bytes of pairs of hexadecimal digits.
abbrev pub bytes : List ℕ → List ℕ
bytes [] = []
bytes (a ∷ []) = []
bytes (a ∷ (b ∷ cs)) = (digit a * 16 + digit b) ∷ bytes cs

abbrev list_of : List Tree → Tree
list_of ts = list (trees_of ts)

abbrev array_of : List Tree → Tree
array_of ts = array (trees_of ts)

-- A list or an array of n equal elements.
abbrev many : (List Tree → Tree) → ℕ → Scalar → Tree
many kind n s = kind (replicate n (scalar s))

-- The tree is writable, and its encoding begins with these bytes and has this length.
abbrev Begins : Tree → List ℕ → ℕ → Type 0
Begins t prefix n = (take (length prefix) (encoding t) ≡ prefix) × (length (encoding t) ≡ n) × (writable t ≡ true)

-- Null and booleans.
null_row : encoding (scalar null) ≡ bytes (codes "40")
null_row = refl

true_row : encoding (scalar (bool true)) ≡ bytes (codes "41")
true_row = refl

false_row : encoding (scalar (bool false)) ≡ bytes (codes "42")
false_row = refl

-- Unsigned numbers of each width.
ubyte_255 : encoding (scalar (ubyte 255)) ≡ bytes (codes "50ff")
ubyte_255 = refl

ushort_256 : encoding (scalar (ushort 256)) ≡ bytes (codes "600100")
ushort_256 = refl

uint_0 : encoding (scalar (uint 0)) ≡ bytes (codes "43")
uint_0 = refl

uint_255 : encoding (scalar (uint 255)) ≡ bytes (codes "52ff")
uint_255 = refl

uint_256 : encoding (scalar (uint 256)) ≡ bytes (codes "7000000100")
uint_256 = refl

ulong_0 : encoding (scalar (ulong 0)) ≡ bytes (codes "44")
ulong_0 = refl

ulong_255 : encoding (scalar (ulong 255)) ≡ bytes (codes "53ff")
ulong_255 = refl

ulong_256 : encoding (scalar (ulong 256)) ≡ bytes (codes "800000000000000100")
ulong_256 = refl

-- Signed numbers of each width; `negsuc n` is -(n + 1).
byte_-1 : encoding (scalar (byte (negsuc 0))) ≡ bytes (codes "51ff")
byte_-1 = refl

short_255 : encoding (scalar (short (pos 255))) ≡ bytes (codes "6100ff")
short_255 = refl

int_-128 : encoding (scalar (int (negsuc 127))) ≡ bytes (codes "5480")
int_-128 = refl

int_-129 : encoding (scalar (int (negsuc 128))) ≡ bytes (codes "71ffffff7f")
int_-129 = refl

int_127 : encoding (scalar (int (pos 127))) ≡ bytes (codes "547f")
int_127 = refl

int_128 : encoding (scalar (int (pos 128))) ≡ bytes (codes "7100000080")
int_128 = refl

long_-1 : encoding (scalar (long (negsuc 0))) ≡ bytes (codes "55ff")
long_-1 = refl

long_-129 : encoding (scalar (long (negsuc 128))) ≡ bytes (codes "81ffffffffffffff7f")
long_-129 = refl

long_128 : encoding (scalar (long (pos 128))) ≡ bytes (codes "810000000000000080")
long_128 = refl

-- The other scalars of fixed width.
float_row : encoding (scalar (float 0x3fc00000)) ≡ bytes (codes "723fc00000")
float_row = refl

double_row : encoding (scalar (double 0x3ff8000000000000)) ≡ bytes (codes "823ff8000000000000")
double_row = refl

char_a : encoding (scalar (char 97)) ≡ bytes (codes "7300000061")
char_a = refl

timestamp_13 : encoding (scalar (timestamp (pos 13))) ≡ bytes (codes "83000000000000000d")
timestamp_13 = refl

decimal32_row : encoding (scalar (decimal32 (1 ∷ 2 ∷ 3 ∷ 4 ∷ []))) ≡ bytes (codes "7401020304")
decimal32_row = refl

-- Texts and binaries.
symbol_amqp : encoding (scalar (symbol (codes "amqp"))) ≡ bytes (codes "a304616d7170")
symbol_amqp = refl

empty_string : encoding (scalar (string [])) ≡ bytes (codes "a100")
empty_string = refl

empty_binary : encoding (scalar (binary [])) ≡ bytes (codes "a000")
empty_binary = refl

-- Texts of up to 254 bytes have a length of one byte.
string_254 : Begins (scalar (string (replicate 254 97))) (bytes (codes "a1fe61")) 256
string_254 = (refl, refl, refl)

string_255 : Begins (scalar (string (replicate 255 97))) (bytes (codes "b1000000ff61")) 260
string_255 = (refl, refl, refl)

symbol_255 : Begins (scalar (symbol (replicate 255 97))) (bytes (codes "b3000000ff61")) 260
symbol_255 = (refl, refl, refl)

binary_255 : Begins (scalar (binary (replicate 255 0))) (bytes (codes "b0000000ff00")) 260
binary_255 = (refl, refl, refl)

-- Lists.
empty_list : encoding (list_of []) ≡ bytes (codes "45")
empty_list = refl

list_of_strings : encoding (list_of (scalar (string (codes "a")) ∷ scalar (string (codes "bc")) ∷ [])) ≡ bytes (codes "c00802a10161a1026263")
list_of_strings = refl

list_of_nulls : encoding (list_of (scalar null ∷ scalar null ∷ [])) ≡ bytes (codes "c003024040")
list_of_nulls = refl

list_of_empty_lists : encoding (list_of (list_of [] ∷ [])) ≡ bytes (codes "c0020145")
list_of_empty_lists = refl

list_body_254 : Begins (many list_of 127 (ubyte 0)) (bytes (codes "c0ff7f5000")) 257
list_body_254 = (refl, refl, refl)

list_body_256 : Begins (many list_of 128 (ubyte 0)) (bytes (codes "d000000104000000805000")) 265
list_body_256 = (refl, refl, refl)

list_of_254_nulls : Begins (many list_of 254 null) (bytes (codes "c0fffe40")) 257
list_of_254_nulls = (refl, refl, refl)

list_of_255_nulls : Begins (many list_of 255 null) (bytes (codes "d000000103000000ff40")) 264
list_of_255_nulls = (refl, refl, refl)

-- Arrays.
empty_array : encoding (array_of []) ≡ bytes (codes "e00100")
empty_array = refl

array_of_uint_0 : encoding (array_of (scalar (uint 0) ∷ [])) ≡ bytes (codes "e006017000000000")
array_of_uint_0 = refl

array_of_empty_string : encoding (array_of (scalar (string []) ∷ [])) ≡ bytes (codes "e00601b100000000")
array_of_empty_string = refl

array_of_truth_values : encoding (array_of (scalar (bool true) ∷ scalar (bool false) ∷ [])) ≡ bytes (codes "e00402560100")
array_of_truth_values = refl

array_of_lists : encoding (array_of (list_of [] ∷ list_of (scalar (ubyte 1) ∷ []) ∷ [])) ≡ bytes (codes "e01402d0000000040000000000000006000000015001")
array_of_lists = refl

array_of_arrays : encoding (array_of (array_of (scalar (ubyte 1) ∷ []) ∷ [])) ≡ bytes (codes "e00c01f000000006000000015001")
array_of_arrays = refl

array_content_254 : Begins (many array_of 253 (ubyte 0)) (bytes (codes "e0fffd5000")) 257
array_content_254 = (refl, refl, refl)

array_content_255 : Begins (many array_of 254 (ubyte 0)) (bytes (codes "f000000103000000fe5000")) 264
array_content_255 = (refl, refl, refl)

array_of_255_nulls : encoding (many array_of 255 null) ≡ bytes (codes "e002ff40")
array_of_255_nulls = refl

array_of_256_nulls : encoding (many array_of 256 null) ≡ bytes (codes "f0000000050000010040")
array_of_256_nulls = refl

-- Maps.
empty_map : encoding (map no_pairs) ≡ bytes (codes "c10100")
empty_map = refl

array_to_list : encoding (map (pair (array_of (scalar (int (pos 1)) ∷ [])) (list_of (scalar (int (pos 2)) ∷ [])) no_pairs)) ≡ bytes (codes "c10e02e006017100000001c003015402")
array_to_list = refl

symbols_to_ints : encoding (described (code 1) (map (pair (scalar (symbol (codes "a"))) (scalar (int (pos 1))) (pair (scalar (symbol (codes "b"))) (scalar (int (pos 2))) no_pairs)))) ≡ bytes (codes "005301c10b04a301615401a301625402")
symbols_to_ints = refl

-- Described values.
described_list : encoding (described (code 1) (list_of (scalar (bool true) ∷ []))) ≡ bytes (codes "005301c0020141")
described_list = refl

described_empty_list : encoding (described (code 1) (list_of [])) ≡ bytes (codes "00530145")
described_empty_list = refl

symbol_descriptor : Begins (described (name (replicate 250 97)) (list_of (scalar (ubyte 1) ∷ []))) (bytes (codes "00a3fa61")) 258
symbol_descriptor = (refl, refl, refl)

-- Variants.
variant_of_ulong : encoding (variant 1 (scalar (ulong 13))) ≡ bytes (codes "c105025201530d")
variant_of_ulong = refl

array_of_variant : encoding (array_of (variant 1 (scalar (ulong 13)) ∷ [])) ≡ bytes (codes "e00e01d100000008000000025201530d")
array_of_variant = refl

variant_of_fields : encoding (variant 1 (list_of (scalar (int (pos 13)) ∷ scalar (string (codes "amqp")) ∷ []))) ≡ bytes (codes "c10e025201c00902540da104616d7170")
variant_of_fields = refl

first_variant_of_fields : encoding (variant 0 (list_of (scalar (uint 13) ∷ scalar (bool true) ∷ []))) ≡ bytes (codes "c1080243c00402520d41")
first_variant_of_fields = refl

-- Transparent trees.
transparent_truth_values : encoding (transparent (trees_of (scalar (bool true) ∷ scalar (bool false) ∷ scalar (bool true) ∷ []))) ≡ bytes (codes "414241")
transparent_truth_values = refl

nested_transparent : encoding (transparent (trees_of (transparent (trees_of (scalar (bool true) ∷ [])) ∷ transparent (trees_of []) ∷ []))) ≡ bytes (codes "41")
nested_transparent = refl

nested_transparent_is_written : writable (transparent (trees_of (transparent (trees_of []) ∷ []))) ≡ true
nested_transparent_is_written = refl

-- Lazy trees.
lazy_string : with_marker marker.Lazy (Some (scalar (binary (bytes (codes "a10161"))))) ≡ Some (lazy (bytes (codes "a10161")))
unfolding is_encoded_value is_primitive_code category size_width body_len
lazy_string = refl

lazy_described : with_marker marker.Lazy (Some (scalar (binary (bytes (codes "00a1016145"))))) ≡ Some (lazy (bytes (codes "00a1016145")))
unfolding is_encoded_value is_primitive_code category size_width body_len
lazy_described = refl

no_lazy_of_a_prefix : with_marker marker.Lazy (Some (scalar (binary (bytes (codes "a10561"))))) ≡ None
unfolding is_encoded_value is_primitive_code category size_width body_len
no_lazy_of_a_prefix = refl

no_lazy_of_two : with_marker marker.Lazy (Some (scalar (binary (bytes (codes "4040"))))) ≡ None
unfolding is_encoded_value is_primitive_code category size_width body_len
no_lazy_of_two = refl

no_lazy_of_none : with_marker marker.Lazy (Some (scalar (binary []))) ≡ None
unfolding is_encoded_value
no_lazy_of_none = refl

no_lazy_of_a_string : with_marker marker.Lazy (Some (scalar (string (bytes (codes "40"))))) ≡ None
no_lazy_of_a_string = refl

list_of_lazy : encoding (list_of (lazy (bytes (codes "40")) ∷ lazy (bytes (codes "a10161")) ∷ [])) ≡ bytes (codes "c0050240a10161")
list_of_lazy = refl

lazy_is_written : writable (map (pair (lazy (bytes (codes "40"))) (described (code 1) (lazy (bytes (codes "41")))) no_pairs)) ≡ true
lazy_is_written = refl

-- Trees that cannot be written.
array_of_lazy : uniform_arrays (array_of (lazy (bytes (codes "40")) ∷ [])) ≡ false
array_of_lazy = refl

array_of_two_kinds : uniform_arrays (array_of (scalar (int (pos 1)) ∷ scalar (string (codes "a")) ∷ [])) ≡ false
array_of_two_kinds = refl

array_of_list_and_null : uniform_arrays (array_of (list_of [] ∷ scalar null ∷ [])) ≡ false
array_of_list_and_null = refl

array_of_two_kinds_in_a_map : uniform_arrays (map (pair (array_of (scalar null ∷ scalar (bool true) ∷ [])) (scalar null) no_pairs)) ≡ false
array_of_two_kinds_in_a_map = refl

array_of_described : uniform_arrays (array_of (described (code 1) (list_of []) ∷ [])) ≡ false
array_of_described = refl

transparent_in_a_list : placed (list_of (transparent (trees_of []) ∷ [])) ≡ false
transparent_in_a_list = refl

transparent_as_a_value : placed (map (pair (scalar null) (transparent (trees_of (scalar null ∷ []))) no_pairs)) ≡ false
transparent_as_a_value = refl

list_in_a_transparent_in_a_list : writable (transparent (trees_of (list_of (transparent (trees_of []) ∷ []) ∷ []))) ≡ false
list_in_a_transparent_in_a_list = refl

mixed_is_not_written : writable (array_of (scalar (int (pos 1)) ∷ scalar (string (codes "a")) ∷ [])) ≡ false
mixed_is_not_written = refl

mixed_is_within_the_limits : within_limits (array_of (scalar (int (pos 1)) ∷ scalar (string (codes "a")) ∷ [])) ≡ true
mixed_is_within_the_limits = refl
