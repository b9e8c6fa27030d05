-- Computed examples: bytes and the trees that they encode.
use Rattle.std.proofs.Common.{ℕ, pos, negsuc, List, [], ◌∷◌, true, codes, refl}
use Rattle.amqp_ser.specs.Tree.{null, bool, uint, ubyte, int, binary, code, Tree, scalar, list, array, map, described, no_pairs, pair, trees_of}
use Rattle.amqp_frame.specs.Code.{category}
use Rattle.amqp_ser.proofs.Worked.{bytes}
use Rattle.amqp_decode.specs.Codes.{primitive_of}
use Rattle.amqp_decode.specs.Parsed.{parse, parse_content, sized_at, counted_in, descriptor_at}
use Rattle.amqp_decode.specs.Scalars.{scalar_in}
use Rattle.amqp_decode.specs.Encodes.{Encodes}
use Rattle.amqp_decode.proofs.Whole.{encoded, none-encoded}

abbrev Row : List ℕ → Tree → Type 0
Row hexadecimal t = Encodes 3 (bytes hexadecimal) t

abbrev Refused : List ℕ → Type 0
Refused hexadecimal = (t : Tree) → Encodes 3 (bytes hexadecimal) t → ⊥

-- Every form.
zero_in_no_byte : Row (codes "43") (scalar (uint 0))
unfolding parse parse_content sized_at counted_in descriptor_at scalar_in primitive_of category
zero_in_no_byte = encoded 3 (bytes (codes "43")) _ refl

zero_in_one_byte : Row (codes "5200") (scalar (uint 0))
unfolding parse parse_content sized_at counted_in descriptor_at scalar_in primitive_of category
zero_in_one_byte = encoded 3 (bytes (codes "5200")) _ refl

zero_in_four_bytes : Row (codes "7000000000") (scalar (uint 0))
unfolding parse parse_content sized_at counted_in descriptor_at scalar_in primitive_of category
zero_in_four_bytes = encoded 3 (bytes (codes "7000000000")) _ refl

true_as_a_byte : Row (codes "5601") (scalar (bool true))
unfolding parse parse_content sized_at counted_in descriptor_at scalar_in primitive_of category
true_as_a_byte = encoded 3 (bytes (codes "5601")) _ refl

minus_one : Row (codes "54ff") (scalar (int (negsuc 0)))
unfolding parse parse_content sized_at counted_in descriptor_at scalar_in primitive_of category
minus_one = encoded 3 (bytes (codes "54ff")) _ refl

binary_with_a_short_length : Row (codes "a00161") (scalar (binary (codes "a")))
unfolding parse parse_content sized_at counted_in descriptor_at scalar_in primitive_of category
binary_with_a_short_length = encoded 3 (bytes (codes "a00161")) _ refl

binary_with_a_long_length : Row (codes "b00000000161") (scalar (binary (codes "a")))
unfolding parse parse_content sized_at counted_in descriptor_at scalar_in primitive_of category
binary_with_a_long_length = encoded 3 (bytes (codes "b00000000161")) _ refl

empty_list_with_a_size : Row (codes "c00100") (list (trees_of []))
unfolding parse parse_content sized_at counted_in descriptor_at scalar_in primitive_of category
empty_list_with_a_size = encoded 3 (bytes (codes "c00100")) _ refl

empty_list_with_a_long_size : Row (codes "d00000000400000000") (list (trees_of []))
unfolding parse parse_content sized_at counted_in descriptor_at scalar_in primitive_of category
empty_list_with_a_long_size = encoded 3 (bytes (codes "d00000000400000000")) _ refl

later_value_of_a_key : Row (codes "c10704405001405002") (map (pair (scalar null) (scalar (ubyte 2)) no_pairs))
unfolding parse parse_content sized_at counted_in descriptor_at scalar_in primitive_of category
later_value_of_a_key = encoded 3 (bytes (codes "c10704405001405002")) _ refl

array_that_ends_after_its_count : Row (codes "e00100") (array (trees_of []))
unfolding parse parse_content sized_at counted_in descriptor_at scalar_in primitive_of category
array_that_ends_after_its_count = encoded 3 (bytes (codes "e00100")) _ refl

array_of_one_constructor : Row (codes "e0020050") (array (trees_of []))
unfolding parse parse_content sized_at counted_in descriptor_at scalar_in primitive_of category
array_of_one_constructor = encoded 3 (bytes (codes "e0020050")) _ refl

array_of_small_ints : Row (codes "e004025401ff") (array (trees_of (scalar (int (pos 1)) ∷ scalar (int (negsuc 0)) ∷ [])))
unfolding parse parse_content sized_at counted_in descriptor_at scalar_in primitive_of category
array_of_small_ints = encoded 3 (bytes (codes "e004025401ff")) _ refl

array_of_empty_lists : Row (codes "e0020245") (array (trees_of (list (trees_of []) ∷ list (trees_of []) ∷ [])))
unfolding parse parse_content sized_at counted_in descriptor_at scalar_in primitive_of category
array_of_empty_lists = encoded 3 (bytes (codes "e0020245")) _ refl

array_of_trues : Row (codes "e0020341") (array (trees_of (scalar (bool true) ∷ scalar (bool true) ∷ scalar (bool true) ∷ [])))
unfolding parse parse_content sized_at counted_in descriptor_at scalar_in primitive_of category
array_of_trues = encoded 3 (bytes (codes "e0020341")) _ refl

described_by_a_ulong : Row (codes "00530140") (described (code 1) (scalar null))
unfolding parse parse_content sized_at counted_in descriptor_at scalar_in primitive_of category
described_by_a_ulong = encoded 3 (bytes (codes "00530140")) _ refl

third_level : Row (codes "c00501c0020145") (list (trees_of (list (trees_of (list (trees_of []) ∷ [])) ∷ [])))
unfolding parse parse_content sized_at counted_in descriptor_at scalar_in primitive_of category
third_level = encoded 3 (bytes (codes "c00501c0020145")) _ refl

fourth_level : Refused (codes "c00801c00501c0020145")
unfolding parse parse_content sized_at counted_in descriptor_at scalar_in primitive_of category
fourth_level = none-encoded 3 (bytes (codes "c00801c00501c0020145")) refl

-- Bytes that encode no tree.
byte_of_two : Refused (codes "5602")
unfolding parse parse_content sized_at counted_in descriptor_at scalar_in primitive_of category
byte_of_two = none-encoded 3 (bytes (codes "5602")) refl

surrogate : Refused (codes "730000d800")
unfolding parse parse_content sized_at counted_in descriptor_at scalar_in primitive_of category
surrogate = none-encoded 3 (bytes (codes "730000d800")) refl

no_code : Refused (codes "46")
unfolding parse parse_content sized_at counted_in descriptor_at scalar_in primitive_of category
no_code = none-encoded 3 (bytes (codes "46")) refl

element_past_the_end : Refused (codes "c0020150")
unfolding parse parse_content sized_at counted_in descriptor_at scalar_in primitive_of category
element_past_the_end = none-encoded 3 (bytes (codes "c0020150")) refl

count_past_the_end : Refused (codes "c003025001")
unfolding parse parse_content sized_at counted_in descriptor_at scalar_in primitive_of category
count_past_the_end = none-encoded 3 (bytes (codes "c003025001")) refl

bytes_left_over : Refused (codes "c00401500140")
unfolding parse parse_content sized_at counted_in descriptor_at scalar_in primitive_of category
bytes_left_over = none-encoded 3 (bytes (codes "c00401500140")) refl

key_without_a_value : Refused (codes "c1020140")
unfolding parse parse_content sized_at counted_in descriptor_at scalar_in primitive_of category
key_without_a_value = none-encoded 3 (bytes (codes "c1020140")) refl

second_constructor : Refused (codes "e003005001")
unfolding parse parse_content sized_at counted_in descriptor_at scalar_in primitive_of category
second_constructor = none-encoded 3 (bytes (codes "e003005001")) refl

constructor_of_a_described_value : Refused (codes "e0020100")
unfolding parse parse_content sized_at counted_in descriptor_at scalar_in primitive_of category
constructor_of_a_described_value = none-encoded 3 (bytes (codes "e0020100")) refl

ubyte_as_a_descriptor : Refused (codes "00405001")
unfolding parse parse_content sized_at counted_in descriptor_at scalar_in primitive_of category
ubyte_as_a_descriptor = none-encoded 3 (bytes (codes "00405001")) refl
