-- Computed examples: bytes that are no encoded value, and the error of their first fault (AMQP 1.0 part
-- 1, sections 1.2 and 1.6).
use Rattle.std.proofs.Common.{◌≡◌, ℕ, List, codes, refl}
use Rattle.amqp_data.specs.declared.error.Error.{Error}
use Rattle.amqp_data.specs.declared.error.Error.TheVariants.{InvalidValue, InvalidFormatCode, UnexpectedEof}
use Rattle.amqp_frame.specs.Code.{category}
use Rattle.amqp_ser.proofs.Worked.{bytes}
use Rattle.amqp_decode.specs.Codes.{primitive_of}
use Rattle.amqp_decode.specs.Faults.{decode_fault, fault_in, fault_in_item}
use Rattle.amqp_decode.specs.Parsed.{parse, parse_content, sized_at, counted_in, descriptor_at}
use Rattle.amqp_decode.specs.Scalars.{scalar_in}

abbrev Row : List ℕ → Error → Type 0
Row hexadecimal e = decode_fault 3 (bytes hexadecimal) ≡ e

no_code : Row (codes "46") InvalidFormatCode
unfolding fault_in fault_in_item parse parse_content sized_at counted_in descriptor_at scalar_in primitive_of category
no_code = refl

no_code_of_an_element : Row (codes "c0020146") InvalidFormatCode
unfolding fault_in fault_in_item parse parse_content sized_at counted_in descriptor_at scalar_in primitive_of category
no_code_of_an_element = refl

no_code_of_items : Row (codes "e0020146") InvalidFormatCode
unfolding fault_in fault_in_item parse parse_content sized_at counted_in descriptor_at scalar_in primitive_of category
no_code_of_items = refl

no_code_of_a_descriptor : Row (codes "004640") InvalidFormatCode
unfolding fault_in fault_in_item parse parse_content sized_at counted_in descriptor_at scalar_in primitive_of category
no_code_of_a_descriptor = refl

no_byte : Row (codes "") UnexpectedEof
unfolding fault_in fault_in_item parse parse_content sized_at counted_in descriptor_at scalar_in primitive_of category
no_byte = refl

payload_cut_off : Row (codes "50") UnexpectedEof
unfolding fault_in fault_in_item parse parse_content sized_at counted_in descriptor_at scalar_in primitive_of category
payload_cut_off = refl

size_cut_off : Row (codes "a1") UnexpectedEof
unfolding fault_in fault_in_item parse parse_content sized_at counted_in descriptor_at scalar_in primitive_of category
size_cut_off = refl

text_cut_off : Row (codes "a10261") UnexpectedEof
unfolding fault_in fault_in_item parse parse_content sized_at counted_in descriptor_at scalar_in primitive_of category
text_cut_off = refl

element_past_the_end : Row (codes "c0020150") UnexpectedEof
unfolding fault_in fault_in_item parse parse_content sized_at counted_in descriptor_at scalar_in primitive_of category
element_past_the_end = refl

count_past_the_end : Row (codes "c003025001") UnexpectedEof
unfolding fault_in fault_in_item parse parse_content sized_at counted_in descriptor_at scalar_in primitive_of category
count_past_the_end = refl

count_cut_off : Row (codes "c000") UnexpectedEof
unfolding fault_in fault_in_item parse parse_content sized_at counted_in descriptor_at scalar_in primitive_of category
count_cut_off = refl

value_of_a_descriptor_cut_off : Row (codes "005301") UnexpectedEof
unfolding fault_in fault_in_item parse parse_content sized_at counted_in descriptor_at scalar_in primitive_of category
value_of_a_descriptor_cut_off = refl

constructor_cut_off : Row (codes "e00101") UnexpectedEof
unfolding fault_in fault_in_item parse parse_content sized_at counted_in descriptor_at scalar_in primitive_of category
constructor_cut_off = refl

byte_of_two : Row (codes "5602") InvalidValue
unfolding fault_in fault_in_item parse parse_content sized_at counted_in descriptor_at scalar_in primitive_of category
byte_of_two = refl

surrogate : Row (codes "730000d800") InvalidValue
unfolding fault_in fault_in_item parse parse_content sized_at counted_in descriptor_at scalar_in primitive_of category
surrogate = refl

elements_left_over : Row (codes "c00401500140") InvalidValue
unfolding fault_in fault_in_item parse parse_content sized_at counted_in descriptor_at scalar_in primitive_of category
elements_left_over = refl

bytes_left_over : Row (codes "4040") InvalidValue
unfolding fault_in fault_in_item parse parse_content sized_at counted_in descriptor_at scalar_in primitive_of category
bytes_left_over = refl

key_without_a_value : Row (codes "c1020140") InvalidValue
unfolding fault_in fault_in_item parse parse_content sized_at counted_in descriptor_at scalar_in primitive_of category
key_without_a_value = refl

items_left_over : Row (codes "e003005001") InvalidValue
unfolding fault_in fault_in_item parse parse_content sized_at counted_in descriptor_at scalar_in primitive_of category
items_left_over = refl

constructor_of_a_described_value : Row (codes "e0020100") InvalidValue
unfolding fault_in fault_in_item parse parse_content sized_at counted_in descriptor_at scalar_in primitive_of category
constructor_of_a_described_value = refl

ubyte_as_a_descriptor : Row (codes "00405001") InvalidValue
unfolding fault_in fault_in_item parse parse_content sized_at counted_in descriptor_at scalar_in primitive_of category
ubyte_as_a_descriptor = refl

descriptor_of_a_descriptor : Row (codes "000040") InvalidValue
unfolding fault_in fault_in_item parse parse_content sized_at counted_in descriptor_at scalar_in primitive_of category
descriptor_of_a_descriptor = refl

fourth_level : Row (codes "c00801c00501c0020145") InvalidValue
unfolding fault_in fault_in_item parse parse_content sized_at counted_in descriptor_at scalar_in primitive_of category
fourth_level = refl
