-- The tree that a prefix of the bytes encodes, and the bytes after the prefix, as a function of the
-- remaining depth.
use Rattle.std.specs.Prelude.{ℕ, zero, suc, ◌/◌, ◌%◌, Bool, true, false, List, [], ◌∷◌, ◌++◌, length, take, drop, Option, Some, None, if◌then◌else◌, ◌==◌, nat_le}
use Rattle.std.specs.Int.{from_be_bytes, w32}
use Rattle.amqp_data.specs.FormatCode.{code_of}
use Rattle.amqp_data.specs.declared.format_code.EncodingCodes.{EncodingCodes}
use Rattle.amqp_frame.specs.Code.{category}
use Rattle.amqp_frame.specs.declared.code.Category.{Category}
use Rattle.amqp_frame.specs.declared.code.Category.TheVariants.{Fixed, OneByteSize, FourByteSize}
use Rattle.amqp_ser.specs.Tree as tree
use Rattle.amqp_ser.specs.Tree.{Scalar, Descriptor, Tree, Pairs, trees_of, no_pairs}
use Rattle.amqp_value.specs.Image.{insert_tree}
use Rattle.amqp_decode.specs.Codes.{primitive_of, shape_of_code}
use Rattle.amqp_decode.specs.Scalars.{and_then, scalar_in, scalar_tree}
use Rattle.amqp_decode.specs.declared.payload.Count.{Count}
use Rattle.amqp_decode.specs.declared.payload.Count.TheVariants.{Absent, OneByte, FourBytes}
use Rattle.amqp_decode.specs.declared.payload.PayloadShape.{PayloadShape}
use Rattle.amqp_decode.specs.declared.payload.PayloadShape.TheVariants as shape

-- The first `n` bytes, and the rest.
abbrev pub cut : ℕ → List ℕ → Option (List ℕ × List ℕ)
cut n s = if nat_le n (length s) then Some (take n s, drop n s) else None

-- The first byte, and the rest.
abbrev pub head : List ℕ → Option (ℕ × List ℕ)
head [] = None
head (b ∷ s) = Some (b, s)

-- The number in the first four bytes or in the first one, and the rest.
abbrev pub number_at : Bool → List ℕ → Option (ℕ × List ℕ)
number_at false s = head s
number_at true s = and_then (cut 4 s) (λ p. Some (from_be_bytes w32 p.0, p.1))

-- As many bytes as the number before them says, and the rest.
unfoldable pub sized_at : Bool → List ℕ → Option (List ℕ × List ℕ)
sized_at wide s = and_then (number_at wide s) (λ n. cut n.0 n.1)

-- The content of the payload at the start, and the rest.
abbrev pub content_at : Category → List ℕ → Option (List ℕ × List ℕ)
content_at (Fixed n) s = cut n s
content_at OneByteSize s = sized_at false s
content_at FourByteSize s = sized_at true s

-- The count in a content, and what follows it.
unfoldable pub counted_in : Count → List ℕ → Option (ℕ × List ℕ)
counted_in Absent s = Some (0, s)
counted_in OneByte s = number_at false s
counted_in FourBytes s = number_at true s

-- A ulong or a symbol as a descriptor.
abbrev pub tree_descriptor : Tree → Option Descriptor
tree_descriptor (tree.scalar (tree.ulong n)) = Some (tree.code n)
tree_descriptor (tree.scalar (tree.symbol bs)) = Some (tree.name bs)
tree_descriptor _ = None

-- The descriptor at the start, and the rest.
abbrev pub parsed_descriptor : EncodingCodes → List ℕ × List ℕ → Option (Descriptor × List ℕ)
parsed_descriptor code p = and_then (and_then (and_then (scalar_in code p.0) scalar_tree) tree_descriptor) (λ d. Some (d, p.1))

unfoldable pub descriptor_at : List ℕ → Option (Descriptor × List ℕ)
descriptor_at [] = None
descriptor_at (byte ∷ s) = and_then (primitive_of byte) (λ code. and_then (content_at (category (code_of code)) s) (parsed_descriptor code))

-- Readers of an encoded value, and of the content of a code's payload.
abbrev pub ValueReader : Type 0
ValueReader = List ℕ → Option (Tree × List ℕ)

abbrev pub ContentReader : Type 0
ContentReader = EncodingCodes → List ℕ → Option Tree

-- The payload of a code at the start, and the rest.
abbrev pub with_rest : List ℕ → Tree → Option (Tree × List ℕ)
with_rest rest t = Some (t, rest)

abbrev pub payload_in : ContentReader → EncodingCodes → ValueReader
payload_in h code s = and_then (content_at (category (code_of code)) s) (λ p. and_then (h code p.0) (with_rest p.1))

-- `n` more values, after those already read.
abbrev pub gather : ValueReader → ℕ → List ℕ → List Tree → Option (List Tree × List ℕ)
gather f zero s done = Some (done, s)
gather f (suc n) s done = and_then (f s) (λ r. gather f n r.1 (done ++ r.0 ∷ []))

-- `n` more keys and values, alternately.
abbrev pub insert : ValueReader → ℕ → List ℕ → Pairs → Option (Pairs × List ℕ)
insert f zero s done = Some (done, s)
insert f (suc n) s done = and_then (f s) (λ k. and_then (f k.1) (λ v. insert f n v.1 (insert_tree done k.0 v.0)))

-- No bytes are left.
abbrev pub all : {A : Type 0} → A × List ℕ → Option A
all (a, []) = Some a
all (a, b ∷ s) = None

abbrev pub parse_list : ValueReader → ℕ × List ℕ → Option Tree
parse_list f p = and_then (and_then (gather f p.0 p.1 []) all) (λ ts. Some (tree.list (trees_of ts)))

abbrev pub parse_map : ValueReader → ℕ × List ℕ → Option Tree
parse_map f p = if p.0 % 2 == 0 then and_then (and_then (insert f (p.0 / 2) p.1 no_pairs) all) (λ ps. Some (tree.map ps)) else None

-- The constructor at the start, and `n` payloads of it.
abbrev pub items_in : ContentReader → ℕ → List ℕ → Option (List Tree)
items_in h zero [] = Some []
items_in h (suc n) [] = None
items_in h n (c ∷ s) = and_then (primitive_of c) (λ code. and_then (gather (payload_in h code) n s []) all)

abbrev pub parse_array : ContentReader → ℕ × List ℕ → Option Tree
parse_array h p = and_then (items_in h p.0 p.1) (λ ts. Some (tree.array (trees_of ts)))

-- A content. `f` reads the encoded values in it, and `h` the array elements.
abbrev pub content_in : ValueReader → ContentReader → PayloadShape → ContentReader
content_in f h shape.Described code s = None
content_in f h shape.Scalar code s = and_then (scalar_in code s) scalar_tree
content_in f h (shape.List count) code s = and_then (counted_in count s) (parse_list f)
content_in f h (shape.Map count) code s = and_then (counted_in count s) (parse_map f)
content_in f h (shape.Array count) code s = and_then (counted_in count s) (parse_array h)

abbrev pub content_of : ValueReader → ContentReader → ContentReader
content_of f h code s = content_in f h (shape_of_code code) code s

abbrev pub parse_described : ValueReader → Descriptor × List ℕ → Option (Tree × List ℕ)
parse_described f d = and_then (f d.1) (λ r. Some (tree.described d.0 r.0, r.1))

-- The first encoded value.
abbrev pub value_in_bytes : ValueReader → ContentReader → ValueReader
value_in_bytes f h [] = None
value_in_bytes f h (byte ∷ s) =
    if byte == 0 then and_then (descriptor_at s) (parse_described f) else and_then (primitive_of byte) (λ code. payload_in (content_of f h) code s)

unfoldable mutual
  -- The first encoded value, with at most this depth.
  pub parse : ℕ → List ℕ → Option (Tree × List ℕ)
  parse zero s = None
  parse (suc depth) s = value_in_bytes (parse depth) (parse_content depth) s

  -- A content with at most this depth.
  pub parse_content : ℕ → EncodingCodes → List ℕ → Option Tree
  parse_content zero code s = None
  parse_content (suc depth) code s = content_of (parse depth) (parse_content depth) code s
