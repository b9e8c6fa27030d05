-- The data tree that bytes encode, in any form (AMQP 1.0 part 1, sections 1.2 to 1.2.4 and 1.6).
use Rattle.std.specs.Prelude.{◌≡◌, ℕ, suc, ◌*◌, IsTrue, List, [], ◌∷◌, ◌++◌, length, Some}
use Rattle.std.specs.Int.{from_be_bytes, w32}
use Rattle.amqp_data.specs.FormatCode.{code_of}
use Rattle.amqp_data.specs.declared.format_code.EncodingCodes.{EncodingCodes}
use Rattle.amqp_frame.specs.Code.{category}
use Rattle.amqp_frame.specs.declared.code.Category.{Category}
use Rattle.amqp_frame.specs.declared.code.Category.TheVariants.{Fixed, OneByteSize, FourByteSize}
use Rattle.amqp_ser.specs.Tree as tree
use Rattle.amqp_ser.specs.Tree.{Scalar, Descriptor, Tree, Pairs, trees_of, no_pairs}
use Rattle.amqp_value.specs.Image.{insert_tree}
use Rattle.amqp_decode.specs.Codes.{is_primitive, shape_of_code}
use Rattle.amqp_decode.specs.Scalars.{scalar_in}
use Rattle.amqp_decode.specs.declared.payload.Count.{Count}
use Rattle.amqp_decode.specs.declared.payload.Count.TheVariants.{Absent, OneByte, FourBytes}
use Rattle.amqp_decode.specs.declared.payload.PayloadShape.TheVariants as shape

-- A number in four bytes.
pub data IsNumber : List ℕ → ℕ → Type 0 where
  four_bytes : (a b c d : ℕ) → IsNumber (a ∷ b ∷ c ∷ d ∷ []) (from_be_bytes w32 (a ∷ b ∷ c ∷ d ∷ []))

-- A payload of a category, and its content: all of it (section 1.2.1), or what follows a size of
-- one or four bytes (sections 1.2.2 to 1.2.4).
pub data IsPayload : Category → List ℕ → List ℕ → Type 0 where
  of_width : (content : List ℕ) → IsPayload (Fixed (length content)) content content
  of_one_byte : (content : List ℕ) → IsPayload OneByteSize (length content ∷ content) content
  of_four_bytes : (size content : List ℕ) → IsNumber size (length content) → IsPayload FourByteSize (size ++ content) content

-- The count in a content, and what follows it (sections 1.2.3 and 1.2.4).
pub data IsCounted : Count → List ℕ → ℕ → List ℕ → Type 0 where
  in_none : (body : List ℕ) → IsCounted Absent body 0 body
  in_one_byte : (n : ℕ) (body : List ℕ) → IsCounted OneByte (n ∷ body) n body
  in_four_bytes : (bytes : List ℕ) (n : ℕ) (body : List ℕ) → IsNumber bytes n → IsCounted FourBytes (bytes ++ body) n body

-- A descriptor is a ulong or a symbol (section 1.5).
abbrev pub descriptor_scalar : Descriptor → Scalar
descriptor_scalar (tree.name bs) = tree.symbol bs
descriptor_scalar (tree.code n) = tree.ulong n

pub data IsDescriptor : List ℕ → Descriptor → Type 0 where
  encoded : (code : EncodingCodes) (payload content : List ℕ) (d : Descriptor) → IsTrue (is_primitive code)
      → IsPayload (category (code_of code)) payload content → scalar_in code content ≡ Some (descriptor_scalar d)
      → IsDescriptor (code_of code ∷ payload) d

mutual
  -- The bytes encode the tree, and its depth is at most `depth`. A scalar or an empty compound has
  -- depth 1, any other compound has one more than its deepest part, and a described value has one
  -- more than its value.
  pub data Encodes : ℕ → List ℕ → Tree → Type 0 where
    primitive : (depth : ℕ) (code : EncodingCodes) (payload content : List ℕ) (t : Tree) → IsTrue (is_primitive code)
        → IsPayload (category (code_of code)) payload content → EncodesContent depth code content t → Encodes depth (code_of code ∷ payload) t
    described : (depth : ℕ) (a b : List ℕ) (d : Descriptor) (t : Tree)
        → IsDescriptor a d → Encodes depth b t → Encodes (suc depth) (0 ∷ (a ++ b)) (tree.described d t)

  -- The content of a payload of this code encodes the tree. Elements and entries fill it.
  pub data EncodesContent : ℕ → EncodingCodes → List ℕ → Tree → Type 0 where
    a_scalar : (depth : ℕ) (code : EncodingCodes) (content : List ℕ) (s : Scalar)
        → shape_of_code code ≡ shape.Scalar → scalar_in code content ≡ Some s → EncodesContent (suc depth) code content (tree.scalar s)
    a_list : (depth : ℕ) (code : EncodingCodes) (count : Count) (content : List ℕ) (n : ℕ) (body : List ℕ) (ts : List Tree)
        → shape_of_code code ≡ shape.List count → IsCounted count content n body → EncodesElements depth n body ts
        → EncodesContent (suc depth) code content (tree.list (trees_of ts))
    a_map : (depth : ℕ) (code : EncodingCodes) (count : Count) (content : List ℕ) (n : ℕ) (body : List ℕ) (ps : Pairs)
        → shape_of_code code ≡ shape.Map count → IsCounted count content (2 * n) body → EncodesEntries depth n body no_pairs ps
        → EncodesContent (suc depth) code content (tree.map ps)
    a_bare_array : (depth : ℕ) (code : EncodingCodes) (count : Count) (content : List ℕ)
        → shape_of_code code ≡ shape.Array count → IsCounted count content 0 [] → EncodesContent (suc depth) code content (tree.array (trees_of []))
    an_array : (depth : ℕ) (code : EncodingCodes) (count : Count) (content : List ℕ) (n : ℕ) (constructor : EncodingCodes) (items : List ℕ) (ts : List Tree)
        → shape_of_code code ≡ shape.Array count → IsCounted count content n (code_of constructor ∷ items) → IsTrue (is_primitive constructor)
        → EncodesItems depth constructor n items ts → EncodesContent (suc depth) code content (tree.array (trees_of ts))

  -- A number of encoded values, one after another.
  pub data EncodesElements : ℕ → ℕ → List ℕ → List Tree → Type 0 where
    no_element : (depth : ℕ) → EncodesElements depth 0 [] []
    element : (depth n : ℕ) (a b : List ℕ) (t : Tree) (ts : List Tree)
        → Encodes depth a t → EncodesElements depth n b ts → EncodesElements depth (suc n) (a ++ b) (t ∷ ts)

  -- A number of payloads of one code.
  pub data EncodesItems : ℕ → EncodingCodes → ℕ → List ℕ → List Tree → Type 0 where
    no_item : (depth : ℕ) (code : EncodingCodes) → EncodesItems depth code 0 [] []
    item : (depth : ℕ) (code : EncodingCodes) (n : ℕ) (payload content b : List ℕ) (t : Tree) (ts : List Tree)
        → IsPayload (category (code_of code)) payload content → EncodesContent depth code content t → EncodesItems depth code n b ts
        → EncodesItems depth code (suc n) (payload ++ b) (t ∷ ts)

  -- A number of keys and values, alternately, inserted into the entries that exist. The entry of a
  -- key that exists keeps its position.
  pub data EncodesEntries : ℕ → ℕ → List ℕ → Pairs → Pairs → Type 0 where
    no_entry : (depth : ℕ) (done : Pairs) → EncodesEntries depth 0 [] done done
    entry : (depth n : ℕ) (a b rest : List ℕ) (k v : Tree) (done ps : Pairs)
        → Encodes depth a k → Encodes depth b v → EncodesEntries depth n rest (insert_tree done k v) ps
        → EncodesEntries depth (suc n) (a ++ (b ++ rest)) done ps
