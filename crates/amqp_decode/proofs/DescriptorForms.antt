-- Numeric descriptors with their format codes.
use Rattle.std.proofs.Common.{◌≡◌, ℕ, zero, suc, ◌-◌, Bool, true, false, IsTrue, List, [], ◌∷◌, ◌++◌, Option, Some, None, refl, sym, ap, ◌∙◌, subst, arith}
use Rattle.std.specs.Int.{w64, from_be_bytes}
use Rattle.amqp_data.specs.FormatCode.{code_of}
use Rattle.amqp_data.specs.declared.format_code.EncodingCodes.{EncodingCodes}
use Rattle.amqp_data.specs.declared.format_code.EncodingCodes.TheVariants as code
use Rattle.amqp_frame.specs.Code.{category}
use Rattle.amqp_ser.specs.Tree as tree
use Rattle.amqp_ser.specs.Tree.{Tree, Scalar, Descriptor, trees_of, scalar}
use Rattle.amqp_decode.specs.Codes.{is_primitive, primitive_of, shape_of_code}
use Rattle.amqp_decode.specs.Scalars.{and_then, exact, scalar_in, scalar_tree}
use Rattle.amqp_decode.specs.Encodes.{IsPayload}
use Rattle.amqp_decode.specs.Parsed.{ValueReader, ContentReader, cut, content_at, sized_at, number_at, counted_in, gather, all, items_in, parse_array, payload_in, content_of, value_in_bytes, descriptor_at, parse_described, parsed_descriptor, tree_descriptor, parse, parse_content}
use Rattle.amqp_decode.specs.declared.payload.Count.{Count}
use Rattle.amqp_decode.specs.declared.payload.Count.TheVariants.{Absent, OneByte, FourBytes}
use Rattle.amqp_decode.specs.declared.payload.PayloadShape.TheVariants as shape
use Rattle.amqp_decode.proofs.CodeLemmas.{primitive-found, primitive-nonzero}
use Rattle.amqp_decode.proofs.Finds.{payload-found}
use Rattle.amqp_decode.specs.Prefix.{IsArrayOf, IsDescribedBy, item_of}

descriptor_as_value : (c : EncodingCodes) (s content rest : List ℕ) (k : Scalar) (d : Descriptor) → IsTrue (is_primitive c)
    → content_at (category (code_of c)) s ≡ Some (content, rest) → scalar_in c content ≡ Some k → tree_descriptor (scalar k) ≡ Some d
    → descriptor_at (code_of c ∷ s) ≡ Some (d, rest)
unfolding descriptor_at
descriptor_as_value c s content rest k d ok found reads is = rw (primitive-found c ok, found, reads, is) refl

pub number_short : (a : ℕ) (s : List ℕ) → descriptor_at (83 ∷ a ∷ s) ≡ Some (tree.code a, s)
unfolding scalar_in category
number_short a s = descriptor_as_value code.SmallUlong (a ∷ s) (a ∷ []) s (tree.ulong a) (tree.code a) refl (payload-found (IsPayload.of_width (a ∷ [])) s) refl refl

pub number_long : (s bs rest : List ℕ) → cut 8 s ≡ Some (bs, rest) → exact 8 bs ≡ Some bs → descriptor_at (128 ∷ s) ≡ Some (tree.code (from_be_bytes w64 bs), rest)
unfolding scalar_in category
number_long s bs rest found whole = descriptor_as_value code.Ulong s bs rest (tree.ulong (from_be_bytes w64 bs)) (tree.code (from_be_bytes w64 bs)) refl found (rw whole refl) refl

pub described_as_value : (s after : List ℕ) (d : Descriptor) → descriptor_at s ≡ Some (d, after) → IsDescribedBy d (0 ∷ s) after
described_as_value s after d is f h t rest e = rw (is, e) refl
