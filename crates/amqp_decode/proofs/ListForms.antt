-- Lists with their format codes.
use Rattle.std.proofs.Common.{◌≡◌, ℕ, true, false, IsTrue, List, [], ◌∷◌, Some, refl}
use Rattle.amqp_data.specs.FormatCode.{code_of}
use Rattle.amqp_data.specs.declared.format_code.EncodingCodes.{EncodingCodes}
use Rattle.amqp_data.specs.declared.format_code.EncodingCodes.TheVariants as code
use Rattle.amqp_frame.specs.Code.{category}
use Rattle.amqp_ser.specs.Tree.{Tree}
use Rattle.amqp_decode.specs.Codes.{is_primitive, shape_of_code}
use Rattle.amqp_decode.specs.Encodes.{IsPayload}
use Rattle.amqp_decode.specs.Parsed.{ValueReader, ContentReader, content_at, sized_at, number_at, counted_in}
use Rattle.amqp_decode.specs.Prefix.{HasCountOf, IsListOf}
use Rattle.amqp_decode.specs.declared.payload.Count.{Count}
use Rattle.amqp_decode.specs.declared.payload.Count.TheVariants.{Absent, OneByte, FourBytes}
use Rattle.amqp_decode.specs.declared.payload.PayloadShape.TheVariants as shape
use Rattle.amqp_decode.proofs.CodeLemmas.{primitive-found, primitive-nonzero}
use Rattle.amqp_decode.proofs.Finds.{payload-found}

list_as_value : (c : EncodingCodes) (k : Count) (s content rest : List ℕ) (n : ℕ) (body : List ℕ) → IsTrue (is_primitive c)
    → shape_of_code c ≡ shape.List k → content_at (category (code_of c)) s ≡ Some (content, rest) → counted_in k content ≡ Some (n, body)
    → IsListOf (code_of c ∷ s) rest n body
list_as_value c k s content rest n body ok is found counted f h ts all = rw (primitive-nonzero c ok, primitive-found c ok, found, is, counted, all) refl

list_counted : (c : EncodingCodes) (k : Count) (s content rest : List ℕ) (n : ℕ) (body : List ℕ) → IsTrue (is_primitive c)
    → shape_of_code c ≡ shape.List k → content_at (category (code_of c)) s ≡ Some (content, rest) → counted_in k content ≡ Some (n, body)
    → HasCountOf (code_of c ∷ s) n body
list_counted c k s content rest n body ok is found counted e f a h = rw (primitive-nonzero c ok, primitive-found c ok, found, is, counted) refl

pub list_none : (s : List ℕ) → IsListOf (69 ∷ s) s 0 []
unfolding category counted_in
list_none s = list_as_value code.List0 Absent s [] s 0 [] refl refl (payload-found (IsPayload.of_width []) s) refl

pub list_short : (s content rest : List ℕ) (n : ℕ) (body : List ℕ) → sized_at false s ≡ Some (content, rest) → number_at false content ≡ Some (n, body)
    → IsListOf (192 ∷ s) rest n body
unfolding category counted_in
list_short s content rest n body found counted = list_as_value code.List8 OneByte s content rest n body refl refl found counted

pub list_long : (s content rest : List ℕ) (n : ℕ) (body : List ℕ) → sized_at true s ≡ Some (content, rest) → number_at true content ≡ Some (n, body)
    → IsListOf (208 ∷ s) rest n body
unfolding category counted_in
list_long s content rest n body found counted = list_as_value code.List32 FourBytes s content rest n body refl refl found counted

pub count_none : (s : List ℕ) → HasCountOf (69 ∷ s) 0 []
unfolding category counted_in
count_none s = list_counted code.List0 Absent s [] s 0 [] refl refl (payload-found (IsPayload.of_width []) s) refl

pub count_short : (s content rest : List ℕ) (n : ℕ) (body : List ℕ) → sized_at false s ≡ Some (content, rest) → number_at false content ≡ Some (n, body)
    → HasCountOf (192 ∷ s) n body
unfolding category counted_in
count_short s content rest n body found counted = list_counted code.List8 OneByte s content rest n body refl refl found counted

pub count_long : (s content rest : List ℕ) (n : ℕ) (body : List ℕ) → sized_at true s ≡ Some (content, rest) → number_at true content ≡ Some (n, body)
    → HasCountOf (208 ∷ s) n body
unfolding category counted_in
count_long s content rest n body found counted = list_counted code.List32 FourBytes s content rest n body refl refl found counted
