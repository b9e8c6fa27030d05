-- Maps with their format codes.
use Rattle.std.proofs.Common.{◌≡◌, ◌==◌, ◌/◌, ◌%◌, ◌*◌, ℕ, true, false, IsTrue, List, ◌∷◌, Some, refl, ap, ◌∙◌, arith}
use Rattle.std.proofs.lemmas.Grind.{common_steps}
use Rattle.amqp_data.specs.FormatCode.{code_of}
use Rattle.amqp_data.specs.declared.format_code.EncodingCodes.{EncodingCodes}
use Rattle.amqp_data.specs.declared.format_code.EncodingCodes.TheVariants as code
use Rattle.amqp_frame.specs.Code.{category}
use Rattle.amqp_ser.specs.Tree.{Pairs, no_pairs}
use Rattle.amqp_value.proofs.SameLemmas.{numbers}
use Rattle.amqp_decode.specs.Codes.{is_primitive, shape_of_code}
use Rattle.amqp_decode.specs.Parsed.{ValueReader, ContentReader, content_at, sized_at, number_at, counted_in, insert, value_in_bytes}
use Rattle.amqp_decode.specs.Prefix.{HasCountOf, IsMapOf}
use Rattle.amqp_decode.specs.WithoutBytes.{counted_in_value, sum_of}
use Rattle.amqp_decode.specs.declared.payload.Count.{Count}
use Rattle.amqp_decode.specs.declared.payload.Count.TheVariants.{OneByte, FourBytes}
use Rattle.amqp_decode.specs.declared.payload.PayloadShape.TheVariants as shape
use Rattle.amqp_decode.proofs.CodeLemmas.{primitive-found, primitive-nonzero}

even_test : (n : ℕ) → n ≡ 0 → (n == 0) ≡ true
even_test n e = rw e refl

map_as_value : (c : EncodingCodes) (k : Count) (s content rest : List ℕ) (n : ℕ) (body : List ℕ) → IsTrue (is_primitive c)
    → shape_of_code c ≡ shape.Map k → content_at (category (code_of c)) s ≡ Some (content, rest) → counted_in k content ≡ Some (n, body)
    → n % 2 ≡ 0 → IsMapOf (code_of c ∷ s) rest (n / 2) body
map_as_value c k s content rest n body ok is found counted even f h ps all =
    rw (primitive-nonzero c ok, primitive-found c ok, found, is, counted, even_test (n % 2) even, all) refl

pub map_short : (s content rest : List ℕ) (n : ℕ) (body : List ℕ) → sized_at false s ≡ Some (content, rest) → number_at false content ≡ Some (n, body)
    → n % 2 ≡ 0 → IsMapOf (193 ∷ s) rest (n / 2) body
unfolding category counted_in
map_short s content rest n body found counted even = map_as_value code.Map8 OneByte s content rest n body refl refl found counted even

pub map_long : (s content rest : List ℕ) (n : ℕ) (body : List ℕ) → sized_at true s ≡ Some (content, rest) → number_at true content ≡ Some (n, body)
    → n % 2 ≡ 0 → IsMapOf (209 ∷ s) rest (n / 2) body
unfolding category counted_in
map_long s content rest n body found counted even = map_as_value code.Map32 FourBytes s content rest n body refl refl found counted even

map_counted : (c : EncodingCodes) (k : Count) (s content rest : List ℕ) (n : ℕ) (body : List ℕ) → IsTrue (is_primitive c)
    → shape_of_code c ≡ shape.Map k → content_at (category (code_of c)) s ≡ Some (content, rest) → counted_in k content ≡ Some (n, body)
    → n % 2 ≡ 0 → HasCountOf (code_of c ∷ s) (2 * (n / 2)) body
map_counted c k s content rest n body ok is found counted even e f a h =
    let both : n ≡ 2 * (n / 2) = omega (arith, even) in
    let inner : counted_in_value e f a h (code_of c ∷ s) ≡ sum_of e f n body = rw (primitive-nonzero c ok, primitive-found c ok, found, is, counted) refl in
    inner ∙ ap (λ m. sum_of e f m body) both

pub map_count_short : (s content rest : List ℕ) (n : ℕ) (body : List ℕ) → sized_at false s ≡ Some (content, rest) → number_at false content ≡ Some (n, body)
    → n % 2 ≡ 0 → HasCountOf (193 ∷ s) (2 * (n / 2)) body
unfolding category counted_in
map_count_short s content rest n body found counted even = map_counted code.Map8 OneByte s content rest n body refl refl found counted even

pub map_count_long : (s content rest : List ℕ) (n : ℕ) (body : List ℕ) → sized_at true s ≡ Some (content, rest) → number_at true content ≡ Some (n, body)
    → n % 2 ≡ 0 → HasCountOf (209 ∷ s) (2 * (n / 2)) body
unfolding category counted_in
map_count_long s content rest n body found counted even = map_counted code.Map32 FourBytes s content rest n body refl refl found counted even
