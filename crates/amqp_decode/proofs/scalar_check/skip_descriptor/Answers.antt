use Rattle.std.proofs.Common.{rules, ◌≡◌, ◌∷◌, ap, length, arith}
use Rattle.amqp_data.specs.FormatCode.{code_of}
use Rattle.amqp_frame.specs.Code.{category}
use Rattle.amqp_decode.proofs.SkipLemmas.{content-shorter}
use Rattle.amqp_decode.proofs.SkipScalars.{found-there, other-there}
use Rattle.amqp_decode.proofs.scalar_check.skip_descriptor.Goals as goal

pub returns-then-not-names_descriptor-clause-err : goal.returns-then-not-names_descriptor-clause-err
returns-then-not-names_descriptor-clause-err c =
    let bytes : c.args.bytes.now ≡ c.in-Some.byte.now ∷ c.in-Some.payload.now = search rules in
    rw bytes (other-there c.in-Some.byte.now c.in-Some.payload.now c.in-Ok.code c.in-Ok-read_payload.content.now c.in-Ok-read_payload.rest.now
    c.in-Ok.ensures.ok c.in-Ok-read_payload.ensures.ok (search rules))

pub overflow_add-rest : goal.overflow_add-rest
overflow_add-rest c =
    let bytes : c.args.bytes.now ≡ c.in-Some.byte.now ∷ c.in-Some.payload.now = search rules in
    let short = content-shorter (category (code_of c.in-Ok.code)) c.in-Some.payload.now c.in-Ok-read_payload.content.now c.in-Ok-read_payload.rest.now c.in-Ok-read_payload.ensures.ok in
    omega (arith, short, ap length bytes, c.requires.fits)

pub check_scalar-requires : goal.check_scalar-requires
check_scalar-requires c =
    let bytes : c.args.bytes.now ≡ c.in-Some.byte.now ∷ c.in-Some.payload.now = search rules in
    let short = content-shorter (category (code_of c.in-Ok.code)) c.in-Some.payload.now c.in-Ok-read_payload.content.now c.in-Ok-read_payload.rest.now c.in-Ok-read_payload.ensures.ok in
    record { fits = omega (arith, short, ap length bytes, c.requires.fits) }

pub returns-clause-ok : goal.returns-clause-ok
returns-clause-ok c =
    let bytes : c.args.bytes.now ≡ c.in-Some.byte.now ∷ c.in-Some.payload.now = search rules in
    let found = c.in_ok-check_scalar.ensures.ok in
    rw bytes (found-there c.in-Some.byte.now c.in-Some.payload.now c.in-Ok.code c.in-Ok-read_payload.content.now c.in-Ok-read_payload.rest.now
    c.in-Ok.ensures.ok c.in-Ok-read_payload.ensures.ok (search rules) found.0 found.1)

pub returns-clause-shorter : goal.returns-clause-shorter
returns-clause-shorter c =
    let bytes : c.args.bytes.now ≡ c.in-Some.byte.now ∷ c.in-Some.payload.now = search rules in
    let short = content-shorter (category (code_of c.in-Ok.code)) c.in-Some.payload.now c.in-Ok-read_payload.content.now c.in-Ok-read_payload.rest.now c.in-Ok-read_payload.ensures.ok in
    omega (arith, short, ap length bytes)
