use Rattle.std.proofs.Common.{◌≡◌, take, drop, inl, inr, sym, arith}
use Rattle.amqp_frame.specs.Code.{size_width, body_len}
use Rattle.amqp_frame.proofs.FirstEncodedValue.{body_len-take}
use Rattle.amqp_frame.proofs.Primitive.{prefix-refused, prefix-short, prefix-encoded, rest-is}
use Rattle.amqp_frame.proofs.encoded_value.primitive_len.Goals as goal

pub returns-then-not-is_primitive-clause-none : goal.returns-then-not-is_primitive-clause-none
returns-then-not-is_primitive-clause-none c = inl
    (prefix-refused c.args.bytes.now c.requires.some c.requires.code (sym c.if-not-is_primitive.ensures))

pub returns-then-payload-width-clause-none : goal.returns-then-payload-width-clause-none
returns-then-payload-width-clause-none c =
    let same = rest-is c.args.bytes.now 1 in
    inr (prefix-short c.args.bytes.now c.requires.some (sym c.if-not-is_primitive.ensures) (grind arith))

pub returns-then-payload-len-clause-none : goal.returns-then-payload-len-clause-none
returns-then-payload-len-clause-none c =
    let bs = c.args.bytes.now in
    let same = rest-is bs 1 in
    let k = c.category_of-category.result in
    let read : body_len k (take (size_width k) (drop 1 bs)) ≡ body_len k (drop 1 bs)
    = body_len-take k (size_width k) (drop 1 bs) (omega arith) in
    inr (prefix-short bs c.requires.some (sym c.if-not-is_primitive.ensures) (grind arith))

pub returns-clause-found : goal.returns-clause-found
returns-clause-found c =
    let bs = c.args.bytes.now in
    let same = rest-is bs 1 in
    let k = c.category_of-category.result in
    let read : body_len k (take (size_width k) (drop 1 bs)) ≡ body_len k (drop 1 bs)
    = body_len-take k (size_width k) (drop 1 bs) (omega arith) in
    prefix-encoded bs _ c.requires.some (sym c.if-not-is_primitive.ensures) (grind arith) (grind arith)
