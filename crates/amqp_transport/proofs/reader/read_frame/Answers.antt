use Rattle.std.proofs.Common.{◌≡◌, ◌∙◌, ◌+◌, ◌-◌, ap, take, arith}
use Rattle.amqp_transport.proofs.FrameLemmas.{whole_frame}
use Rattle.amqp_transport.proofs.reader.read_frame.Goals as goal

pub returns-in-Ok-clause-whole : goal.returns-in-Ok-clause-whole
returns-in-Ok-clause-whole g c =
    let header = c.from_bytes-header.result in
    let front : c.in-Some.head.now ≡ take 8 c.take_piece.new.frame.items = c.in-Some.ensures.cases.same ∙ ap (take 8) c.as_slice.ensures.value in
    let sum : header.size ≡ 8 + (header.size - 8) = omega (arith, c.in_ok-check.ensures.size, c.in_ok-check.ensures.offset) in
    whole_frame _ _ _ _ _ _ _ _ _ _ _ _ _ c.new-frame.ensures.items c.in_default.ensures front c.from_bytes-header.ensures
    c.in-Ok.ensures sum c.in_ok-check.ensures.limit
