use Rattle.std.proofs.Common.{◌∙◌, ap}
use Rattle.std.proofs.lemmas.Result.{err_from_is_err_and}
use Rattle.serde_amqp.specs.CutLines.{cut_line}
use Rattle.serde_amqp.proofs.Stopped.{encoded-refused, put-refused}
use Rattle.serde_amqp.proofs.cut.print_next.Goals as goal

pub returns-in_err-encoded-clause-refused : goal.returns-in_err-encoded-clause-refused
returns-in_err-encoded-clause-refused g c =
    let p = err_from_is_err_and c.from_residual-in_err-encoded.result c.from_residual-in_err-encoded.ensures.1 in
    rw (p.1, p.2) (encoded-refused _ _ _ _ _ _ _ _ c.in_err-encoded.field-0.0 c.if-is_none.ensures c.in_ok-peek.ensures.ok c.in_ok-peek.ensures.kept c.in_err-encoded.ensures.exact c.in_err-encoded.ensures.refused)

pub returns-in_err-put-clause-refused : goal.returns-in_err-put-clause-refused
returns-in_err-put-clause-refused g c =
    let p = err_from_is_err_and c.from_residual-in_err-put.result c.from_residual-in_err-put.ensures.1 in
    let encoded = c.in_ok-encoded.ensures.encoded in
    let line = c.deref.ensures.value ∙ c.in_ok-line.ensures.ok ∙ ap cut_line c.as_slice.ensures.bytes in
    rw (p.1, p.2) (put-refused _ _ _ _ _ c.in_ok-encoded.encoded _ c.in_err-put.field-0.0 c.in_ok-peek.ensures.kept encoded.0 encoded.1 line c.in_err-put.ensures.prefix c.in_err-put.ensures.others)
