use Rattle.std.proofs.Common.{inl, inr}
use Rattle.amqp_ser.specs.Tree.{trees_of}
use Rattle.amqp_de.proofs.AnyForms.{array_form, to_array_fields, of_array_fields}
use Rattle.amqp_de.proofs.any_of.read_array_fields.Goals as goal

pub returns-in-Err-clause-err : goal.returns-in-Err-clause-err
returns-in-Err-clause-err g c w form =
    let (ts, is) = array_form (g.S.Source.value c.args.source) form in
    elim (c.in-Err.ensures.err w) [ inl m ↦ inl m | inr n ↦ absurd (n ts is) ]

pub returns-in-Ok-read_elements-clause-read : goal.returns-in-Ok-read_elements-clause-read
returns-in-Ok-read_elements-clause-read g c =
    let (ts, h, reads, law) = c.in-Ok-read_elements.ensures.ok in
    let (is, left) = c.in-Ok.ensures.ok ts h in
    (to_array_fields _ _ ts is reads, left)

pub returns-in-Ok-read_elements-clause-array : goal.returns-in-Ok-read_elements-clause-array
returns-in-Ok-read_elements-clause-array g c =
    let (ts, h, reads, law) = c.in-Ok-read_elements.ensures.ok in
    let (is, left) = c.in-Ok.ensures.ok ts h in
    (trees_of ts, is)

pub returns-clause-err : goal.returns-clause-err
returns-clause-err g c w form =
    let (are, is) = c.in-Ok.ensures.whole w in
    elim (c.in-Err-read_elements.ensures.err are) [
      | inl m ↦ inl m
      | inr n ↦ inr (λ x h. n x (of_array_fields _ _ _ is h))
    ]
