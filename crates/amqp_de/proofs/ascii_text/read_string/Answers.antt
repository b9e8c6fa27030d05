use Rattle.std.proofs.Common.{inl, inr, sym, ap, ◌∙◌}
use Rattle.amqp_ser.specs.Tree.{scalar, string}
use Rattle.amqp_de.proofs.Texts.{ascii_string, short_ascii_is}
use Rattle.amqp_de.proofs.ascii_text.read_string.Goals as goal

pub returns-in-Err-clause-err : goal.returns-in-Err-clause-err
returns-in-Err-clause-err g c w =
    elim (c.in-Err.ensures w) [
      | inl m ↦ inl m
      | inr n ↦ inr (λ bs p. let (y, same) = ascii_string c.args.alloc _ (short_ascii_is bs) in n y (p ∙ ap (λ z. scalar (string z)) (sym same)))
    ]
