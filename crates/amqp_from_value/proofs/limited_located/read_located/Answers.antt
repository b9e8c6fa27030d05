use Rattle.std.proofs.Common.{inl, inr, ap, ◌∙◌, subst}
use Rattle.amqp_value.specs.TreeOf.{tree_of}
use Rattle.amqp_de.specs.FromBytes.{error_of}
use Rattle.amqp_from_value.proofs.LimitedLemmas.{allowed-tree}
use Rattle.amqp_from_value.proofs.limited_located.read_located.Goals as goal

pub returns-in-Some-clause-read : goal.returns-in-Some-clause-read
returns-in-Some-clause-read g c =
    let (t, allowed, read) = c.in-Some.ensures in
    (t, allowed, read.0)

pub returns-in-Err-from_value_located-clause-read : goal.returns-in-Err-from_value_located-clause-read
returns-in-Err-from_value_located-clause-read g c =
    elim c.in-Err-from_value_located.ensures.read [
      | inl m ↦ inl (ap error_of (c.in_bytes.ensures.kind ∙ m))
      | inr n ↦ inr (λ x r. n x (subst (λ t. g.T.Deserialize.reads t x)
          (allowed-tree c.args.limits c.args.bytes.now r.0 (tree_of c.in-Ok.value) r.1 c.in-Ok.ensures.ok) r.2))
    ]
