use Rattle.std.proofs.Common.{◌≡◌, inl, inr, subst}
use Rattle.amqp_ser.specs.Tree.{Tree}
use Rattle.amqp_value.specs.TreeOf.{tree_of}
use Rattle.amqp_decode.proofs.Whole.{one-tree}
use Rattle.amqp_de.proofs.slice.read_by_value.Goals as goal

pub returns-in-Ok-from_value-clause-law : goal.returns-in-Ok-from_value-clause-law
returns-in-Ok-from_value-clause-law g c = λ x r sp.
    c.in-Ok-from_value.ensures.law x r (one-tree 256 256 c.args.bytes.now (tree_of c.in-Ok.value) (g.T.Deserialize.image x) c.in-Ok.ensures.ok sp)

pub returns-in-Err-from_value-clause-read : goal.returns-in-Err-from_value-clause-read
returns-in-Err-from_value-clause-read g c =
    elim c.in-Err-from_value.ensures.read [
      | inl m ↦ inl m
      | inr n ↦ inr (λ x r. n x (subst (λ (v : Tree). g.T.Deserialize.reads v x) (one-tree 256 256 c.args.bytes.now r.0 (tree_of c.in-Ok.value) r.1 c.in-Ok.ensures.ok) r.2))
    ]

pub returns-in-Err-from_value-clause-law : goal.returns-in-Err-from_value-clause-law
returns-in-Err-from_value-clause-law g c = λ x r sp.
    c.in-Err-from_value.ensures.law x r (one-tree 256 256 c.args.bytes.now (tree_of c.in-Ok.value) (g.T.Deserialize.image x) c.in-Ok.ensures.ok sp)
