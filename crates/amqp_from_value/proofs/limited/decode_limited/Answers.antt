use Rattle.std.proofs.Common.{◌≤◌, IfSome, subst}
use Rattle.amqp_decode.proofs.Whole.{one-tree}
use Rattle.amqp_value.specs.TreeOf.{tree_of}
use Rattle.amqp_from_value.specs.Entries.{entry_count}
use Rattle.amqp_from_value.specs.Limited.{levels}
use Rattle.amqp_from_value.proofs.limited.decode_limited.Goals as goal

pub returns-in-Ok-2-clause-err : goal.returns-in-Ok-2-clause-err
returns-in-Ok-2-clause-err c = λ _ t a.
    c.if-has_entries_within.ensures.many (subst (λ u. IfSome c.args.limits.entries (λ n. entry_count u ≤ n))
    (one-tree (levels c.args.limits) _ c.args.bytes.now t (tree_of c.in-Ok.value) a.2 c.in-Ok.ensures.ok) a.3)
