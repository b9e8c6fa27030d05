use Rattle.std.proofs.Common.{◌∷◌, [], suc}
use Rattle.amqp_ser.specs.Tree.{scalar, string}
use Rattle.amqp_decode.specs.Parsed.{parse}
use Rattle.amqp_decode.specs.WithoutBytes.{elements_without_bytes}
use Rattle.amqp_de.proofs.EncodedCounts.{pair_counts}
use Rattle.amqp_de.proofs.ScalarCounts.{scalar_none}
use Rattle.amqp_de.proofs.EncodedLemmas.{pair_collected, named_value, named_rest, named_only, absent_only, absent_value, and_both, when_none}
use Rattle.amqp_de.proofs.encoded.EncodedSource.take_named.Goals as goal

pub returns-clause-some : goal.returns-clause-some
returns-clause-some c r ps left waits =
    let es = c.args.entries.now in
    let n = c.args.name.now in
    let key = c.in_ok-code.ensures.key es.depth in (
      (scalar (string n), _) ∷ ps,
      (
        pair_collected (parse (suc es.depth)) es.left es.bytes.now _ r.now (scalar (string n)) _ ps c.in_ok-code.ensures.some key left.0 waits.0,
        pair_counts (elements_without_bytes (suc es.depth)) (parse (suc es.depth)) es.left es.bytes.now _ r.now (scalar (string n)) _ c.in_ok-code.ensures.some key left.0
            (scalar_none es.depth es.bytes.now _ (string n) key) left.1 waits.1,
      ),
      named_value n _ ps,
      named_rest n _ ps,
      named_only n _ ps,
    )

pub returns-in_err-code-clause-none : goal.returns-in_err-code-clause-none
returns-in_err-code-clause-none c =
    let n = c.args.name.now in
    when_none c.from_residual.result (λ ps held. (held, λ ns among. (absent_only n (scalar (string [])) ps ns among, λ other. absent_value n (scalar (string [])) ps ns among other)))

pub returns-clause-needs : goal.returns-clause-needs
returns-clause-needs c a b both = and_both a b both

pub returns-in_err-code-clause-needs : goal.returns-in_err-code-clause-needs
returns-in_err-code-clause-needs c a b both = and_both a b both
