use Rattle.std.proofs.Common.{rules}
use Rattle.amqp_data.proofs.PairLemmas.{lookup_none, lookup_found}
use Rattle.amqp_value.specs.Accessors.{has_text}
use Rattle.amqp_value.specs.declared.value.Value.{Value}
use Rattle.amqp_value.specs.declared.value.Value.TheVariants.{Null}
use Rattle.amqp_value.proofs.accessors.containers.find_text.Goals as goal

pub returns-in-Some : goal.returns-in-Some
returns-in-Some c =
    let found = lookup_found (λ (_ k : Value). has_text c.args.key.now k) Null c.args.entries.now c.in-Some.at c.index-entries-at.result c.in-Some.ensures c.index-entries-at.is in
    search (rules, found)

pub returns-in-None : goal.returns-in-None
returns-in-None c = lookup_none (λ (_ k : Value). has_text c.args.key.now k) Null c.args.entries.now c.in-None.ensures
