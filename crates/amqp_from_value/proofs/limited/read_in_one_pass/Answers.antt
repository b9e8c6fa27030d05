use Rattle.std.proofs.Common.{rules, ◌≡◌, ◌≤◌, ◌-◌, suc, None, length, arith}
use Rattle.std.proofs.lemmas.Grind.{common_steps}
use Rattle.amqp_de.specs.Results.{ReadsAndRestores}
use Rattle.amqp_from_value.specs.Limited.{levels}
use Rattle.amqp_from_value.proofs.LimitedLemmas.{read-allowed}
use Rattle.amqp_from_value.proofs.limited.read_in_one_pass.Goals as goal

pub returns-in-Some : goal.returns-in-Some
returns-in-Some g c =
    let own = g.T.Deserialize in
    let l = c.args.limits in
    let bs = c.args.bytes.now in
    let short : length bs ≤ l.bytes = grind (arith, common_steps) in
    let d = c.min-depth.result in
    let deep : suc (d - 1) ≡ levels l = grind (arith, common_steps) in
    let any : l.entries ≡ None = search rules in
    let (t, parsed, read) = c.in-Some.ensures.read in
    read-allowed (ReadsAndRestores own.reads own.image own.restorable own.same) l bs (d - 1) t c.in-Some.read short deep any parsed c.in-Some.ensures.none read
