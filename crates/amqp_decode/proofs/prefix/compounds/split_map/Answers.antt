use Rattle.std.proofs.Common.{◌≡◌, ◌%◌, rules, arith}
use Rattle.std.proofs.lemmas.Grind.{common_steps}
use Rattle.amqp_decode.proofs.MapForms.{map_count_long, map_count_short, map_long, map_short}
use Rattle.amqp_decode.proofs.prefix.compounds.split_map.Goals as goal
use Rattle.amqp_decode.proofs.prefix.compounds.split_map.Goals.{in-193, in-209}

pub returns-clause-opened : goal.returns-clause-opened
returns-clause-opened c =
    let even : c.in_ok-count.count % 2 ≡ 0 = search rules in
    elim c.match-code.branch [
      | in-193 w ↦ rw w.in-193.is (map_short c.args.bytes.now _ _ _ _ (rw w.wide-is at c.in_ok-content.ensures) (rw w.wide-is at c.in_ok-count.ensures) even)
      | in-209 w ↦ rw w.in-209.is (map_long c.args.bytes.now _ _ _ _ (rw w.wide-is at c.in_ok-content.ensures) (rw w.wide-is at c.in_ok-count.ensures) even)
    ]

pub returns-clause-counted : goal.returns-clause-counted
returns-clause-counted c =
    let even : c.in_ok-count.count % 2 ≡ 0 = search rules in
    elim c.match-code.branch [
      | in-193 w ↦ rw w.in-193.is (map_count_short c.args.bytes.now _ _ _ _ (rw w.wide-is at c.in_ok-content.ensures) (rw w.wide-is at c.in_ok-count.ensures) even)
      | in-209 w ↦ rw w.in-209.is (map_count_long c.args.bytes.now _ _ _ _ (rw w.wide-is at c.in_ok-content.ensures) (rw w.wide-is at c.in_ok-count.ensures) even)
    ]
