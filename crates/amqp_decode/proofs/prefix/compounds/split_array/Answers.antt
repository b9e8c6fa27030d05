use Rattle.std.proofs.Common.{◌≡◌, ◌/◌, ◌==◌, false, rules}
use Rattle.amqp_decode.proofs.ArrayForms.{array_count_long, array_count_short, array_long, array_short}
use Rattle.amqp_decode.proofs.prefix.compounds.split_array.Goals as goal
use Rattle.amqp_decode.proofs.prefix.compounds.split_array.Goals.{in-224, in-240}

pub returns-clause-opened : goal.returns-clause-opened
returns-clause-opened c = elim c.match-code.branch [
  | in-224 w ↦ rw w.in-224.is (array_short c.args.bytes.now _ _ _ _ _ _ (rw w.wide-is at c.in_ok-content.ensures) (rw w.wide-is at c.in_ok-count.ensures)
      c.in_ok-constructor.ensures c.if-count-eq0.false c.if-constructor-eq0.false)
  | in-240 w ↦ rw w.in-240.is (array_long c.args.bytes.now _ _ _ _ _ _ (rw w.wide-is at c.in_ok-content.ensures) (rw w.wide-is at c.in_ok-count.ensures)
      c.in_ok-constructor.ensures c.if-count-eq0.false c.if-constructor-eq0.false)
]

pub returns-clause-counted : goal.returns-clause-counted
returns-clause-counted c =
    let bytes : (c.in_ok-constructor.constructor / 16 == 4) ≡ false = search rules in
    elim c.match-code.branch [
      | in-224 w ↦ rw w.in-224.is (array_count_short c.args.bytes.now _ _ _ _ _ _ (rw w.wide-is at c.in_ok-content.ensures) (rw w.wide-is at c.in_ok-count.ensures)
          c.in_ok-constructor.ensures c.if-count-eq0.false c.if-constructor-eq0.false bytes)
      | in-240 w ↦ rw w.in-240.is (array_count_long c.args.bytes.now _ _ _ _ _ _ (rw w.wide-is at c.in_ok-content.ensures) (rw w.wide-is at c.in_ok-count.ensures)
          c.in_ok-constructor.ensures c.if-count-eq0.false c.if-constructor-eq0.false bytes)
    ]
