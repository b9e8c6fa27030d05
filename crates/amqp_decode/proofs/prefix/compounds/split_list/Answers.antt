use Rattle.amqp_decode.proofs.ListForms.{count_long, count_none, count_short, list_long, list_none, list_short}
use Rattle.amqp_decode.proofs.prefix.compounds.split_list.Goals as goal

pub returns-in-69-clause-opened : goal.returns-in-69-clause-opened
returns-in-69-clause-opened c = rw c.in-69.is (list_none c.args.bytes.now)

pub returns-in_ok-count-in-192-clause-opened : goal.returns-in_ok-count-in-192-clause-opened
returns-in_ok-count-in-192-clause-opened c = rw c.in-192.is (list_short c.args.bytes.now _ _ _ _ c.in_ok-content-in-192.ensures c.in_ok-count-in-192.ensures)

pub returns-in_ok-count-in-208-clause-opened : goal.returns-in_ok-count-in-208-clause-opened
returns-in_ok-count-in-208-clause-opened c = rw c.in-208.is (list_long c.args.bytes.now _ _ _ _ c.in_ok-content-in-208.ensures c.in_ok-count-in-208.ensures)

pub returns-in-69-clause-counted : goal.returns-in-69-clause-counted
returns-in-69-clause-counted c = rw c.in-69.is (count_none c.args.bytes.now)

pub returns-in_ok-count-in-192-clause-counted : goal.returns-in_ok-count-in-192-clause-counted
returns-in_ok-count-in-192-clause-counted c = rw c.in-192.is (count_short c.args.bytes.now _ _ _ _ c.in_ok-content-in-192.ensures c.in_ok-count-in-192.ensures)

pub returns-in_ok-count-in-208-clause-counted : goal.returns-in_ok-count-in-208-clause-counted
returns-in_ok-count-in-208-clause-counted c = rw c.in-208.is (count_long c.args.bytes.now _ _ _ _ c.in_ok-content-in-208.ensures c.in_ok-count-in-208.ensures)
