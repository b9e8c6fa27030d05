use Rattle.amqp_data.proofs.HashPlaces.{AreOthers}
use Rattle.amqp_data.proofs.keys.sorted_hashes.find_among.Given as goal

abbrev pub invariant-loop-i : goal.invariant-loop-i
invariant-loop-i g l = AreOthers g.K.PartialEq.eq l.key l.entries l.found l.i
