use Rattle.amqp_de.proofs.impls.maps.insert_all.Given as goal

abbrev pub invariant-loop-key : goal.invariant-loop-key
invariant-loop-key g l = g.M.Inserts.holds l.yielded l.map
