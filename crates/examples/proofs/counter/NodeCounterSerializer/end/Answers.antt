use Rattle.std.proofs.Common.{inl, refl, sym, ◌∙◌}
use Rattle.examples.proofs.Counts.{ended}
use Rattle.examples.proofs.Meanings.{barred}
use Rattle.examples.proofs.counter.NodeCounterSerializer.end.Goals as goal

pub returns-then-compound : goal.returns-then-compound
returns-then-compound c = λ start kind ps h done. (ended start kind c.args.compound ps c.add.result h.0 done c.if-compound.true c.add.ensures, h.1)

pub returns-else-compound : goal.returns-else-compound
returns-else-compound c = λ start kind ps h done. (barred start.pending kind start.descriptors ps _ (sym h.0.fits ∙ c.if-compound.false) (inl refl), h.1)
