use Rattle.std.proofs.Common.{refl}
use Rattle.amqp_wire.proofs.Ending.{variant_closed}
use Rattle.amqp_wire.proofs.pass.Pass.close_variant.Goals as goal

pub returns-clause-put : goal.returns-clause-put
returns-clause-put g c =
    λ start mid index body v w p. variant_closed g.K.Sink.adds g.K.Sink.reads g.K.Sink.within g.K.Sink.goes_on start mid c.args.self.now.sink c.close.new.self c.close-2.new.self c.args.outer c.args.opened c.args.element c.args.element (g.K.Sink.keeps c.close.new.self c.close-2.new.self c.close-2.ensures.grown) refl index body c.args.count v w (λ a bs h. c.close.ensures.put a bs h c.if-not-close.false) (λ a bs h. c.close-2.ensures.put a bs h p)

pub returns-clause-grown : goal.returns-clause-grown
returns-clause-grown g c =
    g.K.Sink.extends_on c.args.self.now.sink c.close.new.self c.close-2.new.self c.close.ensures.grown c.close-2.ensures.grown
