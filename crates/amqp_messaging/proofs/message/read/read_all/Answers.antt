use Rattle.std.proofs.Common.{rules, ◌≡◌, [], ◌∷◌, ◌++◌, refl, sym, subst}
use Rattle.amqp_messaging.specs.Messages.{ReadsAll}
use Rattle.amqp_messaging.proofs.MessageLemmas.{add_read}
use Rattle.amqp_messaging.proofs.message.read.read_all.Goals as goal

pub loop-rest-init : goal.loop-rest-init
loop-rest-init g c =
    ([], subst (λ xs. ReadsAll c.args.limits g.T.Deserialize.reads [] xs) (sym c.new-sections.ensures.items) ReadsAll.none, refl)

pub loop-rest-preserved : goal.loop-rest-preserved
loop-rest-preserved g c =
    let p : c.push.new.self.items ≡ c.loop-rest.sections.items ++ c.in_ok-read.read ∷ [] = search rules in
    rw p (add_read c.args.limits g.T.Deserialize.reads c.args.bytes.now c.loop-rest.invariant.0 c.loop-rest.rest.now
    c.take_part.result.0.now c.take_part.result.1.now c.loop-rest.sections.items c.in_ok-read.read
    c.loop-rest.invariant.1 c.loop-rest.invariant.2 c.take_part.ensures.1 c.in_ok-read.ensures.read)
