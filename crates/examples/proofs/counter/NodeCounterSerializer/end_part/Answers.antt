use Rattle.std.proofs.Common.{◌≡◌, Err, refl, rules, subst}
use Rattle.amqp_data.specs.declared.error.Error.TheVariants.{TooLong}
use Rattle.examples.specs.Nodes.{CountsFrom}
use Rattle.amqp_ser.specs.Meant.{meant}
use Rattle.examples.specs.declared.counter.NodeCounter.{NodeCounter}
use Rattle.examples.proofs.Counts.{taken, refused, too_many}
use Rattle.examples.proofs.counter.NodeCounterSerializer.end_part.Goals as goal

pub returns-in_err-nodes-clause-step : goal.returns-in_err-nodes-clause-step
returns-in_err-nodes-clause-step c = λ start kind before ps p h given.
    let counts = subst (λ (f : NodeCounter). CountsFrom f.descriptors (meant f.pending p) c.args.part) h.1 given.0 in
    let same : c.from_residual.result ≡ Err c.in_err-nodes.field-0.0 = search rules in
    rw same ((h.0, given.1), λ rest. (refused start kind c.args.compound.now ps p _ h.0 (subst (CountsFrom c.args.compound.now.next.descriptors (meant c.args.compound.now.next.pending p)) c.in_err-nodes.was counts) rest, given.1))

pub returns-in_err-count-clause-step : goal.returns-in_err-count-clause-step
returns-in_err-count-clause-step c = λ start kind before ps p h given.
    let counts = subst (λ (f : NodeCounter). CountsFrom f.descriptors (meant f.pending p) c.args.part) h.1 given.0 in
    let same : c.from_residual-in_err-count.result ≡ Err TooLong = search rules in
    rw same ((h.0, given.1), λ rest. (too_many start c.in_ok-nodes.nodes kind c.args.compound.now ps p h.0 (subst (CountsFrom c.args.compound.now.next.descriptors (meant c.args.compound.now.next.pending p)) c.in_ok-nodes.was counts) c.in_err-count.ensures.1 rest, given.1))

pub returns-clause-step : goal.returns-clause-step
returns-clause-step c = λ start kind before ps p h given.
    let counts = subst (λ (f : NodeCounter). CountsFrom f.descriptors (meant f.pending p) c.args.part) h.1 given.0 in
    (taken start c.in_ok-nodes.nodes kind c.args.compound.now _ ps p h.0 (subst (CountsFrom c.args.compound.now.next.descriptors (meant c.args.compound.now.next.pending p)) c.in_ok-nodes.was counts) refl refl c.new-compound.ensures c.in_ok-count.ensures refl, given.1)
