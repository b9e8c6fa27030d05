use Rattle.std.proofs.Common.{◌≡◌, ℕ, ◌+◌, ◌∙◌, refl, ap, sym, subst, arith, Option, Some, None, Result, Ok, Err}
use Rattle.amqp_data.specs.declared.error.Error.{Error}
use Rattle.amqp_ser.specs.Tree.{Tree, Descriptor}
use Rattle.amqp_ser.specs.Composites.{as_described, descriptor_of}
use Rattle.amqp_ser.proofs.Meant.{descriptor_there}
use Rattle.examples.specs.Nodes.{CountsFrom}
use Rattle.amqp_ser.specs.Meant.{as_descriptor, meant}
use Rattle.examples.specs.declared.counter.NodeCounter.{NodeCounter}
use Rattle.amqp_ser.specs.declared.pending.Pending.TheVariants as pending
use Rattle.examples.proofs.counter.NodeCounterSerializer.end_descriptor.Goals as goal

-- a described value has one node more than its value
described_from : (descriptors : ℕ) (d : Descriptor) (o : Option Tree) (r : Result ℕ Error) → CountsFrom (descriptors + 1) o r → CountsFrom descriptors (as_described (Some d) o) r
described_from descriptors d None (Ok n) h = h
described_from descriptors d None (Err e) h = h
described_from descriptors d (Some t) (Ok n) h = omega arith
described_from descriptors d (Some t) (Err e) h = (h.0, let k = h.1 in omega arith)

-- a tree that has been counted at the position of a descriptor is a descriptor
counted : (o : Option Tree) (n : ℕ) → CountsFrom 0 o (Ok n) → (t : Tree) × (o ≡ Some t)
counted None n h = absurd h
counted (Some t) n h = (t, refl)

pub returns-clause-step : goal.returns-clause-step
returns-clause-step c = λ start before p h given.
    let counts = subst (λ (a : NodeCounter). CountsFrom a.descriptors (meant a.pending p) c.args.part) h.1 given.0 in
    let valid = counted (as_descriptor p) c.in_ok-part.field-0 (subst (CountsFrom 0 (meant pending.Descriptor p)) c.in_ok-part.was counts) in
    let there = descriptor_there p valid.0 valid.1 in
    let inner = c.with_descriptor-compound.result in (
      record { descriptors = start.descriptors + 1; pending = inner },
      (
        (
          record {
            own = h.0.own;
            fits = h.0.fits;
            next = ap (λ n. record { descriptors = n; pending = inner }) (c.in_ok-compound.ensures ∙ ap (λ (a : NodeCounter). a.descriptors + 1) h.0.next);
            count = let k = h.0.count in let j = c.in_ok-compound.ensures in omega arith;
            before_last = λ is. cc;
          },
          given.1,
        ),
        λ t r after k. (
          subst (λ d. CountsFrom start.descriptors (meant start.pending (as_described d t)) r) (sym there.1)
              (subst (λ (a : NodeCounter). CountsFrom start.descriptors (meant a.pending (as_described (Some there.0) t)) r) h.0.next
              (subst (λ o. CountsFrom start.descriptors o r) (c.with_descriptor-compound.ensures there.0 t) (described_from start.descriptors there.0 (meant inner t) r k.0))),
          k.1,
        ),
      ),
    )
