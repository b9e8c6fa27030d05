use Rattle.std.proofs.Common.{◌≡◌, refl, sym, subst, Bool, Option, Some, None, Result, Ok, Err}
use Rattle.amqp_ser.specs.Tree.{Tree, Descriptor}
use Rattle.amqp_ser.specs.Composites.{as_described, descriptor_of}
use Rattle.amqp_ser.proofs.Meant.{descriptor_there}
use Rattle.amqp_wire.specs.EmptyArrays.{Finds}
use Rattle.amqp_ser.specs.Meant.{as_descriptor, meant}
use Rattle.amqp_wire.specs.declared.finder.Finder.{Finder}
use Rattle.amqp_wire.specs.declared.finder.NoTree.{NoTree}
use Rattle.amqp_ser.specs.declared.pending.Pending.TheVariants as pending
use Rattle.amqp_wire.proofs.finder.FinderSerializer.end_descriptor.Goals as goal

-- A described value has what its value has.
described_from : (d : Descriptor) (o : Option Tree) (r : Result Bool NoTree) → Finds o r → Finds (as_described (Some d) o) r
described_from d None (Ok b) h = h
described_from d None (Err e) h = h
described_from d (Some t) (Ok b) h = h
described_from d (Some t) (Err e) h = h

tree_of_found : (o : Option Tree) (b : Bool) → Finds {E = NoTree} o (Ok b) → (t : Tree) × (o ≡ Some t)
tree_of_found None b h = absurd h
tree_of_found (Some t) b h = (t, refl)

pub returns-in-Ok-clause-step : goal.returns-in-Ok-clause-step
returns-in-Ok-clause-step c = λ start before p h given.
    let finds = subst (λ (f : Finder). Finds {E = NoTree} (meant f.pending p) c.args.part) h.1 given.0 in
    let valid = tree_of_found (as_descriptor p) c.in-Ok.field-0 (subst (Finds {E = NoTree} (meant pending.Descriptor p)) c.in-Ok.is finds) in
    let there = descriptor_there p valid.0 valid.1 in
    let inner = c.with_descriptor-compound.result in (
      record { pending = inner },
      (
        (
          record {
            fits = h.0.fits;
            next = refl;
            empty = h.0.empty;
            found = h.0.found;
            before_last = λ is. cc;
          },
          given.1,
        ),
        λ t r after k. (
          subst (λ d. Finds {E = NoTree} (meant start.pending (as_described d t)) r) (sym there.1)
              (subst (λ (f : Finder). Finds {E = NoTree} (meant f.pending (as_described (Some there.0) t)) r) h.0.next
              (subst (λ o. Finds {E = NoTree} o r) (c.with_descriptor-compound.ensures there.0 t) (described_from there.0 (meant inner t) r k.0))),
          k.1,
        ),
      ),
    )
