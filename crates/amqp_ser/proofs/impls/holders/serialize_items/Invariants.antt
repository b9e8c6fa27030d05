use Rattle.std.proofs.Common.{◌≡◌, map, take}
use Rattle.amqp_ser.specs.declared.kind.CompoundKind.TheVariants.{List}
use Rattle.amqp_ser.proofs.impls.holders.serialize_items.Given as goal

-- The list has accepted the trees of the items before this one.
abbrev pub invariant-loop-item : goal.invariant-loop-item
invariant-loop-item g l =
    record {
      same : l.seq.serializer.ghost_name ≡ l.initial.seq.serializer.ghost_name;
      accepted : g.S.Serializer.has l.fn.serializer List l.seq.serializer.now l.seq.compound (map g.T.Serialize.tree (take l.item-index l.items));
    }
