use Rattle.std.proofs.Common.{◌≡◌, false}
use Rattle.amqp_ser.proofs.Entries.{AcceptedUpTo}
use Rattle.amqp_data.specs.Pairs.{entries_of, entries_left}
use Rattle.amqp_ser.specs.declared.kind.CompoundKind.TheVariants.{Map}
use Rattle.amqp_ser.proofs.impls.maps.OrderedMapSerialize.serialize.Given as goal

-- The map has accepted the entries before the remaining ones.
abbrev pub invariant-loop-key : goal.invariant-loop-key
invariant-loop-key g l =
    record {
      same : l.map.serializer.ghost_name ≡ l.initial.map.serializer.ghost_name;
      no_key : l.map.pending ≡ false;
      accepted : AcceptedUpTo (g.S.Serializer.has l.fn.serializer Map l.map.serializer.now l.map.compound) g.K.Serialize.tree g.V.Serialize.tree (entries_left l.key-iterator) (entries_of l.self);
    }
