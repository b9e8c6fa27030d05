use Rattle.std.proofs.Common.{inl, inr}
use Rattle.amqp_data.specs.Pairs.{entries_of}
use Rattle.amqp_de.specs.Maps.{HoldsInOrder}
use Rattle.amqp_de.proofs.Inserted.{restored_in_order}
use Rattle.amqp_de.proofs.MapReadings.{of_pairs, to_pairs}
use Rattle.amqp_de.proofs.impls.maps.OrderedMapDeserialize.read.Goals as goal

pub returns-in-Err-clause-read : goal.returns-in-Err-clause-read
returns-in-Err-clause-read g c w =
    elim (c.in-Err.ensures.err w) [
      | inl m ↦ inl m
      | inr none ↦ inr (λ m h. let (xs, on) = of_pairs g.K.Deserialize.reads g.V.Deserialize.reads (HoldsInOrder g.K.PartialEq.eq) m _ h in none xs on)
    ]

pub returns-in-Err-clause-law : goal.returns-in-Err-clause-law
returns-in-Err-clause-law g c x some e w = c.in-Err.ensures.law (entries_of x) some.0 e w

pub returns-in-Ok-once_each-clause-read : goal.returns-in-Ok-once_each-clause-read
returns-in-Ok-once_each-clause-read g c = (to_pairs g.K.Deserialize.reads g.V.Deserialize.reads (HoldsInOrder g.K.PartialEq.eq) c.in-Ok-once_each.map _ c.in-Ok.read.0.items c.in-Ok.ensures.ok.1 c.in-Ok-once_each.ensures, c.in-Ok.ensures.ok.0)

pub returns-in-Ok-once_each-clause-law : goal.returns-in-Ok-once_each-clause-law
returns-in-Ok-once_each-clause-law g c x some e =
    let same = c.in-Ok.ensures.law (entries_of x) some.0 e in
    restored_in_order g.K.Deserialize.same g.V.Deserialize.same g.K.PartialEq.eq _ c.in-Ok.read.0.items (entries_of x) same some.1 c.in-Ok-once_each.ensures
