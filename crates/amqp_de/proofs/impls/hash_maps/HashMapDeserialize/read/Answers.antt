use Rattle.std.proofs.Common.{◌≡◌, false, inl, inr}
use Rattle.std.specs.HashMap as hashed
use Rattle.amqp_de.proofs.Inserted.{each_before}
use Rattle.amqp_de.proofs.MapReadings.{of_pairs, to_pairs}
use Rattle.amqp_de.proofs.impls.hash_maps.HashMapDeserialize.read.Goals as goal

pub returns-in-Err-clause-read : goal.returns-in-Err-clause-read
returns-in-Err-clause-read g c w =
    elim (c.in-Err.ensures.err w) [
      | inl m ↦ inl m
      | inr none ↦ inr (λ m h. let (xs, on) = of_pairs g.K.Deserialize.reads g.V.Deserialize.reads (hashed.IsFromIterResult g.K.PartialEq.eq) m _ h in none xs on)
    ]

pub returns-in-Err-clause-law : goal.returns-in-Err-clause-law
returns-in-Err-clause-law g c x some e w = c.in-Err.ensures.law x.entries some.0 e w

pub returns-in-Err-insert_all-clause-read : goal.returns-in-Err-insert_all-clause-read
returns-in-Err-insert_all-clause-read g c w = inl c.in-Err-insert_all.ensures.err

pub returns-in-Err-insert_all-clause-law : goal.returns-in-Err-insert_all-clause-law
returns-in-Err-insert_all-clause-law g c x some e w = c.in-Err-insert_all.ensures.err

pub returns-in-Ok-insert_all-clause-read : goal.returns-in-Ok-insert_all-clause-read
returns-in-Ok-insert_all-clause-read g c = (to_pairs g.K.Deserialize.reads g.V.Deserialize.reads (hashed.IsFromIterResult g.K.PartialEq.eq) c.in-Ok-insert_all.map _ c.in-Ok.read.0.items c.in-Ok.ensures.ok.1 c.in-Ok-insert_all.ensures.ok.0, c.in-Ok.ensures.ok.0)

pub returns-in-Ok-insert_all-clause-law : goal.returns-in-Ok-insert_all-clause-law
returns-in-Ok-insert_all-clause-law g c x some e =
    let items = c.in-Ok.read.0.items in
    let same = c.in-Ok.ensures.law x.entries some.0 e in
    (items, c.in-Ok-insert_all.ensures.ok.1 (each_before g.K.Deserialize.same g.V.Deserialize.same (λ k l. g.K.PartialEq.eq l k ≡ false) items x.entries same some.1), same)
