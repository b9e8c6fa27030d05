use Rattle.std.proofs.Common.{inl, inr, sym, subst}
use Rattle.amqp_de.specs.Present.{short_map, present_fields}
use Rattle.amqp_de.proofs.Lists.{is_entries, to_entries, of_entries, one_map}
use Rattle.amqp_de.proofs.seed.MapOfSeed.read.Goals as goal

pub returns-in-Err-clause-read : goal.returns-in-Err-clause-read
returns-in-Err-clause-read g c w =
    elim (c.in-Err.ensures.err w) [
      | inl m ↦ inl m
      | inr n ↦ inr (λ x h. let is = is_entries _ _ h in n is.0 is.1)
    ]

pub returns-in-Ok-read_entries-clause-read : goal.returns-in-Ok-read_entries-clause-read
returns-in-Ok-read_entries-clause-read g c =
    let (ps, h, among, reads, law) = c.in-Ok-read_entries.ensures.ok in
    let (is, left) = c.in-Ok.ensures.ok ps h (c.map.ensures.named _ ps among c.requires) in
    (to_entries _ _ ps is (reads (subst g.S.Source.needs (sym c.requires) c.map.ensures.enough)), left)

pub returns-in-Ok-read_entries-clause-law : goal.returns-in-Ok-read_entries-clause-law
unfolding short_map
returns-in-Ok-read_entries-clause-law g c x some e =
    let (ps, h, among, reads, law) = c.in-Ok-read_entries.ensures.ok in
    let (is, left) = c.in-Ok.ensures.ok ps h (c.map.ensures.named _ ps among c.requires) in
    law x some c.requires (one_map _ ps (present_fields (g.F.FieldSeeds.names c.args.self.0) (g.F.FieldSeeds.images x)) is e)

pub returns-in-Ok-read_entries-clause-short : goal.returns-in-Ok-read_entries-clause-short
unfolding short_map
returns-in-Ok-read_entries-clause-short g c x some e = returns-in-Ok-read_entries-clause-law g c x some e

pub returns-clause-read : goal.returns-clause-read
returns-clause-read g c w =
    let (are, is) = c.in-Ok.ensures.whole w in
    elim (c.in-Err-read_entries.ensures.err are) [
      | inl m ↦ inl m
      | inr n ↦ inr (λ x h. n x (of_entries _ _ _ is h))
    ]

pub returns-clause-law : goal.returns-clause-law
unfolding short_map
returns-clause-law g c x some e w =
    let (are, is) = c.in-Ok.ensures.whole w in
    c.in-Err-read_entries.ensures.law x some c.requires (one_map _ _ (present_fields (g.F.FieldSeeds.names c.args.self.0) (g.F.FieldSeeds.images x)) is e) are

pub returns-clause-short : goal.returns-clause-short
unfolding short_map
returns-clause-short g c x some e w = returns-clause-law g c x some e w

pub returns-in-Err-clause-law : goal.returns-in-Err-clause-law
unfolding short_map
returns-in-Err-clause-law g c x some e w = elim (c.in-Err.ensures.err w) [ inl m ↦ m | inr n ↦ absurd (n _ e) ]

pub returns-in-Err-clause-short : goal.returns-in-Err-clause-short
unfolding short_map
returns-in-Err-clause-short g c x some e w = returns-in-Err-clause-law g c x some e w
