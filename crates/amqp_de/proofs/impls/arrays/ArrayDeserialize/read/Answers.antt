use Rattle.std.proofs.Common.{rules, ◌≡◌, inl, inr, map, take}
use Rattle.amqp_de.specs.Reads.{ReadsFirst}
use Rattle.amqp_de.proofs.Firsts.{all_firsts}
use Rattle.amqp_de.proofs.Lists.{is_list, to_list, of_list, one_list}
use Rattle.amqp_de.proofs.Loops.{zip_reads, zip_same}
use Rattle.amqp_de.proofs.impls.arrays.ArrayDeserialize.read.Goals as goal

pub returns-in-Err-clause-read : goal.returns-in-Err-clause-read
returns-in-Err-clause-read g c w =
    elim (c.in-Err.ensures.err w) [
      | inl m ↦ inl m
      | inr n ↦ inr (λ x h. let is = is_list _ _ h in n is.0 is.1)
    ]

pub returns-in-Err-clause-law : goal.returns-in-Err-clause-law
returns-in-Err-clause-law g c x some e w = elim (c.in-Err.ensures.err w) [ inl m ↦ m | inr n ↦ absurd (n _ e) ]

pub returns-in-Err-read_first-clause-read : goal.returns-in-Err-read_first-clause-read
returns-in-Err-read_first-clause-read g c w =
    let (are, is) = c.in-Ok.ensures.whole w in
    elim (c.in-Err-read_first.ensures.err are) [
      | inl m ↦ inl m
      | inr n ↦ inr (λ x h. n x (of_list (λ us. ReadsFirst g.T.Deserialize.reads g.row.N us x) _ _ is h))
    ]

pub returns-in-Err-read_first-clause-law : goal.returns-in-Err-read_first-clause-law
returns-in-Err-read_first-clause-law g c x some e w =
    let (are, is) = c.in-Ok.ensures.whole w in
    c.in-Err-read_first.ensures.law x some.1 some.0 (one_list _ _ (map g.T.Deserialize.image x) is e) are

pub returns-in-Ok-try_from-clause-read : goal.returns-in-Ok-try_from-clause-read
returns-in-Ok-try_from-clause-read g c =
    let T = g.T.Deserialize in
    let (ts, h, long, zip) = c.in-Ok-read_first.ensures.ok in
    let (is, left) = c.in-Ok.ensures.ok ts h in
    let same : c.in-Ok-try_from.array ≡ c.in-Ok-read_first.values.items = search rules in
    rw same (to_list (λ us. ReadsFirst T.reads g.row.N us c.in-Ok-read_first.values.items) _ ts is (long, zip_reads T.reads T.image T.restorable T.same (take g.row.N ts) _ zip), left)

pub returns-in-Ok-try_from-clause-law : goal.returns-in-Ok-try_from-clause-law
returns-in-Ok-try_from-clause-law g c x some e =
    let T = g.T.Deserialize in
    let (ts, h, long, zip) = c.in-Ok-read_first.ensures.ok in
    let (is, left) = c.in-Ok.ensures.ok ts h in
    let same : c.in-Ok-try_from.array ≡ c.in-Ok-read_first.values.items = search rules in
    let images = all_firsts g.row.N T.image ts x some.0 (one_list _ ts (map T.image x) is e) in
    rw same (zip_same T.reads T.image T.restorable T.same (take g.row.N ts) _ x zip some.1 images)
