use Rattle.std.proofs.Common.{inl, inr, map}
use Rattle.std.specs.List.{AllZip}
use Rattle.amqp_de.proofs.Lists.{is_list, of_list, one_list, list_reads}
use Rattle.amqp_de.proofs.Loops.{zip_same}
use Rattle.amqp_de.proofs.impls.lists.VecDeserialize.read.Goals as goal

pub returns-in-Err-clause-read : goal.returns-in-Err-clause-read
returns-in-Err-clause-read g c w =
    elim (c.in-Err.ensures.err w) [
      | inl m ↦ inl m
      | inr n ↦ inr (λ x h. let is = is_list _ _ h in n is.0 is.1)
    ]

pub returns-in-Ok-read_all-clause-read : goal.returns-in-Ok-read_all-clause-read
returns-in-Ok-read_all-clause-read g c =
    let T = g.T.Deserialize in
    let (ts, h, zip) = c.in-Ok-read_all.ensures.ok in
    let (is, left) = c.in-Ok.ensures.ok ts h in
    (list_reads T.reads T.image T.restorable T.same _ ts _ is zip, left)

pub returns-in-Ok-read_all-clause-law : goal.returns-in-Ok-read_all-clause-law
returns-in-Ok-read_all-clause-law g c x some e =
    let T = g.T.Deserialize in
    let (ts, h, zip) = c.in-Ok-read_all.ensures.ok in
    let (is, left) = c.in-Ok.ensures.ok ts h in
    zip_same T.reads T.image T.restorable T.same ts _ x.items zip some (one_list _ ts (map T.image x.items) is e)

pub returns-in-Err-read_all-clause-read : goal.returns-in-Err-read_all-clause-read
returns-in-Err-read_all-clause-read g c w =
    let T = g.T.Deserialize in
    let (are, is) = c.in-Ok.ensures.whole w in
    elim (c.in-Err-read_all.ensures.err are) [
      | inl m ↦ inl m
      | inr n ↦ inr (λ x h. n x.items (of_list (λ us. AllZip T.reads us x.items) _ _ is h))
    ]

pub returns-in-Err-read_all-clause-law : goal.returns-in-Err-read_all-clause-law
returns-in-Err-read_all-clause-law g c x some e w =
    let T = g.T.Deserialize in
    let (are, is) = c.in-Ok.ensures.whole w in
    c.in-Err-read_all.ensures.law x.items some (one_list _ _ (map T.image x.items) is e) are
