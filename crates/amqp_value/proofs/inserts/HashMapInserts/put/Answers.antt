use Rattle.std.proofs.Common.{◌≡◌, true, false, None, Some, is_ok, refl, ◌∙◌, rules}
use Rattle.std.proofs.lemmas.List.Sorted.{IsPermutation-cons, IsPermutation-to_front, IsPermutation-trans}
use Rattle.std.proofs.lemmas.Map.{update_all_push}
use Rattle.std.specs.HashMap as hashed
use Rattle.amqp_value.proofs.InsertedLemmas.{before_last, new_is_absent, put_new}
use Rattle.amqp_value.proofs.inserts.HashMapInserts.put.Goals as goal
use Rattle.amqp_value.proofs.Zips.{on_ok}

pub returns : goal.returns
returns g c done fits holds =
    let eq = g.K.PartialEq.eq in
    let old = c.args.self.now in
    let new = c.insert.new.self in
    let pair : g.row.K.Denot × g.row.V.Denot = (c.args.key, c.args.value) in
    let ok : is_ok c.insert.result ≡ true = search rules in
    let put : hashed.Updates eq old new pair.0 (Some pair.1) = on_ok c.insert.result _ c.insert.ensures.updates ok in (
      (λ q. put.0 q ∙ update_all_push eq (λ _. None) (hashed.get eq old) done pair q (holds.0.0 q), c.insert.ensures.unique),
      λ each.
          let (some, last) = before_last (λ p q. eq q.0 p.0 ≡ false) done pair each in
          let absent : hashed.get eq old pair.0 ≡ None = holds.0.0 pair.0 ∙ new_is_absent eq g.met.K.Eq.laws.symm done (λ _. None) pair.0 refl last in
          let added = put_new eq old new pair.0 pair.1 c.insert.result c.insert.ensures.old c.insert.ensures.entries ok absent in
          let prefix = IsPermutation-trans _ _ _ (IsPermutation-to_front done pair) (IsPermutation-cons pair done old.entries (holds.1 some)) in
          IsPermutation-trans _ _ _ prefix added,
    )
