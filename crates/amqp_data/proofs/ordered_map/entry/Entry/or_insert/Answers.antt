use Rattle.std.proofs.Common.{◌≡◌, refl, sym, ap, subst, ◌∙◌, unwrap_or, IfOk, IsOk, IsSome, true≢false}
use Rattle.amqp_data.proofs.PairLemmas.{insert_found, insert_new, lookup_found, lookup_none}
use Rattle.amqp_data.proofs.ordered_map.entry.Entry.or_insert.Goals as goal

pub returns-in-Some : goal.returns-in-Some
returns-in-Some g c =
    let eq = g.K.PartialEq.eq in
    let entry = c.args.self in
    let es = entry.map.now.entries.items in
    let e = c.index_mut.result.now in
    let found = sym c.in-Some.is ∙ entry.found in (
      (refl, λ w ok. insert_found eq entry.key es w c.in-Some.at e found c.index_mut.ensures.value, tt),
      record {
        writes_back = tt;
        value = ap (λ o. unwrap_or o c.args.default) (lookup_found eq entry.key es c.in-Some.at e found c.index_mut.ensures.value);
        present_succeeds = λ some. refl;
      },
    )

pub returns-in-None : goal.returns-in-None
returns-in-None g c =
    let eq = g.K.PartialEq.eq in
    let entry = c.args.self in
    let es = entry.map.now.entries.items in
    let found = sym c.in-None.is ∙ entry.found in
    let none = lookup_none eq entry.key es found in
    let pushed = c.push_entry in (
      (refl, λ w ok. pushed.follows.holds w ok ∙ insert_new eq entry.key es w found, pushed.follows.holds-at-none),
      record {
        writes_back = tt;
        value = subst (λ o. IfOk pushed.result (λ r. r.now ≡ unwrap_or o c.args.default)) none pushed.ensures.value;
        present_succeeds = subst (λ o. IsSome o → IsOk pushed.result) none (λ some. absurd (true≢false (sym some)));
      },
    )
