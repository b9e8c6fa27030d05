use Rattle.std.proofs.Common.{◌≡◌, refl, sym, ap, subst, ◌∙◌, Result, Ok, Err, IfOk, IsOk, IsSome, true≢false}
use Rattle.std.specs.Option.{UnwrapsOrElse}
use borrow.Author.Rules.{of_calls}
use Rattle.amqp_data.proofs.PairLemmas.{insert_found, insert_new, lookup_found, lookup_none}
use Rattle.amqp_data.proofs.ordered_map.entry.Entry.or_insert_with.Goals as goal

if_ok : {A E : Type 0} (r : Result A E) (P Q : A → Type 0) → ((x : A) → P x → Q x) → IfOk r P → IfOk r Q
if_ok (Ok x) P Q step holds = step x holds
if_ok (Err e) P Q step holds = tt

pub default-value-requires : goal.default-value-requires
default-value-requires g c =
    let entry = c.args.self in
    let may = c.requires (sym (lookup_none g.K.PartialEq.eq entry.key entry.map.now.entries.items (sym c.in-None.is ∙ entry.found))) in
    search of_calls

pub returns-in-Some : goal.returns-in-Some
returns-in-Some g c =
    let eq = g.K.PartialEq.eq in
    let entry = c.args.self in
    let es = entry.map.now.entries.items in
    let e = c.index_mut.result.now in
    let found = sym c.in-Some.is ∙ entry.found in (
      (refl, λ w ok. insert_found eq entry.key es w c.in-Some.at e found c.index_mut.ensures.value, tt),
      record {
        writes_back = tt;
        value = subst (λ o. UnwrapsOrElse o (goal.F-post g c.args.default) e.1) (lookup_found eq entry.key es c.in-Some.at e found c.index_mut.ensures.value) refl;
        present_succeeds = λ some. refl;
      },
    )

pub returns-in-None : goal.returns-in-None
returns-in-None g c =
    let eq = g.K.PartialEq.eq in
    let entry = c.args.self in
    let es = entry.map.now.entries.items in
    let found = sym c.in-None.is ∙ entry.found in
    let none = lookup_none eq entry.key es found in
    let pushed = c.push_entry in
    let post = goal.F-post g c.args.default in
    let made = if_ok pushed.result (λ r. r.now ≡ c.default-value.result) (λ r. post r.now) (λ r is. subst post (sym is) c.default-value.ensures) pushed.ensures.value in (
      (refl, λ w ok. pushed.follows.holds w ok ∙ insert_new eq entry.key es w found, pushed.follows.holds-at-none),
      record {
        writes_back = tt;
        value = subst (λ o. IfOk pushed.result (λ r. UnwrapsOrElse o post r.now)) none made;
        present_succeeds = subst (λ o. IsSome o → IsOk pushed.result) none (λ some. absurd (true≢false (sym some)));
      },
    )
