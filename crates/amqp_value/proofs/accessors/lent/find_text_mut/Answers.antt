use Rattle.std.proofs.Common.{◌≡◌, List, position, refl, ap, subst, ◌∙◌, OnSome}
use Rattle.amqp_data.specs.Pairs.{entries_of}
use Rattle.amqp_data.proofs.PairLemmas.{lookup_none}
use Rattle.amqp_value.specs.Accessors.{has_text}
use Rattle.amqp_value.specs.declared.value.Value.{Value}
use Rattle.amqp_value.specs.declared.value.Value.TheVariants.{Null}
use Rattle.amqp_value.proofs.LentLemmas.{changed_at, found_at, some_at}
use Rattle.amqp_value.proofs.accessors.lent.find_text_mut.Goals as goal

pub returns-in-Some : goal.returns-in-Some
returns-in-Some c =
    let test = λ (k : Value). has_text c.args.key.now k in
    let es = entries_of c.args.entries.now in
    let lent = c.value_at_mut in
    let is = c.in-Some.ensures ∙ ap (λ (items : List (Value × Value)). position (λ e. has_text c.args.key.now e.0) items) c.as_slice.ensures in (
      (
        refl,
        λ w. subst (λ new. OnSome lent.result (entries_of (lent.follows.lender w) ≡ new)) (changed_at test es c.in-Some.at (Null, Null) is w) (lent.follows.holds w),
        some_at test es c.in-Some.at (Null, Null) is lent.result _ lent.ensures.value,
      ),
      lent.ensures.value ∙ found_at test es c.in-Some.at (Null, Null) is,
    )

pub returns-in-None : goal.returns-in-None
returns-in-None c = (
  (refl, λ w. tt, refl),
  lookup_none (λ (_ k : Value). has_text c.args.key.now k) Null (entries_of c.args.entries.now)
      (c.in-None.ensures ∙ ap (λ (items : List (Value × Value)). position (λ e. has_text c.args.key.now e.0) items) c.as_slice.ensures),
)
