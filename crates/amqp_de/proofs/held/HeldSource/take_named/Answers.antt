use Rattle.std.proofs.Common.{◌≡◌, ◌∙◌, ap, sym, refl, Some, get_or, map}
use Rattle.amqp_value.specs.TreeOf.{tree_of}
use Rattle.amqp_value.specs.declared.value.Value.{Value}
use Rattle.amqp_de.specs.Fields.{value_at, without}
use Rattle.amqp_de.proofs.NamedPairs.{both, absent, present}
use Rattle.amqp_de.proofs.held.HeldSource.take_named.Goals as goal

pub returns-in-Some-remove-clause-some : goal.returns-in-Some-remove-clause-some
returns-in-Some-remove-clause-some c r ps left waits =
    let entries = c.args.entries.now.pairs.items in
    let at = c.in-Some.at in
    let pair : Value × Value = (c.in-Some-remove.field-0-0, c.in-Some-remove.value) in
    let is : pair ≡ get_or entries at pair = c.in-Some-remove.ensures.value in
    let p = present c.args.name.now entries at pair (sym c.in-Some.ensures) in (
      map both entries,
      refl,
      p.0 ∙ ap (λ (e : Value × Value). Some (tree_of e.1)) (sym is),
      sym (ap (map both) c.in-Some-remove.ensures.items ∙ p.1) ∙ sym waits,
      λ ns among. tt,
    )

pub returns-in-Some-remove-clause-some_whole : goal.returns-in-Some-remove-clause-some_whole
returns-in-Some-remove-clause-some_whole c w =
    let entries = c.args.entries.now.pairs.items in
    let at = c.in-Some.at in
    let pair : Value × Value = (c.in-Some-remove.field-0-0, c.in-Some-remove.value) in
    let is : pair ≡ get_or entries at pair = c.in-Some-remove.ensures.value in
    let p = present c.args.name.now entries at pair (sym c.in-Some.ensures) in
    (tt, tt, p.0 ∙ ap (λ (e : Value × Value). Some (tree_of e.1)) (sym is), ap (map both) c.in-Some-remove.ensures.items ∙ p.1)

pub returns-clause-none : goal.returns-clause-none
returns-clause-none c ps h =
    let n = c.args.name.now in
    let a = absent n c.args.entries.now.pairs.items (sym c.in-None.ensures) in
    (h, λ ns among. (tt, λ d. (ap (value_at n) h ∙ a.0, ap (without n) h ∙ sym a.1 ∙ sym h)))

pub returns-clause-none_whole : goal.returns-clause-none_whole
returns-clause-none_whole c w =
    let a = absent c.args.name.now c.args.entries.now.pairs.items (sym c.in-None.ensures) in
    (tt, a.0, a.1)
