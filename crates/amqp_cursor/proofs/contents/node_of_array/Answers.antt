use Rattle.std.proofs.Common.{rules, refl, sym, ap, ◌∙◌, ◌≡◌, ◌/◌, ◌*◌, ◌-◌, [], ◌∷◌, ◌++◌, length, List, ℕ, true, arith}
use Rattle.amqp_cursor.specs.Contents.{Says}
use Rattle.amqp_cursor.proofs.Placing.{sized-lies, number-ends, deeper, past, then_one, empty_found, no_items, no_items-coded, array_found}
use Rattle.amqp_cursor.proofs.contents.node_of_array.Goals as goal

pub returns-then-count-eq0-clause-placed : goal.returns-then-count-eq0-clause-placed
returns-then-count-eq0-clause-placed c =
    let body = c.in_ok-count.body.now in
    let content = c.in_ok-content.content.now in
    let rest = c.in_ok-content.rest.now in (
      [],
      rest,
      search rules,
      search rules,
      past _ content rest (sized-lies _ _ _ _ c.in_ok-content.ensures.read),
      search rules,
      Says.an_empty_array _ _ [] rest (search rules) (search rules)
          (empty_found c.args.code c.args.bytes.now content rest c.in_ok-count.count body c.requires c.in_ok-content.ensures.read c.in_ok-count.ensures
          c.if-count-eq0.true (no_items body (search rules))),
    )

pub returns-then-count-eq0-2-clause-placed : goal.returns-then-count-eq0-2-clause-placed
returns-then-count-eq0-2-clause-placed c =
    let body = c.in_ok-count.body.now in
    let content = c.in_ok-content.content.now in
    let rest = c.in_ok-content.rest.now in
    let items = c.in_ok-element.items.now in (
      [],
      rest,
      search rules,
      search rules,
      past _ content rest (sized-lies _ _ _ _ c.in_ok-content.ensures.read),
      search rules,
      Says.an_empty_array _ _ [] rest (search rules) (search rules)
          (empty_found c.args.code c.args.bytes.now content rest c.in_ok-count.count body c.requires c.in_ok-content.ensures.read c.in_ok-count.ensures
          (search rules) (no_items-coded c.in_ok-element.element body items c.in_ok-element.ensures (search rules) (c.is_code.ensures.named (search rules)))),
    )

pub returns-clause-placed : goal.returns-clause-placed
returns-clause-placed c =
    let content = c.in_ok-content.content.now in
    let rest = c.in_ok-content.rest.now in
    let body = c.in_ok-count.body.now in
    let items = c.in_ok-element.items.now in
    let some : c.in_ok-element.element ≡ 0 → ⊥ = c.is_code.ensures.nonzero (search rules) in
    let many : c.in_ok-count.count ≡ 0 → ⊥ = search rules in (
      items,
      rest,
      search rules,
      search rules,
      deeper _ content items rest (sized-lies _ _ _ _ c.in_ok-content.ensures.read)
          (then_one content body items c.in_ok-element.element (number-ends _ content c.in_ok-count.count body c.in_ok-count.ensures) c.in_ok-element.ensures),
      search rules,
      Says.an_array _ _ items rest (search rules)
          (array_found c.args.code c.args.bytes.now content rest c.in_ok-count.count c.in_ok-element.element body items c.requires
          c.in_ok-content.ensures.read c.in_ok-count.ensures c.in_ok-element.ensures many some),
    )
