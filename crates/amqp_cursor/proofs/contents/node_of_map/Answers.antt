use Rattle.std.proofs.Common.{rules, refl, sym, ap, ◌∙◌, ◌≡◌, ◌/◌, ◌%◌, ◌*◌, ◌-◌, [], ◌∷◌, ◌++◌, length, List, ℕ, true, arith}
use Rattle.amqp_cursor.specs.Contents.{Says}
use Rattle.amqp_cursor.proofs.Placing.{sized-lies, number-ends, deeper, map_found}
use Rattle.amqp_cursor.proofs.contents.node_of_map.Goals as goal

pub returns-clause-placed : goal.returns-clause-placed
returns-clause-placed c =
    let content = c.in_ok-content.content.now in
    let rest = c.in_ok-content.rest.now in
    let body = c.in_ok-count.body.now in
    let even : c.in_ok-count.count % 2 ≡ 0 = omega arith in (
      body,
      rest,
      search rules,
      search rules,
      deeper _ content body rest (sized-lies _ _ _ _ c.in_ok-content.ensures.read) (number-ends _ _ _ _ c.in_ok-count.ensures),
      search rules,
      Says.a_map _ _ body rest (c.in_ok-count.count / 2) (search rules) (omega (arith, even)) (map_found c.args.code c.args.bytes.now content rest c.in_ok-count.count body c.requires c.in_ok-content.ensures.read c.in_ok-count.ensures even),
    )
