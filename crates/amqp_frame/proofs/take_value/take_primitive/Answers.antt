use Rattle.std.proofs.Common.{◌≡◌, ℕ, ◌+◌, length, length-take, ap, sym, ◌∙◌, arith}
use Rattle.amqp_frame.specs.declared.code.Category.TheVariants.{Fixed}
use Rattle.amqp_frame.specs.Code.{category, size_width, body_len}
use Rattle.amqp_frame.proofs.Taking.{limited-last, passes-body, falls-short-body, moves-payload, moves-none}
use Rattle.amqp_frame.proofs.take_value.take_primitive.Goals as goal

pub returns-in-Fixed-eq0-clause-ok : goal.returns-in-Fixed-eq0-clause-ok
returns-in-Fixed-eq0-clause-ok g c =
    let fixed : category c.args.code ≡ Fixed 0 = sym c.category_of-category.ensures ∙ (c.in-Fixed-eq0.is ∙ (ap Fixed (sym c.in-Fixed-eq0.field-0-is) ∙ ap Fixed c.in-Fixed-eq0.field-0-test)) in
    moves-none c.push_code.result _ _ _ _ fixed c.push_code.ensures.ok

pub returns-clause-ok : goal.returns-clause-ok
returns-clause-ok g c =
    let size = c.read_size.new.size in
    let width : length size ≡ size_width (category c.args.code) = omega (
      arith,
      length-take {A = ℕ},
      ap size_width c.category_of-category.ensures,
      c.size_width_of.ensures.width,
      c.size_width_of.ensures.bound,
    ) in
    let told : c.body_len_of-body.result ≡ body_len (category c.args.code) size
    = c.body_len_of-body.ensures ∙ ap (λ k. body_len k size) c.category_of-category.ensures in
    moves-payload c.take_bytes.result (category c.args.code) _ _ _ _ _ _ size _ c.in_ok-read_size.ensures.ok
    c.in_ok-push_header.ensures.ok width told c.take_bytes.ensures.ok

pub returns-clause-refused : goal.returns-clause-refused
returns-clause-refused g c =
    let size = c.read_size.new.size in
    let width : length size ≡ size_width (category c.args.code) = omega (
      arith,
      length-take {A = ℕ},
      ap size_width c.category_of-category.ensures,
      c.size_width_of.ensures.width,
      c.size_width_of.ensures.bound,
    ) in
    let told : c.body_len_of-body.result ≡ body_len (category c.args.code) size
    = c.body_len_of-body.ensures ∙ ap (λ k. body_len k size) c.category_of-category.ensures in
    limited-last c.take_bytes.result _ _ _ _ _ _ _ size c.in_ok-read_size.ensures.ok c.read_size.ensures.count
    c.take_bytes.ensures.count (falls-short-body (category c.args.code) _ _ _ size _ c.in_ok-read_size.ensures.ok width told)
    (λ h. h) c.take_bytes.ensures.refused

pub returns-then-start-body-clause-refused : goal.returns-then-start-body-clause-refused
returns-then-start-body-clause-refused g c =
    let size = c.read_size.new.size in
    let width : length size ≡ size_width (category c.args.code) = omega (
      arith,
      length-take {A = ℕ},
      ap size_width c.category_of-category.ensures,
      c.size_width_of.ensures.width,
      c.size_width_of.ensures.bound,
    ) in
    let told : c.body_len_of-body.result ≡ body_len (category c.args.code) size
    = c.body_len_of-body.ensures ∙ ap (λ k. body_len k size) c.category_of-category.ensures in
    passes-body (category c.args.code) c.args.limit (length c.args.collected.now.items + 1) c.body_len_of-body.result _ _ size
    c.in_ok-read_size.ensures.ok width told (omega (arith, length-take {A = ℕ}, c.args.collected.now.ok.0)) (omega (arith, length-take {A = ℕ}, c.args.collected.now.ok.0))
