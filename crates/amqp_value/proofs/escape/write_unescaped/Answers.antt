use Rattle.std.proofs.Common.{List, ℕ, [], ◌++◌, rules, ap, ◌∙◌, refl, take-append-drop, append_assoc}
use Rattle.std.proofs.Output.{has_written_of_eq, has_written_append}
use Rattle.std.specs.Prelude.{IsOk}
use Rattle.amqp_value.proofs.escape.write_unescaped.Goals as goal

pub loop-rest-init : goal.loop-rest-init
loop-rest-init g c = (search rules, λ plain. ([], search rules, refl))

pub loop-rest-preserved : goal.loop-rest-preserved
loop-rest-preserved g c = (
  search rules,
  λ plain.
      let so_far = c.loop-rest.invariant.1 plain in
      let ok : IsOk c.write_str.result = search rules in
      let piece = c.split_at.ensures in (
        so_far.0 ++ c.split_at.result.0.now,
        has_written_append _ _ _ _ _ _ so_far.1 (c.write_str.ensures.writes so_far.1.plain ok),
        append_assoc so_far.0 _ _ ∙ ap (λ (xs : List ℕ). so_far.0 ++ xs) (rw (piece.front, piece.back) (take-append-drop _ _)) ∙ so_far.2,
      ),
)

pub returns : goal.returns
returns g c plain ok =
    let so_far = c.loop-rest.invariant.1 plain in
    has_written_of_eq _ _ _ _ _ so_far.2 (has_written_append _ _ _ _ _ _ so_far.1 (c.write_str-2.ensures.writes so_far.1.plain ok))
