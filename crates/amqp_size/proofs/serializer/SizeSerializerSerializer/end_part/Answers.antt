use Rattle.std.proofs.Common.{◌≡◌, ◌∷◌, ◌++◌, [], List, Option, Ok, Err, Result, MatchResult, IfErr, sym, refl, ap, ◌∙◌, subst, rules}
use Rattle.amqp_size.specs.declared.size_error.SizeError.{SizeError}
use Rattle.amqp_ser.specs.Tree.{Tree}
use Rattle.amqp_ser.specs.Compounds.{tree_of_parts}
use Rattle.amqp_ser.specs.declared.kind.CompoundKind.{CompoundKind}
use Rattle.amqp_size.specs.Position.{position_of, meant, without_prefix}
use Rattle.amqp_size.specs.SizeSerializer.{AtPosition, Holding}
use Rattle.amqp_size.specs.WholeContext.{Context}
use Rattle.amqp_size.specs.WholeContext.{Unmarked}
use Rattle.amqp_size.specs.declared.open_compound.OpenCompound.{OpenCompound}
use Rattle.amqp_size.specs.declared.serializer.SizeSerializer.{SizeSerializer}
use Rattle.amqp_size.specs.State.{context_at}
use Rattle.amqp_size.proofs.Settled.{settled}
use Rattle.amqp_size.proofs.Holding.{refused_any, taken_any}
use Rattle.amqp_size.proofs.serializer.SizeSerializerSerializer.end_part.Goals as goal

-- What holds after a part, given what is proved about it.
known : (start : SizeSerializer) (kind : CompoundKind) (compound new : OpenCompound) (ps : List (Option Tree)) (p : Option Tree) (res : Result (Unit {0}) SizeError) (position : Context) → Holding start kind compound ps →
    position ≡ Unmarked (without_prefix compound.position) → new.position ≡ compound.position → IfErr res (λ _. new ≡ compound) →
    MatchResult res (λ _. Holding start kind new (ps ++ (p ∷ [])))
    (λ e. (others : List (Option Tree)) → AtPosition (position_of start.context) (meant start.context (tree_of_parts kind (ps ++ (p ∷ others)))) (Err e) (Unmarked (without_prefix compound.position))) →
    MatchResult res (λ _. Holding start kind new (ps ++ (p ∷ [])) × (position ≡ Unmarked (without_prefix new.position)))
    (λ e. (Holding start kind new ps × (position ≡ Unmarked (without_prefix new.position))) ×
    ((others : List (Option Tree)) → AtPosition (position_of start.context) (meant start.context (tree_of_parts kind (ps ++ (p ∷ others)))) (Err e) position))
known start kind compound new ps p (Ok u) position h here a same m = (m, here ∙ sym (ap (λ q. Unmarked (without_prefix q)) a))
known start kind compound new ps p (Err e) position h here a same m = (
  (subst (λ x. Holding start kind x ps) (sym same) h, here ∙ sym (ap (λ q. Unmarked (without_prefix q)) a)),
  λ others. subst (λ q. AtPosition (position_of start.context) (meant start.context (tree_of_parts kind (ps ++ (p ∷ others)))) (Err e) q) (sym here) (m others),
)

pub returns-in_err-size-clause-step : goal.returns-in_err-size-clause-step
returns-in_err-size-clause-step c = λ start kind before ps p w r.
    let compound = c.args.compound.now in
    let after = c.args.self.now.context in
    let e = c.in_err-size.field-0.0 in
    let here = subst (λ u. AtPosition (position_of u) (meant u p) c.args.part after) w.1 r in
    let refused = subst (λ x. AtPosition (position_of compound.inner_context) (meant compound.inner_context p) x after) c.in_err-size.was here in
    let same : c.from_residual.result ≡ Err e = search rules in
    rw same (known start kind compound compound ps p (Err e) _ w.0 (ap Unmarked (c.without_prefix.ensures compound.prefix_len _ ∙ ap without_prefix c.position.ensures)) refl refl (λ others. refused_any start kind compound ps w.0 p e after refused others))

pub returns-clause-step : goal.returns-clause-step
returns-clause-step c = λ start kind before ps p w r.
    let compound = c.args.compound.now in
    let u = c.self.inside.context in
    let size = c.in_ok-size.size in
    let there = subst (λ u. AtPosition (position_of u) (meant u p) c.args.part c.args.self.now.context) w.1 r in
    let stood : AtPosition (position_of compound.inner_context) (meant compound.inner_context p) (Ok size) (context_at u c.self.inside.prefix_len) =
    subst (λ q. AtPosition (position_of compound.inner_context) (meant compound.inner_context p) (Ok size) q) (sym (ap (λ (s : SizeSerializer). s.context) c.self.view_is))
    (subst (λ x. AtPosition (position_of compound.inner_context) (meant compound.inner_context p) x c.args.self.now.context) c.in_ok-size.was there) in
    let after = context_at u compound.prefix_len in
    let counted = subst (λ q. AtPosition (position_of compound.inner_context) (meant compound.inner_context p) (Ok size) q) (sym (settled (position_of compound.inner_context) (meant compound.inner_context p) size u c.self.inside.prefix_len compound.prefix_len stood)) stood in
    let t = c.add_part.ensures in
    known start kind compound c.add_part.new.self ps p c.add_part.result _ w.0 (ap Unmarked (c.without_prefix.ensures compound.prefix_len _ ∙ ap without_prefix c.position.ensures)) t.position t.kept
    (taken_any start kind compound c.add_part.new.self ps w.0 p size after counted c.add_part.result t)
