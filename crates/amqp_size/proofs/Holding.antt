-- Open compounds of every kind.
use Rattle.std.proofs.Common.{◌≡◌, ℕ, ◌+◌, ◌<◌, ◌≤◌, List, [], ◌∷◌, ◌++◌, Option, Some, None, true, false, Result, Ok, Err, MatchResult, IfOk, IfErr, refl, ap, sym, ◌∙◌, subst, if◌then◌else◌, inl, inr}
use Rattle.amqp_size.specs.declared.size_error.SizeError.{SizeError}
use Rattle.amqp_size.specs.declared.size_error.SizeError.TheVariants as error
use Rattle.amqp_ser.specs.Tree.{Tree}
use Rattle.amqp_ser.specs.Compounds.{tree_of_parts}
use Rattle.amqp_ser.specs.declared.kind.CompoundKind.{CompoundKind}
use Rattle.amqp_ser.specs.declared.kind.CompoundKind.TheVariants as kinds
use Rattle.amqp_size.specs.Position.{position_of, meant, without_prefix, is_gathered}
use Rattle.amqp_size.specs.SizeSerializer.{AtPosition, HoldsGathered, HoldsTransparent, HoldsSingle, Holding}
use Rattle.amqp_size.specs.AddPart.{AddsPart}
use Rattle.amqp_size.specs.WholePosition.{Root}
use Rattle.amqp_size.specs.WholeContext.{Context}
use Rattle.amqp_size.specs.WholeContext as context
use Rattle.amqp_size.specs.declared.resolved_kind.ResolvedKind.{ResolvedKind}
use Rattle.amqp_size.specs.declared.resolved_kind.ResolvedKind.TheVariants as resolved_kinds
use Rattle.amqp_size.specs.declared.serializer.SizeSerializer.{SizeSerializer}
use Rattle.amqp_size.specs.declared.open_compound.OpenCompound.{OpenCompound}
use Rattle.amqp_size.proofs.Refusing.{refused_part}
use Rattle.amqp_size.proofs.Part.{end_taken}
use Rattle.amqp_size.proofs.Transparent.{taken_transparent, refused_transparent, over_transparent}
use Rattle.amqp_size.proofs.Single.{refused_single, second_single, first_single}

not_gathered : (s t : ResolvedKind) → s ≡ t → is_gathered t ≡ false → is_gathered s ≡ true → ⊥
not_gathered s t q f g = let e = sym (ap is_gathered q) ∙ g in cc

not_single : resolved_kinds.Transparent ≡ resolved_kinds.Single → ⊥
not_single q = cc

no_list : kinds.Single ≡ kinds.List → ⊥
no_list q = cc

-- The relation of each kind.
pub gathered_of : (start : SizeSerializer) (kind : CompoundKind) (compound : OpenCompound) (ps : List (Option Tree)) → Holding start kind compound ps → is_gathered compound.resolved_kind ≡ true → HoldsGathered start kind compound ps
gathered_of start kind compound ps (inl h) g = h
gathered_of start kind compound ps (inr (inl h)) g = absurd (not_gathered compound.resolved_kind resolved_kinds.Transparent h.resolved_kind refl g)
gathered_of start kind compound ps (inr (inr h)) g = absurd (not_gathered compound.resolved_kind resolved_kinds.Single h.resolved_kind refl g)

pub transparent_of : (start : SizeSerializer) (kind : CompoundKind) (compound : OpenCompound) (ps : List (Option Tree)) → Holding start kind compound ps → compound.resolved_kind ≡ resolved_kinds.Transparent → HoldsTransparent start kind compound ps
transparent_of start kind compound ps (inl h) s = absurd (not_gathered compound.resolved_kind resolved_kinds.Transparent s refl h.gathered)
transparent_of start kind compound ps (inr (inl h)) s = h
transparent_of start kind compound ps (inr (inr h)) s = absurd (not_single (sym s ∙ h.resolved_kind))

no_maps : (kinds.Map ≡ kinds.List → ⊥) × (kinds.Map ≡ kinds.Single → ⊥)
no_maps = (λ q. cc, λ q. cc)

pub map_of : (start : SizeSerializer) (compound : OpenCompound) (ps : List (Option Tree)) → Holding start kinds.Map compound ps → HoldsGathered start kinds.Map compound ps
map_of start compound ps (inl h) = h
map_of start compound ps (inr (inl h)) = absurd (no_maps.0 h.kind_is)
map_of start compound ps (inr (inr h)) = absurd (no_maps.1 h.kind_is)

-- A part that fails.
pub refused_any : (start : SizeSerializer) (kind : CompoundKind) (compound : OpenCompound) (ps : List (Option Tree)) → Holding start kind compound ps → (p : Option Tree) (e : SizeError) (after : Context) →
    AtPosition (position_of compound.inner_context) (meant compound.inner_context p) (Err e) after → (others : List (Option Tree)) →
    AtPosition (position_of start.context) (meant start.context (tree_of_parts kind (ps ++ (p ∷ others)))) (Err e) (context.Unmarked (without_prefix compound.position))
refused_any start kind compound ps (inl h) p e after r others =
    refused_part start kind compound ps h p e after (subst (λ u. AtPosition (position_of u) (meant u p) (Err e) after) h.accepted.inner_context r) others
refused_any start kind compound ps (inr (inl h)) p e after r others =
    refused_transparent start kind compound ps h p e after (subst (λ u. AtPosition (position_of u) (meant u p) (Err e) after) h.inner_context r) others
refused_any start kind compound ps (inr (inr h)) p e after r others = refused_single start kind compound ps h p e after r others

taken_joined : (start : SizeSerializer) (kind : CompoundKind) (compound new : OpenCompound) (ps : List (Option Tree)) → HoldsTransparent start kind compound ps → (p : Option Tree) (size : ℕ) (after : Context) → AtPosition Root p (Ok size) after →
    (res : Result (Unit {0}) SizeError) → AddsPart compound new size after res →
    MatchResult res (λ _. Holding start kind new (ps ++ (p ∷ [])))
    (λ e. (others : List (Option Tree)) → AtPosition (position_of start.context) (meant start.context (tree_of_parts kind (ps ++ (p ∷ others)))) (Err e) (context.Unmarked (without_prefix compound.position)))
taken_joined start kind compound new ps h None size after r res k = absurd r
taken_joined start kind compound new ps h (Some t) size after r (Ok u) k =
    let m = k.transparent h.resolved_kind in
    inr (inl (taken_transparent start kind compound new ps h t size after r k.position k.resolved_kind m.0 m.1))
taken_joined start kind compound new ps h (Some t) size after r (Err e) k = λ others.
    let m = k.transparent h.resolved_kind in
    subst (λ (x : SizeError). AtPosition (position_of start.context) (meant start.context (tree_of_parts kind (ps ++ (Some t ∷ others)))) (Err x) (context.Unmarked (without_prefix compound.position))) (sym m.0)
    (over_transparent start kind compound ps h t size r.len m.1 others)

taken_one : (start : SizeSerializer) (kind : CompoundKind) (compound new : OpenCompound) (ps : List (Option Tree)) → HoldsSingle start kind compound ps → (p : Option Tree) (size : ℕ) (after : Context) → AtPosition (position_of compound.inner_context) (meant compound.inner_context p) (Ok size) after →
    (res : Result (Unit {0}) SizeError) → AddsPart compound new size after res →
    MatchResult res (λ _. Holding start kind new (ps ++ (p ∷ [])))
    (λ e. (others : List (Option Tree)) → AtPosition (position_of start.context) (meant start.context (tree_of_parts kind (ps ++ (p ∷ others)))) (Err e) (context.Unmarked (without_prefix compound.position)))
taken_one start kind compound new ps h p size after r (Ok u) k =
    let m = k.single h.resolved_kind in
    inr (inr (first_single start kind compound new ps h p size after r m.0 m.1.0 m.1.1.0 m.1.1.1 k.position k.resolved_kind))
taken_one start kind compound new ps h p size after r (Err e) k = λ others.
    let m = k.single h.resolved_kind in
    subst (λ (x : SizeError). AtPosition (position_of start.context) (meant start.context (tree_of_parts kind (ps ++ (p ∷ others)))) (Err x) (context.Unmarked (without_prefix compound.position))) (sym m.0)
    (second_single start kind compound ps h m.1 p others)

gathers : (start : SizeSerializer) (kind : CompoundKind) (compound new : OpenCompound) (ps : List (Option Tree)) (p : Option Tree) (res : Result (Unit {0}) SizeError) →
    MatchResult res (λ _. HoldsGathered start kind new (ps ++ (p ∷ [])))
    (λ e. (others : List (Option Tree)) → AtPosition (position_of start.context) (meant start.context (tree_of_parts kind (ps ++ (p ∷ others)))) (Err e) (context.Unmarked (without_prefix compound.position))) →
    MatchResult res (λ _. Holding start kind new (ps ++ (p ∷ [])))
    (λ e. (others : List (Option Tree)) → AtPosition (position_of start.context) (meant start.context (tree_of_parts kind (ps ++ (p ∷ others)))) (Err e) (context.Unmarked (without_prefix compound.position)))
gathers start kind compound new ps p (Ok u) m = inl m
gathers start kind compound new ps p (Err e) m = m

-- A part that is measured.
pub taken_any : (start : SizeSerializer) (kind : CompoundKind) (compound new : OpenCompound) (ps : List (Option Tree)) → Holding start kind compound ps → (p : Option Tree) (size : ℕ) (after : Context) →
    AtPosition (position_of compound.inner_context) (meant compound.inner_context p) (Ok size) after → (res : Result (Unit {0}) SizeError) → AddsPart compound new size after res →
    MatchResult res (λ _. Holding start kind new (ps ++ (p ∷ [])))
    (λ e. (others : List (Option Tree)) → AtPosition (position_of start.context) (meant start.context (tree_of_parts kind (ps ++ (p ∷ others)))) (Err e) (context.Unmarked (without_prefix compound.position)))
taken_any start kind compound new ps (inl h) p size after r res k =
    gathers start kind compound new ps p res
    (end_taken start kind compound new ps h p size after (subst (λ u. AtPosition (position_of u) (meant u p) (Ok size) after) h.accepted.inner_context r) k.position k.resolved_kind k.few k.small res (k.before_last h.gathered) k.kept (k.gathered h.gathered))
taken_any start kind compound new ps (inr (inl h)) p size after r res k =
    taken_joined start kind compound new ps h p size after (subst (λ u. AtPosition (position_of u) (meant u p) (Ok size) after) h.inner_context r) res k
taken_any start kind compound new ps (inr (inr h)) p size after r res k = taken_one start kind compound new ps h p size after r res k
