use Rattle.std.proofs.Common.{◌≡◌, [], Bool, true, false, length, refl, sym, ◌∙◌, ap, inl, inr}
use Rattle.amqp_ser.specs.Tree.{no_trees}
use Rattle.amqp_ser.specs.Limits.{fits, is_count}
use Rattle.amqp_ser.specs.declared.kind.CompoundKind.{CompoundKind}
use Rattle.amqp_size.specs.Position.{position_of, without_prefix, resolved_kind_of, is_array, is_gathered, inner_context_of}
use Rattle.amqp_size.specs.State.{context_at}
use Rattle.amqp_size.specs.SizeSerializer.{body_bytes, counts, one_in, inner_position_of, Holding, HoldsGathered}
use Rattle.amqp_size.specs.declared.open_compound.OpenCompound.{OpenCompound}
use Rattle.amqp_size.specs.declared.resolved_kind.ResolvedKind.{ResolvedKind}
use Rattle.amqp_size.specs.declared.resolved_kind.ResolvedKind.TheVariants as resolved_kinds
use Rattle.amqp_size.specs.WholeContext.{Context}
use Rattle.amqp_size.specs.WholeContext.{Unmarked}
use Rattle.amqp_size.specs.declared.serializer.SizeSerializer.{SizeSerializer}
use Rattle.amqp_size.proofs.Transparent.{transparent_shape}
use Rattle.amqp_size.proofs.Single.{single_kind}
use Rattle.amqp_size.proofs.serializer.SizeSerializerSerializer.begin_compound.Goals as goal

nothing : (b : Bool) → (0 ≡ length (body_bytes b no_trees)) × ((0 ≡ counts b no_trees) × (one_in b no_trees ≡ true))
nothing true = (refl, (refl, refl))
nothing false = (refl, (refl, refl))

first_inner : (s : ResolvedKind) (u : Context) → is_gathered s ≡ true → inner_context_of s u ≡ Unmarked (inner_position_of (is_array s) no_trees)
first_inner resolved_kinds.List u g = refl
first_inner resolved_kinds.Map u g = refl
first_inner (resolved_kinds.Variant i) u g = refl
first_inner (resolved_kinds.NewtypeVariant i) u g = refl
first_inner resolved_kinds.Array u g = refl
first_inner resolved_kinds.Refused u g = refl
first_inner resolved_kinds.Transparent u g = cc
first_inner resolved_kinds.Single u g = cc

never : true ≡ false → ⊥
never q = cc

gathers : (start : SizeSerializer) (kind : CompoundKind) (new : OpenCompound) → new.position ≡ position_of start.context → new.resolved_kind ≡ resolved_kind_of start.context kind → is_gathered (resolved_kind_of start.context kind) ≡ true →
    new.inner_context ≡ inner_context_of (resolved_kind_of start.context kind) start.context → new.sum ≡ 0 → new.count ≡ 0 → HoldsGathered start kind new []
gathers start kind new a b g f d e =
    let n = nothing (is_array new.resolved_kind) in
    record {
      ts = no_trees;
      trees = refl;
      position = a;
      resolved_kind = b;
      gathered = ap is_gathered b ∙ g;
      back = λ odd qs q f. absurd (never odd);
      accepted = record {
        sum = d ∙ n.0;
        fits_sum = ap fits d;
        counted = e ∙ n.1.0;
        few = ap is_count e;
        inner_context = f ∙ first_inner (resolved_kind_of start.context kind) start.context g ∙ sym (ap (λ s. Unmarked (inner_position_of (is_array s) no_trees)) b);
        uniform_arrays_parts = refl;
        within_limits_parts = refl;
        inside_parts = refl;
        one = n.1.1;
        ranged_parts = tt;
      };
    }

opened : (start : SizeSerializer) (kind : CompoundKind) (new : OpenCompound) → new.position ≡ position_of start.context → new.resolved_kind ≡ resolved_kind_of start.context kind → new.inner_context ≡ inner_context_of (resolved_kind_of start.context kind) start.context → new.sum ≡ 0 → new.count ≡ 0 →
    (s : ResolvedKind) → resolved_kind_of start.context kind ≡ s → Holding start kind new []
opened start kind new a b f d e resolved_kinds.List q = inl (gathers start kind new a b (ap is_gathered q) f d e)
opened start kind new a b f d e resolved_kinds.Map q = inl (gathers start kind new a b (ap is_gathered q) f d e)
opened start kind new a b f d e (resolved_kinds.Variant i) q = inl (gathers start kind new a b (ap is_gathered q) f d e)
opened start kind new a b f d e (resolved_kinds.NewtypeVariant i) q = inl (gathers start kind new a b (ap is_gathered q) f d e)
opened start kind new a b f d e resolved_kinds.Array q = inl (gathers start kind new a b (ap is_gathered q) f d e)
opened start kind new a b f d e resolved_kinds.Refused q = inl (gathers start kind new a b (ap is_gathered q) f d e)
opened start kind new a b f d e resolved_kinds.Transparent q = inr (inl (record {
  ts = no_trees;
  trees = refl;
  kind_is = (transparent_shape start.context kind q).1;
  position = a;
  resolved_kind = b ∙ q;
  shaped = q;
  sum = d;
  inner_context = f ∙ ap (λ s. inner_context_of s start.context) q;
  uniform_arrays_parts = refl;
  within_limits_parts = refl;
  placed_parts = refl;
  ranged_parts = tt;
}))
opened start kind new a b f d e resolved_kinds.Single q = inr (inr (record {
  kind_is = single_kind start.context kind q;
  position = ap without_prefix a;
  resolved_kind = b ∙ q;
  parts = (e, f ∙ ap (λ s. inner_context_of s start.context) q);
}))

-- An open compound without parts.
pub returns : goal.returns
returns c =
    let e = c.new.ensures in
    let start = c.args.self.now in
    let prefix_len = c.self.inside.prefix_len in
    let here : context_at c.self.inside.context prefix_len ≡ start.context = ap (λ (s : SizeSerializer). s.context) c.self.view_is in
    let position = e.position ∙ ap position_of here in
    let resolved_kind = c.resolved_kind.ensures prefix_len ∙ ap (λ u. resolved_kind_of u c.args.kind) here in (
      opened start c.args.kind c.new.result position (e.resolved_kind ∙ resolved_kind) (e.inner_context ∙ ap (λ s. inner_context_of s (context_at c.self.inside.context prefix_len)) resolved_kind ∙ ap (inner_context_of (resolved_kind_of start.context c.args.kind)) here) e.sum e.count (resolved_kind_of start.context c.args.kind) refl,
      c.clear_prefix.ensures ∙ ap (λ q. Unmarked (without_prefix q)) (sym position),
    )
