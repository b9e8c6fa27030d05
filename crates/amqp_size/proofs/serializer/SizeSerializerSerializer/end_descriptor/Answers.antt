use Rattle.std.proofs.Common.{◌≡◌, ℕ, [], Option, Some, true, Result, Ok, Err, MatchResult, length, sym, refl, ap, ◌∙◌, subst, inr}
use Rattle.amqp_size.specs.declared.size_error.SizeError.{SizeError}
use Rattle.amqp_ser.specs.Tree.{Tree, Descriptor}
use Rattle.amqp_ser.specs.Encoding.{descriptor_form}
use Rattle.amqp_ser.specs.Writable.{descriptor_fits}
use Rattle.amqp_ser.specs.Ranged.{IsRangedDescriptor}
use Rattle.amqp_ser.specs.Composites.{as_described, descriptor_of}
use Rattle.amqp_ser.specs.declared.kind.CompoundKind.TheVariants as kinds
use Rattle.amqp_size.specs.Position.{position_of, meant, without_prefix, described_context}
use Rattle.amqp_size.specs.AddPart.{Undescribed}
use Rattle.amqp_size.specs.SizeSerializer.{AtPosition, SizeHas, SizePermits, HoldsSingle}
use Rattle.amqp_size.specs.WholePosition as position
use Rattle.amqp_size.specs.WholeContext.{Unmarked}
use Rattle.amqp_size.specs.declared.open_compound.OpenCompound.{OpenCompound}
use Rattle.amqp_size.specs.declared.serializer.SizeSerializer.{SizeSerializer}
use Rattle.amqp_size.proofs.Described.{counted_descriptor, described_step, described_rest, described_refusal}
use Rattle.amqp_size.proofs.serializer.SizeSerializerSerializer.end_descriptor.Goals as goal

-- What holds after a descriptor is measured or exceeds the limit.
known : (start now : SizeSerializer) (compound new : OpenCompound) (n : ℕ) (x : Descriptor) (d : Option Tree) (res : Result (Unit {0}) SizeError) → HoldsSingle start kinds.Single compound [] → now.context ≡ Unmarked (without_prefix compound.position) →
    descriptor_of d ≡ Some x → n ≡ length (descriptor_form x) → descriptor_fits x ≡ true → IsRangedDescriptor x → without_prefix new.position ≡ without_prefix compound.position → new.resolved_kind ≡ compound.resolved_kind → new.count ≡ compound.count →
    MatchResult res (λ _. described_context compound.inner_context n ≡ Some new.inner_context) (λ e. (new ≡ compound) × Undescribed compound.inner_context n e) →
    MatchResult res
    (λ _. (mid : SizeSerializer) × (SizeHas mid kinds.Single now new [] × ((t : Option Tree) (r : Result ℕ SizeError) (after : SizeSerializer) → SizePermits mid t r after → SizePermits start (as_described (descriptor_of d) t) r after)))
    (λ e. SizeHas start kinds.Single now new [] × ((t : Option Tree) → SizePermits start (as_described (descriptor_of d) t) (Err e) now))
known start now compound new n x d (Ok u) h here o len fits g a b c m =
    let s : described_context start.context n ≡ Some new.inner_context = sym (ap (λ w. described_context w n) h.parts.1) ∙ m in
    let mid : SizeSerializer = record { context = new.inner_context } in (
      mid,
      (
        (
          inr (inr (record {
            kind_is = refl;
            position = a ∙ h.position ∙ described_rest start.context new.inner_context n s;
            resolved_kind = b ∙ h.resolved_kind;
            parts = (c ∙ h.parts.0, refl);
          })),
          here ∙ ap Unmarked (sym a),
        ),
        λ t r after p. subst (λ w. AtPosition (position_of start.context) (meant start.context (as_described w t)) r after.context) (sym o) (described_step start.context new.inner_context n x s len fits g t r after.context p),
      ),
    )
known start now compound new n x d (Err e) h here o len fits g a b c m =
    let why : Undescribed start.context n e = subst (λ w. Undescribed w n e) h.parts.1 m.1 in
    let at : Unmarked (without_prefix (position_of start.context)) ≡ now.context = ap Unmarked (sym h.position) ∙ sym here in (
      (subst (λ w. SizeHas start kinds.Single now w []) (sym m.0) (inr (inr h), here)),
      λ t. subst (λ w. AtPosition (position_of start.context) (meant start.context (as_described w t)) (Err e) now.context) (sym o)
          (subst (λ q. AtPosition (position_of start.context) (meant start.context (as_described (Some x) t)) (Err e) q) at (described_refusal start.context n x e why len t)),
    )

pub returns-clause-step : goal.returns-clause-step
returns-clause-step c = λ start before d w r.
    let compound = c.args.compound.now in
    let after = c.args.self.now.context in
    let n = c.in_ok-descriptor.descriptor in
    let here = subst (λ u. AtPosition (position_of u) (meant u d) c.args.part after) w.1 r in
    let counted = counted_descriptor d n after (subst (λ p. AtPosition position.Descriptor d p after) c.in_ok-descriptor.was here) in
    let t = c.describe.ensures in
    known start _ compound c.describe.new.self n counted.0 d c.describe.result w.0 (ap Unmarked (c.without_prefix.ensures compound.prefix_len _ ∙ ap without_prefix c.position.ensures)) counted.1.0 counted.1.1.0 counted.1.1.1.0 counted.1.1.1.1 t.position t.resolved_kind t.count t.kept
