use Rattle.std.proofs.Common.{◌≡◌, Some, refl, ap, sym, ◌∙◌, subst}
use Rattle.amqp_ser.specs.Tree.{scalar}
use Rattle.amqp_ser.specs.Fixed.{fixed_scalar}
use Rattle.amqp_size.specs.Position.{position_of, meant, without_prefix}
use Rattle.amqp_size.specs.SizeSerializer.{AtPosition}
use Rattle.amqp_size.specs.State.{position_at, context_at}
use Rattle.amqp_size.specs.declared.serializer.SizeSerializer.{SizeSerializer}
use Rattle.amqp_size.specs.WholeContext.{Context}
use Rattle.amqp_size.specs.WholeContext.{Unmarked}
use Rattle.amqp_size.proofs.Fixed.{length-ordinary, length-payload, fixed_fits}
use Rattle.amqp_size.proofs.serializer.SizeSerializerSerializer.serialize_fixed.Goals as goal

pub returns-in-Unmarked-clause-answered : goal.returns-in-Unmarked-clause-answered
returns-in-Unmarked-clause-answered c =
    let v = c.args.fixed in
    let stood : c.args.self.now.context ≡ Unmarked (position_at c.in-Unmarked.position c.self.inside.prefix_len) = sym (ap (λ (s : SizeSerializer). s.context) c.self.view_is) ∙ ap (λ u. context_at u c.self.inside.prefix_len) c.in-Unmarked.is in
    let counted = c.size_at.ensures (c.clear_prefix.ensures ∙ ap (λ u. Unmarked (without_prefix (position_of u))) stood) (scalar (fixed_scalar v)) (ap Some (sym c.in_array-wide.ensures.code)) (fixed_fits v) refl refl refl
    (length-ordinary c.ordinary-ordinary.result v c.ordinary-ordinary.ensures.bytes) (length-payload c.in_array-wide.result v c.in_array-wide.ensures.payload) c.in_array-wide.ensures.ranged in
    subst (λ (u : Context). AtPosition (position_of u) (meant u (Some (scalar (fixed_scalar v)))) c.size_at.result c.size_at.new.self.context) (sym stood) counted
