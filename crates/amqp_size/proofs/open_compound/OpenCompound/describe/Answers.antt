use Rattle.std.proofs.Common.{◌≡◌, refl, sym, ap, ◌∙◌, subst, arith}
use Rattle.amqp_size.specs.declared.size_error.SizeError.TheVariants as error
use Rattle.amqp_size.specs.State.{position_at, context_at}
use Rattle.amqp_size.specs.AddPart.{Undescribed}
use Rattle.amqp_size.specs.WholeContext.{Unmarked}
use Rattle.amqp_size.specs.declared.open_compound.OpenCompound.{OpenCompound}
use Rattle.amqp_size.proofs.DescribedLemmas.{too_long}
use Rattle.amqp_size.proofs.open_compound.OpenCompound.describe.Goals as goal

pub returns-then-size-prefix_len-clause-kept : goal.returns-then-size-prefix_len-clause-kept
returns-then-size-prefix_len-clause-kept c =
    let h = c.self.inside.prefix_len in
    let p = position_at c.in-Unmarked.position h in
    let stood : c.args.self.now.inner_context ≡ Unmarked p = sym (ap (λ (o : OpenCompound). o.inner_context) c.self.view_is) ∙ ap (λ u. context_at u h) c.in-Unmarked.is in
    let prefix_len = c.prefix_len-prefix_len.ensures in
    let past = c.if-size-prefix_len.true in
    (refl, subst (λ u. Undescribed u c.args.size error.TooLong) (sym stood) (too_long p _ c.args.size (c.in-Ok.ensures h c.args.size) (omega arith)))
