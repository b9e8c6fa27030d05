use Rattle.std.proofs.Common.{◌≡◌, true, [], ◌∷◌, ◌++◌, Ok, Err, sym, ◌∙◌, subst, append-nil, rules}
use Rattle.amqp_to_value.specs.declared.value_error.ValueError.TheVariants.{InvalidValue}
use Rattle.amqp_ser.specs.Carried.{descriptor_content}
use Rattle.amqp_ser.specs.Composites.{as_described, descriptor_of}
use Rattle.amqp_to_value.specs.PendingDescriptors.{standing}
use Rattle.amqp_to_value.specs.ValueSerializer.{IsSaved, meant_by, ValuePermits}
use Rattle.amqp_to_value.specs.ImageOf.{error_of, refuses}
use Rattle.amqp_to_value.proofs.AnswerLemmas.{kept_same, parted_again, saved_after}
use Rattle.amqp_to_value.proofs.DescriptorLemmas.{descriptor_answer, descriptor_refused, no_descriptor, permitted_before, same_descriptor}
use Rattle.amqp_to_value.proofs.serializer.SerializerSerializer.end_descriptor.Goals as goal

pub returns-in_err-part-clause-step : goal.returns-in_err-part-clause-step
returns-in_err-part-clause-step c = λ start before d h r.
    let e = c.in_err-part.field-0.0 in
    let answer = subst (λ x. ValuePermits before d x c.args.self.now) c.in_err-part.was r in
    let saved = saved_after start before c.args.self.now c.release.new.self c.args.self.now.capacity (Err e) h.2.2 answer.1 c.release.ensures.next
    (λ rest at. c.release.ensures.parted start.descriptors.kept (standing start.descriptors) rest at h.0) in
    let refused = descriptor_answer start before d (Err e) h.2 answer.0 in
    let same : c.from_residual.result ≡ Err e = search rules in
    rw same ((h.0, h.1, saved), λ t. (descriptor_refused start d (error_of e) refused t, saved))

pub returns-in_err-descriptor-clause-step : goal.returns-in_err-descriptor-clause-step
returns-in_err-descriptor-clause-step c = λ start before d h r.
    let v = c.in_ok-part.field-0 in
    let answer = subst (λ x. ValuePermits before d x c.args.self.now) c.in_ok-part.was r in
    let saved = saved_after start before c.args.self.now c.release.new.self c.args.self.now.capacity (Ok v) h.2.2 answer.1 c.release.ensures.next
    (λ rest at. c.release.ensures.parted start.descriptors.kept (standing start.descriptors) rest at h.0) in
    let represents = descriptor_answer start before d (Ok v) h.2 answer.0 in
    let none = c.in_err-descriptor.ensures in
    let same : c.from_residual-in_err-descriptor.result ≡ Err InvalidValue = search rules in
    rw same ((h.0, h.1, saved), λ t. (no_descriptor start d t (same_descriptor v d represents ∙ none.0), saved))

pub returns-in_err-compound-clause-step : goal.returns-in_err-compound-clause-step
returns-in_err-compound-clause-step c = λ start before d h r.
    let v = c.in_ok-part.field-0 in
    let e = c.in_err-compound.field-0.0 in
    let all = start.descriptors.kept ++ standing start.descriptors in
    let answer = subst (λ x. ValuePermits before d x c.args.self.now) c.in_ok-part.was r in
    let kept = kept_same all before c.args.self.now (Ok v) h.2.2 answer.1 in
    let rel = c.release.ensures.parted start.descriptors.kept (standing start.descriptors) _ (parted_again start c.args.self.now kept) h.0 in
    let after = c.in_err-compound.ensures start.descriptors.kept (standing start.descriptors) c.args.self.now.descriptors.later rel.0 rel.1 (c.release.ensures.next ∙ kept.0.1) h.0 in
    let saved : IsSaved start (record { alloc = c.args.self.now.alloc; pending = c.args.self.now.pending; descriptors = c.describe.new.self; capacity = c.args.self.now.capacity }) = (((kept.0.0, after.4), after.1), (after.2, after.3)) in
    let same : c.from_residual-in_err-compound.result ≡ Err e = search rules in
    rw same ((h.0, h.1, saved), λ t. (subst (λ x. refuses (error_of x) (meant_by start (as_described (descriptor_of d) t))) (sym after.0) tt, saved))

pub returns-clause-step : goal.returns-clause-step
returns-clause-step c = λ start before d h r.
    let v = c.in_ok-part.field-0 in
    let x = descriptor_content c.in_ok-descriptor.descriptor in
    let all = start.descriptors.kept ++ standing start.descriptors in
    let answer = subst (λ x. ValuePermits before d x c.args.self.now) c.in_ok-part.was r in
    let kept = kept_same all before c.args.self.now (Ok v) h.2.2 answer.1 in
    let represents = descriptor_answer start before d (Ok v) h.2 answer.0 in
    let rel = c.release.ensures.parted start.descriptors.kept (standing start.descriptors) _ (parted_again start c.args.self.now kept) h.0 in
    let after = c.in_ok-compound.ensures start.descriptors.kept (standing start.descriptors) c.args.self.now.descriptors.later rel.0 rel.1 (c.release.ensures.next ∙ kept.0.1) h.0 in
    let inner = c.describe-2.ensures start.pending h.1 in
    let is = same_descriptor v d represents ∙ c.in_ok-descriptor.ensures in (
      record {
        alloc = start.alloc;
        pending = inner.0;
        descriptors = record { kept = start.descriptors.kept; later = standing start.descriptors ++ (x ∷ []); next = true; room = 0 };
        capacity = start.capacity;
      },
      (
        (after.0, inner.1, (((kept.0.0, after.3), after.1), ([], after.2 ∙ sym (append-nil _)))),
        λ t r' after' p. permitted_before start inner.0 x d t r' after' is (inner.2 x t) p,
      ),
    )
