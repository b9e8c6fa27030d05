use Rattle.std.proofs.Common.{◌≡◌, ◌≤◌, [], ◌∷◌, ◌++◌, Ok, Err, length, ap, sym, ◌∙◌, subst, rules}
use Rattle.amqp_value.specs.Image.{image}
use Rattle.amqp_to_value.specs.PendingDescriptors.{standing}
use Rattle.amqp_to_value.specs.ValueSerializer.{HasParts, IsReady, ValuePermits}
use Rattle.amqp_to_value.specs.declared.open_value.OpenBody.TheVariants as body
use Rattle.amqp_to_value.proofs.AnswerLemmas.{aside_again, saved_after}
use Rattle.amqp_to_value.proofs.ValueSerializerLemmas.{part_left, part_taken, unmarked_answer}
use Rattle.amqp_to_value.proofs.PartLemmas.{single_taken, left_by_refusal, part_refused, second_part, represents}
use Rattle.amqp_to_value.proofs.serializer.SerializerSerializer.end_part.Goals as goal

pub returns-in_err-value-clause-step : goal.returns-in_err-value-clause-step
returns-in_err-value-clause-step c = λ start kind before ps p h r.
    let e = c.in_err-value.field-0.0 in
    let answer = subst (λ x. ValuePermits before p x c.args.self.now) c.in_err-value.was r in
    let left = left_by_refusal start before c.args.self.now c.args.compound.now.body e h.2 answer.1 in
    let saved = aside_again start c.args.self.now c.release.new.self c.args.self.now.capacity left.1 left.0 c.release.ensures.next
    (c.release.ensures.parted start.descriptors.kept (standing start.descriptors) (standing start.descriptors ++ left.1) left.2 h.0) in
    let refused = part_refused start before (record { alloc = c.args.self.now.alloc; pending = c.args.self.now.pending; descriptors = c.release.new.self; capacity = c.args.self.now.capacity }) kind c.args.compound.now.body ps p e h.1 h.2 answer.0 saved in
    let same : c.from_residual.result ≡ Err e = search rules in
    rw same ((h.0, h.1, refused.0), refused.1)

pub returns-in_err-unwrap-in-None-clause-step : goal.returns-in_err-unwrap-in-None-clause-step
returns-in_err-unwrap-in-None-clause-step c = λ start kind before ps p h r.
    let is = c.in-Single.is ∙ ap (body.Single c.in-Single.field-0) c.in-None.is in
    let s = represents start before c.args.self.now c.in-Single.field-0 p c.in_ok-value.value (subst (IsReady start before) is h.2)
    (subst (λ x. ValuePermits before p x c.args.self.now) c.in_ok-value.was r) in
    let rel = c.release.ensures.parted start.descriptors.kept (standing start.descriptors) c.args.self.now.descriptors.later (ap (λ ds. ds ++ c.args.self.now.descriptors.later) s.others) h.0 in
    absurd (c.in_err-unwrap-in-None.ensures start.descriptors.kept (standing start.descriptors) (image s.read) rel.0 (c.release.ensures.next ∙ s.none) h.0
    (subst (λ n. length (start.descriptors.kept ++ standing start.descriptors) ≤ n) (sym c.release.ensures.room) s.room) s.within)

pub returns-in_ok-unwrap-in-None-clause-step : goal.returns-in_ok-unwrap-in-None-clause-step
returns-in_ok-unwrap-in-None-clause-step c = λ start kind before ps p h r.
    let is = c.in-Single.is ∙ ap (body.Single c.in-Single.field-0) c.in-None.is in
    let answer = subst (λ x. ValuePermits before p x c.args.self.now) c.in_ok-value.was r in
    let s = represents start before c.args.self.now c.in-Single.field-0 p c.in_ok-value.value (subst (IsReady start before) is h.2) answer in
    let rel = c.release.ensures.parted start.descriptors.kept (standing start.descriptors) c.args.self.now.descriptors.later (ap (λ ds. ds ++ c.args.self.now.descriptors.later) s.others) h.0 in
    let taken = single_taken start (record { alloc = c.args.self.now.alloc; pending = c.args.self.now.pending; descriptors = c.unwrap.new.self; capacity = c.args.self.now.capacity }) kind c.in-Single.field-0
    c.in_ok-unwrap-in-None.field-0 ps p s.tree s.read (subst (λ b. HasParts start.pending kind b ps) is h.1) s.means s.opened answer.1.0.0.0
    (c.in_ok-unwrap-in-None.ensures start.descriptors.kept (standing start.descriptors) (image s.read) rel.0 (c.release.ensures.next ∙ s.none) h.0
    (subst (λ n. length (start.descriptors.kept ++ standing start.descriptors) ≤ n) (sym c.release.ensures.room) s.room) s.within) in
    (h.0, subst (λ o. HasParts start.pending kind (body.Single c.in-Single.field-0 o) (ps ++ (p ∷ []))) (sym c.set_first.ensures) taken.0, taken.1)

pub returns-in-Some-clause-step : goal.returns-in-Some-clause-step
returns-in-Some-clause-step c = λ start kind before ps p h r.
    let is = c.in-Single.is ∙ ap (body.Single c.in-Single.field-0) c.in-Some.is in
    let has = subst (λ b. HasParts start.pending kind b ps) is h.1 in
    let ready = subst (IsReady start before) is h.2 in
    let answer = subst (λ x. ValuePermits before p x c.args.self.now) c.in_ok-value.was r in
    let saved = saved_after start before c.args.self.now c.release.new.self c.args.self.now.capacity (Ok c.in_ok-value.value) ready.1 answer.1 c.release.ensures.next
    (λ rest at. c.release.ensures.parted start.descriptors.kept (standing start.descriptors) rest at h.0) in
    let second = second_part start (record { alloc = c.args.self.now.alloc; pending = c.args.self.now.pending; descriptors = c.release.new.self; capacity = c.args.self.now.capacity }) kind c.in-Single.field-0 _ ps p has saved in
    ((h.0, subst (λ b. HasParts start.pending kind b ps) c.in-Single.is h.1, second.0), second.1)

pub returns-in-Ok-clause-step : goal.returns-in-Ok-clause-step
returns-in-Ok-clause-step c = λ start kind before ps p h r.
    let has = subst (λ b. HasParts start.pending kind b ps) c.in-CollectedParts.is h.1 in
    let ready = subst (IsReady start before) c.in-CollectedParts.is h.2 in
    let answer = subst (λ x. ValuePermits before p x c.args.self.now) c.in_ok-value.was r in
    let saved = saved_after start before c.args.self.now c.release.new.self c.add_part.new.capacity (Ok c.in_ok-value.value) ready.1 answer.1 c.release.ensures.next
    (λ rest at. c.release.ensures.parted start.descriptors.kept (standing start.descriptors) rest at h.0) in (
      h.0,
      (
        has.0,
        part_taken start.pending kind c.in-CollectedParts.parts _ ps has.1 c.add_part.ensures.makes p c.in_ok-value.value
            (unmarked_answer before _ p (Ok c.in_ok-value.value) ready answer.0) c.in-Ok.ensures.step,
      ),
      saved,
    )

pub returns-in-Err-clause-step : goal.returns-in-Err-clause-step
returns-in-Err-clause-step c = λ start kind before ps p h r.
    let has = subst (λ b. HasParts start.pending kind b ps) c.in-CollectedParts.is h.1 in
    let ready = subst (IsReady start before) c.in-CollectedParts.is h.2 in
    let answer = subst (λ x. ValuePermits before p x c.args.self.now) c.in_ok-value.was r in
    let saved = saved_after start before c.args.self.now c.release.new.self c.add_part.new.capacity (Ok c.in_ok-value.value) ready.1 answer.1 c.release.ensures.next
    (λ rest at. c.release.ensures.parted start.descriptors.kept (standing start.descriptors) rest at h.0) in (
      (
        h.0,
        (
          has.0,
          part_left start.pending kind c.in-CollectedParts.parts _ ps has.1 c.add_part.ensures.makes p c.in_ok-value.value
              (unmarked_answer before _ p (Ok c.in_ok-value.value) ready answer.0) c.in-Err.ensures.step,
        ),
        saved,
      ),
      λ rest. (tt, saved),
    )
