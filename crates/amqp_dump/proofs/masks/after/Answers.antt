use Rattle.amqp_dump.proofs.Entries.{mask_pushed, mask_ended, mask_short}
use Rattle.amqp_dump.proofs.masks.after.Goals as goal

pub loop-is_match-preserved : goal.loop-is_match-preserved
loop-is_match-preserved c =
    mask_pushed _ _ _ _ _ _ _ _ _ _ _ _ (c.in-Some.ensures.cases.0) (c.in-Some-split_first.ensures.cases.0)
    c.in_ok-push-2.ensures.items c.loop-is_match.invariant

pub returns-in_default-split_first : goal.returns-in_default-split_first
returns-in_default-split_first c = record {
  mask = mask_short _ _ _ _ _ _ _ _ _ _ (c.in-Some.ensures.cases.0) c.in_default-split_first.ensures.cases
      c.in_ok-push.ensures.items c.loop-is_match.invariant;
}

pub returns : goal.returns
returns c = record {
  mask = mask_ended _ _ _ _ _ _ _ _ c.in_default.ensures.cases c.in_ok-push-3.ensures.items c.loop-is_match.invariant;
}
