use Rattle.std.proofs.Common.{ℕ, List, Ok, Err, arith}
use Rattle.amqp_frame.proofs.Ends.{decided, kept, endless}
use Rattle.amqp_frame.proofs.lazy.LazyValue.from_reader.Goals as goal

pub returns-in-Ok-clause-exact : goal.returns-in-Ok-clause-exact
returns-in-Ok-clause-exact g c = decided (Ok c.in-Ok.bytes) (λ v. v) _ _ 0 0 c.in-Ok.ensures.encoded tt

pub returns-in-Err-clause-exact : goal.returns-in-Err-clause-exact
returns-in-Err-clause-exact g c = decided (Err c.in-Err.error) (λ v. v) _ _ _ _ tt (endless {T = List ℕ} _ _ _ _ _ _ (omega arith) c.in-Err.ensures.bound c.in-Err.ensures.refused)

pub returns-in-Err-clause-kept : goal.returns-in-Err-clause-kept
returns-in-Err-clause-kept g c = kept {T = List ℕ} (Err c.in-Err.error) _ _ _ _ (endless {T = List ℕ} _ _ _ _ _ _ (omega arith) c.in-Err.ensures.bound c.in-Err.ensures.refused)
