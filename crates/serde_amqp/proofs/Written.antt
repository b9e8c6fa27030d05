-- Consecutive writes.
use Rattle.std.proofs.Common.{◌≡◌, ℕ, ◌+◌, ◌-◌, List, ◌++◌, Option, length, take, drop, sym, ap, ◌∙◌, subst}
use Rattle.std.proofs.Math.Seq.{take-add}
use Rattle.std.specs.Io.KnownBytes.{Appends}
use Rattle.std.proofs.KnownBytes.{Appends-trans}
use Rattle.amqp_frame.proofs.Primitive.{rest-is}

-- Writing n more bytes of a slice after its first `at` bytes writes its first `at + n` bytes.
pub writes-more : (a b c : Option (List ℕ)) (bytes : List ℕ) (at n : ℕ) → Appends a b (take at bytes) → Appends b c (take n (take (length bytes - at) (drop at bytes))) → Appends a c (take (at + n) bytes)
writes-more a b c bytes at n was now =
    let joined : take at bytes ++ take n (take (length bytes - at) (drop at bytes)) ≡ take (at + n) bytes = ap (λ l. take at bytes ++ take n l) (rest-is bytes at) ∙ sym (take-add at n bytes) in
    subst (Appends a c) joined (Appends-trans a b c _ _ was now)
