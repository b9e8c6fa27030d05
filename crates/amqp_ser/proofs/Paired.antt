-- The names and values of fields, in alternation, are an even number of parts.
use Rattle.std.proofs.Common.{◌≡◌, ℕ, List, [], ◌∷◌, Option, Bool, true, false, not, refl, ap, if◌then◌else◌}
use Rattle.amqp_ser.specs.Tree.{Tree}
use Rattle.amqp_ser.specs.Compounds.{paired}
use Rattle.amqp_ser.specs.Named.{named_parts}

with_entry : (b : Bool) (k t : Option Tree) (ps : List (Option Tree)) → paired ps ≡ true → paired (if b then k ∷ t ∷ ps else ps) ≡ true
with_entry true k t ps h = ap (λ b. not (not b)) h
with_entry false k t ps h = h

pub paired_entries : (key : List ℕ → Option Tree) (fs : List (List ℕ × (Bool × Option Tree))) → paired (named_parts key fs) ≡ true
paired_entries key [] = refl
paired_entries key (f ∷ fs) = with_entry f.1.0 (key f.0) f.1.1 (named_parts key fs) (paired_entries key fs)
