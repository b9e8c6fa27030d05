-- The form of a tree outside an array, compared with its form in an array (AMQP 1.0 part 1,
-- sections 1.2 and 1.6.24).
use Rattle.std.specs.Prelude.{◌≡◌, ◌⊎◌, ◌≤◌, ℕ, List, ◌∷◌, length, Bool, true, false}
use Rattle.amqp_ser.specs.Tree.{Scalar, bool, uint, ulong, int, long, binary, string, symbol}

-- The form is the constructor and the payload, or it is shorter than these.
abbrev pub IsForm : ℕ → List ℕ → List ℕ → Type 0
IsForm constructor payload form = (form ≡ constructor ∷ payload) ⊎ (length form ≤ length payload)

-- Scalars of this type have only one form.
abbrev pub has_one_form : Scalar → Bool
has_one_form (bool b) = false
has_one_form (uint n) = false
has_one_form (ulong n) = false
has_one_form (int z) = false
has_one_form (long z) = false
has_one_form (binary bs) = false
has_one_form (string bs) = false
has_one_form (symbol bs) = false
has_one_form s = true
