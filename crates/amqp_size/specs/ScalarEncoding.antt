-- A format code and the bytes of a number after it.
use Rattle.std.specs.Prelude.{ℕ, List, ◌∷◌}
use Rattle.std.specs.Int.{bytes_high_first}
use Rattle.amqp_size.specs.declared.scalar_encoding.ScalarEncoding.{ScalarEncoding}

-- The bytes after the code: the low bytes of `bits`, in big-endian order.
abbrev pub form_payload : ScalarEncoding → List ℕ
form_payload f = bytes_high_first f.width f.bits

abbrev pub form_bytes : ScalarEncoding → List ℕ
form_bytes f = f.code ∷ form_payload f
