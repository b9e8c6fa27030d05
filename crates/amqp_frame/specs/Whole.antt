-- A test of whether bytes are exactly one encoded value: true if and only if `IsEncodedValue` holds for
-- them (AMQP 1.0 part 1, sections 1.2 to 1.2.4).
use Rattle.std.specs.Prelude.{ℕ, zero, suc, Bool, true, false, ◌&&◌, ◌==◌, if◌then◌else◌, List, [], ◌∷◌}
use Rattle.amqp_frame.specs.Code.{is_primitive_code, category, payload_len}

-- true if the list is the given number of payload bytes, then the given number of encoded values;
-- the code 00 replaces one expected value by two, a descriptor and a value
abbrev pub ends : ℕ → ℕ → List ℕ → Bool
ends zero zero [] = true
ends zero zero (b ∷ bs) = false
ends values (suc bytes) [] = false
ends values (suc bytes) (b ∷ bs) = ends values bytes bs
ends (suc values) zero [] = false
ends (suc values) zero (code ∷ bs) =
    if code == 0 then ends (suc (suc values)) 0 bs
    else is_primitive_code code && ends values (payload_len (category code) bs) bs

unfoldable pub is_encoded_value : List ℕ → Bool
is_encoded_value bytes = ends 1 0 bytes
