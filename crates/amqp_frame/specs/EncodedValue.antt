-- The grammar of encoded values, over complete byte strings (AMQP 1.0 part 1, sections 1.2 to
-- 1.2.4).
use Rattle.std.specs.Prelude.{◌≡◌, ℕ, ◌<◌, ◌⊎◌, IsTrue, IsFalse, List, [], ◌∷◌, ◌++◌, length}
use Rattle.amqp_frame.specs.Code.{is_primitive_code, category, payload_len}

-- one encoded value: a primitive code with the payload of its category (sections 1.2.1 to 1.2.4),
-- or 00 with two encoded values, the descriptor and the value (section 1.2)
pub data IsEncodedValue : List ℕ → Type 0 where
  primitive : (code : ℕ) (payload : List ℕ) → IsTrue (is_primitive_code code)
      → length payload ≡ payload_len (category code) payload → IsEncodedValue (code ∷ payload)
  described : (descriptor value : List ℕ) → IsEncodedValue descriptor → IsEncodedValue value → IsEncodedValue (0 ∷ descriptor ++ value)

-- incomplete: not yet an encoded value, but more bytes can complete it (sections 1.2.1 to 1.2.4)
pub data IsIncomplete : List ℕ → Type 0 where
  nothing : IsIncomplete []
  short : (code : ℕ) (payload : List ℕ) → IsTrue (is_primitive_code code)
      → length payload < payload_len (category code) payload → IsIncomplete (code ∷ payload)
  in_descriptor : (bytes : List ℕ) → IsIncomplete bytes → IsIncomplete (0 ∷ bytes)
  in_value : (descriptor bytes : List ℕ) → IsEncodedValue descriptor → IsIncomplete bytes
      → IsIncomplete (0 ∷ descriptor ++ bytes)

-- malformed: the last byte is an invalid code in the position where a value begins (section 1.2)
pub data IsMalformed : List ℕ → Type 0 where
  refused : (code : ℕ) → 0 < code → IsFalse (is_primitive_code code) → IsMalformed (code ∷ [])
  in_descriptor : (bytes : List ℕ) → IsMalformed bytes → IsMalformed (0 ∷ bytes)
  in_value : (descriptor bytes : List ℕ) → IsEncodedValue descriptor → IsMalformed bytes
      → IsMalformed (0 ∷ descriptor ++ bytes)

-- a prefix of the bytes is an encoded value
abbrev pub HasEncodedValue : List ℕ → Type 0
HasEncodedValue s = (prefix rest : List ℕ) × IsEncodedValue prefix × (s ≡ prefix ++ rest)

-- a prefix of the bytes is malformed
abbrev pub HasMalformed : List ℕ → Type 0
HasMalformed s = (prefix rest : List ℕ) × IsMalformed prefix × (s ≡ prefix ++ rest)

-- exactly one of the three holds
abbrev pub ExactlyOne : Type 0 → Type 0 → Type 0 → Type 0
ExactlyOne A B C = (A × ¬ B × ¬ C) ⊎ ((¬ A × B × ¬ C) ⊎ (¬ A × ¬ B × C))
