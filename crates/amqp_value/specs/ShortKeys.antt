-- Keys whose hash reads few bytes.
use Rattle.std.specs.Prelude.{Bool, true, false, nat_le, length, string_bytes}
use Rattle.amqp_data.specs.Items.{byte_buf_bytes}
use Rattle.amqp_data.specs.Text.{symbol_text}
use Rattle.amqp_value.specs.declared.value.Value.{Value, out-Value}
use Rattle.amqp_value.specs.declared.value.Value.TheOpen.{Value-F}

-- The key is a scalar. A text has at most 256 bytes, and a binary value at most 32 (AMQP 1.0 part 1,
-- sections 1.6.19 to 1.6.21).
abbrev is_short_key_level : Value-F Value → Bool
is_short_key_level (Value-F.Binary bytes) = nat_le (length (byte_buf_bytes bytes)) 32
is_short_key_level (Value-F.String text) = nat_le (length (string_bytes text)) 256
is_short_key_level (Value-F.Symbol name) = nat_le (length (symbol_text name)) 256
is_short_key_level (Value-F.Described d) = false
is_short_key_level (Value-F.List values) = false
is_short_key_level (Value-F.Map entries) = false
is_short_key_level (Value-F.Array values) = false
is_short_key_level _ = true

abbrev pub is_short_key : Value → Bool
is_short_key key = is_short_key_level (out-Value key)
