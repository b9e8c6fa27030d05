-- The elements of the types that contain a list, in order.
use Rattle.std.specs.Prelude.{ℕ, List}
use Rattle.amqp_data.specs.declared.array.Array.{Array}
use Rattle.amqp_data.specs.declared.byte_buf.ByteBuf.{ByteBuf}
use Rattle.amqp_data.specs.declared.transparent_vec.TransparentVec.{TransparentVec}

-- the bytes of a binary
abbrev pub byte_buf_bytes : ByteBuf → List ℕ
byte_buf_bytes bytes = bytes.0.items

-- the elements of an array
abbrev pub array_items : {T : Type 0} → Array T → List T
array_items array = array.0.items

-- the elements of a transparent vector
abbrev pub transparent_items : {T : Type 0} → TransparentVec T → List T
transparent_items vector = vector.0.items
