-- The results that are permitted for a tree, or for none: an untyped value whose tree is the image,
-- with each lazy tree replaced by the value that its bytes encode.
use Rattle.std.specs.Prelude.{◌≡◌, Option, Some, None, Result, Ok, Err}
use Rattle.amqp_data.specs.declared.error.Error.{Error}
use Rattle.amqp_data.specs.declared.error.Error.TheVariants as error
use Rattle.amqp_ser.specs.Tree.{Tree}
use Rattle.amqp_value.specs.Image.{image}
use Rattle.amqp_value.specs.TreeOf.{tree_of}
use Rattle.amqp_value.specs.declared.value.Value.{Value}
use Rattle.amqp_to_value.specs.Opened.{Opened, IsUnreadable}
use Rattle.amqp_to_value.specs.declared.value_error.ValueError.{ValueError}
use Rattle.amqp_to_value.specs.declared.value_error.ValueError.TheVariants as value_error

-- The value represents the tree: its tree is the image, after the lazy trees are read.
abbrev pub Represents : Value → Option Tree → Type 0
Represents v None = ⊥
Represents v (Some t) = (u : Tree) × Opened t u × (tree_of v ≡ image u)

-- The errors of a value or of the bytes of a lazy tree: an invalid value, an invalid format code,
-- or an unexpected end of the bytes.
abbrev pub IsFault : Error → Type 0
IsFault error.InvalidValue = Unit {0}
IsFault error.InvalidFormatCode = Unit {0}
IsFault error.UnexpectedEof = Unit {0}
IsFault e = ⊥

-- Out of memory is permitted for any tree. A fault is permitted if there is no tree, or if a lazy
-- tree encodes no value. No other error is permitted.
abbrev pub refuses : Error → Option Tree → Type 0
refuses error.OutOfMemory t = Unit {0}
refuses e None = IsFault e
refuses e (Some t) = IsFault e × IsUnreadable t

-- The result is a value that represents the tree, or a permitted error.
abbrev pub IsImageOf : Option Tree → Result Value Error → Type 0
IsImageOf t (Ok v) = Represents v t
IsImageOf t (Err e) = refuses e t

-- The error as which public functions return it.
abbrev pub error_of : ValueError → Error
error_of value_error.OutOfMemory = error.OutOfMemory
error_of value_error.InvalidValue = error.InvalidValue
error_of (value_error.Padding a b) = error.InvalidValue
error_of value_error.InvalidFormatCode = error.InvalidFormatCode
error_of value_error.UnexpectedEof = error.UnexpectedEof

-- Like `IsImageOf`, for a result of the serializer.
abbrev pub Answers : Option Tree → Result Value ValueError → Type 0
Answers t (Ok v) = Represents v t
Answers t (Err e) = refuses (error_of e) t
