-- The scalar of a value of fixed width (AMQP 1.0 part 1, section 1.6).
use Rattle.amqp_ser.specs.Tree.{Scalar, null, bool, ubyte, ushort, uint, ulong, byte, short, int, long, float, double, char}
use Rattle.amqp_ser.specs.declared.fixed.Fixed.{Fixed}
use Rattle.amqp_ser.specs.declared.fixed.Fixed.TheVariants as fixed

abbrev pub fixed_scalar : Fixed → Scalar
fixed_scalar fixed.Null = null
fixed_scalar (fixed.Bool b) = bool b
fixed_scalar (fixed.Ubyte n) = ubyte n
fixed_scalar (fixed.Ushort n) = ushort n
fixed_scalar (fixed.Uint n) = uint n
fixed_scalar (fixed.Ulong n) = ulong n
fixed_scalar (fixed.Byte z) = byte z
fixed_scalar (fixed.Short z) = short z
fixed_scalar (fixed.Int z) = int z
fixed_scalar (fixed.Long z) = long z
fixed_scalar (fixed.Float n) = float n
fixed_scalar (fixed.Double n) = double n
fixed_scalar (fixed.Char c) = char c
