-- The decimals and uuids, which are binaries of fixed length under a marker (AMQP 1.0 part 1,
-- sections 1.6.13 to 1.6.15 and 1.6.18).
use Rattle.std.specs.Prelude.{◌≡◌, ◌≤◌, ℕ, List, ◌∷◌, Option, Some, true, length}
use Rattle.amqp_ser.specs.Tree.{Scalar, decimal32, decimal64, decimal128, uuid, binary, Tree, scalar}
use Rattle.amqp_ser.specs.Marked.{with_marker}
use Rattle.amqp_ser.specs.Ranged.{AreBytes, IsRangedScalar}
use Rattle.amqp_ser.specs.Scalars.{scalar_code, scalar_payload, scalar_form}
use Rattle.amqp_ser.specs.Writable.{scalar_fits}
use Rattle.amqp_size.specs.Position.{the_marker}
use Rattle.amqp_size.specs.declared.scalar_marker.ScalarMarker.{ScalarMarker}
use Rattle.amqp_size.specs.declared.scalar_marker.ScalarMarker.TheVariants as scalar_marker

-- The tree of a binary under this marker.
abbrev pub marked_bytes : ScalarMarker → List ℕ → Option Tree
marked_bytes m bs = with_marker (the_marker m) (Some (scalar (binary bs)))

-- The scalar that the marker makes of bytes of the right length.
abbrev pub exact_scalar : ScalarMarker → List ℕ → Scalar
exact_scalar scalar_marker.Decimal32 bs = decimal32 bs
exact_scalar scalar_marker.Decimal64 bs = decimal64 bs
exact_scalar scalar_marker.Decimal128 bs = decimal128 bs
exact_scalar scalar_marker.Uuid bs = uuid bs
exact_scalar m bs = binary bs

-- Under this marker, the bytes are a scalar of fixed width with this format code.
pub record IsExact (m : ScalarMarker) (bs : List ℕ) (code : ℕ) : Type 0 where
  pub marked : marked_bytes m bs ≡ Some (scalar (exact_scalar m bs))
  pub code_is : scalar_code (exact_scalar m bs) ≡ code
  pub form : scalar_form (exact_scalar m bs) ≡ code ∷ bs
  pub payload : scalar_payload (exact_scalar m bs) ≡ bs
  pub fits_it : scalar_fits (exact_scalar m bs) ≡ true
  pub short : length bs ≤ 16
  pub ranged : AreBytes bs → IsRangedScalar (exact_scalar m bs)
