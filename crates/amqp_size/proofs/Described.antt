-- A descriptor and the value after it.
use Rattle.std.proofs.Common.{◌≡◌, ℕ, ◌+◌, ◌<◌, Option, Some, None, Bool, true, false, ◌&&◌, Result, Ok, Err, length, refl, ap, sym, ◌∙◌, subst, arith, length-append, is_some}
use Rattle.amqp_size.specs.declared.size_error.SizeError.{SizeError}
use Rattle.amqp_size.specs.declared.size_error.SizeError.TheVariants as error
use Rattle.amqp_ser.specs.Tree.{Scalar, null, bool, ubyte, ushort, uint, ulong, byte, short, int, long, float, double, decimal32, decimal64, decimal128, char, timestamp, uuid, binary, string, symbol, Descriptor, name, code, Tree, scalar, list, array, map, described, variant, lazy, transparent}
use Rattle.amqp_ser.specs.Limits.{is_length}
use Rattle.amqp_ser.specs.Ranged.{IsRanged, IsRangedScalar, IsRangedDescriptor}
use Rattle.amqp_ser.specs.Scalars.{scalar_form}
use Rattle.amqp_ser.specs.Encoding.{encoding, descriptor_form}
use Rattle.amqp_ser.specs.Writable.{uniform_arrays, within_limits, scalar_fits, descriptor_fits}
use Rattle.amqp_ser.specs.Composites.{scalar_descriptor, descriptor_of, as_described}
use Rattle.amqp_ser.specs.Marked.{with_marker}
use Rattle.amqp_ser.specs.declared.marker.Marker.TheVariants as marker
use Rattle.amqp_size.specs.Refused.{refuses_none}
use Rattle.amqp_ser.proofs.Bools.{left_false, right_false, le_false, le_true, is_le}
use Rattle.amqp_size.specs.Position.{position_of, meant, without_prefix, base_position, suits, next, extent, within_limits_at, described_context, the_marker}
use Rattle.amqp_size.specs.SizeSerializer.{AtPosition, refused}
use Rattle.amqp_size.specs.AddPart.{Undescribed}
use Rattle.amqp_size.specs.declared.position.BasePosition.{BasePosition}
use Rattle.amqp_size.specs.declared.position.BasePosition.TheVariants as base
use Rattle.amqp_size.specs.WholePosition.{Position}
use Rattle.amqp_size.specs.WholePosition as position
use Rattle.amqp_size.specs.WholeContext.{Context}
use Rattle.amqp_size.specs.WholeContext as context
use Rattle.amqp_size.specs.declared.scalar_marker.ScalarMarker.{ScalarMarker}
use Rattle.amqp_size.specs.declared.scalar_marker.ScalarMarker.TheVariants as scalar_marker

-- The bytes and the limit of a descriptor are those of its scalar.
of_scalar : (s : Scalar) (x : Descriptor) → scalar_descriptor s ≡ Some x → (scalar_fits s ≡ descriptor_fits x) × (scalar_form s ≡ descriptor_form x)
of_scalar (ulong n) x h = let e : code n ≡ x = cc in (ap descriptor_fits e, ap descriptor_form e)
of_scalar (symbol bs) x h = let e : name bs ≡ x = cc in (ap descriptor_fits e, ap descriptor_form e)
of_scalar null x h = cc
of_scalar (bool b) x h = cc
of_scalar (ubyte n) x h = cc
of_scalar (ushort n) x h = cc
of_scalar (uint n) x h = cc
of_scalar (byte z) x h = cc
of_scalar (short z) x h = cc
of_scalar (int z) x h = cc
of_scalar (long z) x h = cc
of_scalar (float n) x h = cc
of_scalar (double n) x h = cc
of_scalar (decimal32 bs) x h = cc
of_scalar (decimal64 bs) x h = cc
of_scalar (decimal128 bs) x h = cc
of_scalar (char n) x h = cc
of_scalar (timestamp z) x h = cc
of_scalar (uuid bs) x h = cc
of_scalar (binary bs) x h = cc
of_scalar (string bs) x h = cc

-- The same for a tree that is a descriptor.
pub of_tree : (t : Tree) (x : Descriptor) → descriptor_of (Some t) ≡ Some x → (within_limits t ≡ descriptor_fits x) × ((encoding t ≡ descriptor_form x) × (uniform_arrays t ≡ true))
of_tree (scalar s) x h = let e = of_scalar s x h in (e.0, (e.1, refl))
of_tree (list ts) x h = cc
of_tree (array ts) x h = cc
of_tree (map ps) x h = cc
of_tree (described d t) x h = cc
of_tree (variant i t) x h = cc
of_tree (lazy bs) x h = cc
of_tree (transparent ts) x h = cc

-- A descriptor in range, by its scalar.
ranged_scalar : (s : Scalar) (x : Descriptor) → scalar_descriptor s ≡ Some x → IsRangedScalar s → IsRangedDescriptor x
ranged_scalar (ulong n) x h r = let e : code n ≡ x = cc in subst IsRangedDescriptor e r
ranged_scalar (symbol bs) x h r = let e : name bs ≡ x = cc in subst IsRangedDescriptor e r
ranged_scalar null x h r = cc
ranged_scalar (bool b) x h r = cc
ranged_scalar (ubyte n) x h r = cc
ranged_scalar (ushort n) x h r = cc
ranged_scalar (uint n) x h r = cc
ranged_scalar (byte z) x h r = cc
ranged_scalar (short z) x h r = cc
ranged_scalar (int z) x h r = cc
ranged_scalar (long z) x h r = cc
ranged_scalar (float n) x h r = cc
ranged_scalar (double n) x h r = cc
ranged_scalar (decimal32 bs) x h r = cc
ranged_scalar (decimal64 bs) x h r = cc
ranged_scalar (decimal128 bs) x h r = cc
ranged_scalar (char n) x h r = cc
ranged_scalar (timestamp z) x h r = cc
ranged_scalar (uuid bs) x h r = cc
ranged_scalar (binary bs) x h r = cc
ranged_scalar (string bs) x h r = cc

-- The same for a tree that is a descriptor.
ranged_tree : (t : Tree) (x : Descriptor) → descriptor_of (Some t) ≡ Some x → IsRanged t → IsRangedDescriptor x
ranged_tree (scalar s) x h r = ranged_scalar s x h r
ranged_tree (list ts) x h r = cc
ranged_tree (array ts) x h r = cc
ranged_tree (map ps) x h r = cc
ranged_tree (described d t) x h r = cc
ranged_tree (variant i t) x h r = cc
ranged_tree (lazy bs) x h r = cc
ranged_tree (transparent ts) x h r = cc

pub some_of : (o : Option Descriptor) → is_some o ≡ true → (x : Descriptor) × (o ≡ Some x)
some_of None h = cc
some_of (Some x) h = (x, refl)

-- A tree that is measured at the position of a descriptor is a descriptor within its limit and in
-- range.
pub counted_descriptor : (d : Option Tree) (n : ℕ) (after : Context) → AtPosition position.Descriptor d (Ok n) after →
    (x : Descriptor) × ((descriptor_of d ≡ Some x) × ((n ≡ length (descriptor_form x)) × ((descriptor_fits x ≡ true) × IsRangedDescriptor x)))
counted_descriptor None n after h = absurd h
counted_descriptor (Some t) n after h =
    let s = some_of (descriptor_of (Some t)) h.suited in
    let e = of_tree t s.0 s.1 in
    (s.0, (s.1, (h.len ∙ ap length e.1.0, (sym e.0 ∙ h.within_limits_it, ranged_tree t s.0 s.1 h.ranged))))

pub length-described : (x : Descriptor) (t : Tree) (n : ℕ) → n ≡ length (descriptor_form x) → length (encoding (described x t)) ≡ n + 1 + length (encoding t)
length-described x t n e = simp length-append (omega arith)

value_step : (p : Position) (k : ℕ) (b : BasePosition) (x : Descriptor) → without_prefix p ≡ base_position b → ((t : Tree) → within_limits_at (position.Value k b) t ≡ within_limits_at p (described x t)) → ((t : Tree) → suits (position.Value k b) t ≡ suits p (described x t)) →
    ((t : Tree) → suits p (described x t) ≡ true → extent (position.Value k b) t ≡ extent p (described x t)) → ((t : Tree) → next p (described x t) ≡ base_position b) → IsRangedDescriptor x →
    (t : Option Tree) (r : Result ℕ SizeError) (after : Context) → AtPosition (position.Value k b) t r after → AtPosition p (as_described (Some x) t) r after
value_step p k b x same limit fitting len then g None (Ok n) after h = absurd h
value_step p k b x same limit fitting len then g None (Err e) after h = (h.0, h.1 ∙ ap context.Unmarked (sym same))
value_step p k b x same limit fitting len then g (Some t) (Ok n) after h =
    let s = sym (fitting t) ∙ h.suited in
    record {
      within_limits_it = sym (limit t) ∙ h.within_limits_it;
      uniform_arrays_it = h.uniform_arrays_it;
      suited = s;
      len = h.len ∙ len t s;
      position = h.position ∙ ap context.Unmarked (sym (then t));
      ranged = (g, h.ranged);
    }
value_step p k b x same limit fitting len then g (Some t) (Err error.TooLong) after h = (sym (limit t) ∙ h.0, h.1 ∙ ap context.Unmarked (sym same))
value_step p k b x same limit fitting len then g (Some t) (Err error.InvalidValue) after h = (ap (λ s. uniform_arrays t && s) (sym (fitting t)) ∙ h.0, h.1 ∙ ap context.Unmarked (sym same))
value_step p k b x same limit fitting len then g (Some t) (Err e) after h = absurd h.0

-- The limits of a described value at a position.
nested : (a b f w : Bool) → f ≡ true → (a ≡ true → b ≡ true) → (a && w) ≡ (a && (b && (f && w)))
nested true b f w q r = sym (ap (λ x. x && (f && w)) (r refl) ∙ ap (λ x. x && w) q)
nested false b f w q r = refl

limit_after : (x : Descriptor) (n h : ℕ) → n ≡ length (descriptor_form x) → descriptor_fits x ≡ true → (t : Tree) →
    (is_length (h + (n + 1) + length (encoding t)) && within_limits t) ≡ (is_length (h + length (encoding (described x t))) && (is_length (length (encoding (described x t))) && (descriptor_fits x && within_limits t)))
limit_after x n h e f t =
    let len = length-described x t n e in
    let same : h + (n + 1) + length (encoding t) ≡ h + length (encoding (described x t)) = omega arith in
    ap (λ k. is_length k && within_limits t) same ∙
    nested (is_length (h + length (encoding (described x t)))) (is_length (length (encoding (described x t)))) (descriptor_fits x) (within_limits t) f
    (λ q. let l = is_le (h + length (encoding (described x t))) 18446744073709551615 q in le_true (length (encoding (described x t))) 18446744073709551615 (omega arith))

limit_here : (x : Descriptor) (n : ℕ) → n ≡ length (descriptor_form x) → descriptor_fits x ≡ true → (t : Tree) →
    (is_length (n + 1 + length (encoding t)) && within_limits t) ≡ (is_length (length (encoding (described x t))) && (descriptor_fits x && within_limits t))
limit_here x n e f t =
    ap (λ k. is_length k && within_limits t) (sym (length-described x t n e)) ∙ ap (λ b. is_length (length (encoding (described x t))) && (b && within_limits t)) (sym f)

never : false ≡ true → ⊥
never q = cc

pub no_scalar_described : (m : ScalarMarker) (x : Descriptor) (t : Option Tree) → with_marker (the_marker m) (as_described (Some x) t) ≡ None
no_scalar_described m x None = refl
no_scalar_described scalar_marker.Symbol x (Some t) = refl
no_scalar_described scalar_marker.Timestamp x (Some t) = refl
no_scalar_described scalar_marker.Decimal32 x (Some t) = refl
no_scalar_described scalar_marker.Decimal64 x (Some t) = refl
no_scalar_described scalar_marker.Decimal128 x (Some t) = refl
no_scalar_described scalar_marker.Uuid x (Some t) = refl
no_scalar_described scalar_marker.Lazy x (Some t) = refl

pub no_array_described : (x : Descriptor) (t : Option Tree) → with_marker marker.Array (as_described (Some x) t) ≡ None
no_array_described x None = refl
no_array_described x (Some t) = refl

pub no_transparent_described : (x : Descriptor) (t : Option Tree) → with_marker marker.Transparent (as_described (Some x) t) ≡ None
no_transparent_described x None = refl
no_transparent_described x (Some t) = refl

some_context : (u v : Context) → Some u ≡ Some v → v ≡ u
some_context u v q = cc

-- Equal pending positions permit the same results.
answered : (u v : Context) (t : Option Tree) (r : Result ℕ SizeError) (after : Context) → v ≡ u → AtPosition (position_of v) (meant v t) r after → AtPosition (position_of u) (meant u t) r after
answered u v t r after q h = subst (λ w. AtPosition (position_of w) (meant w t) r after) q h

-- A result that is permitted for the value is permitted for the described value.
pub described_step : (u v : Context) (n : ℕ) (x : Descriptor) → described_context u n ≡ Some v → n ≡ length (descriptor_form x) → descriptor_fits x ≡ true → IsRangedDescriptor x →
    (t : Option Tree) (r : Result ℕ SizeError) (after : Context) → AtPosition (position_of v) (meant v t) r after → AtPosition (position_of u) (meant u (as_described (Some x) t)) r after
described_step (context.Unmarked position.Root) v n x s e f g t r after h =
    value_step position.Root (n + 1) base.Root x refl (λ t. limit_here x n e f t) (λ t. refl) (λ t q. sym (length-described x t n e)) (λ t. refl) g t r after
    (answered (context.Unmarked (position.Value (n + 1) base.Root)) v t r after (some_context _ v s) h)
described_step (context.Unmarked position.InCompound) v n x s e f g t r after h =
    value_step position.InCompound (n + 1) base.InCompound x refl (λ t. limit_here x n e f t) (λ t. refl) (λ t q. sym (length-described x t n e)) (λ t. refl) g t r after
    (answered (context.Unmarked (position.Value (n + 1) base.InCompound)) v t r after (some_context _ v s) h)
described_step (context.Unmarked position.FirstElement) v n x s e f g t r after h =
    value_step position.FirstElement (n + 1) base.FirstElement x refl (λ t. limit_here x n e f t) (λ t. refl) (λ t q. absurd (never q)) (λ t. refl) g t r after
    (answered (context.Unmarked (position.Value (n + 1) base.FirstElement)) v t r after (some_context _ v s) h)
described_step (context.Unmarked (position.OtherElement c)) v n x s e f g t r after h =
    value_step (position.OtherElement c) (n + 1) (base.OtherElement c) x refl (λ t. limit_here x n e f t) (λ t. refl) (λ t q. absurd (never q)) (λ t. refl) g t r after
    (answered (context.Unmarked (position.Value (n + 1) (base.OtherElement c))) v t r after (some_context _ v s) h)
described_step (context.Unmarked position.Descriptor) v n x s e f g t r after h = cc
described_step (context.Unmarked (position.Value k b)) v n x s e f g t r after h =
    value_step (position.Value k b) (k + (n + 1)) b x refl (λ t. limit_after x n k e f t) (λ t. refl)
    (λ t q. let len = length-described x t n e in omega arith) (λ t. refl) g t r after
    (answered (context.Unmarked (position.Value (k + (n + 1)) b)) v t r after (some_context _ v s) h)
described_step (context.Array p) v n x s e f g t r after h =
    subst (λ o. AtPosition p o r after) (sym (no_array_described x t)) (answered (context.Nothing p) v t r after (some_context _ v s) h)
described_step (context.Transparent p) v n x s e f g t r after h =
    subst (λ o. AtPosition p o r after) (sym (no_transparent_described x t)) (answered (context.Nothing p) v t r after (some_context _ v s) h)
described_step (context.Scalar m p) v n x s e f g t r after h =
    subst (λ o. AtPosition p o r after) (sym (no_scalar_described m x t)) (answered (context.Nothing p) v t r after (some_context _ v s) h)
described_step (context.Nothing p) v n x s e f g t r after h = answered (context.Nothing p) v t r after (some_context _ v s) h

-- After the value, the serializer is at the position of the described value.
pub described_rest : (u v : Context) (n : ℕ) → described_context u n ≡ Some v → without_prefix (position_of u) ≡ without_prefix (position_of v)
described_rest (context.Unmarked position.Root) v n s = sym (ap (λ w. without_prefix (position_of w)) (some_context _ v s))
described_rest (context.Unmarked position.InCompound) v n s = sym (ap (λ w. without_prefix (position_of w)) (some_context _ v s))
described_rest (context.Unmarked position.FirstElement) v n s = sym (ap (λ w. without_prefix (position_of w)) (some_context _ v s))
described_rest (context.Unmarked (position.OtherElement c)) v n s = sym (ap (λ w. without_prefix (position_of w)) (some_context _ v s))
described_rest (context.Unmarked position.Descriptor) v n s = cc
described_rest (context.Unmarked (position.Value k b)) v n s = sym (ap (λ w. without_prefix (position_of w)) (some_context _ v s))
described_rest (context.Array p) v n s = sym (ap (λ w. without_prefix (position_of w)) (some_context _ v s))
described_rest (context.Transparent p) v n s = sym (ap (λ w. without_prefix (position_of w)) (some_context _ v s))
described_rest (context.Scalar m p) v n s = sym (ap (λ w. without_prefix (position_of w)) (some_context _ v s))
described_rest (context.Nothing p) v n s = sym (ap (λ w. without_prefix (position_of w)) (some_context _ v s))

-- No value is accepted after a descriptor that exceeds the limit, and a described value is not a
-- descriptor.
past_here : (x : Descriptor) (n : ℕ) → n ≡ length (descriptor_form x) → 18446744073709551615 < 0 + (n + 1) → (t : Tree) → within_limits (described x t) ≡ false
past_here x n e h t =
    let len = length-described x t n e in
    left_false (is_length (length (encoding (described x t)))) (descriptor_fits x && within_limits t) (le_false (length (encoding (described x t))) 18446744073709551615 (omega arith))

past_after : (k : ℕ) (b : BasePosition) (x : Descriptor) (n : ℕ) → n ≡ length (descriptor_form x) → 18446744073709551615 < k + (n + 1) → (t : Tree) → within_limits_at (position.Value k b) (described x t) ≡ false
past_after k b x n e h t =
    let len = length-described x t n e in
    left_false (is_length (k + length (encoding (described x t)))) (within_limits (described x t)) (le_false (k + length (encoding (described x t))) 18446744073709551615 (omega arith))

too_long : (p : Position) (x : Descriptor) → ((t : Tree) → within_limits_at p (described x t) ≡ false) → (t : Option Tree) (e : SizeError) → e ≡ error.TooLong → AtPosition p (as_described (Some x) t) (Err e) (context.Unmarked (without_prefix p))
too_long p x h None e q = (subst refuses_none (sym q) tt, refl)
too_long p x h (Some t) e q = (subst (λ y. refused p (described x t) y) (sym q) (h t), refl)

pub no_nested : (x : Descriptor) (t : Option Tree) (e : SizeError) → e ≡ error.InvalidValue → AtPosition position.Descriptor (as_described (Some x) t) (Err e) (context.Unmarked position.Descriptor)
no_nested x None e q = (subst refuses_none (sym q) tt, refl)
no_nested x (Some t) e q = (subst (λ y. refused position.Descriptor (described x t) y) (sym q) (right_false (uniform_arrays t) false refl), refl)

pub described_refusal : (u : Context) (n : ℕ) (x : Descriptor) (e : SizeError) → Undescribed u n e → n ≡ length (descriptor_form x) → (t : Option Tree) → AtPosition (position_of u) (meant u (as_described (Some x) t)) (Err e) (context.Unmarked (without_prefix (position_of u)))
described_refusal (context.Unmarked position.Root) n x e h l t = too_long position.Root x (past_here x n l h.1) t e h.0
described_refusal (context.Unmarked position.InCompound) n x e h l t = too_long position.InCompound x (past_here x n l h.1) t e h.0
described_refusal (context.Unmarked position.FirstElement) n x e h l t = too_long position.FirstElement x (past_here x n l h.1) t e h.0
described_refusal (context.Unmarked (position.OtherElement c)) n x e h l t = too_long (position.OtherElement c) x (past_here x n l h.1) t e h.0
described_refusal (context.Unmarked position.Descriptor) n x e h l t = no_nested x t e h
described_refusal (context.Unmarked (position.Value k b)) n x e h l t = too_long (position.Value k b) x (past_after k b x n l h.1) t e h.0
described_refusal (context.Array p) n x e h l t = absurd h
described_refusal (context.Transparent p) n x e h l t = absurd h
described_refusal (context.Scalar m p) n x e h l t = absurd h
described_refusal (context.Nothing p) n x e h l t = absurd h
