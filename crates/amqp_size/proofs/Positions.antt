-- What positions require of a tree, and what an error at a position says about it.
use Rattle.std.proofs.Common.{◌≡◌, ℕ, ◌+◌, Option, Some, None, Bool, true, false, Err, length, refl, ◌∙◌, is_some}
use Rattle.amqp_size.specs.declared.size_error.SizeError.{SizeError}
use Rattle.amqp_size.specs.declared.size_error.SizeError.TheVariants as error
use Rattle.amqp_ser.specs.Tree.{Tree, Trees, scalar, list, array, map, described, variant, lazy, transparent, no_trees, more}
use Rattle.amqp_ser.specs.Limits.{is_length}
use Rattle.amqp_ser.specs.Encoding.{encoding, constructor}
use Rattle.amqp_ser.specs.Writable.{same_constructor, within_limits, inside, placed}
use Rattle.amqp_ser.specs.Composites.{descriptor_of}
use Rattle.amqp_size.specs.Refused.{refuses_none}
use Rattle.amqp_ser.proofs.Bools.{right_false}
use Rattle.amqp_size.specs.Position.{meant, without_prefix, suits, element, form, extent, within_limits_at, takes_described, is_gathered, limit_of}
use Rattle.amqp_size.specs.SizeSerializer.{AtPosition, refused, inner_position_of}
use Rattle.amqp_size.specs.WholePosition.{Position}
use Rattle.amqp_size.specs.WholePosition.{Root, InCompound, FirstElement, OtherElement, Descriptor, Value}
use Rattle.amqp_size.specs.WholeContext.{Context}
use Rattle.amqp_size.specs.WholeContext as context
use Rattle.amqp_size.specs.declared.resolved_kind.ResolvedKind.{ResolvedKind}
use Rattle.amqp_size.specs.declared.resolved_kind.ResolvedKind.TheVariants as resolved_kind

-- A tree that exceeds a limit exceeds it at every position.
pub long_at : (p : Position) (t : Tree) → within_limits t ≡ false → within_limits_at p t ≡ false
long_at Root t h = h
long_at InCompound t h = h
long_at FirstElement t h = h
long_at (OtherElement c) t h = h
long_at Descriptor t h = h
long_at (Value n b) t h = right_false (is_length (n + length (encoding t))) (within_limits t) h

pub no_descriptor : (t : Tree) → inside t ≡ false → is_some (descriptor_of (Some t)) ≡ false
no_descriptor (scalar s) h = cc
no_descriptor (list ts) h = refl
no_descriptor (array ts) h = refl
no_descriptor (map ps) h = refl
no_descriptor (described d t) h = refl
no_descriptor (variant i t) h = refl
no_descriptor (lazy bs) h = refl
no_descriptor (transparent ts) h = refl

-- Only the root accepts a tree with something transparent inside.
pub not_inside : (p : Position) (t : Tree) → placed t ≡ inside t → inside t ≡ false → suits p t ≡ false
not_inside Root t e h = e ∙ h
not_inside InCompound t e h = h
not_inside FirstElement t e h = right_false (is_some (constructor t)) (inside t) h
not_inside (OtherElement c) t e h = right_false (same_constructor (Some c) (constructor t)) (inside t) h
not_inside Descriptor t e h = no_descriptor t h
not_inside (Value n b) t e h = right_false (takes_described b) (inside t) h

-- The positions of parts are not after descriptors.
within_element : (o : Option ℕ) (t : Tree) → within_limits_at (element o) t ≡ within_limits t
within_element None t = refl
within_element (Some c) t = refl

pub within_inner : (arr : Bool) (ts : Trees) (t : Tree) → within_limits_at (inner_position_of arr ts) t ≡ within_limits t
within_inner false ts t = refl
within_inner true no_trees t = refl
within_inner true (more v ts) t = within_element (constructor v) t

extent_element : (o : Option ℕ) (t : Tree) → extent (element o) t ≡ length (form (element o) t)
extent_element None t = refl
extent_element (Some c) t = refl

pub extent_inner : (arr : Bool) (ts : Trees) (t : Tree) → extent (inner_position_of arr ts) t ≡ length (form (inner_position_of arr ts) t)
extent_inner false ts t = refl
extent_inner true no_trees t = refl
extent_inner true (more v ts) t = extent_element (constructor v) t

pub meant_none : (u : Context) → meant u None ≡ None
meant_none (context.Unmarked p) = refl
meant_none (context.Array p) = refl
meant_none (context.Transparent p) = refl
meant_none (context.Scalar m p) = refl
meant_none (context.Nothing p) = refl

pub refused-none : (p : Position) (t : Tree) (e : SizeError) → refused p t e → refuses_none e
refused-none p t error.TooLong h = tt
refused-none p t error.InvalidValue h = tt
refused-none p t e h = absurd h

-- Every permitted error is also permitted if there is no tree, and resets the serializer.
pub refusal : (p : Position) (o : Option Tree) (e : SizeError) (after : Context) → AtPosition p o (Err e) after → refuses_none e × (after ≡ context.Unmarked (without_prefix p))
refusal p None e after h = h
refusal p (Some t) e after h = (refused-none p t e h.0, h.1)

pub gathered_limit : (s : ResolvedKind) → is_gathered s ≡ true → limit_of s ≡ 4294967291
gathered_limit resolved_kind.List h = refl
gathered_limit resolved_kind.Map h = refl
gathered_limit (resolved_kind.Variant i) h = refl
gathered_limit (resolved_kind.NewtypeVariant i) h = refl
gathered_limit resolved_kind.Array h = refl
gathered_limit resolved_kind.Transparent h = cc
gathered_limit resolved_kind.Single h = cc
gathered_limit resolved_kind.Refused h = refl
