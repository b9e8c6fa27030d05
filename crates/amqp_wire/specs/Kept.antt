-- What a compound of a pass keeps, and what it is encoded as.
use Rattle.std.specs.Prelude.{ℕ, ◌+◌, Option, Some}
use Rattle.amqp_ser.specs.declared.kind.CompoundKind.{CompoundKind}
use Rattle.amqp_ser.specs.declared.kind.CompoundKind.TheVariants as kinds
use Rattle.amqp_ser.specs.declared.marker.Marker.{Marker}
use Rattle.amqp_ser.specs.declared.marker.Marker.TheVariants as marker
use Rattle.amqp_size.specs.declared.resolved_kind.ResolvedKind.{ResolvedKind}
use Rattle.amqp_size.specs.declared.resolved_kind.ResolvedKind.TheVariants as resolved
use Rattle.amqp_wire.specs.declared.pass_compound.PassCompound.{PassCompound}
use Rattle.amqp_wire.specs.declared.position.Position.{Position}
use Rattle.amqp_wire.specs.declared.sink.Opened.{Opened}
use Rattle.amqp_wire.specs.declared.sink.Mark.{Mark}

-- A compound without its kind and without the mark before its next part.
pub record Kept : Type 0 where
  pub opened : Opened
  pub outer : Opened
  pub count : ℕ
  pub position : Position
  pub marker : Option Marker
  pub after : Position
  pub before_last : Mark

abbrev pub kept : PassCompound → Kept
kept c = record { opened = c.opened; outer = c.outer; count = c.count; position = c.position; marker = c.marker; after = c.after; before_last = c.before_last }

-- With one more part, after which the positions are these, and the mark before the last part is m.
abbrev pub with_count : Kept → Mark → Position → Position → Kept
with_count c m position after = record { opened = c.opened; outer = c.outer; count = c.count + 1; position = position; marker = c.marker; after = after; before_last = m }

-- With one more part, before which the mark was m, and after which the pass has the position q.
-- Only a map keeps m.
abbrev pub with_part : ResolvedKind → Kept → Mark → Position → Kept
with_part resolved.List c m q = with_count c c.before_last c.position c.after
with_part resolved.Map c m q = with_count c m c.position c.after
with_part (resolved.Variant i) c m q = with_count c c.before_last c.position c.after
with_part (resolved.NewtypeVariant i) c m q = with_count c c.before_last c.position c.after
with_part resolved.Array c m q = with_count c c.before_last q c.after
with_part resolved.Transparent c m q = with_count c c.before_last c.position c.after
with_part resolved.Single c m q = with_count c c.before_last c.position q
with_part resolved.Refused c m q = with_count c c.before_last c.position c.after

abbrev pub resolve_list : Option Marker → ResolvedKind
resolve_list (Some marker.Other) = resolved.List
resolve_list (Some marker.Array) = resolved.Array
resolve_list (Some marker.Transparent) = resolved.Transparent
resolve_list o = resolved.Refused

abbrev pub if_unmarked : Option Marker → ResolvedKind → ResolvedKind
if_unmarked (Some marker.Other) k = k
if_unmarked o k = resolved.Refused

-- What a compound of this kind is encoded as under a marker.
abbrev pub resolve : CompoundKind → Option Marker → ResolvedKind
resolve kinds.List o = resolve_list o
resolve kinds.Map o = if_unmarked o resolved.Map
resolve (kinds.Variant i) o = if_unmarked o (resolved.Variant i)
resolve (kinds.NewtypeVariant i) o = if_unmarked o (resolved.NewtypeVariant i)
resolve kinds.Single o = resolved.Single
