-- The kinds of trees that seeds tell apart before they read one (AMQP 1.0 part 1, section 1.6).
use Rattle.std.specs.Prelude.{◌≡◌}
use Rattle.amqp_ser.specs.Tree.{Scalar, uint, Tree, scalar, list, array, map}
use Rattle.amqp_de.specs.declared.source_kind.SourceKind.{SourceKind}
use Rattle.amqp_de.specs.declared.source_kind.SourceKind.TheVariants as form

abbrev pub source_kind_of_scalar : Scalar → SourceKind
source_kind_of_scalar (uint n) = form.Uint
source_kind_of_scalar s = form.Other

abbrev pub source_kind_of : Tree → SourceKind
source_kind_of (scalar s) = source_kind_of_scalar s
source_kind_of (list ts) = form.List
source_kind_of (array ts) = form.Array
source_kind_of (map ps) = form.Map
source_kind_of t = form.Other

-- What is known of a value that looks to be of a kind: nothing if no kind is told.
abbrev pub HasSourceKind : SourceKind → Tree → Type 0
HasSourceKind form.Other t = Unit {0}
HasSourceKind f t = f ≡ source_kind_of t
