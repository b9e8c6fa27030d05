-- The trees of a deserializer and of the accessors, and what is left of them.
use Rattle.std.specs.Prelude.{◌≡◌, List, [], ◌∷◌, Option, Some, None, map}
use Rattle.std.specs.Vec.Iter.{into_iter_items}
use Rattle.amqp_ser.specs.Tree.{Tree}
use Rattle.amqp_value.specs.TreeOf.{tree_of}
use Rattle.amqp_visit.specs.declared.deserializer.Deserializer.{Deserializer}
use Rattle.amqp_visit.specs.declared.access.seq.SeqAccess.{SeqAccess}
use Rattle.amqp_visit.specs.declared.access.map.MapAccess.{MapAccess}
use Rattle.amqp_visit.specs.declared.access.variant.EnumAccess.{EnumAccess}
use Rattle.amqp_visit.specs.declared.access.variant.VariantAccess.{VariantAccess}

abbrev pub value_tree : Deserializer → Tree
value_tree d = tree_of d.value

-- The tree of a value, if there is one.
abbrev pub tree_if : Option Deserializer → Option Tree
tree_if None = None
tree_if (Some d) = Some (value_tree d)

-- The elements of a list or an array that are left.
abbrev pub seq_left : SeqAccess → List Tree
seq_left a = map tree_of (into_iter_items a.values)

-- The keys and values of a map that are left, and the pending value.
abbrev pub map_left : MapAccess → List (Tree × Tree)
map_left a = map (λ p. (tree_of p.0, tree_of p.1)) a.pairs.items

abbrev pub pending_value : MapAccess → Option Tree
pending_value a = tree_if a.pending

-- The index of a variant, and its value, if there is one.
abbrev pub enum_index : EnumAccess → Tree
enum_index a = value_tree a.index

abbrev pub enum_content : EnumAccess → Option Tree
enum_content a = tree_if a.content

-- The value of a variant, and all that is left, of which it is the first.
abbrev pub variant_content : VariantAccess → Option Tree
variant_content a = tree_if a.item

abbrev pub with_others : Option Deserializer → List Tree → List Tree
with_others None ts = []
with_others (Some d) ts = value_tree d ∷ ts

abbrev pub variant_left : VariantAccess → List Tree
variant_left a = with_others a.item (seq_left a.others)

-- The next element is taken; after the last, the result is `None`.
abbrev pub TakesNext : List Tree → List Tree → Option Deserializer → Type 0
TakesNext old new None = (old ≡ []) × (new ≡ [])
TakesNext old new (Some d) = old ≡ value_tree d ∷ new

-- The next key and value are taken; after the last, the result is `None`.
abbrev pub TakesPair : List (Tree × Tree) → List (Tree × Tree) → Option (Deserializer × Deserializer) → Type 0
TakesPair old new None = (old ≡ []) × (new ≡ [])
TakesPair old new (Some e) = old ≡ (value_tree e.0, value_tree e.1) ∷ new
