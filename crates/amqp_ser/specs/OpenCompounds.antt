-- Lists, maps and variants that are being serialized: the parts so far, and the effect of a call.
use Rattle.std.specs.Prelude.{ℕ, Bool, List, ◌∷◌, ◌++◌, [], Option, None, true, Result, Err, MatchResult, IfErr, ◌≡◌}
use Rattle.std.specs.Borrow.{MutBor}
use Rattle.amqp_ser.specs.Tree.{Tree}
use Rattle.amqp_ser.specs.Compounds.{tree_of_parts, paired}
use Rattle.amqp_ser.specs.CompoundSteps.{SerializesPart}
use Rattle.amqp_ser.specs.declared.kind.CompoundKind.{CompoundKind}
use Rattle.amqp_ser.specs.declared.kind.CompoundKind.TheVariants as kind
use Rattle.amqp_ser.specs.declared.compound.map.SerializeMap.{SerializeMap}
use Rattle.amqp_ser.specs.declared.compound.sequence.SerializeSeq.{SerializeSeq}
use Rattle.amqp_ser.specs.declared.compound.struct_variant.SerializeStructVariant.{SerializeStructVariant}
use Rattle.amqp_ser.specs.declared.compound.variant.SerializeTupleVariant.{SerializeTupleVariant}

-- The reference in the list, and the list with another serializer behind that reference.
abbrev pub list_reference : {S H O E : Type 0} → SerializeSeq S O E H → MutBor S
list_reference list = list.serializer

abbrev pub list_with_serializer : {S H O E : Type 0} → SerializeSeq S O E H → S → SerializeSeq S O E H
list_with_serializer list s = record list { serializer = record list.serializer { now = s } }

-- The list, which this serializer opened, has accepted these elements.
abbrev pub ListHas : {S H O E : Type 0} → (S → CompoundKind → S → H → List (Option Tree) → Type 0) → S → SerializeSeq S O E H → List (Option Tree) → Type 0
ListHas has start list elements = has start kind.List list.serializer.now list.compound elements

-- The list accepts one more element, or is unchanged.
abbrev pub SerializesListPart : {S H O E : Type 0} → (S → Option Tree → Result O E → S → Type 0) → (S → CompoundKind → S → H → List (Option Tree) → Type 0) →
    Option Tree → SerializeSeq S O E H → Result (Unit {0}) E → SerializeSeq S O E H → Type 0
SerializesListPart permits has element before result after =
    SerializesPart permits has kind.List element before.serializer.now before.compound result after.serializer.now after.compound

-- The reference in the map, and the map with another serializer behind that reference.
abbrev pub map_reference : {S H O E : Type 0} → SerializeMap S O E H → MutBor S
map_reference map = map.serializer

abbrev pub map_with_serializer : {S H O E : Type 0} → SerializeMap S O E H → S → SerializeMap S O E H
map_with_serializer map s = record map { serializer = record map.serializer { now = s } }

-- The map, which this serializer opened, has accepted these keys and values, in alternation.
abbrev pub MapHas : {S H O E : Type 0} → (S → CompoundKind → S → H → List (Option Tree) → Type 0) → S → SerializeMap S O E H → List (Option Tree) → Type 0
MapHas has start map parts = has start kind.Map map.serializer.now map.compound parts

-- The map has a key whose value is pending.
abbrev pub has_key : {S H O E : Type 0} → SerializeMap S O E H → Bool
has_key map = map.pending

-- The map accepts one more key or value, or is unchanged.
abbrev pub SerializesMapPart : {S H O E : Type 0} → (S → Option Tree → Result O E → S → Type 0) → (S → CompoundKind → S → H → List (Option Tree) → Type 0) →
    Option Tree → SerializeMap S O E H → Result (Unit {0}) E → SerializeMap S O E H → Type 0
SerializesMapPart permits has part before result after =
    SerializesPart permits has kind.Map part before.serializer.now before.compound result after.serializer.now after.compound

-- The map accepts one more pair, or is unchanged.
abbrev pub SerializesPair : {S H O E : Type 0} → (S → Option Tree → Result O E → S → Type 0) → (S → CompoundKind → S → H → List (Option Tree) → Type 0) →
    Option Tree → Option Tree → SerializeMap S O E H → Result (Unit {0}) E → SerializeMap S O E H → Type 0
SerializesPair {S} permits has key value before result after =
    (start : S) (ps : List (Option Tree)) → MapHas has start before ps → paired ps ≡ true →
    MatchResult result
    (λ _. MapHas has start after (ps ++ (key ∷ (value ∷ []))))
    (λ e. MapHas has start after ps × ((rest : List (Option Tree)) →
    permits start (tree_of_parts kind.Map (ps ++ (key ∷ (value ∷ rest)))) (Err e) after.serializer.now))

-- The error of a key or a value in the wrong order: the map is unchanged, and there is no tree.
abbrev pub RefusesInTurn : {S H O E : Type 0} → (S → Option Tree → Result O E → S → Type 0) → (S → CompoundKind → S → H → List (Option Tree) → Type 0) →
    SerializeMap S O E H → Result (Unit {0}) E → SerializeMap S O E H → Type 0
RefusesInTurn {S} permits has before result after =
    (start : S) (ps : List (Option Tree)) → MapHas has start before ps →
    IfErr result (λ e. MapHas has start after ps × permits start None (Err e) after.serializer.now)

-- The reference in the variant, and the variant with another serializer behind that reference.
abbrev pub variant_reference : {S H O E : Type 0} → SerializeTupleVariant S O E H → MutBor S
variant_reference variant = variant.serializer

abbrev pub variant_with_serializer : {S H O E : Type 0} → SerializeTupleVariant S O E H → S → SerializeTupleVariant S O E H
variant_with_serializer variant s = record variant { serializer = record variant.serializer { now = s } }

-- The variant of this index, which this serializer opened, has accepted these fields.
abbrev pub VariantHas : {S H O E : Type 0} → (S → CompoundKind → S → H → List (Option Tree) → Type 0) → S → ℕ → SerializeTupleVariant S O E H → List (Option Tree) → Type 0
VariantHas has start index variant fields = has start (kind.Variant index) variant.serializer.now variant.compound fields

-- The variant accepts one more field, or is unchanged.
abbrev pub SerializesVariantPart : {S H O E : Type 0} → (S → Option Tree → Result O E → S → Type 0) → (S → CompoundKind → S → H → List (Option Tree) → Type 0) →
    Option Tree → SerializeTupleVariant S O E H → Result (Unit {0}) E → SerializeTupleVariant S O E H → Type 0
SerializesVariantPart permits has field before result after =
    (index : ℕ) → SerializesPart permits has (kind.Variant index) field before.serializer.now before.compound result after.serializer.now after.compound

-- Like the definitions above, for a variant with named fields.
abbrev pub struct_variant_reference : {S H O E : Type 0} → SerializeStructVariant S O E H → MutBor S
struct_variant_reference variant = variant.serializer

abbrev pub struct_variant_with_serializer : {S H O E : Type 0} → SerializeStructVariant S O E H → S → SerializeStructVariant S O E H
struct_variant_with_serializer variant s = record variant { serializer = record variant.serializer { now = s } }

abbrev pub StructVariantHas : {S H O E : Type 0} → (S → CompoundKind → S → H → List (Option Tree) → Type 0) → S → ℕ → SerializeStructVariant S O E H → List (Option Tree) → Type 0
StructVariantHas has start index variant fields = has start (kind.Variant index) variant.serializer.now variant.compound fields

abbrev pub SerializesStructVariantPart : {S H O E : Type 0} → (S → Option Tree → Result O E → S → Type 0) → (S → CompoundKind → S → H → List (Option Tree) → Type 0) →
    Option Tree → SerializeStructVariant S O E H → Result (Unit {0}) E → SerializeStructVariant S O E H → Type 0
SerializesStructVariantPart permits has field before result after =
    (index : ℕ) → SerializesPart permits has (kind.Variant index) field before.serializer.now before.compound result after.serializer.now after.compound
