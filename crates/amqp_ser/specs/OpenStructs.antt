-- Structs and tuple structs that are being serialized: the parts so far, and the effect of a call.
use Rattle.std.specs.Prelude.{ℕ, List, Bool, Option, Result}
use Rattle.std.specs.Borrow.{MutBor}
use Rattle.amqp_ser.specs.Tree.{Tree}
use Rattle.amqp_ser.specs.Structs.{HasDescribed, single_or_list}
use Rattle.amqp_ser.specs.StructSteps.{EndStep, FieldStep, TupleFieldStep}
use Rattle.amqp_ser.specs.declared.kind.CompoundKind.{CompoundKind}
use Rattle.amqp_ser.specs.declared.struct_encoding.StructEncoding.{StructEncoding}
use Rattle.amqp_ser.specs.declared.compound.structs.SerializeStruct.{SerializeStruct}
use Rattle.amqp_ser.specs.declared.compound.tuple_struct.SerializeTupleStruct.{SerializeTupleStruct}

module _ {S H O E : Type 0} where
  -- The reference in the struct, and the struct with another serializer behind that reference.
  abbrev pub struct_reference : SerializeStruct S O E H → MutBor S
  struct_reference fields = fields.serializer

  abbrev pub struct_with_serializer : SerializeStruct S O E H → S → SerializeStruct S O E H
  struct_with_serializer fields s = record fields { serializer = record fields.serializer { now = s } }

  -- The form: a list, a map, or the one field itself.
  abbrev pub form_of : SerializeStruct S O E H → StructEncoding
  form_of fields = fields.form

  -- The struct has its descriptor.
  abbrev pub has_descriptor : SerializeStruct S O E H → Bool
  has_descriptor fields = fields.described

  -- The struct has a field.
  abbrev pub has_field : SerializeStruct S O E H → Bool
  has_field fields = fields.opened

  -- Like the definitions above, for a tuple struct.
  abbrev pub tuple_struct_reference : SerializeTupleStruct S O E H → MutBor S
  tuple_struct_reference fields = fields.serializer

  abbrev pub tuple_struct_with_serializer : SerializeTupleStruct S O E H → S → SerializeTupleStruct S O E H
  tuple_struct_with_serializer fields s = record fields { serializer = record fields.serializer { now = s } }

  -- The body is a single field.
  abbrev pub is_single : SerializeTupleStruct S O E H → Bool
  is_single fields = fields.single

  -- The descriptor is still to be serialized.
  abbrev pub lacks_descriptor : SerializeTupleStruct S O E H → Bool
  lacks_descriptor fields = fields.wants_descriptor

  -- The tuple struct has a field, or is a list that has been open from the start.
  abbrev pub is_open : SerializeTupleStruct S O E H → Bool
  is_open fields = fields.opened

module _ {S H O E : Type 0} (permits : S → Option Tree → Result O E → S → Type 0)
    (has : S → CompoundKind → S → H → List (Option Tree) → Type 0) where
  -- The struct, which this serializer opened, has this descriptor, if any, and these parts.
  abbrev pub StructHas : S → Option (Option Tree) → CompoundKind → SerializeStruct S O E H → List (Option Tree) → Type 0
  StructHas start prefix kind fields parts = HasDescribed permits has start prefix kind fields.serializer.now fields.compound parts

  -- The effect of serializing a field with this key: `FieldStep` has the cases.
  abbrev pub StructFieldStep : (E → Type 0) → List ℕ → Option Tree → SerializeStruct S O E H → Result (Unit {0}) E → SerializeStruct S O E H → Type 0
  StructFieldStep is_misuse_error key value before result after =
      FieldStep permits has is_misuse_error before.form before.described before.opened key value
      before.serializer.now before.compound result after.serializer.now after.compound

  -- The result of ending the struct: `EndStep` has the cases.
  abbrev pub EndsStruct : (E → Type 0) → SerializeStruct S O E H → Result O E → S → Type 0
  EndsStruct is_misuse_error fields result after =
      EndStep permits has is_misuse_error fields.form fields.opened fields.serializer.now fields.compound result after

  -- Like the definitions above, for a tuple struct.
  abbrev pub TupleStructHas : S → Option (Option Tree) → CompoundKind → SerializeTupleStruct S O E H → List (Option Tree) → Type 0
  TupleStructHas start prefix kind fields parts = HasDescribed permits has start prefix kind fields.serializer.now fields.compound parts

  abbrev pub TupleStructFieldStep : (E → Type 0) → Option Tree → SerializeTupleStruct S O E H → Result (Unit {0}) E → SerializeTupleStruct S O E H → Type 0
  TupleStructFieldStep is_misuse_error value before result after =
      TupleFieldStep permits has is_misuse_error before.single before.wants_descriptor before.opened value
      before.serializer.now before.compound result after.serializer.now after.compound

  abbrev pub EndsTupleStruct : (E → Type 0) → SerializeTupleStruct S O E H → Result O E → S → Type 0
  EndsTupleStruct is_misuse_error fields result after =
      EndStep permits has is_misuse_error (single_or_list fields.single) fields.opened fields.serializer.now fields.compound result after
