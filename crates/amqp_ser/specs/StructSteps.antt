-- The effect of serializing a field, or the descriptor, of a struct. If it fails, the struct is
-- unchanged and the error is permitted for the complete struct, whatever further parts follow.
use Rattle.std.specs.Prelude.{◌≡◌, ℕ, List, [], ◌∷◌, ◌++◌, Option, Some, None, Bool, true, false, Result, Err, MatchResult, IfErr, IsErr}
use Rattle.amqp_ser.specs.Tree.{Tree, scalar, string}
use Rattle.amqp_ser.specs.Compounds.{tree_of_parts, paired}
use Rattle.amqp_ser.specs.Composites.{as_described, descriptor_of}
use Rattle.amqp_ser.specs.Marked.{is_descriptor_name}
use Rattle.amqp_ser.specs.Structs.{HasDescribed, form_kind, is_misplaced, open_kind, optionally_described}
use Rattle.amqp_ser.specs.declared.struct_encoding.StructEncoding.{StructEncoding}
use Rattle.amqp_ser.specs.declared.struct_encoding.StructEncoding.TheVariants as form
use Rattle.amqp_ser.specs.declared.kind.CompoundKind.{CompoundKind}
use Rattle.amqp_ser.specs.declared.kind.CompoundKind.TheVariants as kind

-- The descriptor, before any field.
abbrev pub SerializesDescriptor : {S H O E : Type 0} → (S → Option Tree → Result O E → S → Type 0) → (S → CompoundKind → S → H → List (Option Tree) → Type 0) →
    Option Tree → S → H → Result (Unit {0}) E → S → H → Type 0
SerializesDescriptor {S} {H} {O} {E} permits has descriptor before compound result after compound_after =
    (start : S) → HasDescribed permits has start None kind.Single before compound [] →
    MatchResult result
    (λ _. HasDescribed permits has start (Some descriptor) kind.Single after compound_after [])
    (λ e. HasDescribed permits has start None kind.Single after compound_after [] × ((t : Option Tree) →
    permits start (as_described (descriptor_of descriptor) t) (Err e) after))

-- The first field, as these parts of a body of this kind.
abbrev pub SerializesFirst : {S H O E : Type 0} → (S → Option Tree → Result O E → S → Type 0) → (S → CompoundKind → S → H → List (Option Tree) → Type 0) →
    CompoundKind → List (Option Tree) → S → H → Result (Unit {0}) E → S → H → Type 0
SerializesFirst {S} {H} {O} {E} permits has body parts before compound result after compound_after =
    (start : S) (prefix : Option (Option Tree)) → HasDescribed permits has start prefix kind.Single before compound [] →
    MatchResult result
    (λ _. HasDescribed permits has start prefix body after compound_after parts)
    (λ e. HasDescribed permits has start prefix kind.Single after compound_after [] × ((rest : List (Option Tree)) →
    permits start (optionally_described prefix (tree_of_parts body (parts ++ rest))) (Err e) after))

-- A further element of a list.
abbrev pub SerializesElement : {S H O E : Type 0} → (S → Option Tree → Result O E → S → Type 0) → (S → CompoundKind → S → H → List (Option Tree) → Type 0) →
    Option Tree → S → H → Result (Unit {0}) E → S → H → Type 0
SerializesElement {S} {H} {O} {E} permits has element before compound result after compound_after =
    (start : S) (prefix : Option (Option Tree)) (ps : List (Option Tree)) → HasDescribed permits has start prefix kind.List before compound ps →
    MatchResult result
    (λ _. HasDescribed permits has start prefix kind.List after compound_after (ps ++ (element ∷ [])))
    (λ e. HasDescribed permits has start prefix kind.List after compound_after ps × ((rest : List (Option Tree)) →
    permits start (optionally_described prefix (tree_of_parts kind.List (ps ++ (element ∷ rest)))) (Err e) after))

-- A further entry of a map.
abbrev pub SerializesEntry : {S H O E : Type 0} → (S → Option Tree → Result O E → S → Type 0) → (S → CompoundKind → S → H → List (Option Tree) → Type 0) →
    Option Tree → Option Tree → S → H → Result (Unit {0}) E → S → H → Type 0
SerializesEntry {S} {H} {O} {E} permits has key value before compound result after compound_after =
    (start : S) (prefix : Option (Option Tree)) (ps : List (Option Tree)) → HasDescribed permits has start prefix kind.Map before compound ps → paired ps ≡ true →
    MatchResult result
    (λ _. HasDescribed permits has start prefix kind.Map after compound_after (ps ++ (key ∷ (value ∷ []))))
    (λ e. HasDescribed permits has start prefix kind.Map after compound_after ps × ((rest : List (Option Tree)) →
    permits start (optionally_described prefix (tree_of_parts kind.Map (ps ++ (key ∷ (value ∷ rest))))) (Err e) after))

-- The only field of a single value.
abbrev pub SerializesSingle : {S H O E : Type 0} → (S → Option Tree → Result O E → S → Type 0) → (S → CompoundKind → S → H → List (Option Tree) → Type 0) →
    Option Tree → S → H → Result (Unit {0}) E → S → H → Type 0
SerializesSingle {S} {H} {O} {E} permits has value before compound result after compound_after =
    (start : S) (prefix : Option (Option Tree)) → HasDescribed permits has start prefix kind.Single before compound [] →
    MatchResult result
    (λ _. HasDescribed permits has start prefix kind.Single after compound_after (value ∷ []))
    (λ e. HasDescribed permits has start prefix kind.Single after compound_after []
    × permits start (optionally_described prefix value) (Err e) after)

-- A misplaced field or descriptor: the struct with these parts is unchanged, and there is no tree.
abbrev pub RefusesField : {S H O E : Type 0} → (S → Option Tree → Result O E → S → Type 0) → (S → CompoundKind → S → H → List (Option Tree) → Type 0) →
    CompoundKind → S → H → Result (Unit {0}) E → S → H → Type 0
RefusesField {S} {H} {O} {E} permits has body before compound result after compound_after =
    (start : S) (prefix : Option (Option Tree)) (ps : List (Option Tree)) → HasDescribed permits has start prefix body before compound ps →
    IfErr result (λ e. HasDescribed permits has start prefix body after compound_after ps × permits start None (Err e) after)

-- The effect of serializing a field with this key, by cases: whether the key is that of the
-- descriptor, the form of the struct, and whether the struct has its descriptor (`described`) and a
-- field (`opened`).
pub record FieldStep {S H O E : Type 0} (permits : S → Option Tree → Result O E → S → Type 0) (has : S → CompoundKind → S → H → List (Option Tree) → Type 0)
    (is_misuse_error : E → Type 0) (encoding : StructEncoding) (described opened : Bool) (key : List ℕ) (value : Option Tree)
    (before : S) (compound : H) (result : Result (Unit {0}) E) (after : S) (compound_after : H) : Type 0 where
  pub descriptor : is_descriptor_name key ≡ true → described ≡ false → opened ≡ false →
      SerializesDescriptor permits has value before compound result after compound_after
  pub first_of_list : is_descriptor_name key ≡ false → opened ≡ false → encoding ≡ form.List →
      SerializesFirst permits has kind.List (value ∷ []) before compound result after compound_after
  pub next_of_list : is_descriptor_name key ≡ false → opened ≡ true → encoding ≡ form.List →
      SerializesElement permits has value before compound result after compound_after
  pub first_of_map : is_descriptor_name key ≡ false → opened ≡ false → encoding ≡ form.Map →
      SerializesFirst permits has kind.Map (Some (scalar (string key)) ∷ (value ∷ [])) before compound result after compound_after
  pub next_of_map : is_descriptor_name key ≡ false → opened ≡ true → encoding ≡ form.Map →
      SerializesEntry permits has (Some (scalar (string key))) value before compound result after compound_after
  pub alone : is_descriptor_name key ≡ false → opened ≡ false → encoding ≡ form.Single →
      SerializesSingle permits has value before compound result after compound_after
  -- A descriptor is a ulong or a symbol.
  pub other_kinds : is_descriptor_name key ≡ true → described ≡ false → opened ≡ false →
      (start : S) → HasDescribed permits has start None kind.Single before compound [] → descriptor_of value ≡ None → IsErr result
  pub misuse_error : is_misplaced encoding described opened (is_descriptor_name key) ≡ true →
      IsErr result × (IfErr result is_misuse_error × RefusesField permits has (open_kind opened encoding) before compound result after compound_after)

-- Like `FieldStep`, for a tuple struct: by whether its body is a single field, whether it lacks its
-- descriptor, and whether it has a field or is a list that has been open from the start.
pub record TupleFieldStep {S H O E : Type 0} (permits : S → Option Tree → Result O E → S → Type 0) (has : S → CompoundKind → S → H → List (Option Tree) → Type 0)
    (is_misuse_error : E → Type 0) (single lacks_descriptor opened : Bool) (value : Option Tree)
    (before : S) (compound : H) (result : Result (Unit {0}) E) (after : S) (compound_after : H) : Type 0 where
  pub descriptor : lacks_descriptor ≡ true → SerializesDescriptor permits has value before compound result after compound_after
  pub first : lacks_descriptor ≡ false → opened ≡ false → single ≡ false →
      SerializesFirst permits has kind.List (value ∷ []) before compound result after compound_after
  pub next : lacks_descriptor ≡ false → opened ≡ true → single ≡ false →
      SerializesElement permits has value before compound result after compound_after
  pub alone : lacks_descriptor ≡ false → opened ≡ false → single ≡ true →
      SerializesSingle permits has value before compound result after compound_after
  -- A descriptor is a ulong or a symbol.
  pub other_kinds : lacks_descriptor ≡ true →
      (start : S) → HasDescribed permits has start None kind.Single before compound [] → descriptor_of value ≡ None → IsErr result
  pub misuse_error : lacks_descriptor ≡ false → opened ≡ true → single ≡ true →
      IsErr result × (IfErr result is_misuse_error × RefusesField permits has kind.Single before compound result after compound_after)

-- The result of ending a struct of this form, by cases: whether it has a field. The body is a list,
-- a map or the one field; without a field it is empty, or a misuse.
pub record EndStep {S H O E : Type 0} (permits : S → Option Tree → Result O E → S → Type 0) (has : S → CompoundKind → S → H → List (Option Tree) → Type 0)
    (is_misuse_error : E → Type 0) (encoding : StructEncoding) (opened : Bool) (before : S) (compound : H) (result : Result O E) (after : S) : Type 0 where
  pub list : opened ≡ true → encoding ≡ form.List → (start : S) (prefix : Option (Option Tree)) (ps : List (Option Tree)) →
      HasDescribed permits has start prefix kind.List before compound ps →
      permits start (optionally_described prefix (tree_of_parts kind.List ps)) result after
  pub map : opened ≡ true → encoding ≡ form.Map → (start : S) (prefix : Option (Option Tree)) (ps : List (Option Tree)) →
      HasDescribed permits has start prefix kind.Map before compound ps → paired ps ≡ true →
      permits start (optionally_described prefix (tree_of_parts kind.Map ps)) result after
  pub alone : opened ≡ true → encoding ≡ form.Single → (start : S) (prefix : Option (Option Tree)) (p : Option Tree) →
      HasDescribed permits has start prefix kind.Single before compound (p ∷ []) →
      permits start (optionally_described prefix p) result after
  pub empty : opened ≡ false → (start : S) (prefix : Option (Option Tree)) →
      HasDescribed permits has start prefix kind.Single before compound [] →
      permits start (optionally_described prefix (tree_of_parts (form_kind encoding) [])) result after
  pub misuse_error : opened ≡ false → encoding ≡ form.Single → IsErr result × IfErr result is_misuse_error
