-- `==` of values is `same_tree` of their trees.
use Rattle.std.proofs.Common.{◌≡◌, Bool, true, false, ◌&&◌, ◌==◌, List, [], ◌∷◌, map, string_bytes, refl}
use Rattle.std.specs.Ordering.{int_eq}
use Rattle.std.specs.Cmp.Lexicographic.{pointwise}
use Rattle.amqp_data.specs.contracts.descriptor.DescriptorPartialEq.TheImpl as descriptor_eq
use Rattle.amqp_data.specs.declared.descriptor.Descriptor.{Descriptor}
use Rattle.amqp_data.specs.declared.descriptor.Descriptor.TheVariants.{Name, Code}
use Rattle.amqp_ser.specs.Carried.{descriptor_content}
use Rattle.amqp_ser.specs.Same.{same_tree, same_trees, same_pairs, same_bytes, same_bool, same_descriptor}
use Rattle.amqp_value.specs.TreeOf.{tree_of, all_of, pairs_trees}
use Rattle.amqp_value.specs.declared.value.Value.{Value, out-Value, map-Value}
use Rattle.amqp_value.specs.declared.value.Value.TheOpen.{Value-F}
use Rattle.amqp_value.specs.declared.value.Value.TheBlock.{split-Value}
use Rattle.amqp_value.specs.contracts.value.Value as row
use Rattle.amqp_value.specs.contracts.value.ValuePartialEq.TheImpl as eq
use Rattle.amqp_value.specs.contracts.value.ValuePartialEq.TheImpl.Laws as laws
use Rattle.std.specs.contracts.prelude.BoolPartialEq.TheImpl as bool_eq
use Rattle.amqp_value.proofs.LevelLemmas.{layer, Such, plain, both, agree}
use denote.Enum.Compared.{by}

-- `==` of values.
abbrev pub equal : Value → Value → Bool
equal a b = eq.ghosts.eq a b

-- One level of `==`, with one line for each variant.
abbrev level : Value-F Value → Value-F Value → Bool
level x z = by false false (row.enum).parts (
  λ a b. descriptor_eq.ghosts.eq a.0.value.descriptor b.0.value.descriptor && equal a.0.value.value b.0.value.value,
  (
    λ a b. true,
    (
      λ a b. bool_eq.ghosts.eq a.0 b.0,
      (
        λ a b. a.0 == b.0,
        (
          λ a b. a.0 == b.0,
          (
            λ a b. a.0 == b.0,
            (
              λ a b. a.0 == b.0,
              (
                λ a b. int_eq a.0 b.0,
                (
                  λ a b. int_eq a.0 b.0,
                  (
                    λ a b. int_eq a.0 b.0,
                    (
                      λ a b. int_eq a.0 b.0,
                      (
                        λ a b. a.0.0 == b.0.0,
                        (
                          λ a b. a.0.0 == b.0.0,
                          (
                            λ a b. same_bytes a.0.0 b.0.0,
                            (
                              λ a b. same_bytes a.0.0 b.0.0,
                              (
                                λ a b. same_bytes a.0.0 b.0.0,
                                (
                                  λ a b. a.0 == b.0,
                                  (
                                    λ a b. int_eq a.0.0 b.0.0,
                                    (
                                      λ a b. same_bytes a.0.0 b.0.0,
                                      (
                                        λ a b. same_bytes a.0.0.items b.0.0.items,
                                        (
                                          λ a b. same_bytes (string_bytes a.0) (string_bytes b.0),
                                          (
                                            λ a b. same_bytes (string_bytes a.0.0) (string_bytes b.0.0),
                                            (
                                              λ a b. pointwise equal a.0.items b.0.items,
                                              (
                                                λ a b. pointwise (λ p q. equal p.0 q.0 && equal p.1 q.1) a.0.entries.items b.0.entries.items,
                                                (λ a b. pointwise equal a.0.0.items b.0.0.items, tt),
                                              ),
                                            ),
                                          ),
                                        ),
                                      ),
                                    ),
                                  ),
                                ),
                              ),
                            ),
                          ),
                        ),
                      ),
                    ),
                  ),
                ),
              ),
            ),
          ),
        ),
      ),
    ),
  ),
) (split-Value (λ _. Value) x) (split-Value (λ _. Value) z)

opened : (a b : Value) → equal a b ≡ level (out-Value a) (out-Value b)
opened a b = laws.is a b

abbrev Elements : Type 0
Elements = Such equal same_tree

abbrev value : Elements → Value
value e = plain equal same_tree e

lists : (es : List Elements) (ws : List Value) → pointwise equal (map value es) ws ≡ same_trees (all_of (map value es)) (all_of ws)
lists [] [] = refl
lists [] (w ∷ ws) = refl
lists (e ∷ es) [] = refl
lists (e ∷ es) (w ∷ ws) = λ i. e.1 w i && lists es ws i

abbrev pair : Elements × Elements → Value × Value
pair e = both equal same_tree e

entries : (es : List (Elements × Elements)) (ws : List (Value × Value))
    → pointwise {A = Value × Value} (λ p q. equal p.0 q.0 && equal p.1 q.1) (map pair es) ws ≡ same_pairs (pairs_trees (map pair es)) (pairs_trees ws)
entries [] [] = refl
entries [] (w ∷ ws) = refl
entries (e ∷ es) [] = refl
entries (e ∷ es) (w ∷ ws) = λ i. (e.0.1 w.0 i && e.1.1 w.1 i) && entries es ws i

bools : (a b : Bool) → bool_eq.ghosts.eq a b ≡ same_bool a b
bools true true = refl
bools true false = refl
bools false true = refl
bools false false = refl

descriptors : (a b : Descriptor) → descriptor_eq.ghosts.eq a b ≡ same_descriptor (descriptor_content a) (descriptor_content b)
descriptors (Name s) (Name t) = refl
descriptors (Name s) (Code n) = refl
descriptors (Code m) (Name t) = refl
descriptors (Code m) (Code n) = refl

core : (y : Value-F Elements) (z : Value-F Value) → level (map-Value Elements Value value y) z ≡ same_tree (layer (map-Value Elements Value value y)) (layer z)
core (Value-F.Described d) (Value-F.Described e) = λ i. descriptors d.value.descriptor e.value.descriptor i && d.value.value.1 e.value.value i
core Value-F.Null Value-F.Null = refl
core (Value-F.Bool a) (Value-F.Bool b) = bools a b
core (Value-F.Ubyte a) (Value-F.Ubyte b) = refl
core (Value-F.Ushort a) (Value-F.Ushort b) = refl
core (Value-F.Uint a) (Value-F.Uint b) = refl
core (Value-F.Ulong a) (Value-F.Ulong b) = refl
core (Value-F.Byte a) (Value-F.Byte b) = refl
core (Value-F.Short a) (Value-F.Short b) = refl
core (Value-F.Int a) (Value-F.Int b) = refl
core (Value-F.Long a) (Value-F.Long b) = refl
core (Value-F.Float a) (Value-F.Float b) = refl
core (Value-F.Double a) (Value-F.Double b) = refl
core (Value-F.Decimal32 a) (Value-F.Decimal32 b) = refl
core (Value-F.Decimal64 a) (Value-F.Decimal64 b) = refl
core (Value-F.Decimal128 a) (Value-F.Decimal128 b) = refl
core (Value-F.Char a) (Value-F.Char b) = refl
core (Value-F.Timestamp a) (Value-F.Timestamp b) = refl
core (Value-F.Uuid a) (Value-F.Uuid b) = refl
core (Value-F.Binary a) (Value-F.Binary b) = refl
core (Value-F.String a) (Value-F.String b) = refl
core (Value-F.Symbol a) (Value-F.Symbol b) = refl
core (Value-F.List v) (Value-F.List w) = lists v.items w.items
core (Value-F.Map m) (Value-F.Map n) = entries m.entries.items n.entries.items
core (Value-F.Array v) (Value-F.Array w) = lists v.0.items w.0.items
core _ _ = refl

-- Two values are equal if and only if their trees are the same.
pub equal-is_same : (a b : Value) → equal a b ≡ same_tree (tree_of a) (tree_of b)
equal-is_same = agree equal same_tree level opened core
