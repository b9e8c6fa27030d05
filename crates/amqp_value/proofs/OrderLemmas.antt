-- `cmp` of values is the order of their trees.
use Rattle.std.proofs.Common.{◌≡◌, List, [], ◌∷◌, map, string_bytes, refl}
use Rattle.std.specs.Ordering.{nat_cmp, int_cmp, bool_cmp, ordering_then}
use Rattle.std.specs.declared.cmp.Ordering.{Ordering}
use Rattle.std.specs.declared.cmp.Ordering.TheVariants.{Less, Equal, Greater}
use Rattle.std.specs.Cmp.Lexicographic.{slice_cmp}
use Rattle.amqp_data.specs.contracts.descriptor.DescriptorOrd.TheImpl as descriptor_ord
use Rattle.amqp_data.specs.declared.descriptor.Descriptor.{Descriptor}
use Rattle.amqp_data.specs.declared.descriptor.Descriptor.TheVariants.{Name, Code}
use Rattle.amqp_ser.specs.Carried.{descriptor_content}
use Rattle.amqp_value.specs.Order.{cmp_tree, cmp_trees, cmp_pairs, cmp_bytes, cmp_descriptor}
use Rattle.amqp_value.specs.TreeOf.{tree_of, all_of, pairs_trees}
use Rattle.amqp_value.specs.declared.value.Value.{Value, out-Value, map-Value}
use Rattle.amqp_value.specs.declared.value.Value.TheOpen.{Value-F}
use Rattle.amqp_value.specs.declared.value.Value.TheBlock.{split-Value}
use Rattle.amqp_value.specs.contracts.value.Value as row
use Rattle.amqp_value.specs.contracts.value.ValueOrd.TheImpl as ord
use Rattle.amqp_value.specs.contracts.value.ValueOrd.TheImpl.Laws as laws
use Rattle.amqp_value.proofs.LevelLemmas.{layer, Such, plain, both, agree}
use denote.Enum.Compared.{by}

-- `cmp` of values.
abbrev pub compare : Value → Value → Ordering
compare a b = ord.ghosts.cmp a b

-- One level of `cmp`, with one line for each variant.
abbrev level : Value-F Value → Value-F Value → Ordering
level x z = by Less Greater (row.enum).parts (
  λ a b. ordering_then (descriptor_ord.ghosts.cmp a.0.value.descriptor b.0.value.descriptor) (compare a.0.value.value b.0.value.value),
  (
    λ a b. Equal,
    (
      λ a b. bool_cmp a.0 b.0,
      (
        λ a b. nat_cmp a.0 b.0,
        (
          λ a b. nat_cmp a.0 b.0,
          (
            λ a b. nat_cmp a.0 b.0,
            (
              λ a b. nat_cmp a.0 b.0,
              (
                λ a b. int_cmp a.0 b.0,
                (
                  λ a b. int_cmp a.0 b.0,
                  (
                    λ a b. int_cmp a.0 b.0,
                    (
                      λ a b. int_cmp a.0 b.0,
                      (
                        λ a b. nat_cmp a.0.0 b.0.0,
                        (
                          λ a b. nat_cmp a.0.0 b.0.0,
                          (
                            λ a b. cmp_bytes a.0.0 b.0.0,
                            (
                              λ a b. cmp_bytes a.0.0 b.0.0,
                              (
                                λ a b. cmp_bytes a.0.0 b.0.0,
                                (
                                  λ a b. nat_cmp a.0 b.0,
                                  (
                                    λ a b. int_cmp a.0.0 b.0.0,
                                    (
                                      λ a b. cmp_bytes a.0.0 b.0.0,
                                      (
                                        λ a b. cmp_bytes a.0.0.items b.0.0.items,
                                        (
                                          λ a b. cmp_bytes (string_bytes a.0) (string_bytes b.0),
                                          (
                                            λ a b. cmp_bytes (string_bytes a.0.0) (string_bytes b.0.0),
                                            (
                                              λ a b. slice_cmp compare a.0.items b.0.items,
                                              (
                                                λ a b. slice_cmp (λ p q. ordering_then (compare p.0 q.0) (compare p.1 q.1)) a.0.entries.items b.0.entries.items,
                                                (λ a b. slice_cmp compare a.0.0.items b.0.0.items, tt),
                                              ),
                                            ),
                                          ),
                                        ),
                                      ),
                                    ),
                                  ),
                                ),
                              ),
                            ),
                          ),
                        ),
                      ),
                    ),
                  ),
                ),
              ),
            ),
          ),
        ),
      ),
    ),
  ),
) (split-Value (λ _. Value) x) (split-Value (λ _. Value) z)

opened : (a b : Value) → compare a b ≡ level (out-Value a) (out-Value b)
opened a b = laws.is a b

abbrev Elements : Type 0
Elements = Such compare cmp_tree

abbrev value : Elements → Value
value e = plain compare cmp_tree e

lists : (es : List Elements) (ws : List Value) → slice_cmp compare (map value es) ws ≡ cmp_trees (all_of (map value es)) (all_of ws)
lists [] [] = refl
lists [] (w ∷ ws) = refl
lists (e ∷ es) [] = refl
lists (e ∷ es) (w ∷ ws) = λ i. ordering_then (e.1 w i) (lists es ws i)

abbrev pair : Elements × Elements → Value × Value
pair e = both compare cmp_tree e

entries : (es : List (Elements × Elements)) (ws : List (Value × Value))
    → slice_cmp {A = Value × Value} (λ p q. ordering_then (compare p.0 q.0) (compare p.1 q.1)) (map pair es) ws ≡ cmp_pairs (pairs_trees (map pair es)) (pairs_trees ws)
entries [] [] = refl
entries [] (w ∷ ws) = refl
entries (e ∷ es) [] = refl
entries (e ∷ es) (w ∷ ws) = λ i. ordering_then (ordering_then (e.0.1 w.0 i) (e.1.1 w.1 i)) (entries es ws i)

descriptors : (a b : Descriptor) → descriptor_ord.ghosts.cmp a b ≡ cmp_descriptor (descriptor_content a) (descriptor_content b)
descriptors (Name s) (Name t) = refl
descriptors (Name s) (Code n) = refl
descriptors (Code m) (Name t) = refl
descriptors (Code m) (Code n) = refl

core : (y : Value-F Elements) (z : Value-F Value) → level (map-Value Elements Value value y) z ≡ cmp_tree (layer (map-Value Elements Value value y)) (layer z)
core (Value-F.Described d) (Value-F.Described e) = λ i. ordering_then (descriptors d.value.descriptor e.value.descriptor i) (d.value.value.1 e.value.value i)
core Value-F.Null Value-F.Null = refl
core (Value-F.Bool a) (Value-F.Bool b) = refl
core (Value-F.Ubyte a) (Value-F.Ubyte b) = refl
core (Value-F.Ushort a) (Value-F.Ushort b) = refl
core (Value-F.Uint a) (Value-F.Uint b) = refl
core (Value-F.Ulong a) (Value-F.Ulong b) = refl
core (Value-F.Byte a) (Value-F.Byte b) = refl
core (Value-F.Short a) (Value-F.Short b) = refl
core (Value-F.Int a) (Value-F.Int b) = refl
core (Value-F.Long a) (Value-F.Long b) = refl
core (Value-F.Float a) (Value-F.Float b) = refl
core (Value-F.Double a) (Value-F.Double b) = refl
core (Value-F.Decimal32 a) (Value-F.Decimal32 b) = refl
core (Value-F.Decimal64 a) (Value-F.Decimal64 b) = refl
core (Value-F.Decimal128 a) (Value-F.Decimal128 b) = refl
core (Value-F.Char a) (Value-F.Char b) = refl
core (Value-F.Timestamp a) (Value-F.Timestamp b) = refl
core (Value-F.Uuid a) (Value-F.Uuid b) = refl
core (Value-F.Binary a) (Value-F.Binary b) = refl
core (Value-F.String a) (Value-F.String b) = refl
core (Value-F.Symbol a) (Value-F.Symbol b) = refl
core (Value-F.List v) (Value-F.List w) = lists v.items w.items
core (Value-F.Map m) (Value-F.Map n) = entries m.entries.items n.entries.items
core (Value-F.Array v) (Value-F.Array w) = lists v.0.items w.0.items
core _ _ = refl

-- Two values compare as their trees do.
pub compare-is_order : (a b : Value) → compare a b ≡ cmp_tree (tree_of a) (tree_of b)
compare-is_order = agree compare cmp_tree level opened core
