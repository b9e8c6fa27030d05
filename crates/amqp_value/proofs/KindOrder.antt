-- The order of values of known kinds.
use Rattle.std.proofs.Common.{◌≡◌, Box, Global, ◌∙◌, rules}
use Rattle.std.specs.Ordering.{nat_cmp}
use Rattle.std.specs.declared.cmp.Ordering.TheVariants.{Less}
use Rattle.amqp_data.specs.Fixed.{f32_bits, f64_bits}
use Rattle.amqp_data.specs.declared.bits.F32Bits.{F32Bits}
use Rattle.amqp_data.specs.declared.bits.F64Bits.{F64Bits}
use Rattle.amqp_data.specs.declared.described.Described.{Described}
use Rattle.amqp_ser.specs.Carried.{descriptor_content}
use Rattle.amqp_ser.specs.Tree as tree
use Rattle.amqp_value.specs.Order.{cmp_tree}
use Rattle.amqp_value.specs.TreeOf.{tree_of}
use Rattle.amqp_value.specs.declared.value.Value.{Value, the_lemmas}
use Rattle.amqp_value.specs.declared.value.Value.TheVariants as kind
use Rattle.amqp_value.proofs.BackLemmas.{float_tree, double_tree}
use Rattle.amqp_value.proofs.OrderLemmas.{compare, compare-is_order}

tree_of-Null : tree_of kind.Null ≡ tree.scalar tree.null
tree_of-Null = search (rules, the_lemmas)

tree_of-Described : (d : Box (Described Value) Global) → tree_of (kind.Described d) ≡ tree.described (descriptor_content d.value.descriptor) (tree_of d.value.value)
tree_of-Described d = search (rules, the_lemmas)

pub floats : (a b : F32Bits) → compare (kind.Float a) (kind.Float b) ≡ nat_cmp (f32_bits a) (f32_bits b)
floats a b = compare-is_order (kind.Float a) (kind.Float b) ∙ (λ i. cmp_tree (float_tree a i) (float_tree b i))

pub doubles : (a b : F64Bits) → compare (kind.Double a) (kind.Double b) ≡ nat_cmp (f64_bits a) (f64_bits b)
doubles a b = compare-is_order (kind.Double a) (kind.Double b) ∙ (λ i. cmp_tree (double_tree a i) (double_tree b i))

pub described-null : (d : Box (Described Value) Global) → compare (kind.Described d) kind.Null ≡ Less
described-null d = compare-is_order (kind.Described d) kind.Null ∙ (λ i. cmp_tree (tree_of-Described d i) (tree_of-Null i))
