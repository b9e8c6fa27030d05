use Rattle.std.proofs.Common.{◌≡◌, List, map, inl, inr, ap, sym, ◌∙◌}
use Rattle.amqp_data.specs.Pairs.{entries_of}
use Rattle.amqp_data.specs.declared.ordered_map.OrderedMap.{OrderedMap}
use Rattle.amqp_ser.specs.Tree as tree
use Rattle.amqp_ser.specs.Tree.{trees_of}
use Rattle.amqp_value.specs.TreeOf.{tree_of, pairs_of, pairs_trees}
use Rattle.amqp_value.proofs.TreeLemmas.{tree_of-List, tree_of-Map}
use Rattle.amqp_value.specs.declared.value.Value.{Value}
use Rattle.amqp_value.specs.declared.value.Value.TheVariants as value
use Rattle.amqp_de.specs.Enums.{trees_of_pair}
use Rattle.amqp_de.proofs.EnumReadings.{of_listed, of_keyed, to_keyed, keyed_image}
use Rattle.amqp_de.proofs.by_index.read_enum.Goals as goal

whole : (v : Value) (m : OrderedMap Value Value) (es : List (Value × Value)) → v ≡ value.Map m → es ≡ entries_of m → tree_of v ≡ tree.map (pairs_of (map trees_of_pair es))
whole v m es is same = ap tree_of is ∙ tree_of-Map m ∙ ap (λ fs. tree.map (pairs_trees fs)) (sym same)

pub returns-in-Err-read_index_and_value-clause-read : goal.returns-in-Err-read_index_and_value-clause-read
returns-in-Err-read_index_and_value-clause-read g c w =
    let is : tree_of c.args.value ≡ tree.list (trees_of (map tree_of c.in-List.values.items)) = ap tree_of c.in-List.is ∙ tree_of-List c.in-List.values in
    elim c.in-Err-read_index_and_value.ensures [ inl m ↦ inl m | inr n ↦ inr (λ x h. n x (of_listed g.V.Variants.reads _ x _ is h)) ]

pub returns-in-Ok-read_keyed-clause-read : goal.returns-in-Ok-read_keyed-clause-read
returns-in-Ok-read_keyed-clause-read g c =
    let is : tree_of c.args.value ≡ tree.map (pairs_of (map trees_of_pair c.into_inner.result.items)) = whole c.args.value c.in-Map.map c.into_inner.result.items c.in-Map.is c.into_inner.ensures in
    to_keyed g.V.Variants.reads _ _ _ is c.in-Ok-read_keyed.ensures.read

pub returns-in-Ok-read_keyed-clause-law : goal.returns-in-Ok-read_keyed-clause-law
returns-in-Ok-read_keyed-clause-law g c x p e =
    let is : tree_of c.args.value ≡ tree.map (pairs_of (map trees_of_pair c.into_inner.result.items)) = whole c.args.value c.in-Map.map c.into_inner.result.items c.in-Map.is c.into_inner.ensures in
    let (u, some, all) = keyed_image _ _ (g.V.Variants.position x) (g.V.Variants.content x) is e in
    c.in-Ok-read_keyed.ensures.law x u p some all

pub returns-in-Err-read_keyed-clause-read : goal.returns-in-Err-read_keyed-clause-read
returns-in-Err-read_keyed-clause-read g c w =
    let is : tree_of c.args.value ≡ tree.map (pairs_of (map trees_of_pair c.into_inner.result.items)) = whole c.args.value c.in-Map.map c.into_inner.result.items c.in-Map.is c.into_inner.ensures in
    elim c.in-Err-read_keyed.ensures.read [ inl m ↦ inl m | inr n ↦ inr (λ x h. n x (of_keyed g.V.Variants.reads _ x _ is h)) ]

pub returns-in-Err-read_keyed-clause-law : goal.returns-in-Err-read_keyed-clause-law
returns-in-Err-read_keyed-clause-law g c x p e w =
    let is : tree_of c.args.value ≡ tree.map (pairs_of (map trees_of_pair c.into_inner.result.items)) = whole c.args.value c.in-Map.map c.into_inner.result.items c.in-Map.is c.into_inner.ensures in
    let (u, some, all) = keyed_image _ _ (g.V.Variants.position x) (g.V.Variants.content x) is e in
    c.in-Err-read_keyed.ensures.law x u p some all
