use Rattle.std.proofs.Common.{◌≡◌, sym, refl, ◌∙◌, ap, arith, ◌&&◌, ◌++◌}
use Rattle.amqp_ser.specs.Tree.{uint, map, variant, list}
use Rattle.amqp_ser.specs.Limits.{fits}
use Rattle.amqp_ser.specs.Scalars.{scalar_form}
use Rattle.amqp_ser.specs.Encoding.{encoding}
use Rattle.amqp_ser.specs.Writable.{within_limits}
use Rattle.amqp_ser.specs.Compounds.{tree_of_parts, all_trees}
use Rattle.amqp_size.specs.Width.{map_form_len, list_form_len}
use Rattle.amqp_size.specs.State.{position_at}
use Rattle.amqp_size.specs.Position.{without_prefix, is_gathered}
use Rattle.amqp_size.specs.WholeContext.{Unmarked}
use Rattle.amqp_size.proofs.Holding.{gathered_of}
use Rattle.amqp_size.proofs.Lengths.{length-counted}
use Rattle.amqp_size.proofs.NoTree.{open_none}
use Rattle.amqp_size.proofs.Whole.{stands, stands_none, MapEnd, map_end, FieldsEnd, fields_end, refused_shape}
use Rattle.amqp_size.proofs.serializer.SizeSerializerSerializer.end.Goals as goal

pub returns-in-Map-clause-answered : goal.returns-in-Map-clause-answered
returns-in-Map-clause-answered c = λ start kind ps h done.
    let there : position_at c.position-position.result c.prefix_len-prefix_len.result ≡ c.args.compound.position = ap (position_at c.position-position.result) c.prefix_len-prefix_len.ensures ∙ c.position-position.ensures in
    let g = gathered_of start kind c.args.compound ps h.0 (ap is_gathered (sym c.resolved_kind.ensures ∙ c.in-Map.is)) in
    let m : MapEnd start kind c.args.compound ps = map_end start kind c.args.compound ps g done (sym c.resolved_kind.ensures ∙ c.in-Map.is) in
    let sum = c.sum-sum.ensures.sum in
    stands start.context (position_at c.position-position.result c.prefix_len-prefix_len.result) (tree_of_parts kind ps) (map m.pairs) _ _ (sym g.position ∙ sym there) m.is
    (c.size_at-in-Map.ensures (h.1 ∙ ap (λ q. Unmarked (without_prefix q)) (sym there)) (map m.pairs) refl m.within_limits_it m.uniform_arrays_it m.inside_it m.inside_it (m.ordinary ∙ ap map_form_len (sym sum) ∙ sym c.map_form_len.ensures) (let w = m.wide in omega arith) m.ranged_it)

pub returns-in-Variant-clause-answered : goal.returns-in-Variant-clause-answered
returns-in-Variant-clause-answered c = λ start kind ps h done.
    let there : position_at c.position-position.result c.prefix_len-prefix_len.result ≡ c.args.compound.position = ap (position_at c.position-position.result) c.prefix_len-prefix_len.ensures ∙ c.position-position.ensures in
    let i = c.in-Variant.index in
    let g = gathered_of start kind c.args.compound ps h.0 (ap is_gathered (sym c.resolved_kind.ensures ∙ c.in-Variant.is)) in
    let m : FieldsEnd i start kind ps c.list_form_len-in-Variant.result =
    fields_end i start kind c.args.compound ps c.list_form_len-in-Variant.result g (sym c.resolved_kind.ensures ∙ c.in-Variant.is) (c.list_form_len-in-Variant.ensures ∙ ap list_form_len c.sum-sum.ensures.sum) in
    let bytes = m.bytes in
    stands start.context (position_at c.position-position.result c.prefix_len-prefix_len.result) (tree_of_parts kind ps) (variant i (list m.ts)) _ _ (sym g.position ∙ sym there) m.is
    (c.variant.ensures (h.1 ∙ ap (λ q. Unmarked (without_prefix q)) (sym there)) (variant i (list m.ts)) (list m.ts) refl m.uniform_arrays_it m.inside_it m.inside_it m.within_limits_it (ap (λ n. fits n && within_limits (list m.ts)) bytes)
    (length-counted 0xc1 0xd1 2 (scalar_form (uint i) ++ encoding (list m.ts)) ∙ ap map_form_len bytes) (omega (arith, bytes)) (λ lt. (lt, m.ranged_it)))

pub returns-in-Refused-clause-answered : goal.returns-in-Refused-clause-answered
unfolding tree_of_parts
returns-in-Refused-clause-answered c = λ start kind ps h done.
    let there : position_at c.position-position.result c.prefix_len-prefix_len.result ≡ c.args.compound.position = ap (position_at c.position-position.result) c.prefix_len-prefix_len.ensures ∙ c.position-position.ensures in
    let g = gathered_of start kind c.args.compound ps h.0 (ap is_gathered (sym c.resolved_kind.ensures ∙ c.in-Refused.is)) in
    stands_none start.context (position_at c.position-position.result c.prefix_len-prefix_len.result) (tree_of_parts kind ps) _ _ (sym g.position ∙ sym there)
    (refused_shape start.context kind (all_trees ps) (sym g.resolved_kind ∙ sym c.resolved_kind.ensures ∙ c.in-Refused.is)) (tt, h.1 ∙ ap (λ q. Unmarked (without_prefix q)) (sym there))

pub returns-in-List-clause-no_tree : goal.returns-in-List-clause-no_tree
returns-in-List-clause-no_tree c = λ start kind ps h done none. let other = sym c.in-List.is ∙ c.resolved_kind.ensures ∙ open_none start kind c.args.compound ps h.0 done none in cc

pub returns-in-Map-clause-no_tree : goal.returns-in-Map-clause-no_tree
returns-in-Map-clause-no_tree c = λ start kind ps h done none. let other = sym c.in-Map.is ∙ c.resolved_kind.ensures ∙ open_none start kind c.args.compound ps h.0 done none in cc

pub returns-in-Variant-clause-no_tree : goal.returns-in-Variant-clause-no_tree
returns-in-Variant-clause-no_tree c = λ start kind ps h done none. let other = sym c.in-Variant.is ∙ c.resolved_kind.ensures ∙ open_none start kind c.args.compound ps h.0 done none in cc

pub returns-in-NewtypeVariant-clause-no_tree : goal.returns-in-NewtypeVariant-clause-no_tree
returns-in-NewtypeVariant-clause-no_tree c = λ start kind ps h done none. let other = sym c.in-NewtypeVariant.is ∙ c.resolved_kind.ensures ∙ open_none start kind c.args.compound ps h.0 done none in cc

pub returns-in-Array-clause-no_tree : goal.returns-in-Array-clause-no_tree
returns-in-Array-clause-no_tree c = λ start kind ps h done none. let other = sym c.in-Array.is ∙ c.resolved_kind.ensures ∙ open_none start kind c.args.compound ps h.0 done none in cc

pub returns-in-Transparent-clause-no_tree : goal.returns-in-Transparent-clause-no_tree
returns-in-Transparent-clause-no_tree c = λ start kind ps h done none. let other = sym c.in-Transparent.is ∙ c.resolved_kind.ensures ∙ open_none start kind c.args.compound ps h.0 done none in cc

pub returns-in-Single-clause-no_tree : goal.returns-in-Single-clause-no_tree
returns-in-Single-clause-no_tree c = λ start kind ps h done none. let other = sym c.in-Single.is ∙ c.resolved_kind.ensures ∙ open_none start kind c.args.compound ps h.0 done none in cc
