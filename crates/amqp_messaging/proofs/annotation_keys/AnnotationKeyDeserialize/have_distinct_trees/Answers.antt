use Rattle.std.proofs.Common.{◌≡◌, Bool, true, false, List}
use Rattle.std.proofs.lemmas.Cmp.{nat_eq_equiv, nat_list_eq_equiv}
use Rattle.std.specs.Bool.{OnTrue}
use Rattle.std.specs.List.{AllZip}
use Rattle.amqp_data.specs.Pairs.{AreDistinct}
use Rattle.amqp_data.specs.Text.{symbol_text}
use Rattle.amqp_ser.specs.Tree.{Tree}
use Rattle.amqp_de.specs.Maps.{AreApart}
use Rattle.amqp_de.proofs.MapReadings.{apart_trees}
use Rattle.amqp_messaging.specs.contracts.annotation_keys.AnnotationKeyDeserialize.TheImpl as own
use Rattle.amqp_messaging.specs.contracts.identifiers.AnnotationKeyPartialEq.TheImpl as equality
use Rattle.amqp_messaging.specs.declared.identifiers.AnnotationKey.{AnnotationKey}
use Rattle.amqp_messaging.specs.declared.identifiers.AnnotationKey.TheVariants as variant
use Rattle.amqp_messaging.proofs.annotation_keys.AnnotationKeyDeserialize.have_distinct_trees.Goals as goal

-- Keys that are read from one tree are equal.
same_key : (t : Tree) (x y : AnnotationKey) → own.ghosts.reads t x → own.ghosts.reads t y → equality.ghosts.eq x y ≡ true
same_key t (variant.Symbol a) (variant.Symbol b) r s =
    let same : symbol_text a ≡ symbol_text b = cc in
    rw same (nat_list_eq_equiv.refl (symbol_text b))
same_key t (variant.Symbol a) (variant.Ulong b) r s = absurd cc
same_key t (variant.Ulong a) (variant.Symbol b) r s = absurd cc
same_key t (variant.Ulong a) (variant.Ulong b) r s =
    let same : a ≡ b = cc in
    rw same (nat_eq_equiv.refl b)

-- Distinct keys are read from trees that are apart.
keys_apart : (b : Bool) (xs : List AnnotationKey) → OnTrue b (AreDistinct equality.ghosts.eq xs)
    → OnTrue b ((ts : List Tree) → AllZip own.ghosts.reads ts xs → AreApart ts)
keys_apart false xs distinct = tt
keys_apart true xs distinct = apart_trees own.ghosts.reads equality.ghosts.eq same_key xs distinct

pub returns : goal.returns
returns g c = keys_apart c.keys_differ.result _ c.keys_differ.ensures
