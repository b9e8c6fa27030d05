use Rattle.std.proofs.Common.{rules, ◌≡◌, true, List, map, inl, inr, subst}
use Rattle.std.specs.List.{AllZip}
use Rattle.std.specs.Map.{keys_of}
use Rattle.amqp_ser.specs.Tree.{Tree}
use Rattle.amqp_de.specs.Maps.{AreApart, pair_image}
use Rattle.amqp_data.proofs.IndexLemmas.{on_true}
use Rattle.amqp_de.proofs.Lists.{is_map, to_map, of_map, one_map}
use Rattle.amqp_de.proofs.MapReadings.{keys_read, pairs_read, pairs_same}
use Rattle.amqp_de.proofs.impls.maps.read_pairs.Goals as goal

pub returns-in-Err-clause-err : goal.returns-in-Err-clause-err
returns-in-Err-clause-err g c w =
    elim (c.in-Err.ensures.err w) [
      | inl m ↦ inl m
      | inr n ↦ inr (λ xs h. let is = is_map _ _ h in n is.0 is.1)
    ]

pub returns-in-Err-clause-law : goal.returns-in-Err-clause-law
returns-in-Err-clause-law g c xs all e w = elim (c.in-Err.ensures.err w) [ inl m ↦ m | inr n ↦ absurd (n _ e) ]

pub returns-in-Err-read_entries-clause-err : goal.returns-in-Err-read_entries-clause-err
returns-in-Err-read_entries-clause-err g c w =
    let (are, is) = c.in-Ok.ensures.whole w in
    elim (c.in-Err-read_entries.ensures.err are) [
      | inl m ↦ inl m
      | inr none ↦ inr (λ xs h. none xs (of_map _ _ _ is h))
    ]

pub returns-in-Err-read_entries-clause-law : goal.returns-in-Err-read_entries-clause-law
returns-in-Err-read_entries-clause-law g c xs all e w =
    let (are, is) = c.in-Ok.ensures.whole w in
    c.in-Err-read_entries.ensures.law xs all (one_map _ _ (map (pair_image g.K.Deserialize.image g.V.Deserialize.image) xs) is e) are

pub returns-then-knows-clause-ok : goal.returns-then-knows-clause-ok
returns-then-knows-clause-ok g c =
    let K = g.K.Deserialize in
    let V = g.V.Deserialize in
    let (ps, h, zip) = c.in-Ok-read_entries.ensures.ok in
    let sure : c.knows_maps-knows.result ≡ true = search rules in
    let (is, left) = c.in-Ok.ensures.ok ps h (on_true _ _ sure c.knows_maps-knows.ensures.apart (keys_of ps)) in
    (left, to_map _ _ ps is (pairs_read K.reads K.image K.restorable K.same V.reads V.image V.restorable V.same ps _ zip))

pub returns-then-knows-clause-law : goal.returns-then-knows-clause-law
returns-then-knows-clause-law g c xs all e =
    let K = g.K.Deserialize in
    let V = g.V.Deserialize in
    let (ps, h, zip) = c.in-Ok-read_entries.ensures.ok in
    let sure : c.knows_maps-knows.result ≡ true = search rules in
    let (is, left) = c.in-Ok.ensures.ok ps h (on_true _ _ sure c.knows_maps-knows.ensures.apart (keys_of ps)) in
    pairs_same K.reads K.image K.restorable K.same V.reads V.image V.restorable V.same ps _ xs zip all (one_map _ ps (map (pair_image K.image V.image) xs) is e)

pub returns-then-have_distinct_trees-clause-ok : goal.returns-then-have_distinct_trees-clause-ok
returns-then-have_distinct_trees-clause-ok g c =
    let K = g.K.Deserialize in
    let V = g.V.Deserialize in
    let (ps, h, zip) = c.in-Ok-read_entries.ensures.ok in
    let whole : c.deref.result.now ≡ c.in-Ok-read_entries.items.items = search rules in
    let sure : c.have_distinct_trees.result ≡ true = search rules in
    let apart = subst (λ es. (ts : List Tree) → AllZip K.reads ts (keys_of es) → AreApart ts) whole (on_true _ _ sure c.have_distinct_trees.ensures) in
    let (is, left) = c.in-Ok.ensures.ok ps h (c.knows_maps-knows.ensures.enough (keys_of ps) (apart (keys_of ps) (keys_read K.reads K.image K.restorable K.same V.reads V.image V.restorable V.same ps c.in-Ok-read_entries.items.items zip))) in
    (left, to_map _ _ ps is (pairs_read K.reads K.image K.restorable K.same V.reads V.image V.restorable V.same ps _ zip))

pub returns-then-have_distinct_trees-clause-law : goal.returns-then-have_distinct_trees-clause-law
returns-then-have_distinct_trees-clause-law g c xs all e =
    let K = g.K.Deserialize in
    let V = g.V.Deserialize in
    let (ps, h, zip) = c.in-Ok-read_entries.ensures.ok in
    let whole : c.deref.result.now ≡ c.in-Ok-read_entries.items.items = search rules in
    let sure : c.have_distinct_trees.result ≡ true = search rules in
    let apart = subst (λ es. (ts : List Tree) → AllZip K.reads ts (keys_of es) → AreApart ts) whole (on_true _ _ sure c.have_distinct_trees.ensures) in
    let (is, left) = c.in-Ok.ensures.ok ps h (c.knows_maps-knows.ensures.enough (keys_of ps) (apart (keys_of ps) (keys_read K.reads K.image K.restorable K.same V.reads V.image V.restorable V.same ps c.in-Ok-read_entries.items.items zip))) in
    pairs_same K.reads K.image K.restorable K.same V.reads V.image V.restorable V.same ps _ xs zip all (one_map _ ps (map (pair_image K.image V.image) xs) is e)

pub returns-else-have_distinct_trees-clause-err : goal.returns-else-have_distinct_trees-clause-err
returns-else-have_distinct_trees-clause-err g c w =
    let (are, is) = c.in-Ok.ensures.whole w in
    let yes = c.knows_maps-knows.ensures.whole are in
    let no : ⊥ = search (rules, yes) in
    absurd no

pub returns-else-have_distinct_trees-clause-law : goal.returns-else-have_distinct_trees-clause-law
returns-else-have_distinct_trees-clause-law g c xs all e w =
    let (are, is) = c.in-Ok.ensures.whole w in
    let yes = c.knows_maps-knows.ensures.whole are in
    let no : ⊥ = search (rules, yes) in
    absurd no
