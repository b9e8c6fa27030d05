-- Encoded bytes as a source.
use Rattle.std.proofs.Common.{◌≡◌, ℕ, zero, suc, ◌-◌, Bool, true, false, true≢false, List, [], ◌∷◌, ◌++◌, Option, Some, None, refl, sym, ap, ◌∙◌, subst, arith, fold, ◌==◌, if◌then◌else◌}
use Rattle.std.specs.List.{AllZip}
use Rattle.std.specs.Map.{keys_of}
use Rattle.std.specs.Prelude.{not, ◌&&◌, IfNone}
use Rattle.amqp_data.specs.Pairs.{insert_pair}
use Rattle.amqp_ser.specs.Same.{same_tree}
use Rattle.amqp_ser.specs.Tree as tree
use Rattle.amqp_ser.specs.Tree.{Tree, Scalar, Descriptor, Pairs, scalar, null, string, list, array, map, described, trees_of, no_pairs}
use Rattle.amqp_value.specs.Converts.{inserted_in_order}
use Rattle.amqp_value.specs.Image.{insert_tree}
use Rattle.amqp_value.specs.TreeOf.{pairs_of}
use Rattle.amqp_decode.specs.Parsed.{ValueReader, gather, insert, parse, parse_content, value_in_bytes, descriptor_at, parse_described}
use Rattle.amqp_decode.specs.Prefix.{IsScalar, IsListOf, IsMapOf, IsArrayOf, item_of}
use Rattle.amqp_decode.specs.Scalars.{and_then}
use Rattle.amqp_decode.proofs.Gathers.{first_gathered}
use Rattle.amqp_decode.proofs.Levels.{parse_value, some_same, both}
use Rattle.amqp_decode.proofs.ScalarForms.{null-is}
use Rattle.amqp_decode.proofs.Steps.{not-zero}
use Rattle.amqp_de.specs.Encodings.{Fills, collect}
use Rattle.amqp_de.specs.EncodedTrees.{tree_in, element_reader, HasOnly}
use Rattle.amqp_de.specs.Fields.{value_at, without}
use Rattle.amqp_de.specs.Maps.{AreApart}
use Rattle.amqp_de.specs.Present.{has_name, present_fields}
use Rattle.amqp_de.proofs.Inserted.{distinct_inserted}
use Rattle.amqp_de.proofs.LeftOut.{all_left, first_value, first_without, no_value}
use Rattle.amqp_de.proofs.MapReadings.{apart_entries, pairs_inserted}

-- A value that starts bytes.
pub found : (p : Option (Tree × List ℕ)) (t : Tree) (r : List ℕ) → p ≡ Some (t, r) → (tree_in p ≡ t) × (p ≡ Some (tree_in p, r))
found p t r e = let same : tree_in p ≡ t = ap tree_in e in (same, e ∙ ap (λ u. Some (u, r)) (sym same))

pub scalar_found : (d : ℕ) (bytes rest : List ℕ) (k : Scalar) → IsScalar bytes rest k
    → (tree_in (parse (suc d) bytes) ≡ scalar k) × (parse (suc d) bytes ≡ Some (tree_in (parse (suc d) bytes), rest))
scalar_found d bytes rest k is = found (parse (suc d) bytes) (scalar k) rest (parse_value d bytes ∙ is (parse d) (parse_content d))

pub list_found : (depth d n : ℕ) (bytes rest body : List ℕ) (ts : List Tree) → depth ≡ suc d → IsListOf bytes rest n body
    → gather (element_reader d 0) n body [] ≡ Some (ts, [])
    → (tree_in (parse (suc depth) bytes) ≡ list (trees_of ts)) × (parse (suc depth) bytes ≡ Some (tree_in (parse (suc depth) bytes), rest))
list_found depth d n bytes rest body ts deep is all =
    let inner : gather (parse depth) n body [] ≡ Some (ts, []) = ap (λ z. gather (parse z) n body []) deep ∙ all in
    found (parse (suc depth) bytes) (list (trees_of ts)) rest (parse_value depth bytes ∙ is (parse depth) (parse_content depth) ts inner)

pub form_of_items : (d c : ℕ) → (c ≡ 0 → ⊥) → element_reader d c ≡ item_of d c
form_of_items d c some = rw (not-zero c some) refl

pub array_found : (depth d n c : ℕ) (bytes rest items : List ℕ) (ts : List Tree) → depth ≡ suc d → (c ≡ 0 → ⊥) → IsArrayOf bytes rest n c items
    → gather (element_reader d c) n items [] ≡ Some (ts, [])
    → (tree_in (parse (suc depth) bytes) ≡ array (trees_of ts)) × (parse (suc depth) bytes ≡ Some (tree_in (parse (suc depth) bytes), rest))
array_found depth d n c bytes rest items ts deep some is all =
    let inner : gather (item_of d c) n items [] ≡ Some (ts, []) = ap (λ f. gather f n items []) (sym (form_of_items d c some)) ∙ all in
    found (parse (suc depth) bytes) (array (trees_of ts)) rest (ap (λ z. parse (suc z) bytes) deep ∙ is d ts inner)

-- Entries that are collected are inserted in order.
inserted_rest : (f : ValueReader) (n : ℕ) (s : List ℕ) (ds ps : List (Tree × Tree)) (r : List ℕ) → collect f n s ≡ Some (ps, r)
    → insert f n s (pairs_of ds) ≡ Some (pairs_of (fold (λ done e. insert_pair same_tree done e.0 e.1) ds ps), r)
inserted_rest f zero s ds ps r e =
    let same = some_same {A = List (Tree × Tree) × List ℕ} ([], s) (ps, r) e in
    let none : ◌≡◌ {A = List (Tree × Tree)} [] ps = ap (λ z. z.0) same in
    let rest : s ≡ r = ap (λ z. z.1) same in
    subst (λ z. ◌≡◌ {A = Option (Pairs × List ℕ)} (Some (pairs_of ds, s)) (Some (pairs_of (fold (λ done e. insert_pair same_tree done e.0 e.1) ds z), r))) none (ap (λ z. Some (pairs_of ds, z)) rest)
inserted_rest f (suc n) s ds ps r e =
    let (k, key, a) = both (f s) (λ k. and_then (f k.1) (λ v. and_then (collect f n v.1) (λ q. Some ((k.0, v.0) ∷ q.0, q.1)))) (ps, r) e in
    let (v, value, b) = both (f k.1) (λ v. and_then (collect f n v.1) (λ q. Some ((k.0, v.0) ∷ q.0, q.1))) (ps, r) a in
    let (q, others, c) = both (collect f n v.1) (λ q. Some ((k.0, v.0) ∷ q.0, q.1)) (ps, r) b in
    let same = some_same {A = List (Tree × Tree) × List ℕ} ((k.0, v.0) ∷ q.0, q.1) (ps, r) c in
    let all : ◌≡◌ {A = List (Tree × Tree)} ((k.0, v.0) ∷ q.0) ps = ap (λ z. z.0) same in
    let rest : q.1 ≡ r = ap (λ z. z.1) same in
    let more = inserted_rest f n v.1 (insert_pair same_tree ds k.0 v.0) q.0 q.1 others in
    ap (λ o. and_then o (λ k. and_then (f k.1) (λ v. insert f n v.1 (insert_tree (pairs_of ds) k.0 v.0)))) key
    ∙ ap (λ o. and_then o (λ v. insert f n v.1 (insert_tree (pairs_of ds) k.0 v.0))) value
    ∙ ap (λ z. insert f n v.1 z) (sym (pairs_inserted ds k.0 v.0))
    ∙ more
    ∙ ap (λ z. Some (pairs_of (fold (λ done e. insert_pair same_tree done e.0 e.1) ds z), q.1)) all
    ∙ ap (λ z. Some (pairs_of (fold (λ done e. insert_pair same_tree done e.0 e.1) ds ps), z)) rest

pub all_inserted : (depth d n : ℕ) (body : List ℕ) (ps : List (Tree × Tree)) → depth ≡ suc d → collect (parse (suc d)) n body ≡ Some (ps, []) → AreApart (keys_of ps)
    → insert (parse depth) n body no_pairs ≡ Some (pairs_of ps, [])
all_inserted depth d n body ps deep all apart =
    let inner : collect (parse depth) n body ≡ Some (ps, []) = ap (λ z. collect (parse z) n body) deep ∙ all in
    let unchanged : inserted_in_order same_tree ps ≡ ps = distinct_inserted same_tree ps (apart_entries ps apart) in
    inserted_rest (parse depth) n body [] ps [] inner ∙ ap (λ es. Some (pairs_of es, [])) unchanged

pub map_found : (depth d n : ℕ) (bytes rest body : List ℕ) (ps : List (Tree × Tree)) → depth ≡ suc d → IsMapOf bytes rest n body
    → collect (parse (suc d)) n body ≡ Some (ps, []) → AreApart (keys_of ps)
    → (tree_in (parse (suc depth) bytes) ≡ map (pairs_of ps)) × (parse (suc depth) bytes ≡ Some (tree_in (parse (suc depth) bytes), rest))
map_found depth d n bytes rest body ps deep is all apart =
    found (parse (suc depth) bytes) (map (pairs_of ps)) rest (parse_value depth bytes ∙ is (parse depth) (parse_content depth) (pairs_of ps) (all_inserted depth d n body ps deep all apart))

pub described_found : (depth d c : ℕ) (bytes s r : List ℕ) (e : Descriptor) → depth ≡ suc d → descriptor_at bytes ≡ Some (e, c ∷ s)
    → parse (suc d) (c ∷ s) ≡ Some (tree_in (parse (suc d) (c ∷ s)), r)
    → (tree_in (parse (suc depth) (0 ∷ bytes)) ≡ described e (tree_in (parse (suc d) (c ∷ s)))) × (parse (suc depth) (0 ∷ bytes) ≡ Some (tree_in (parse (suc depth) (0 ∷ bytes)), r))
described_found depth d c bytes s r e deep at inner =
    let t = tree_in (parse (suc d) (c ∷ s)) in
    let inside : parse depth (c ∷ s) ≡ Some (t, r) = ap (λ z. parse z (c ∷ s)) deep ∙ inner in
    found (parse (suc depth) (0 ∷ bytes)) (described e t) r (parse_value depth (0 ∷ bytes)
    ∙ ap (λ o. and_then o (parse_described (parse depth))) at
    ∙ ap (λ o. and_then o (λ r. Some (described e r.0, r.1))) inside)

-- The next element.
pub next_own : (depth c n : ℕ) (s r : List ℕ) (t : Tree) (ts : List Tree) → c ≡ 0 → (n ≡ 0 → ⊥) → parse (suc depth) s ≡ Some (t, r)
    → gather (element_reader depth c) (n - 1) r [] ≡ Some (ts, []) → gather (element_reader depth c) n s [] ≡ Some (t ∷ ts, [])
next_own depth c n s r t ts own some first all =
    let form : element_reader depth c ≡ parse (suc depth) = ap (element_reader depth) own in
    first_gathered (element_reader depth c) n s r t ts some (ap (λ f. f s) form ∙ first) all

pub next_item : (depth c n : ℕ) (s r : List ℕ) (t : Tree) (ts : List Tree) → (c ≡ 0 → ⊥) → (n ≡ 0 → ⊥) → parse (suc depth) (c ∷ s) ≡ Some (t, r)
    → gather (element_reader depth c) (n - 1) r [] ≡ Some (ts, []) → gather (element_reader depth c) n s [] ≡ Some (t ∷ ts, [])
next_item depth c n s r t ts of some first all =
    first_gathered (element_reader depth c) n s r t ts some (ap (λ f. f s) (form_of_items depth c of) ∙ first) all

pub none_left : (f : ValueReader) (n : ℕ) (s : List ℕ) (ts : List Tree) → n ≡ 0 → gather f n s [] ≡ Some (ts, []) → (ts ≡ []) × (gather f n s [] ≡ Some ([], []))
none_left f n s ts none e =
    let start : gather f n s [] ≡ Some ([], s) = ap (λ m. gather f m s []) none in
    let same = some_same {A = List Tree × List ℕ} ([], s) (ts, []) (sym start ∙ e) in
    let empty : ts ≡ [] = sym (ap (λ z. z.0) same) in
    (empty, e ∙ ap (λ z. Some (z, [])) empty)

pub no_bytes : {M : Type 0} (depth c n : ℕ) (s : List ℕ) (ts : List Tree) → c ≡ 0 → (n ≡ 0 → ⊥) → s ≡ [] → gather (element_reader depth c) n s [] ≡ Some (ts, []) → M
unfolding parse
no_bytes depth c zero s ts own some empty e = absurd (some refl)
no_bytes depth c (suc n) s ts own some empty e =
    let none : gather (element_reader depth c) (suc n) s [] ≡ None = rw (own, empty) refl in
    let same : None ≡ Some (ts, []) = sym none ∙ e in
    absurd cc

pub closed : (f : ValueReader) (n : ℕ) (s : List ℕ) → n ≡ 0 → s ≡ [] → gather f n s [] ≡ Some ([], [])
closed f n s none empty = rw (none, empty) refl

-- The next entry.
pub pair_collected : (f : ValueReader) (n : ℕ) (s m v : List ℕ) (k t : Tree) (ps : List (Tree × Tree)) → (n ≡ 0 → ⊥) → f s ≡ Some (k, m) → f m ≡ Some (t, v)
    → collect f (n - 1) v ≡ Some (ps, []) → collect f n s ≡ Some ((k, t) ∷ ps, [])
pair_collected f zero s m v k t ps some key value all = absurd (some refl)
pair_collected f (suc n) s m v k t ps some key value all =
    let less : suc n - 1 ≡ n = omega arith in
    let inner : collect f n v ≡ Some (ps, []) = sym (ap (λ z. collect f z v) less) ∙ all in
    ap (λ o. and_then o (λ k. and_then (f k.1) (λ v. and_then (collect f n v.1) (λ q. Some ((k.0, v.0) ∷ q.0, q.1))))) key
    ∙ ap (λ o. and_then o (λ v. and_then (collect f n v.1) (λ q. Some ((k, v.0) ∷ q.0, q.1)))) value
    ∙ ap (λ o. and_then o (λ q. Some ((k, t) ∷ q.0, q.1))) inner

pub none_collected : (f : ValueReader) (n : ℕ) (s : List ℕ) (ps : List (Tree × Tree)) → n ≡ 0 → collect f n s ≡ Some (ps, []) → (ps ≡ []) × (collect f n s ≡ Some ([], []))
none_collected f n s ps none e =
    let start : collect f n s ≡ Some ([], s) = ap (λ m. collect f m s) none in
    let same = some_same {A = List (Tree × Tree) × List ℕ} ([], s) (ps, []) (sym start ∙ e) in
    let empty : ps ≡ [] = sym (ap (λ z. z.0) same) in
    (empty, e ∙ ap (λ z. Some (z, [])) empty)

pub no_entry_bytes : {M : Type 0} (depth n : ℕ) (s : List ℕ) (ps : List (Tree × Tree)) → (n ≡ 0 → ⊥) → s ≡ [] → collect (parse (suc depth)) n s ≡ Some (ps, []) → M
unfolding parse
no_entry_bytes depth zero s ps some empty e = absurd (some refl)
no_entry_bytes depth (suc n) s ps some empty e =
    let none : collect (parse (suc depth)) (suc n) s ≡ None = rw empty refl in
    let same : None ≡ Some (ps, []) = sym none ∙ e in
    absurd cc

pub closed_entries : (f : ValueReader) (n : ℕ) (s : List ℕ) → n ≡ 0 → s ≡ [] → collect f n s ≡ Some ([], [])
closed_entries f n s none empty = rw (none, empty) refl

-- The names of fields that are found in order.
module _ (n : List ℕ) (t : Tree) (ps : List (Tree × Tree)) where
  pub named_value : value_at n ((scalar (string n), t) ∷ ps) ≡ Some t
  named_value = first_value n t ps

  pub named_rest : without n ((scalar (string n), t) ∷ ps) ≡ ps
  named_rest = first_without n t ps

  pub named_only : (ns : List (List ℕ)) → HasOnly ns ps → HasOnly (n ∷ ns) ((scalar (string n), t) ∷ ps)
  named_only ns (fs, e) = ((true, t) ∷ fs, ap (λ z. (scalar (string n), t) ∷ z) e)

  pub absent_only : (ns : List (List ℕ)) → HasOnly ns ps → HasOnly (n ∷ ns) ps
  absent_only ns (fs, e) = ((false, t) ∷ fs, e)

  not_false : (b : Bool) → not b ≡ true → b ≡ false
  not_false false e = refl
  not_false true e = absurd (true≢false (sym e))

  pub absent_value : (ns : List (List ℕ)) → HasOnly ns ps → not (has_name n ns) ≡ true → (value_at n ps ≡ None) × (without n ps ≡ ps)
  absent_value ns (fs, e) other =
      let none = not_false (has_name n ns) other in
      (ap (value_at n) e ∙ no_value n ns fs none, ap (without n) e ∙ all_left n ns fs none ∙ sym e)

pub and_both : (a b : Bool) → (a && b) ≡ true → (a ≡ true) × (b ≡ true)
and_both true b e = (refl, e)
and_both false b e = absurd (true≢false (sym e))

pub null_value : (d c : ℕ) (s : List ℕ) → c ≡ 64 → tree_in (parse (suc d) (c ∷ s)) ≡ scalar null
null_value d c s e = ap (λ z. tree_in (parse (suc d) (z ∷ s))) e ∙ (scalar_found d (64 ∷ s) s null (null-is s)).0

pub name_key : (body bytes rest after : List ℕ) (text n : List ℕ) → body ≡ bytes → text ≡ n → rest ≡ after → IsScalar bytes rest (string text)
    → (d : ℕ) → parse (suc d) body ≡ Some (scalar (string n), after)
name_key body bytes rest after text n whole same next is d =
    ap (parse (suc d)) whole ∙ parse_value d bytes ∙ is (parse d) (parse_content d) ∙ ap (λ z. Some (scalar (string z), rest)) same ∙ ap (λ z. Some (scalar (string n), z)) next

pub described_from : (depth d c k : ℕ) (bytes after s r : List ℕ) (e : Descriptor) → c ≡ 0 → depth ≡ suc d → descriptor_at bytes ≡ Some (e, after) → after ≡ k ∷ s
    → parse (suc d) (k ∷ s) ≡ Some (tree_in (parse (suc d) (k ∷ s)), r)
    → (tree_in (parse (suc depth) (c ∷ bytes)) ≡ described e (tree_in (parse (suc d) (k ∷ s)))) × (parse (suc depth) (c ∷ bytes) ≡ Some (tree_in (parse (suc depth) (c ∷ bytes)), r))
described_from depth d c k bytes after s r e none deep at whole inner =
    let (is, left) = described_found depth d k bytes s r e deep (at ∙ ap (λ z. Some (e, z)) whole) inner in (
      ap (λ z. tree_in (parse (suc depth) (z ∷ bytes))) none ∙ is,
      ap (λ z. parse (suc depth) (z ∷ bytes)) none ∙ left ∙ ap (λ z. Some (tree_in (parse (suc depth) (z ∷ bytes)), r)) (sym none),
    )

-- Elements that were read in one call.
pub items_filled : {T : Type 0} (R : Tree → T → Type 0) (depth c n : ℕ) (s : List ℕ) (xs : List T) → (c ≡ 0 → ⊥) → Fills R (item_of depth c) n s xs
    → (ts : List Tree) × (gather (element_reader depth c) n s [] ≡ Some (ts, [])) × AllZip R ts xs
items_filled R depth c n s xs some (ts, all, zip) = (ts, ap (λ f. gather f n s []) (form_of_items depth c some) ∙ all, zip)

pub own_filled : {T : Type 0} (R : Tree → T → Type 0) (depth c n : ℕ) (s : List ℕ) (xs : List T) → c ≡ 0 → Fills R (parse (suc depth)) n s xs
    → (ts : List Tree) × (gather (element_reader depth c) n s [] ≡ Some (ts, [])) × AllZip R ts xs
own_filled R depth c n s xs own (ts, all, zip) = (ts, ap (λ z. gather (element_reader depth z) n s []) own ∙ all, zip)

-- What holds holds where there is nothing.
pub when_none : {A : Type 0} {P : Type 0} (o : Option A) → P → IfNone o P
when_none None p = p
when_none (Some a) p = tt
