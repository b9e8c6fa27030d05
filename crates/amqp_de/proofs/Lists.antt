-- Lists of elements or pairs round-trip through compounds, and what is read from one kind of trees.
use Rattle.std.proofs.Common.{◌≡◌, List, [], ◌∷◌, refl, sym, ap, ◌∙◌, subst}
use Rattle.std.specs.List.{AllZip}
use Rattle.amqp_ser.specs.Tree as tree
use Rattle.amqp_ser.specs.Tree.{Tree, Trees, Pairs, Descriptor, trees_of}
use Rattle.amqp_value.specs.TreeOf.{pairs_of}
use Rattle.amqp_de.specs.Fields.{FieldSource, by_position, by_name, OnFields, OnEntries, OnDescribed}
use Rattle.amqp_de.specs.Maps.{OnMap}
use Rattle.amqp_de.specs.Reads.{OnList, OnArray}
use Rattle.amqp_de.specs.Results.{ReadsAndRestores}
use Rattle.amqp_de.specs.Values.{elements_in, entries_in}
use Rattle.amqp_de.proofs.Loops.{zip_reads}

pub list_of_trees : (ts : List Tree) → elements_in (trees_of ts) ≡ ts
list_of_trees [] = refl
list_of_trees (t ∷ ts) = ap (λ us. t ∷ us) (list_of_trees ts)

pub entries_in_pairs : (es : List (Tree × Tree)) → entries_in (pairs_of es) ≡ es
entries_in_pairs [] = refl
entries_in_pairs (e ∷ es) = ap (λ fs. e ∷ fs) (entries_in_pairs es)

pub same_trees : (us ts : List Tree) → trees_of us ≡ trees_of ts → us ≡ ts
same_trees us ts p = sym (list_of_trees us) ∙ ap elements_in p ∙ list_of_trees ts

pub same_pairs : (ds es : List (Tree × Tree)) → pairs_of ds ≡ pairs_of es → ds ≡ es
same_pairs ds es p = sym (entries_in_pairs ds) ∙ ap entries_in p ∙ entries_in_pairs es

-- One tree has one list of elements, or of entries.
pub one_list : (t : Tree) (us ts : List Tree) → t ≡ tree.list (trees_of us) → t ≡ tree.list (trees_of ts) → us ≡ ts
one_list t us ts p q = let same : trees_of us ≡ trees_of ts = cc in same_trees us ts same

pub one_array : (t : Tree) (us ts : List Tree) → t ≡ tree.array (trees_of us) → t ≡ tree.array (trees_of ts) → us ≡ ts
one_array t us ts p q = let same : trees_of us ≡ trees_of ts = cc in same_trees us ts same

pub one_map : (t : Tree) (ds es : List (Tree × Tree)) → t ≡ tree.map (pairs_of ds) → t ≡ tree.map (pairs_of es) → ds ≡ es
one_map t ds es p q = let same : pairs_of ds ≡ pairs_of es = cc in same_pairs ds es same

pub is_list : (K : List Tree → Type 0) (t : Tree) → OnList K t → (ts : Trees) × (t ≡ tree.list ts) × K (elements_in ts)
unfolding OnList
is_list K (tree.list ts) h = (ts, refl, h)
is_list K (tree.scalar s) h = absurd h
is_list K (tree.array ts) h = absurd h
is_list K (tree.map ps) h = absurd h
is_list K (tree.described d u) h = absurd h
is_list K (tree.variant i u) h = absurd h
is_list K (tree.lazy bs) h = absurd h
is_list K (tree.transparent ts) h = absurd h

pub is_array : (K : List Tree → Type 0) (t : Tree) → OnArray K t → (ts : Trees) × (t ≡ tree.array ts) × K (elements_in ts)
unfolding OnArray
is_array K (tree.array ts) h = (ts, refl, h)
is_array K (tree.scalar s) h = absurd h
is_array K (tree.list ts) h = absurd h
is_array K (tree.map ps) h = absurd h
is_array K (tree.described d u) h = absurd h
is_array K (tree.variant i u) h = absurd h
is_array K (tree.lazy bs) h = absurd h
is_array K (tree.transparent ts) h = absurd h

pub is_map : (K : List (Tree × Tree) → Type 0) (t : Tree) → OnMap K t → (ps : Pairs) × (t ≡ tree.map ps) × K (entries_in ps)
unfolding OnMap
is_map K (tree.map ps) h = (ps, refl, h)
is_map K (tree.scalar s) h = absurd h
is_map K (tree.list ts) h = absurd h
is_map K (tree.array ts) h = absurd h
is_map K (tree.described d u) h = absurd h
is_map K (tree.variant i u) h = absurd h
is_map K (tree.lazy bs) h = absurd h
is_map K (tree.transparent ts) h = absurd h

pub is_fields : (K : FieldSource → Type 0) (t : Tree) → OnFields K t → (ts : Trees) × (t ≡ tree.list ts) × K (by_position (elements_in ts))
unfolding OnFields
is_fields K (tree.list ts) h = (ts, refl, h)
is_fields K (tree.scalar s) h = absurd h
is_fields K (tree.array ts) h = absurd h
is_fields K (tree.map ps) h = absurd h
is_fields K (tree.described d u) h = absurd h
is_fields K (tree.variant i u) h = absurd h
is_fields K (tree.lazy bs) h = absurd h
is_fields K (tree.transparent ts) h = absurd h

pub is_entries : (K : FieldSource → Type 0) (t : Tree) → OnEntries K t → (ps : Pairs) × (t ≡ tree.map ps) × K (by_name (entries_in ps))
unfolding OnEntries
is_entries K (tree.map ps) h = (ps, refl, h)
is_entries K (tree.scalar s) h = absurd h
is_entries K (tree.list ts) h = absurd h
is_entries K (tree.array ts) h = absurd h
is_entries K (tree.described d u) h = absurd h
is_entries K (tree.variant i u) h = absurd h
is_entries K (tree.lazy bs) h = absurd h
is_entries K (tree.transparent ts) h = absurd h

pub is_described : (d : Descriptor) (K : Tree → Type 0) (t : Tree) → OnDescribed d K t → (u : Tree) × (t ≡ tree.described d u) × K u
unfolding OnDescribed
is_described d K (tree.described e u) h = (u, subst (λ f. tree.described e u ≡ tree.described f u) h.0 refl, h.1)
is_described d K (tree.scalar s) h = absurd h
is_described d K (tree.list ts) h = absurd h
is_described d K (tree.array ts) h = absurd h
is_described d K (tree.map ps) h = absurd h
is_described d K (tree.variant i u) h = absurd h
is_described d K (tree.lazy bs) h = absurd h
is_described d K (tree.transparent ts) h = absurd h

-- What is read from the elements, the entries or the value inside is read from the tree, and the other way round.
module _ (K : List Tree → Type 0) (t : Tree) (ts : List Tree) where
  pub to_list : t ≡ tree.list (trees_of ts) → K ts → OnList K t
  unfolding OnList
  to_list e k = rw e (subst K (sym (list_of_trees ts)) k)

  pub of_list : t ≡ tree.list (trees_of ts) → OnList K t → K ts
  unfolding OnList
  of_list e h = let k : OnList K (tree.list (trees_of ts)) = subst (OnList K) e h in subst K (list_of_trees ts) k

  pub to_array : t ≡ tree.array (trees_of ts) → K ts → OnArray K t
  unfolding OnArray
  to_array e k = rw e (subst K (sym (list_of_trees ts)) k)

  pub of_array : t ≡ tree.array (trees_of ts) → OnArray K t → K ts
  unfolding OnArray
  of_array e h = let k : OnArray K (tree.array (trees_of ts)) = subst (OnArray K) e h in subst K (list_of_trees ts) k

module _ (K : List (Tree × Tree) → Type 0) (t : Tree) (ps : List (Tree × Tree)) where
  pub to_map : t ≡ tree.map (pairs_of ps) → K ps → OnMap K t
  unfolding OnMap
  to_map e k = rw e (subst K (sym (entries_in_pairs ps)) k)

  pub of_map : t ≡ tree.map (pairs_of ps) → OnMap K t → K ps
  unfolding OnMap
  of_map e h = let k : OnMap K (tree.map (pairs_of ps)) = subst (OnMap K) e h in subst K (entries_in_pairs ps) k

module _ (K : FieldSource → Type 0) (t : Tree) where
  pub to_fields : (ts : List Tree) → t ≡ tree.list (trees_of ts) → K (by_position ts) → OnFields K t
  unfolding OnFields
  to_fields ts e k = rw e (subst (λ us. K (by_position us)) (sym (list_of_trees ts)) k)

  pub of_fields : (ts : List Tree) → t ≡ tree.list (trees_of ts) → OnFields K t → K (by_position ts)
  unfolding OnFields
  of_fields ts e h = let k : OnFields K (tree.list (trees_of ts)) = subst (OnFields K) e h in subst (λ us. K (by_position us)) (list_of_trees ts) k

  pub to_entries : (ps : List (Tree × Tree)) → t ≡ tree.map (pairs_of ps) → K (by_name ps) → OnEntries K t
  unfolding OnEntries
  to_entries ps e k = rw e (subst (λ qs. K (by_name qs)) (sym (entries_in_pairs ps)) k)

  pub of_entries : (ps : List (Tree × Tree)) → t ≡ tree.map (pairs_of ps) → OnEntries K t → K (by_name ps)
  unfolding OnEntries
  of_entries ps e h = let k : OnEntries K (tree.map (pairs_of ps)) = subst (OnEntries K) e h in subst (λ qs. K (by_name qs)) (entries_in_pairs ps) k

module _ (d : Descriptor) (K : Tree → Type 0) (t u : Tree) where
  pub to_described : (e : Descriptor) → t ≡ tree.described e u → e ≡ d → K u → OnDescribed d K t
  unfolding OnDescribed
  to_described e p is k = rw p (is, k)

  pub of_described : (e : Descriptor) → t ≡ tree.described e u → OnDescribed d K t → (e ≡ d) × K u
  unfolding OnDescribed
  of_described e p h = let k : OnDescribed d K (tree.described e u) = subst (OnDescribed d K) p h in k

pub inner_same : (t u v : Tree) (d e : Descriptor) → t ≡ tree.described e u → t ≡ tree.described d v → (e ≡ d) × (u ≡ v)
inner_same t u v d e p q = let a : e ≡ d = cc in let b : u ≡ v = cc in (a, b)

module _ {T : Type 0} (R : Tree → T → Type 0) (image : T → Tree) (P : T → Type 0) (S : T → T → Type 0) where
  pub list_reads : (t : Tree) (ts : List Tree) (xs : List T) → t ≡ tree.list (trees_of ts) → AllZip (ReadsAndRestores R image P S) ts xs → OnList (λ us. AllZip R us xs) t
  list_reads t ts xs e zip = to_list (λ us. AllZip R us xs) t ts e (zip_reads R image P S ts xs zip)

  pub array_reads : (t : Tree) (ts : List Tree) (xs : List T) → t ≡ tree.array (trees_of ts) → AllZip (ReadsAndRestores R image P S) ts xs → OnArray (λ us. AllZip R us xs) t
  array_reads t ts xs e zip = to_array (λ us. AllZip R us xs) t ts e (zip_reads R image P S ts xs zip)
