-- A tree that bytes encode is its own image: it has no variant, no lazy or transparent part, and no
-- map with a key twice.
use Rattle.std.proofs.Common.{◌≡◌, ℕ, if◌then◌else◌, Bool, true, false, List, refl, ap, ◌∙◌}
use Rattle.amqp_data.specs.declared.format_code.EncodingCodes.{EncodingCodes}
use Rattle.amqp_ser.specs.Same.{same_tree}
use Rattle.amqp_ser.specs.Tree as tree
use Rattle.amqp_ser.specs.Tree.{Tree, Trees, Pairs, trees_of, more, no_pairs, pair}
use Rattle.amqp_value.specs.AsMap.{read_as_map, each_as_map, pairs_as_map}
use Rattle.amqp_value.specs.Image.{image, insert_tree}
use Rattle.amqp_value.specs.Plain.{IsPlain, ArePlain, HasPlainPairs, LacksImage}
use Rattle.amqp_value.proofs.ImageLemmas.{image-plain}
use Rattle.amqp_decode.specs.Encodes.{Encodes, EncodesContent, EncodesElements, EncodesItems, EncodesEntries}

-- A plain tree without variants.
abbrev Stays : Tree → Type 0
Stays t = IsPlain t × (read_as_map t ≡ t)

abbrev AllStay : Trees → Type 0
AllStay ts = ArePlain ts × (each_as_map ts ≡ ts)

abbrev PairsStay : Pairs → Type 0
PairsStay no_pairs = Unit {0}
PairsStay (pair k v ps) = Stays k × Stays v × LacksImage (image k) ps × PairsStay ps

own : (t : Tree) → Stays t → image t ≡ t
own t h = image-plain t h.0 ∙ h.1

plain-pairs : (ps : Pairs) → PairsStay ps → HasPlainPairs ps
plain-pairs no_pairs h = tt
plain-pairs (pair k v ps) h = (h.0.0, h.1.0, h.2, plain-pairs ps h.3)

same-pairs : (ps : Pairs) → PairsStay ps → pairs_as_map ps ≡ ps
same-pairs no_pairs h = refl
same-pairs (pair k v ps) h = λ i. pair (h.0.1 i) (h.1.1 i) (same-pairs ps h.3 i)

module _ (k v : Tree) (hk : Stays k) (hv : Stays v) where
  lacks-either : (b : Bool) (x l w : Tree) (ps : Pairs) → LacksImage x (pair l w ps) → LacksImage x (insert_tree ps k v)
      → LacksImage x (if b then pair l v ps else pair l w (insert_tree ps k v))
  lacks-either true x l w ps h rest = h
  lacks-either false x l w ps h rest = (h.0, rest)

  lacks-inserted : (x : Tree) (ps : Pairs) → same_tree (image k) x ≡ false → LacksImage x ps → LacksImage x (insert_tree ps k v)
  lacks-inserted x no_pairs other h = (other, tt)
  lacks-inserted x (pair l w ps) other h = lacks-either (same_tree k l) x l w ps h (lacks-inserted x ps other h.1)

  stay-either : (b : Bool) (l w : Tree) (ps : Pairs) → same_tree k l ≡ b → PairsStay (pair l w ps) → PairsStay (insert_tree ps k v)
      → PairsStay (if b then pair l v ps else pair l w (insert_tree ps k v))
  stay-either true l w ps is h rest = (h.0, hv, h.2, h.3)
  stay-either false l w ps is h rest = (h.0, h.1, lacks-inserted (image l) ps ((λ i. same_tree (own k hk i) (own l h.0 i)) ∙ is) h.2, rest)

  -- One more entry.
  stay-inserted : (ps : Pairs) → PairsStay ps → PairsStay (insert_tree ps k v)
  stay-inserted no_pairs h = (hk, hv, tt, tt)
  stay-inserted (pair l w ps) h = stay-either (same_tree k l) l w ps refl h (stay-inserted ps h.3)

mutual
  encoded-stays : {d : ℕ} {s : List ℕ} {t : Tree} → Encodes d s t → Stays t
  encoded-stays (Encodes.primitive d c p s t ok is h) = content-stays h
  encoded-stays (Encodes.described d a b l t is sp) =
      let h = encoded-stays sp in
      (h.0, ap (tree.described l) h.1)

  content-stays : {d : ℕ} {c : EncodingCodes} {s : List ℕ} {t : Tree} → EncodesContent d c s t → Stays t
  content-stays (EncodesContent.a_scalar d c s x shape is) = (tt, refl)
  content-stays (EncodesContent.a_list d c k s n body ts shape is h) =
      let e = elements-stay h in
      (e.0, ap tree.list e.1)
  content-stays (EncodesContent.a_map d c k s n body ps shape is h) =
      let e = entries-stay h tt in
      (plain-pairs ps e, ap tree.map (same-pairs ps e))
  content-stays (EncodesContent.a_bare_array d c k s shape is) = (tt, refl)
  content-stays (EncodesContent.an_array d c k s n constructor body ts shape is ok h) =
      let e = items-stay h in
      (e.0, ap tree.array e.1)

  elements-stay : {d n : ℕ} {s : List ℕ} {ts : List Tree} → EncodesElements d n s ts → AllStay (trees_of ts)
  elements-stay (EncodesElements.no_element d) = (tt, refl)
  elements-stay (EncodesElements.element d n a b t ts h hs) =
      let x = encoded-stays h in
      let xs = elements-stay hs in
      ((x.0, xs.0), λ i. more (x.1 i) (xs.1 i))

  items-stay : {d : ℕ} {c : EncodingCodes} {n : ℕ} {s : List ℕ} {ts : List Tree} → EncodesItems d c n s ts → AllStay (trees_of ts)
  items-stay (EncodesItems.no_item d c) = (tt, refl)
  items-stay (EncodesItems.item d c n p content b t ts is h hs) =
      let x = content-stays h in
      let xs = items-stay hs in
      ((x.0, xs.0), λ i. more (x.1 i) (xs.1 i))

  entries-stay : {d n : ℕ} {s : List ℕ} {done ps : Pairs} → EncodesEntries d n s done ps → PairsStay done → PairsStay ps
  entries-stay (EncodesEntries.no_entry d done) h = h
  entries-stay (EncodesEntries.entry d n a b rest k v done ps sk sv se) h =
      entries-stay se (stay-inserted k v (encoded-stays sk) (encoded-stays sv) done h)

pub encoded-own_image : {d : ℕ} {s : List ℕ} {t : Tree} → Encodes d s t → image t ≡ t
encoded-own_image {d} {s} {t} sp = own t (encoded-stays sp)
