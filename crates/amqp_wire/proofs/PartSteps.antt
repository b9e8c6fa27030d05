-- The steps of the parts of a compound.
use Rattle.std.proofs.Common.{◌≡◌, ℕ, ◌+◌, List, [], ◌∷◌, ◌++◌, Option, Some, None, Bool, true, false, not, ◌&&◌, Result, Ok, Err, refl, ap, sym, ◌∙◌, subst, arith, append-nil, append_assoc}
use Rattle.amqp_ser.specs.Tree.{Tree, Trees, no_trees, more}
use Rattle.amqp_ser.specs.Compounds.{paired}
use Rattle.amqp_ser.specs.Encoding.{encoding, payload, encoding_each, payload_each, array_constructor, constructor, code_list}
use Rattle.amqp_ser.specs.Writable.{within_limits, within_limits_each, uniform_arrays, uniform_arrays_each, inside, inside_each, placed, placed_each, same_constructor, each_constructor, one_constructor}
use Rattle.amqp_ser.specs.declared.kind.CompoundKind.{CompoundKind}
use Rattle.amqp_ser.specs.declared.kind.CompoundKind.TheVariants as kinds
use Rattle.amqp_ser.specs.declared.marker.Marker.TheVariants as marker
use Rattle.amqp_ser.proofs.Bools.{both, and_assoc, nat_eq-refl}
use Rattle.amqp_ser.proofs.Joins.{join, joined, all_trees-append, encoding_each-join, payload_each-join, count-join, uniform_arrays-join, within_limits-join, each-join, inside-join, ranged-join}
use Rattle.amqp_ser.proofs.Last.{last_off, paired-last}
use Rattle.amqp_ser.proofs.Unmarked.{unmarked}
use Rattle.amqp_size.specs.declared.resolved_kind.ResolvedKind.{ResolvedKind}
use Rattle.amqp_size.specs.declared.resolved_kind.ResolvedKind.TheVariants as resolved
use Rattle.amqp_wire.specs.Positions.{is_element, bytes_at, fits_position, Took}
use Rattle.amqp_wire.specs.Kept.{Kept, kept, with_count, with_part}
use Rattle.amqp_wire.specs.When.{Promises}
use Rattle.amqp_wire.specs.Gives.{Adding, Opening, Extending, Marking, Gave, puts, Gives, marked, inner, next_element, element_at, body, PartsFit, Added, Gathers, Before, Holds, Alone, class_of, HasIn, Has, Awaits}
use Rattle.amqp_wire.specs.declared.pass.GaveUp.{GaveUp}
use Rattle.amqp_wire.specs.declared.pass.Pass.{Pass}
use Rattle.amqp_wire.specs.declared.pass_compound.PassCompound.{PassCompound}
use Rattle.amqp_wire.specs.declared.position.Position.{Position}
use Rattle.amqp_wire.specs.declared.position.Position.TheVariants as positions
use Rattle.amqp_wire.specs.declared.sink.Mark.{Mark}
use Rattle.amqp_wire.proofs.Given.{when2}
use Rattle.amqp_wire.proofs.SinkLaws.{Laws, added_on, added_same, puts_after, puts_extends, has_extends, has_same}

pub unmarked_puts : {K : Type 0} (adds : Adding K) (reads : Promises K) (extends : Extending K) (s : Pass K) (o : Option Tree) (after : Pass K) → s.marker ≡ Some marker.Other → Gives adds reads extends s o (Ok tt) after → puts adds reads s.sink s.position o after.sink after.position
unmarked_puts {K} adds reads extends s o after m h = subst (λ w. puts adds reads s.sink s.position w after.sink after.position) (unmarked o) (subst (λ w. puts adds reads s.sink s.position (marked w o) after.sink after.position) m h)

placed-join : (ts us : Trees) → placed_each (join ts us) ≡ (placed_each ts && placed_each us)
placed-join no_trees us = refl
placed-join (more t ts) us = ap (λ b. placed t && b) (placed-join ts us) ∙ sym (and_assoc (placed t) (placed_each ts) (placed_each us))

-- One more element of an array.
record ArrayMore (ts : Trees) (t : Tree) (q : Position) : Type 0 where
  uniform : one_constructor (join ts (more t no_trees)) ≡ true
  position : q ≡ next_element (join ts (more t no_trees))
  bytes : array_constructor (join ts (more t no_trees)) ++ payload_each (join ts (more t no_trees)) ≡ (array_constructor ts ++ payload_each ts) ++ bytes_at (next_element ts) t

alike : (o p : Option ℕ) (d : ℕ) → o ≡ Some d → p ≡ Some d → same_constructor o p ≡ true
alike o p d e f = subst (λ w. same_constructor w p ≡ true) (sym e) (subst (λ w. same_constructor (Some d) w ≡ true) (sym f) (nat_eq-refl d))

no_such : (o : Option ℕ) (b : Bool) → o ≡ None → (same_constructor o o && b) ≡ true → ⊥
no_such None b e h = cc
no_such (Some d) b e h = cc

first_more : (t : Tree) (q : Position) (c : ℕ) → constructor t ≡ Some c → q ≡ positions.Element c → ArrayMore no_trees t q
first_more t q c e h = record {
  uniform = both (same_constructor (constructor t) (constructor t)) true (alike (constructor t) (constructor t) c e e) refl;
  position = h ∙ ap element_at (sym e);
  bytes = ap (λ bs. code_list (constructor t) ++ bs) (append-nil (payload t));
}

other_more : (u : Tree) (us : Trees) (t : Tree) (q : Position) (d : ℕ) → constructor u ≡ Some d → each_constructor (constructor u) (more u us) ≡ true → constructor t ≡ Some d → q ≡ positions.Element d → ArrayMore (more u us) t q
other_more u us t q d e w f h = record {
  uniform = each-join (constructor u) (more u us) (more t no_trees) ∙ both (each_constructor (constructor u) (more u us)) (same_constructor (constructor u) (constructor t) && true) w (both (same_constructor (constructor u) (constructor t)) true (alike (constructor u) (constructor t) d e f) refl);
  position = h ∙ ap element_at (sym e);
  bytes =
      let end : payload_each (more t no_trees) ≡ payload t = append-nil (payload t) in
      ap (λ bs. code_list (constructor u) ++ bs) (payload_each-join (more u us) (more t no_trees) ∙ ap (λ bs. payload_each (more u us) ++ bs) end)
      ∙ sym (append_assoc (code_list (constructor u)) (payload_each (more u us)) (payload t)) ∙ ap (λ p. (code_list (constructor u) ++ payload_each (more u us)) ++ bytes_at (element_at p) t) (sym e);
}

more_by : (u : Tree) (us : Trees) (t : Tree) (q : Position) (o : Option ℕ) → constructor u ≡ o → each_constructor (constructor u) (more u us) ≡ true → Took (element_at o) t q → ArrayMore (more u us) t q
more_by u us t q None e w h = absurd (no_such (constructor u) (each_constructor (constructor u) us) e w)
more_by u us t q (Some d) e w h = other_more u us t q d e w h.0 h.1

array_more : (ts : Trees) (t : Tree) (q : Position) → one_constructor ts ≡ true → Took (next_element ts) t q → ArrayMore ts t q
array_more no_trees t q w h = first_more t q h.0 h.1.0 h.1.1
array_more (more u us) t q w h = more_by u us t q (constructor u) refl w h

element_fits : (o : Option ℕ) (t : Tree) → fits_position (element_at o) t ≡ true → inside t ≡ true
element_fits None t h = h
element_fits (Some c) t h = h

next_fits : (ts : Trees) (t : Tree) → fits_position (next_element ts) t ≡ true → inside t ≡ true
next_fits no_trees t h = h
next_fits (more u us) t h = element_fits (constructor u) t h

inside_more : (ts : Trees) (t : Tree) → inside_each ts ≡ true → inside t ≡ true → inside_each (join ts (more t no_trees)) ≡ true
inside_more ts t h i = inside-join ts (more t no_trees) ∙ both (inside_each ts) (inside_each (more t no_trees)) h (both (inside t) true i refl)

bytes_more : (ts : Trees) (t : Tree) → encoding_each (join ts (more t no_trees)) ≡ encoding_each ts ++ encoding t
bytes_more ts t = encoding_each-join ts (more t no_trees) ∙ ap (λ bs. encoding_each ts ++ bs) (append-nil (encoding t))

-- The position of the part after a part.
abbrev pub place_after : ResolvedKind → Position → Position → Position
place_after resolved.List p q = p
place_after resolved.Map p q = p
place_after (resolved.Variant i) p q = p
place_after (resolved.NewtypeVariant i) p q = p
place_after resolved.Array p q = q
place_after resolved.Transparent p q = p
place_after resolved.Single p q = p
place_after resolved.Refused p q = p

-- One more part of a compound.
record PartsMore (k : ResolvedKind) (ts : Trees) (t : Tree) (p q : Position) : Type 0 where
  fit : PartsFit k (join ts (more t no_trees))
  position : place_after k p q ≡ inner k (join ts (more t no_trees))
  bytes : body k (join ts (more t no_trees)) ≡ body k ts ++ bytes_at (inner k ts) t

parts_more : (k : ResolvedKind) (ts : Trees) (t : Tree) (p q : Position) → PartsFit k ts → p ≡ inner k ts → fits_position (inner k ts) t ≡ true → Took (inner k ts) t q → PartsMore k ts t p q
parts_more resolved.List ts t p q h e f w = record { fit = inside_more ts t h f; position = e; bytes = bytes_more ts t }
parts_more resolved.Map ts t p q h e f w = record { fit = inside_more ts t h f; position = e; bytes = bytes_more ts t }
parts_more (resolved.Variant i) ts t p q h e f w = record { fit = inside_more ts t h f; position = e; bytes = bytes_more ts t }
parts_more (resolved.NewtypeVariant i) ts t p q h e f w = record { fit = inside_more ts t h f; position = e; bytes = bytes_more ts t }
parts_more resolved.Array ts t p q h e f w =
    let a = array_more ts t q h.1 w in
    record { fit = (inside_more ts t h.0 (next_fits ts t f), a.uniform); position = a.position; bytes = a.bytes }
parts_more resolved.Transparent ts t p q h e f w = record { fit = placed-join ts (more t no_trees) ∙ both (placed_each ts) (placed_each (more t no_trees)) h (both (placed t) true f refl); position = e; bytes = bytes_more ts t }
parts_more resolved.Single ts t p q h e f w = record { fit = inside_more ts t h f; position = e; bytes = bytes_more ts t }
parts_more resolved.Refused ts t p q h e f w = record { fit = inside_more ts t h f; position = e; bytes = bytes_more ts t }

-- What is kept besides the headers does not count for the bytes.
added_with : {K : Type 0} (adds : Adding K) (within : Opening K) (k : ResolvedKind) (e : Bool) (c : Kept) (m : Mark) (pl af : Position) (a now : K) (bs : List ℕ) → Added adds within k e c a now bs → Added adds within k e (with_count c m pl af) a now bs
added_with adds within resolved.List e c m pl af a now bs h = h
added_with adds within resolved.Map e c m pl af a now bs h = h
added_with adds within (resolved.Variant i) e c m pl af a now bs h = h
added_with adds within (resolved.NewtypeVariant i) e c m pl af a now bs h = h
added_with adds within resolved.Array e c m pl af a now bs h = h
added_with adds within resolved.Transparent e c m pl af a now bs h = h
added_with adds within resolved.Single e c m pl af a now bs h = h
added_with adds within resolved.Refused e c m pl af a now bs h = h

-- One part fewer is still kept with the count of all.
gathers_with : {K : Type 0} (adds : Adding K) (reads : Promises K) (within : Opening K) (k : ResolvedKind) (start : Pass K) (now : K) (c : Kept) (m : Mark) (n : ℕ) (ps : List (Option Tree)) → Gathers adds reads within k start now c n ps → Gathers adds reads within k start now (with_count c m c.position c.after) n ps
gathers_with {K} adds reads within k start now c m n ps g = record {
  ts = g.ts;
  trees = g.trees;
  marker_is = g.marker_is;
  stands = g.stands;
  index = g.index;
  inner_marker = g.inner_marker;
  inner_position = g.inner_position;
  counted = g.counted;
  within_limits_parts = g.within_limits_parts;
  uniform_arrays_parts = g.uniform_arrays_parts;
  parts_fit = g.parts_fit;
  ranged_parts = g.ranged_parts;
  first = g.first;
  led = g.led;
  out = added_with adds within k (is_element start.position) c m c.position c.after g.first now (body k g.ts) g.out;
}

more_gathered : {K : Type 0} (adds : Adding K) (reads : Promises K) (within : Opening K) (extends : Extending K) → Laws adds reads within extends → (k : ResolvedKind) (start : Pass K) (before now : K) (c : Kept) (m : Mark) (ps : List (Option Tree)) (p : Option Tree) (q : Position) →
    Gathers adds reads within k start before c c.count ps → puts adds reads before c.position p now q → Gathers adds reads within k start now (with_count c m (place_after k c.position q) c.after) (c.count + 1) (ps ++ (p ∷ []))
more_gathered {K} adds reads within extends L k start before now c m ps None q g h = absurd h
more_gathered {K} adds reads within extends L k start before now c m ps (Some t) q g h =
    let i : Gave adds reads before (inner k g.ts) t now q = subst (λ w. Gave adds reads before w t now q) g.inner_position h in
    let n : PartsMore k g.ts t c.position q = parts_more k g.ts t c.position q g.parts_fit g.inner_position i.fits_it i.took in
    let u = more t no_trees in
    record {
      ts = join g.ts u;
      trees = all_trees-append ps (Some t ∷ []) ∙ ap (λ o. joined o (Some u)) g.trees;
      marker_is = g.marker_is;
      stands = g.stands;
      index = g.index;
      inner_marker = g.inner_marker;
      inner_position = n.position;
      counted = let j = count-join g.ts u in let e = g.counted in omega arith;
      within_limits_parts = λ v. within_limits-join g.ts u ∙ both (within_limits_each g.ts) (within_limits_each u) (g.within_limits_parts (L.keeps before now (L.longer before now (bytes_at (inner k g.ts) t) i.out) v)) (both (within_limits t) true (h.within_limits_it v) refl);
      uniform_arrays_parts = uniform_arrays-join g.ts u ∙ both (uniform_arrays_each g.ts) (uniform_arrays_each u) g.uniform_arrays_parts (both (uniform_arrays t) true h.uniform_arrays_it refl);
      parts_fit = n.fit;
      ranged_parts = when2 reads.ranges (λ a b. ranged-join g.ts u a (b, tt)) g.ranged_parts h.ranged;
      first = g.first;
      led = g.led;
      out = added_with adds within k (is_element start.position) c m (place_after k c.position q) c.after g.first now (body k (join g.ts u)) (subst (λ bs. Added adds within k (is_element start.position) c g.first now bs) (sym n.bytes) (added_on adds reads within extends L k (is_element start.position) c g.first before now (body k g.ts) (bytes_at (inner k g.ts) t) g.out i.out));
    }

map_back : {K : Type 0} (adds : Adding K) (reads : Promises K) (within : Opening K) (extends : Extending K) (marks : Marking K) → Laws adds reads within extends → (start : Pass K) (before now : K) (c : Kept) (m : Mark) (ps : List (Option Tree)) (p : Option Tree) → Gathers adds reads within resolved.Map start before c c.count ps → marks before m → extends before now →
    (qs : List (Option Tree)) (q : Option Tree) → ps ++ (p ∷ []) ≡ qs ++ (q ∷ []) → Before adds reads within extends marks resolved.Map start now (with_count c m c.position c.after) qs
map_back {K} adds reads within extends marks L start before now c m ps p g a s qs q e = record {
  old = before;
  since = s;
  at = a;
  n = c.count;
  one_less = refl;
  gathered = subst (λ w. Gathers adds reads within resolved.Map start before (with_count c m c.position c.after) c.count w) (last_off ps qs p q e) (gathers_with adds reads within resolved.Map start before c m c.count ps g);
}

holds_taken : {K : Type 0} (adds : Adding K) (reads : Promises K) (within : Opening K) (extends : Extending K) (marks : Marking K) → Laws adds reads within extends → (k : ResolvedKind) (kind : CompoundKind) (start : Pass K) (before now : K) (c : Kept) (m : Mark) (ps : List (Option Tree)) (p : Option Tree) (q : Position) →
    Holds adds reads within extends marks k kind start before c ps → puts adds reads before c.position p now q →
    (k ≡ resolved.Map → (qs : List (Option Tree)) (r : Option Tree) → ps ++ (p ∷ []) ≡ qs ++ (r ∷ []) → Before adds reads within extends marks k start now (with_count c m (place_after k c.position q) c.after) qs) →
    Holds adds reads within extends marks k kind start now (with_count c m (place_after k c.position q) c.after) (ps ++ (p ∷ []))
holds_taken {K} adds reads within extends marks L k kind start before now c m ps p q h w f = record {
  kind_is = h.kind_is;
  gathered = more_gathered adds reads within extends L k start before now c m ps p q h.gathered w;
  back = λ e odd qs r s. f e qs r s;
}

one_zero : ◌≡◌ {A = ℕ} 1 0 → ⊥
one_zero q = cc

alone_taken : {K : Type 0} (adds : Adding K) (reads : Promises K) (within : Opening K) (extends : Extending K) → Laws adds reads within extends → (start before now : Pass K) (c : Kept) (m : Mark) (ps : List (Option Tree)) (p : Option Tree) → Alone adds reads start before.sink c ps → c.count ≡ 0 → before.marker ≡ c.marker → before.position ≡ c.position → puts adds reads before.sink before.position (marked before.marker p) now.sink now.position →
    Alone adds reads start now.sink (with_count c m c.position now.position) (ps ++ (p ∷ []))
alone_taken {K} adds reads within extends L start before now c m [] p h z e f g = (
  ap (λ n. n + 1) z,
  puts_after adds reads within extends L start.sink before.sink now.sink start.position now.position (marked start.marker p) h.1.0
      (subst (λ w. puts adds reads before.sink w (marked start.marker p) now.sink now.position) (f ∙ h.1.1.1) (subst (λ w. puts adds reads before.sink before.position (marked w p) now.sink now.position) (e ∙ h.1.1.0) g)),
)
alone_taken adds reads within extends L start before now c m (q ∷ []) p h z e f g = absurd (one_zero (sym h.0 ∙ z))
alone_taken adds reads within extends L start before now c m (q ∷ (r ∷ ps)) p h z e f g = absurd h

list_map : resolved.List ≡ resolved.Map → ⊥
list_map q = cc

variant_map : (i : ℕ) → resolved.Variant i ≡ resolved.Map → ⊥
variant_map i q = cc

newtype_variant_map : (i : ℕ) → resolved.NewtypeVariant i ≡ resolved.Map → ⊥
newtype_variant_map i q = cc

array_map : resolved.Array ≡ resolved.Map → ⊥
array_map q = cc

transparent_map : resolved.Transparent ≡ resolved.Map → ⊥
transparent_map q = cc

part_puts : {K : Type 0} (adds : Adding K) (reads : Promises K) (extends : Extending K) (before now : Pass K) (c : Kept) (p : Option Tree) → before.marker ≡ c.marker → before.position ≡ c.position → c.marker ≡ Some marker.Other → Gives adds reads extends before p (Ok tt) now → puts adds reads before.sink c.position p now.sink now.position
part_puts {K} adds reads extends before now c p e f i g = subst (λ w. puts adds reads before.sink w p now.sink now.position) f (unmarked_puts adds reads extends before p now (e ∙ i) g)

taken_in : {K : Type 0} (adds : Adding K) (reads : Promises K) (within : Opening K) (extends : Extending K) (marks : Marking K) → Laws adds reads within extends → (k : ResolvedKind) (kind : CompoundKind) (start before now : Pass K) (c : Kept) (m : Mark) (ps : List (Option Tree)) (p : Option Tree) → (k ≡ resolved.Refused → ⊥) → (k ≡ resolved.Single → c.count ≡ 0) →
    HasIn adds reads within extends marks k start kind before.sink c ps → before.marker ≡ c.marker → before.position ≡ c.position → marks before.sink m → extends before.sink now.sink → Gives adds reads extends before p (Ok tt) now → HasIn adds reads within extends marks k start kind now.sink (with_part k c m now.position) (ps ++ (p ∷ []))
taken_in {K} adds reads within extends marks L resolved.Refused kind start before now c m ps p r z h e f a s g = absurd (r refl)
taken_in {K} adds reads within extends marks L resolved.Single kind start before now c m ps p r z h e f a s g = (h.0, alone_taken adds reads within extends L start before now c c.before_last ps p h.1 (z refl) e f g)
taken_in {K} adds reads within extends marks L resolved.List kind start before now c m ps p r z h e f a s g = holds_taken adds reads within extends marks L resolved.List kind start before.sink now.sink c c.before_last ps p now.position h (part_puts adds reads extends before now c p e f h.gathered.inner_marker g) (λ i qs q w. absurd (list_map i))
taken_in {K} adds reads within extends marks L resolved.Map kind start before now c m ps p r z h e f a s g = holds_taken adds reads within extends marks L resolved.Map kind start before.sink now.sink c m ps p now.position h (part_puts adds reads extends before now c p e f h.gathered.inner_marker g) (λ i qs q w. map_back adds reads within extends marks L start before.sink now.sink c m ps p h.gathered a s qs q w)
taken_in {K} adds reads within extends marks L (resolved.Variant i) kind start before now c m ps p r z h e f a s g = holds_taken adds reads within extends marks L (resolved.Variant i) kind start before.sink now.sink c c.before_last ps p now.position h (part_puts adds reads extends before now c p e f h.gathered.inner_marker g) (λ j qs q w. absurd (variant_map i j))
taken_in {K} adds reads within extends marks L (resolved.NewtypeVariant i) kind start before now c m ps p r z h e f a s g = holds_taken adds reads within extends marks L (resolved.NewtypeVariant i) kind start before.sink now.sink c c.before_last ps p now.position h (part_puts adds reads extends before now c p e f h.gathered.inner_marker g) (λ j qs q w. absurd (newtype_variant_map i j))
taken_in {K} adds reads within extends marks L resolved.Array kind start before now c m ps p r z h e f a s g = holds_taken adds reads within extends marks L resolved.Array kind start before.sink now.sink c c.before_last ps p now.position h (part_puts adds reads extends before now c p e f h.gathered.inner_marker g) (λ j qs q w. absurd (array_map j))
taken_in {K} adds reads within extends marks L resolved.Transparent kind start before now c m ps p r z h e f a s g = holds_taken adds reads within extends marks L resolved.Transparent kind start before.sink now.sink c c.before_last ps p now.position h (part_puts adds reads extends before now c p e f h.gathered.inner_marker g) (λ j qs q w. absurd (transparent_map j))

pub gives_extends : {K : Type 0} (adds : Adding K) (reads : Promises K) (within : Opening K) (extends : Extending K) → Laws adds reads within extends → (s : Pass K) (o : Option Tree) (r : Result (Unit {0}) GaveUp) (after : Pass K) → Gives adds reads extends s o r after → extends s.sink after.sink
gives_extends {K} adds reads within extends L s o (Ok u) after h = puts_extends adds reads within extends L s.sink after.sink s.position after.position (marked s.marker o) h
gives_extends {K} adds reads within extends L s o (Err e) after h = h

-- One more part.
pub taken : {K : Type 0} (adds : Adding K) (reads : Promises K) (within : Opening K) (extends : Extending K) (marks : Marking K) → Laws adds reads within extends → (start before now : Pass K) (c new : PassCompound) (kind : CompoundKind) (ps : List (Option Tree)) (p : Option Tree) → (c.kind ≡ resolved.Refused → ⊥) → (c.kind ≡ resolved.Single → c.count ≡ 0) →
    Awaits adds reads within extends marks start kind before c ps → (part : Result (Unit {0}) GaveUp) (u : Unit {0}) → part ≡ Ok u → Gives adds reads extends before p part now → new.kind ≡ c.kind → kept new ≡ with_part c.kind (kept c) c.mark now.position → Has adds reads within extends marks start kind now new (ps ++ (p ∷ []))
taken {K} adds reads within extends marks L start before now c new kind ps p r z h part u is g e f =
    let g : Gives adds reads extends before p (Ok tt) now = subst (λ x. Gives adds reads extends before p x now) is g in
    subst (λ k. HasIn adds reads within extends marks k start kind now.sink (kept new) (ps ++ (p ∷ []))) (sym e)
    (subst (λ w. HasIn adds reads within extends marks c.kind start kind now.sink w (ps ++ (p ∷ []))) (sym f) (taken_in adds reads within extends marks L c.kind kind start before now (kept c) c.mark ps p r z h.0 h.1.0 h.1.1.0 h.1.1.1 (gives_extends adds reads within extends L before p (Ok tt) now g) g))

-- A part that is not taken leaves the compound as it was.
pub not_taken : {K : Type 0} (adds : Adding K) (reads : Promises K) (within : Opening K) (extends : Extending K) (marks : Marking K) → Laws adds reads within extends → (start before now : Pass K) (after : K) (c : PassCompound) (kind : CompoundKind) (ps : List (Option Tree)) (p : Option Tree) (part : Result (Unit {0}) GaveUp) →
    Awaits adds reads within extends marks start kind before c ps → Gives adds reads extends before p part now → ((a : K) → marks a c.mark → extends a now.sink → adds a [] after) →
    HasIn adds reads within extends marks c.kind start kind after (kept c) ps × (List (Option Tree) → extends start.sink after)
not_taken {K} adds reads within extends marks L start before now after c kind ps p part h g f =
    let s = f before.sink h.1.1.1 (gives_extends adds reads within extends L before p part now g) in
    let n = has_same adds reads within extends marks L (class_of c.kind) c.kind start kind before.sink after (kept c) ps h.0 s in
    (n, λ rest. has_extends adds reads within extends marks L (class_of c.kind) c.kind start kind after (kept c) ps n)

even_odd : (ps : List (Option Tree)) (p : Option Tree) → paired ps ≡ true → paired (ps ++ (p ∷ [])) ≡ false
even_odd ps p h = paired-last ps p ∙ ap not h

true_false : true ≡ false → ⊥
true_false q = cc

-- The last part of a map is removed.
pub undone : {K : Type 0} (adds : Adding K) (reads : Promises K) (within : Opening K) (extends : Extending K) (marks : Marking K) → Laws adds reads within extends → (start now : Pass K) (after : K) (c : Kept) (n : ℕ) (ps : List (Option Tree)) (p : Option Tree) →
    Holds adds reads within extends marks resolved.Map kinds.Map start now.sink c (ps ++ (p ∷ [])) → paired ps ≡ true → ((m : ℕ) → c.count ≡ m + 1 → n ≡ m) → ((a : K) → marks a c.before_last → extends a now.sink → adds a [] after) →
    Holds adds reads within extends marks resolved.Map kinds.Map start after (record { opened = c.opened; outer = c.outer; count = n; position = c.position; marker = c.marker; after = c.after; before_last = c.before_last }) ps
undone {K} adds reads within extends marks L start now after c n ps p h even f r =
    let b = h.back refl (even_odd ps p even) ps p refl in
    let s = r b.old b.at b.since in
    let g = b.gathered in
    record {
      kind_is = refl;
      gathered = record {
        ts = g.ts;
        trees = g.trees;
        marker_is = g.marker_is;
        stands = g.stands;
        index = g.index;
        inner_marker = g.inner_marker;
        inner_position = g.inner_position;
        counted = f b.n b.one_less ∙ g.counted;
        within_limits_parts = λ v. g.within_limits_parts (L.keeps b.old after (L.longer b.old after [] s) v);
        uniform_arrays_parts = g.uniform_arrays_parts;
        parts_fit = g.parts_fit;
        ranged_parts = g.ranged_parts;
        first = g.first;
        led = g.led;
        out = added_same adds reads within extends L resolved.Map (is_element start.position) c g.first b.old after (body resolved.Map g.ts) g.out s;
      };
      back = λ e odd qs q w. absurd (true_false (sym even ∙ odd));
    }
