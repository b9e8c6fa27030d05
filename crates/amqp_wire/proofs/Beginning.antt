-- Compounds without parts.
use Rattle.std.proofs.Common.{◌≡◌, ℕ, ◌<◌, ◌^◌, [], Option, Some, None, true, false, refl, sym, ap, ◌∙◌, subst, append-nil}
use Rattle.amqp_ser.specs.Tree.{uint, no_trees}
use Rattle.amqp_ser.specs.Scalars.{scalar_form}
use Rattle.amqp_ser.specs.declared.kind.CompoundKind.{CompoundKind}
use Rattle.amqp_ser.specs.declared.kind.CompoundKind.TheVariants as kinds
use Rattle.amqp_ser.specs.declared.marker.Marker.{Marker}
use Rattle.amqp_ser.specs.declared.marker.Marker.TheVariants as marker
use Rattle.amqp_size.specs.declared.resolved_kind.ResolvedKind.{ResolvedKind}
use Rattle.amqp_size.specs.declared.resolved_kind.ResolvedKind.TheVariants as resolved
use Rattle.amqp_wire.specs.Positions.{is_element, Admits, Led}
use Rattle.amqp_wire.specs.Kept.{kept, resolve, resolve_list, if_unmarked}
use Rattle.amqp_wire.specs.When.{Promises}
use Rattle.amqp_wire.specs.Gives.{Adding, Opening, Extending, Marking, kind_of, marker_of, code_of, header_of, HasHeader, Stands, inner, body, PartsFit, Added, IndexFits, Holds, HasIn, Has}
use Rattle.amqp_wire.specs.declared.pass.Pass.{Pass}
use Rattle.amqp_wire.specs.declared.pass_compound.PassCompound.{PassCompound}
use Rattle.amqp_wire.specs.declared.position.Position.TheVariants as positions
use Rattle.amqp_wire.specs.declared.sink.HeaderKind.TheVariants as headers
use Rattle.amqp_wire.specs.declared.sink.Opened.{Opened}
use Rattle.amqp_wire.proofs.Given.{given}
use Rattle.amqp_wire.proofs.SinkLaws.{Laws}

true_false : true ≡ false → ⊥
true_false q = cc

no_parts_fit : (k : ResolvedKind) → PartsFit k no_trees
no_parts_fit resolved.List = refl
no_parts_fit resolved.Map = refl
no_parts_fit (resolved.Variant i) = refl
no_parts_fit (resolved.NewtypeVariant i) = refl
no_parts_fit resolved.Array = (refl, refl)
no_parts_fit resolved.Transparent = refl
no_parts_fit resolved.Single = refl
no_parts_fit resolved.Refused = refl

-- A compound that has just been opened.
record Opens {K : Type 0} (adds : Adding K) (within : Opening K) (k : ResolvedKind) (start : Pass K) (now : K) (c : PassCompound) : Type 0 where
  kind : c.kind ≡ k
  marker_is : start.marker ≡ Some (marker_of k)
  stands : Stands k start.position c.after
  index : IndexFits k
  count : c.count ≡ 0
  position : c.position ≡ inner k no_trees
  marker : c.marker ≡ Some marker.Other
  first : K
  led : Led adds start.position (code_of k) start.sink first
  out : Added adds within k (is_element start.position) (kept c) first now (body k no_trees)

just_opened : {K : Type 0} (adds : Adding K) (reads : Promises K) (within : Opening K) (extends : Extending K) (marks : Marking K) (k : ResolvedKind) (start : Pass K) (now : K) (c : PassCompound) → Opens adds within k start now c → Holds adds reads within extends marks k (kind_of k) start now (kept c) []
just_opened {K} adds reads within extends marks k start now c o = record {
  kind_is = refl;
  gathered = record {
    ts = no_trees;
    trees = refl;
    marker_is = o.marker_is;
    stands = o.stands;
    index = o.index;
    inner_marker = o.marker;
    inner_position = o.position;
    counted = o.count;
    within_limits_parts = λ v. refl;
    uniform_arrays_parts = refl;
    parts_fit = no_parts_fit k;
    ranged_parts = given reads.ranges tt;
    first = o.first;
    led = o.led;
    out = o.out;
  };
  back = λ m odd qs q e. absurd (true_false odd);
}

pub list_begun : {K : Type 0} (adds : Adding K) (reads : Promises K) (within : Opening K) (extends : Extending K) (marks : Marking K) (start now : Pass K) (c : PassCompound) (o : Opened) → c.kind ≡ resolved.List → c.opened ≡ o → c.count ≡ 0 → c.position ≡ positions.Inside → c.marker ≡ Some marker.Other → c.after ≡ now.position →
    start.marker ≡ Some marker.Other → Admits start.position 0xd0 now.position → (m : K) × (Led adds start.position 0xd0 start.sink m × within m (is_element start.position) headers.List o now.sink []) → Has adds reads within extends marks start kinds.List now c []
list_begun {K} adds reads within extends marks start now c o k d n p f a m s h =
    subst (λ w. HasIn adds reads within extends marks w start kinds.List now.sink (kept c) []) (sym k)
    (just_opened adds reads within extends marks resolved.List start now.sink c (record { kind = k; marker_is = m; stands = subst (λ w. Admits start.position 0xd0 w) (sym a) s; index = tt; count = n; position = p; marker = f; first = h.0; led = h.1.0; out = subst (λ w. within h.0 (is_element start.position) headers.List w now.sink []) (sym d) h.1.1 }))

pub map_begun : {K : Type 0} (adds : Adding K) (reads : Promises K) (within : Opening K) (extends : Extending K) (marks : Marking K) (start now : Pass K) (c : PassCompound) (o : Opened) → c.kind ≡ resolved.Map → c.opened ≡ o → c.count ≡ 0 → c.position ≡ positions.Inside → c.marker ≡ Some marker.Other → c.after ≡ now.position →
    start.marker ≡ Some marker.Other → Admits start.position 0xd1 now.position → (m : K) × (Led adds start.position 0xd1 start.sink m × within m (is_element start.position) headers.Map o now.sink []) → Has adds reads within extends marks start kinds.Map now c []
map_begun {K} adds reads within extends marks start now c o k d n p f a m s h =
    subst (λ w. HasIn adds reads within extends marks w start kinds.Map now.sink (kept c) []) (sym k)
    (just_opened adds reads within extends marks resolved.Map start now.sink c (record { kind = k; marker_is = m; stands = subst (λ w. Admits start.position 0xd1 w) (sym a) s; index = tt; count = n; position = p; marker = f; first = h.0; led = h.1.0; out = subst (λ w. within h.0 (is_element start.position) headers.Map w now.sink []) (sym d) h.1.1 }))

pub array_begun : {K : Type 0} (adds : Adding K) (reads : Promises K) (within : Opening K) (extends : Extending K) (marks : Marking K) (start now : Pass K) (c : PassCompound) (o : Opened) → c.kind ≡ resolved.Array → c.opened ≡ o → c.count ≡ 0 → c.position ≡ positions.First → c.marker ≡ Some marker.Other → c.after ≡ now.position →
    start.marker ≡ Some marker.Array → Admits start.position 0xf0 now.position → (m : K) × (Led adds start.position 0xf0 start.sink m × within m (is_element start.position) headers.Array o now.sink []) → Has adds reads within extends marks start kinds.List now c []
array_begun {K} adds reads within extends marks start now c o k d n p f a m s h =
    subst (λ w. HasIn adds reads within extends marks w start kinds.List now.sink (kept c) []) (sym k)
    (just_opened adds reads within extends marks resolved.Array start now.sink c (record { kind = k; marker_is = m; stands = subst (λ w. Admits start.position 0xf0 w) (sym a) s; index = tt; count = n; position = p; marker = f; first = h.0; led = h.1.0; out = subst (λ w. within h.0 (is_element start.position) headers.Array w now.sink []) (sym d) h.1.1 }))

pub newtype_variant_begun : {K : Type 0} (adds : Adding K) (reads : Promises K) (within : Opening K) (extends : Extending K) (marks : Marking K) → Laws adds reads within extends → (start now : Pass K) (mid : K) (c : PassCompound) (o : Opened) (i : ℕ) → c.kind ≡ resolved.NewtypeVariant i → c.outer ≡ o → c.count ≡ 0 → c.position ≡ positions.Inside → c.marker ≡ Some marker.Other → c.after ≡ now.position → i < 2 ^ 32 →
    start.marker ≡ Some marker.Other → Admits start.position 0xd1 now.position → (m : K) × (Led adds start.position 0xd1 start.sink m × within m (is_element start.position) headers.Map o mid []) → adds mid (scalar_form (uint i)) now.sink → Has adds reads within extends marks start (kinds.NewtypeVariant i) now c []
newtype_variant_begun {K} adds reads within extends marks L start now mid c o i k d n p f a r m s h x =
    subst (λ w. HasIn adds reads within extends marks w start (kinds.NewtypeVariant i) now.sink (kept c) []) (sym k)
    (just_opened adds reads within extends marks (resolved.NewtypeVariant i) start now.sink c (record {
      kind = k;
      marker_is = m;
      stands = subst (λ w. Admits start.position 0xd1 w) (sym a) s;
      index = r;
      count = n;
      position = p;
      marker = f;
      first = h.0;
      led = h.1.0;
      out = subst (λ w. within h.0 (is_element start.position) headers.Map c.outer now.sink w) (sym (append-nil (scalar_form (uint i)))) (subst (λ w. within h.0 (is_element start.position) headers.Map w now.sink (scalar_form (uint i))) (sym d) (L.goes_on (is_element start.position) headers.Map o h.0 mid now.sink [] (scalar_form (uint i)) h.1.1 x));
    }))

pub variant_begun : {K : Type 0} (adds : Adding K) (reads : Promises K) (within : Opening K) (extends : Extending K) (marks : Marking K) → Laws adds reads within extends → (start now : Pass K) (mid mid2 : K) (c : PassCompound) (o u : Opened) (i : ℕ) → c.kind ≡ resolved.Variant i → c.outer ≡ o → c.opened ≡ u → c.count ≡ 0 → c.position ≡ positions.Inside → c.marker ≡ Some marker.Other → c.after ≡ now.position → i < 2 ^ 32 →
    start.marker ≡ Some marker.Other → Admits start.position 0xd1 now.position → (m : K) × (Led adds start.position 0xd1 start.sink m × within m (is_element start.position) headers.Map o mid []) → adds mid (scalar_form (uint i)) mid2 → within mid2 false headers.List u now.sink [] → Has adds reads within extends marks start (kinds.Variant i) now c []
variant_begun {K} adds reads within extends marks L start now mid mid2 c o u i k d e n p f a r m s h x y =
    subst (λ w. HasIn adds reads within extends marks w start (kinds.Variant i) now.sink (kept c) []) (sym k)
    (just_opened adds reads within extends marks (resolved.Variant i) start now.sink c (record {
      kind = k;
      marker_is = m;
      stands = subst (λ w. Admits start.position 0xd1 w) (sym a) s;
      index = r;
      count = n;
      position = p;
      marker = f;
      first = h.0;
      led = h.1.0;
      out = record {
        mid = mid2;
        index = subst (λ w. within h.0 (is_element start.position) headers.Map w mid2 (scalar_form (uint i))) (sym d) (L.goes_on (is_element start.position) headers.Map o h.0 mid mid2 [] (scalar_form (uint i)) h.1.1 x);
        fields = subst (λ w. within mid2 false headers.List w now.sink []) (sym e) y;
      };
    }))

pub transparent_begun : {K : Type 0} (adds : Adding K) (reads : Promises K) (within : Opening K) (extends : Extending K) (marks : Marking K) (start now : Pass K) (c : PassCompound) → c.kind ≡ resolved.Transparent → c.count ≡ 0 → c.position ≡ positions.Root → c.marker ≡ Some marker.Other →
    start.marker ≡ Some marker.Transparent → start.position ≡ positions.Root → adds start.sink [] now.sink → Has adds reads within extends marks start kinds.List now c []
transparent_begun {K} adds reads within extends marks start now c k n p f m s h =
    subst (λ w. HasIn adds reads within extends marks w start kinds.List now.sink (kept c) []) (sym k)
    (just_opened adds reads within extends marks resolved.Transparent start now.sink c (record { kind = k; marker_is = m; stands = s; index = tt; count = n; position = p; marker = f; first = start.sink; led = subst (λ w. Led adds w 0 start.sink start.sink) (sym s) refl; out = h }))

-- A list, a map or an array.
pub headed_begun : {K : Type 0} (adds : Adding K) (reads : Promises K) (within : Opening K) (extends : Extending K) (marks : Marking K) (start now : Pass K) (c : PassCompound) (o : Opened) (k : ResolvedKind) → HasHeader k → c.kind ≡ k → c.opened ≡ o → c.count ≡ 0 → c.position ≡ inner k no_trees → c.marker ≡ Some marker.Other → c.after ≡ now.position →
    start.marker ≡ Some (marker_of k) → Admits start.position (code_of k) now.position → (m : K) × (Led adds start.position (code_of k) start.sink m × within m (is_element start.position) (header_of k) o now.sink []) → Has adds reads within extends marks start (kind_of k) now c []
headed_begun adds reads within extends marks start now c o resolved.List t k d n p f a m s h = list_begun adds reads within extends marks start now c o k d n p f a m s h
headed_begun adds reads within extends marks start now c o resolved.Map t k d n p f a m s h = map_begun adds reads within extends marks start now c o k d n p f a m s h
headed_begun adds reads within extends marks start now c o resolved.Array t k d n p f a m s h = array_begun adds reads within extends marks start now c o k d n p f a m s h
headed_begun adds reads within extends marks start now c o (resolved.Variant i) t k d n p f a m s h = absurd t
headed_begun adds reads within extends marks start now c o (resolved.NewtypeVariant i) t k d n p f a m s h = absurd t
headed_begun adds reads within extends marks start now c o resolved.Transparent t k d n p f a m s h = absurd t
headed_begun adds reads within extends marks start now c o resolved.Single t k d n p f a m s h = absurd t
headed_begun adds reads within extends marks start now c o resolved.Refused t k d n p f a m s h = absurd t

list_kind : (o : Option Marker) → HasHeader (resolve_list o) → (kinds.List ≡ kind_of (resolve_list o)) × (o ≡ Some (marker_of (resolve_list o)))
list_kind None h = absurd h
list_kind (Some marker.Symbol) h = absurd h
list_kind (Some marker.Timestamp) h = absurd h
list_kind (Some marker.Decimal32) h = absurd h
list_kind (Some marker.Decimal64) h = absurd h
list_kind (Some marker.Decimal128) h = absurd h
list_kind (Some marker.Uuid) h = absurd h
list_kind (Some marker.Array) h = (refl, refl)
list_kind (Some marker.Transparent) h = absurd h
list_kind (Some marker.Lazy) h = absurd h
list_kind (Some marker.Other) h = (refl, refl)

unmarked_kind : (o : Option Marker) (k : ResolvedKind) → (HasHeader k → resolved.Map ≡ k) → HasHeader (if_unmarked o k) → (kinds.Map ≡ kind_of (if_unmarked o k)) × (o ≡ Some (marker_of (if_unmarked o k)))
unmarked_kind None k f h = absurd h
unmarked_kind (Some marker.Symbol) k f h = absurd h
unmarked_kind (Some marker.Timestamp) k f h = absurd h
unmarked_kind (Some marker.Decimal32) k f h = absurd h
unmarked_kind (Some marker.Decimal64) k f h = absurd h
unmarked_kind (Some marker.Decimal128) k f h = absurd h
unmarked_kind (Some marker.Uuid) k f h = absurd h
unmarked_kind (Some marker.Array) k f h = absurd h
unmarked_kind (Some marker.Transparent) k f h = absurd h
unmarked_kind (Some marker.Lazy) k f h = absurd h
unmarked_kind (Some marker.Other) k f h = (ap kind_of (f h), ap (λ w. Some (marker_of w)) (f h))

no_variant : (o : Option Marker) (k : ResolvedKind) → (HasHeader k → ⊥) → HasHeader (if_unmarked o k) → ⊥
no_variant None k f h = absurd h
no_variant (Some marker.Symbol) k f h = absurd h
no_variant (Some marker.Timestamp) k f h = absurd h
no_variant (Some marker.Decimal32) k f h = absurd h
no_variant (Some marker.Decimal64) k f h = absurd h
no_variant (Some marker.Decimal128) k f h = absurd h
no_variant (Some marker.Uuid) k f h = absurd h
no_variant (Some marker.Array) k f h = absurd h
no_variant (Some marker.Transparent) k f h = absurd h
no_variant (Some marker.Lazy) k f h = absurd h
no_variant (Some marker.Other) k f h = f h

-- The kind and the marker of what has a header.
pub headed_kind : (kind : CompoundKind) (o : Option Marker) → HasHeader (resolve kind o) → (kind ≡ kind_of (resolve kind o)) × (o ≡ Some (marker_of (resolve kind o)))
headed_kind kinds.List o h = list_kind o h
headed_kind kinds.Map o h = unmarked_kind o resolved.Map (λ t. refl) h
headed_kind (kinds.Variant i) o h = absurd (no_variant o (resolved.Variant i) (λ t. t) h)
headed_kind (kinds.NewtypeVariant i) o h = absurd (no_variant o (resolved.NewtypeVariant i) (λ t. t) h)
headed_kind kinds.Single o h = absurd h

-- What has just been opened, under the kind that was asked for.
pub headed_has : {K : Type 0} (adds : Adding K) (reads : Promises K) (within : Opening K) (extends : Extending K) (marks : Marking K) (start now : Pass K) (c : PassCompound) (kind : CompoundKind) (k : ResolvedKind) → k ≡ resolve kind start.marker → HasHeader k → (HasHeader k → start.marker ≡ Some (marker_of k) → Has adds reads within extends marks start (kind_of k) now c []) → Has adds reads within extends marks start kind now c []
headed_has {K} adds reads within extends marks start now c kind k e t f =
    let r = headed_kind kind start.marker (subst HasHeader e t) in
    subst (λ w. Has adds reads within extends marks start w now c []) (ap kind_of e ∙ sym r.0) (f t (r.1 ∙ ap (λ w. Some (marker_of w)) (sym e)))
