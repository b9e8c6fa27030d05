-- Descriptors, and the values after them.
use Rattle.std.proofs.Common.{◌≡◌, ◌⊎◌, inl, inr, ℕ, [], ◌∷◌, ◌++◌, Option, Some, None, true, false, ◌&&◌, Result, Ok, Err, length, refl, ap, sym, ◌∙◌, subst, nat_eq}
use Rattle.amqp_ser.specs.Tree.{Tree, Descriptor, code, name, scalar, null, bool, ubyte, ushort, uint, ulong, byte, short, int, long, float, double, decimal32, decimal64, decimal128, char, timestamp, uuid, binary, string, symbol, list, array, map, described, variant, lazy, transparent}
use Rattle.amqp_ser.specs.Limits.{fits, is_length}
use Rattle.amqp_ser.specs.Composites.{as_described, descriptor_of}
use Rattle.amqp_ser.specs.Encoding.{encoding, constructor, descriptor_form}
use Rattle.amqp_ser.specs.Ranged.{IsRanged, IsRangedDescriptor}
use Rattle.amqp_ser.specs.Scalars.{scalar_form}
use Rattle.amqp_ser.specs.Writable.{within_limits, uniform_arrays, inside, placed, descriptor_fits}
use Rattle.amqp_ser.specs.declared.kind.CompoundKind.TheVariants as kinds
use Rattle.amqp_ser.specs.declared.marker.Marker.TheVariants as marker
use Rattle.amqp_ser.proofs.Bools.{both, le_true, nat_eq-refl}
use Rattle.amqp_ser.proofs.Unmarked.{unmarked}
use Rattle.amqp_size.specs.declared.resolved_kind.ResolvedKind.{ResolvedKind}
use Rattle.amqp_size.specs.declared.resolved_kind.ResolvedKind.TheVariants as resolved
use Rattle.amqp_wire.specs.Positions.{IsOrdinary, IsDescriptorCode}
use Rattle.amqp_wire.specs.Kept.{Kept, kept}
use Rattle.amqp_wire.specs.When.{Promises}
use Rattle.amqp_wire.specs.Gives.{Adding, Opening, Extending, Marking, When, Gave, puts, Gives, marked, class_of, HasIn, Has, AwaitsDescriptor}
use Rattle.amqp_wire.specs.declared.pass.GaveUp.{GaveUp}
use Rattle.amqp_wire.specs.declared.pass.Pass.{Pass}
use Rattle.amqp_wire.specs.declared.pass_compound.PassCompound.{PassCompound}
use Rattle.amqp_wire.specs.declared.position.Position.{Position}
use Rattle.amqp_wire.specs.declared.position.Position.TheVariants as positions
use Rattle.amqp_wire.proofs.Given.{when2}
use Rattle.amqp_wire.proofs.SinkLaws.{Laws, puts_after, has_extends, has_same}
use Rattle.amqp_wire.proofs.PartSteps.{unmarked_puts, gives_extends}

true_false : true ≡ false → ⊥
true_false q = cc

some_code : (k c : ℕ) → Some k ≡ Some c → k ≡ c
some_code k c e = cc

no_code : (c d : ℕ) → c ≡ d → nat_eq c d ≡ false → ⊥
no_code c d e n = true_false (sym (subst (λ w. nat_eq c w ≡ true) e (nat_eq-refl c)) ∙ n)

not_code : {X : Type 0} (k c : ℕ) → Some k ≡ Some c → IsDescriptorCode c → nat_eq k 0x80 ≡ false → nat_eq k 0xb3 ≡ false → X
not_code k c e (inl d) n m = absurd (no_code k 0x80 (some_code k c e ∙ d) n)
not_code k c e (inr d) n m = absurd (no_code k 0xb3 (some_code k c e ∙ d) m)

no_constructor : {X : Type 0} (c : ℕ) → None ≡ Some c → X
no_constructor c e = cc

-- A tree with the constructor of a ulong or of a symbol is one.
from_code : (t : Tree) (c : ℕ) → constructor t ≡ Some c → IsDescriptorCode c → (x : Descriptor) × (descriptor_of (Some t) ≡ Some x)
from_code (scalar (ulong n)) c e d = (code n, refl)
from_code (scalar (symbol bs)) c e d = (name bs, refl)
from_code (scalar null) c e d = not_code 0x40 c e d refl refl
from_code (scalar (bool n)) c e d = not_code 0x56 c e d refl refl
from_code (scalar (ubyte n)) c e d = not_code 0x50 c e d refl refl
from_code (scalar (ushort n)) c e d = not_code 0x60 c e d refl refl
from_code (scalar (uint n)) c e d = not_code 0x70 c e d refl refl
from_code (scalar (byte n)) c e d = not_code 0x51 c e d refl refl
from_code (scalar (short n)) c e d = not_code 0x61 c e d refl refl
from_code (scalar (int n)) c e d = not_code 0x71 c e d refl refl
from_code (scalar (long n)) c e d = not_code 0x81 c e d refl refl
from_code (scalar (float n)) c e d = not_code 0x72 c e d refl refl
from_code (scalar (double n)) c e d = not_code 0x82 c e d refl refl
from_code (scalar (decimal32 n)) c e d = not_code 0x74 c e d refl refl
from_code (scalar (decimal64 n)) c e d = not_code 0x84 c e d refl refl
from_code (scalar (decimal128 n)) c e d = not_code 0x94 c e d refl refl
from_code (scalar (char n)) c e d = not_code 0x73 c e d refl refl
from_code (scalar (timestamp n)) c e d = not_code 0x83 c e d refl refl
from_code (scalar (uuid n)) c e d = not_code 0x98 c e d refl refl
from_code (scalar (binary n)) c e d = not_code 0xb0 c e d refl refl
from_code (scalar (string n)) c e d = not_code 0xb1 c e d refl refl
from_code (list ts) c e d = not_code 0xd0 c e d refl refl
from_code (array ts) c e d = not_code 0xf0 c e d refl refl
from_code (map ps) c e d = not_code 0xd1 c e d refl refl
from_code (described x u) c e d = no_constructor c e
from_code (variant i u) c e d = not_code 0xd1 c e d refl refl
from_code (lazy bs) c e d = no_constructor c e
from_code (transparent ts) c e d = no_constructor c e

-- What a descriptor is.
described_form : (t : Tree) (x : Descriptor) → descriptor_of (Some t) ≡ Some x → (encoding t ≡ descriptor_form x) × ((within_limits t ≡ true → descriptor_fits x ≡ true) × (IsRanged t → IsRangedDescriptor x))
described_form (scalar (ulong n)) x h = let e : code n ≡ x = cc in subst (λ y. (scalar_form (ulong n) ≡ descriptor_form y) × ((true ≡ true → descriptor_fits y ≡ true) × (IsRanged (scalar (ulong n)) → IsRangedDescriptor y))) e (refl, (λ q. refl, λ q. q))
described_form (scalar (symbol bs)) x h = let e : name bs ≡ x = cc in subst (λ y. (scalar_form (symbol bs) ≡ descriptor_form y) × ((fits (length bs) ≡ true → descriptor_fits y ≡ true) × (IsRanged (scalar (symbol bs)) → IsRangedDescriptor y))) e (refl, (λ q. q, λ q. q))
described_form (scalar null) x h = cc
described_form (scalar (bool n)) x h = cc
described_form (scalar (ubyte n)) x h = cc
described_form (scalar (ushort n)) x h = cc
described_form (scalar (uint n)) x h = cc
described_form (scalar (byte n)) x h = cc
described_form (scalar (short n)) x h = cc
described_form (scalar (int n)) x h = cc
described_form (scalar (long n)) x h = cc
described_form (scalar (float n)) x h = cc
described_form (scalar (double n)) x h = cc
described_form (scalar (decimal32 n)) x h = cc
described_form (scalar (decimal64 n)) x h = cc
described_form (scalar (decimal128 n)) x h = cc
described_form (scalar (char n)) x h = cc
described_form (scalar (timestamp n)) x h = cc
described_form (scalar (uuid n)) x h = cc
described_form (scalar (binary n)) x h = cc
described_form (scalar (string n)) x h = cc
described_form (list ts) x h = cc
described_form (array ts) x h = cc
described_form (map ps) x h = cc
described_form (described d u) x h = cc
described_form (variant i u) x h = cc
described_form (lazy bs) x h = cc
described_form (transparent ts) x h = cc

-- A descriptor that was added, and what it is.
record AddedDescriptor {K : Type 0} (adds : Adding K) (reads : Promises K) (before now : Pass K) (d : Option Tree) : Type 0 where
  tree : Tree
  is : d ≡ Some tree
  descriptor : Descriptor
  named : descriptor_of (Some tree) ≡ Some descriptor
  within_limits_it : reads.sound now.sink → within_limits tree ≡ true
  ranged : When reads.ranges (IsRanged tree)
  out : adds before.sink (encoding tree) now.sink

descriptor_gave : {K : Type 0} (adds : Adding K) (reads : Promises K) (before now : Pass K) (d : Option Tree) → puts adds reads before.sink positions.Descriptor d now.sink now.position → AddedDescriptor adds reads before now d
descriptor_gave {K} adds reads before now None h = absurd h
descriptor_gave {K} adds reads before now (Some t) h =
    let x = from_code t h.took.0 h.took.1.0 h.took.1.1 in
    record { tree = t; is = refl; descriptor = x.0; named = x.1; within_limits_it = h.within_limits_it; ranged = h.ranged; out = h.out }

none_gives : {K : Type 0} (adds : Adding K) (reads : Promises K) (extends : Extending K) (s : Pass K) (o : Option Tree) (after : Pass K) → s.marker ≡ None → Gives adds reads extends s o (Ok tt) after → ⊥
none_gives {K} adds reads extends s o after m h = subst (λ w. puts adds reads s.sink s.position (marked w o) after.sink after.position) m h

-- What was added before a descriptor, and the descriptor.
record Prefix {K : Type 0} (adds : Adding K) (reads : Promises K) (old : K) (before now : Pass K) (d : Option Tree) : Type 0 where
  code_added : adds old (0x00 ∷ []) before.sink
  added : AddedDescriptor adds reads before now d

prefix_of : {K : Type 0} (adds : Adding K) (reads : Promises K) (extends : Extending K) (old : K) (before now : Pass K) (d : Option Tree) → before.position ≡ positions.Descriptor → (before.marker ≡ None) ⊎ ((before.marker ≡ Some marker.Other) × adds old (0x00 ∷ []) before.sink) → Gives adds reads extends before d (Ok tt) now → Prefix adds reads old before now d
prefix_of {K} adds reads extends old before now d p (inl m) g = absurd (none_gives adds reads extends before d now m g)
prefix_of {K} adds reads extends old before now d p (inr m) g = record { code_added = m.1; added = descriptor_gave adds reads before now d (subst (λ w. puts adds reads before.sink w d now.sink now.position) p (unmarked_puts adds reads extends before d now m.0 g)) }

ordinary_gave : {K : Type 0} (adds : Adding K) (reads : Promises K) (a b : K) (p q : Position) (t : Tree) → IsOrdinary p → (reads.sound b → within_limits t ≡ true) → uniform_arrays t ≡ true → placed t ≡ true → inside t ≡ true → When reads.ranges (IsRanged t) → adds a (encoding t) b → Gave adds reads a p t b q
ordinary_gave {K} adds reads a b positions.Root q t o w u p i r h = record { within_limits_it = w; uniform_arrays_it = u; fits_it = p; ranged = r; took = tt; out = h }
ordinary_gave {K} adds reads a b positions.Inside q t o w u p i r h = record { within_limits_it = w; uniform_arrays_it = u; fits_it = i; ranged = r; took = tt; out = h }
ordinary_gave {K} adds reads a b positions.Descriptor q t o w u p i r h = absurd o
ordinary_gave {K} adds reads a b positions.First q t o w u p i r h = absurd o
ordinary_gave {K} adds reads a b (positions.Element c) q t o w u p i r h = absurd o

described_puts : {K : Type 0} (adds : Adding K) (reads : Promises K) (within : Opening K) (extends : Extending K) → Laws adds reads within extends → (start before now end : Pass K) (old : K) (d o : Option Tree) → IsOrdinary start.position → adds start.sink [] old → (f : Prefix adds reads old before now d) → puts adds reads now.sink positions.Inside o end.sink end.position → puts adds reads start.sink start.position (as_described (Some f.added.descriptor) o) end.sink end.position
described_puts {K} adds reads within extends L start before now end old d None p s f h = absurd h
described_puts {K} adds reads within extends L start before now end old d (Some u) p s f h =
    let a = f.added in
    let x = a.descriptor in
    let form = described_form a.tree x a.named in
    let one : adds start.sink (0x00 ∷ []) before.sink = L.chains start.sink old before.sink [] (0x00 ∷ []) s f.code_added in
    let all : adds start.sink (0x00 ∷ (encoding a.tree ++ encoding u)) end.sink = L.chains start.sink now.sink end.sink (0x00 ∷ encoding a.tree) (encoding u) (L.chains start.sink before.sink now.sink (0x00 ∷ []) (encoding a.tree) one a.out) h.out in
    let whole : adds start.sink (encoding (described x u)) end.sink = subst (λ bs. adds start.sink (0x00 ∷ (bs ++ encoding u)) end.sink) form.0 all in
    ordinary_gave adds reads start.sink end.sink start.position end.position (described x u) p
    (λ v. both (is_length (length (encoding (described x u)))) (descriptor_fits x && within_limits u) (le_true (length (encoding (described x u))) 18446744073709551615 (L.bounded start.sink end.sink (encoding (described x u)) whole v)) (both (descriptor_fits x) (within_limits u) (form.1.0 (a.within_limits_it (L.keeps now.sink end.sink (L.longer now.sink end.sink (encoding u) h.out) v))) (h.within_limits_it v)))
    h.uniform_arrays_it h.fits_it h.fits_it (when2 reads.ranges (λ d v. (form.1.1 d, v)) a.ranged h.ranged) whole

described_gives : {K : Type 0} (adds : Adding K) (reads : Promises K) (within : Opening K) (extends : Extending K) → Laws adds reads within extends → (start before now mid end : Pass K) (old : K) (d t : Option Tree) (r : Result (Unit {0}) GaveUp) → start.marker ≡ Some marker.Other → IsOrdinary start.position → adds start.sink [] old → extends start.sink now.sink → Prefix adds reads old before now d →
    mid.sink ≡ now.sink → mid.position ≡ positions.Inside → mid.marker ≡ Some marker.Other → Gives adds reads extends mid t r end → Gives adds reads extends start (as_described (descriptor_of d) t) r end
described_gives {K} adds reads within extends L start before now mid end old d t (Err e) m p s x f a b c h = L.on start.sink now.sink end.sink x (subst (λ w. extends w end.sink) a h)
described_gives {K} adds reads within extends L start before now mid end old d t (Ok u) m p s x f a b c h =
    let q : puts adds reads now.sink positions.Inside t end.sink end.position = subst (λ w. puts adds reads w positions.Inside t end.sink end.position) a (subst (λ w. puts adds reads mid.sink w t end.sink end.position) b (unmarked_puts adds reads extends mid t end c h)) in
    let given = described_puts adds reads within extends L start before now end old d t p s f q in
    let is : descriptor_of d ≡ Some f.added.descriptor = ap descriptor_of f.added.is ∙ f.added.named in
    let o = as_described (descriptor_of d) t in
    let named : puts adds reads start.sink start.position o end.sink end.position = subst (λ w. puts adds reads start.sink start.position (as_described w t) end.sink end.position) (sym is) given in
    subst (λ w. puts adds reads start.sink start.position (marked w o) end.sink end.position) (sym m) (subst (λ w. puts adds reads start.sink start.position w end.sink end.position) (sym (unmarked o)) named)

described_from : {K : Type 0} (adds : Adding K) (reads : Promises K) (within : Opening K) (extends : Extending K) (marks : Marking K) → Laws adds reads within extends → (start before now : Pass K) (c : PassCompound) (d : Option Tree) → AwaitsDescriptor adds reads within extends marks start before c → Gives adds reads extends before d (Ok tt) now → extends start.sink now.sink
described_from {K} adds reads within extends marks L start before now c d w g =
    L.on start.sink w.old now.sink (has_extends adds reads within extends marks L (class_of c.kind) c.kind start kinds.Single w.old (kept c) [] w.has) (L.on w.old before.sink now.sink w.since (gives_extends adds reads within extends L before d (Ok tt) now g))

-- The value after a descriptor.
pub described_next : {K : Type 0} (adds : Adding K) (reads : Promises K) (within : Opening K) (extends : Extending K) (marks : Marking K) → Laws adds reads within extends → (start before now after : Pass K) (c new : PassCompound) (d : Option Tree) (part : Result (Unit {0}) GaveUp) (u : Unit {0}) → part ≡ Ok u → c.kind ≡ resolved.Single → c.marker ≡ Some marker.Other → IsOrdinary c.position →
    new.kind ≡ c.kind → new.count ≡ c.count → new.marker ≡ c.marker → new.position ≡ positions.Inside → adds now.sink [] after.sink → AwaitsDescriptor adds reads within extends marks start before c → Gives adds reads extends before d part now →
    (mid : Pass K) × (Has adds reads within extends marks mid kinds.Single after new [] × ((t : Option Tree) (r : Result (Unit {0}) GaveUp) (end : Pass K) → Gives adds reads extends mid t r end → Gives adds reads extends start (as_described (descriptor_of d) t) r end))
described_next {K} adds reads within extends marks L start before now after c new d part u is k m p e n f q s w g =
    let g : Gives adds reads extends before d (Ok tt) now = subst (λ x. Gives adds reads extends before d x now) is g in
    let h : HasIn adds reads within extends marks resolved.Single start kinds.Single w.old (kept c) [] = subst (λ x. HasIn adds reads within extends marks x start kinds.Single w.old (kept c) []) k w.has in
    let mid : Pass K = record { sink = now.sink; position = positions.Inside; marker = Some marker.Other; tries_parts = true } in
    let x = described_from adds reads within extends marks L start before now c d w g in (
      mid,
      (
        subst (λ x. HasIn adds reads within extends marks x mid kinds.Single after.sink (kept new) []) (sym (e ∙ k)) (refl, (n ∙ h.1.0, (s, (f ∙ m, q)))),
        λ t r end y. described_gives adds reads within extends L start before now mid end w.old d t r (sym h.1.1.1.0 ∙ m) (subst IsOrdinary h.1.1.1.1 p) h.1.1.0 x (prefix_of adds reads extends w.old before now d w.position w.marker_is g) refl refl refl y,
      ),
    )

refused_gives : {K : Type 0} (adds : Adding K) (reads : Promises K) (within : Opening K) (extends : Extending K) → Laws adds reads within extends → (start mid end : Pass K) (o t : Option Tree) (r : Result (Unit {0}) GaveUp) → mid.marker ≡ None → extends start.sink mid.sink → Gives adds reads extends mid t r end → Gives adds reads extends start o r end
refused_gives {K} adds reads within extends L start mid end o t (Ok u) m x h = absurd (none_gives adds reads extends mid t end m h)
refused_gives {K} adds reads within extends L start mid end o t (Err e) m x h = L.on start.sink mid.sink end.sink x h

-- No value is accepted after this descriptor.
pub refused_next : {K : Type 0} (adds : Adding K) (reads : Promises K) (within : Opening K) (extends : Extending K) (marks : Marking K) → Laws adds reads within extends → (start before now after : Pass K) (c new : PassCompound) (d : Option Tree) (part : Result (Unit {0}) GaveUp) (u : Unit {0}) → part ≡ Ok u → new.kind ≡ resolved.Refused → new.marker ≡ None → adds now.sink [] after.sink →
    AwaitsDescriptor adds reads within extends marks start before c → Gives adds reads extends before d part now →
    (mid : Pass K) × (Has adds reads within extends marks mid kinds.Single after new [] × ((t : Option Tree) (r : Result (Unit {0}) GaveUp) (end : Pass K) → Gives adds reads extends mid t r end → Gives adds reads extends start (as_described (descriptor_of d) t) r end))
refused_next {K} adds reads within extends marks L start before now after c new d part u is k m s w g =
    let g : Gives adds reads extends before d (Ok tt) now = subst (λ x. Gives adds reads extends before d x now) is g in
    let mid : Pass K = record { sink = after.sink; position = positions.Inside; marker = None; tries_parts = true } in
    let x = L.on start.sink now.sink after.sink (described_from adds reads within extends marks L start before now c d w g) (L.longer now.sink after.sink [] s) in (
      mid,
      (
        subst (λ x. HasIn adds reads within extends marks x mid kinds.Single after.sink (kept new) []) (sym k) (m, L.stays after.sink),
        λ t r end y. refused_gives adds reads within extends L start mid end (as_described (descriptor_of d) t) t r refl x y,
      ),
    )

-- A descriptor that failed leaves the compound as it was.
pub no_descriptor : {K : Type 0} (adds : Adding K) (reads : Promises K) (within : Opening K) (extends : Extending K) (marks : Marking K) → Laws adds reads within extends → (start before now : Pass K) (after : K) (c : PassCompound) (d : Option Tree) (part : Result (Unit {0}) GaveUp) → AwaitsDescriptor adds reads within extends marks start before c → Gives adds reads extends before d part now →
    ((a : K) → marks a c.mark → extends a now.sink → adds a [] after) → HasIn adds reads within extends marks c.kind start kinds.Single after (kept c) [] × (Option Tree → extends start.sink after)
no_descriptor {K} adds reads within extends marks L start before now after c d part w g f =
    let s = f w.old w.at (L.on w.old before.sink now.sink w.since (gives_extends adds reads within extends L before d part now g)) in
    let n = has_same adds reads within extends marks L (class_of c.kind) c.kind start kinds.Single w.old after (kept c) [] w.has s in
    (n, λ t. has_extends adds reads within extends marks L (class_of c.kind) c.kind start kinds.Single after (kept c) [] n)

single_list : kinds.Single ≡ kinds.List → ⊥
single_list q = cc

single_map : kinds.Single ≡ kinds.Map → ⊥
single_map q = cc

single_variant : (i : ℕ) → kinds.Single ≡ kinds.Variant i → ⊥
single_variant i q = cc

single_newtype_variant : (i : ℕ) → kinds.Single ≡ kinds.NewtypeVariant i → ⊥
single_newtype_variant i q = cc

resumed_in : {K : Type 0} (adds : Adding K) (reads : Promises K) (within : Opening K) (extends : Extending K) (marks : Marking K) → Laws adds reads within extends → (k : ResolvedKind) (start : Pass K) (now : K) (next : Pass K) (c : Kept) → next.sink ≡ now → next.position ≡ c.position → next.marker ≡ c.marker → HasIn adds reads within extends marks k start kinds.Single now c [] →
    (t : Option Tree) (after : Pass K) → Gives adds reads extends next t (Ok tt) after → Gives adds reads extends start t (Ok tt) after
resumed_in {K} adds reads within extends marks L resolved.Refused start now next c a b m h t after g = absurd (none_gives adds reads extends next t after (m ∙ h.0) g)
resumed_in {K} adds reads within extends marks L resolved.Single start now next c a b m h t after g =
    puts_after adds reads within extends L start.sink now after.sink start.position after.position (marked start.marker t) h.1.1.0
    (subst (λ w. puts adds reads now start.position (marked w t) after.sink after.position) (m ∙ h.1.1.1.0) (subst (λ w. puts adds reads now w (marked next.marker t) after.sink after.position) (b ∙ h.1.1.1.1) (subst (λ w. puts adds reads w next.position (marked next.marker t) after.sink after.position) a g)))
resumed_in {K} adds reads within extends marks L resolved.List start now next c a b m h t after g = absurd (single_list h.kind_is)
resumed_in {K} adds reads within extends marks L resolved.Map start now next c a b m h t after g = absurd (single_map h.kind_is)
resumed_in {K} adds reads within extends marks L (resolved.Variant i) start now next c a b m h t after g = absurd (single_variant i h.kind_is)
resumed_in {K} adds reads within extends marks L (resolved.NewtypeVariant i) start now next c a b m h t after g = absurd (single_newtype_variant i h.kind_is)
resumed_in {K} adds reads within extends marks L resolved.Array start now next c a b m h t after g = absurd (single_list h.kind_is)
resumed_in {K} adds reads within extends marks L resolved.Transparent start now next c a b m h t after g = absurd (single_list h.kind_is)

-- The part of a single compound has its position.
pub resumed : {K : Type 0} (adds : Adding K) (reads : Promises K) (within : Opening K) (extends : Extending K) (marks : Marking K) → Laws adds reads within extends → (start now next : Pass K) (c : PassCompound) → next.sink ≡ now.sink → next.position ≡ c.position → next.marker ≡ c.marker → Has adds reads within extends marks start kinds.Single now c [] →
    (t : Option Tree) (r : Result (Unit {0}) GaveUp) (after : Pass K) → Gives adds reads extends next t r after → Gives adds reads extends start t r after
resumed {K} adds reads within extends marks L start now next c a b m h t (Err e) after g = L.on start.sink now.sink after.sink (has_extends adds reads within extends marks L (class_of c.kind) c.kind start kinds.Single now.sink (kept c) [] h) (subst (λ w. extends w after.sink) a g)
resumed {K} adds reads within extends marks L start now next c a b m h t (Ok u) after g = resumed_in adds reads within extends marks L c.kind start now.sink next (kept c) a b m h t after g

-- A pass whose sink returned to where it was permits what it permitted.
pub gives_after : {K : Type 0} (adds : Adding K) (reads : Promises K) (within : Opening K) (extends : Extending K) → Laws adds reads within extends → (s next : Pass K) (t : Option Tree) (r : Result (Unit {0}) GaveUp) (after : Pass K) → adds s.sink [] next.sink → next.position ≡ s.position → next.marker ≡ s.marker → Gives adds reads extends next t r after → Gives adds reads extends s t r after
gives_after {K} adds reads within extends L s next t (Err e) after a p m h = L.on s.sink next.sink after.sink (L.longer s.sink next.sink [] a) h
gives_after {K} adds reads within extends L s next t (Ok u) after a p m h =
    puts_after adds reads within extends L s.sink next.sink after.sink s.position after.position (marked s.marker t) a
    (subst (λ w. puts adds reads next.sink s.position (marked w t) after.sink after.position) m (subst (λ w. puts adds reads next.sink w (marked next.marker t) after.sink after.position) p h))
