-- Values inside their descriptors.
use Rattle.std.proofs.Common.{◌≡◌, if◌then◌else◌, Bool, true, false, true≢false, ℕ, ◌+◌, ◌≤◌, ◌<◌, List, [], ◌∷◌, ◌++◌, Option, Some, None, Result, Ok, Err, MatchResult, Box, Global, length, take, drop, refl, ap, sym, ◌∙◌, subst, append-nil, append_assoc, arith, rules}
use Rattle.std.proofs.lemmas.List.{map-append, take-map, drop-map, take-append-drop, take-append-le, drop-append-le, length-append}
use Rattle.std.proofs.Math.Seq.{take-append_seam, drop-append_seam}
use Rattle.amqp_data.specs.declared.described.Described.{Described}
use Rattle.amqp_data.specs.declared.error.Error.{Error}
use Rattle.amqp_ser.specs.Carried.{descriptor_content}
use Rattle.amqp_ser.specs.Tree.{Descriptor, Tree, described}
use Rattle.amqp_value.specs.Image.{image}
use Rattle.amqp_value.specs.TreeOf.{tree_of, tree_step}
use Rattle.amqp_value.specs.declared.value.Value.{Value, the_lemmas, out-Value, roll-Value, roll-out-Value, map-Value, fold-roll-Value}
use Rattle.amqp_value.specs.declared.value.Value.TheOpen.{Value-F}
use Rattle.amqp_value.specs.declared.value.Value.TheVariants.{Described as DescribedValue}
use Rattle.amqp_to_value.specs.PendingDescriptors.{DescriptorsState, descriptors_of, under_descriptors, described_by, standing}
use Rattle.amqp_to_value.specs.ImageOf.{refuses, Represents}
use Rattle.amqp_to_value.specs.Opened.{Opened}
use Rattle.amqp_to_value.specs.ValueSerializer.{described_none}
use Rattle.amqp_to_value.specs.declared.value_error.ValueError.{ValueError}
use Rattle.amqp_to_value.proofs.LazyLemmas.{Lacks, unreadable_whole, unreadable_in}
use Rattle.amqp_to_value.proofs.OpenedLemmas.{opened_in, opened_inside}

-- The descriptors after the kept ones begin with those of the next value.
pub standing_left : (p : DescriptorsState) → (more : List Descriptor) × (p.later ≡ standing p ++ more)
standing_left p = by p.next refl
  where
    by : (b : Bool) → p.next ≡ b → (more : List Descriptor) × (p.later ≡ standing p ++ more)
    by true is = ([], ap (λ b. if b then p.later else []) (sym is) ∙ sym (append-nil (standing p)))
    by false is = (p.later, ap (λ b. (if b then p.later else []) ++ p.later) (sym is))

pub standing_next : (p : DescriptorsState) → p.next ≡ true → standing p ≡ p.later
standing_next p is = ap (λ b. if b then p.later else []) is

pub standing_none : (p : DescriptorsState) → p.next ≡ false → standing p ≡ []
standing_none p is = ap (λ b. if b then p.later else []) is

-- One more descriptor, the innermost.
pub described_in-last : (ds : List Descriptor) (d : Descriptor) (t : Tree) → under_descriptors (ds ++ (d ∷ [])) t ≡ under_descriptors ds (described d t)
described_in-last [] d t = refl
described_in-last (e ∷ ds) d t = ap (described e) (described_in-last ds d t)

image-described_in : (ds : List Descriptor) (t : Tree) → image (under_descriptors ds t) ≡ under_descriptors ds (image t)
image-described_in [] t = refl
image-described_in (d ∷ ds) t = ap (described d) (image-described_in ds t)

described_by-Some : (ds : List Descriptor) (t : Tree) → described_by ds (Some t) ≡ Some (under_descriptors ds t)
described_by-Some [] t = refl
described_by-Some (d ∷ ds) t = rw (described_by-Some ds t) refl

-- A value inside descriptors represents the described tree.
pub represents_described : (ds : List Descriptor) (o : Option Tree) (v w : Value) → tree_of w ≡ under_descriptors ds (tree_of v) → Represents v o → Represents w (described_by ds o)
represents_described ds None v w is s = absurd s
represents_described ds (Some t) v w is s =
    subst (Represents w) (sym (described_by-Some ds t))
    (under_descriptors ds s.0, opened_in ds t s.0 s.1, is ∙ ap (under_descriptors ds) s.2 ∙ sym (image-described_in ds s.0))

-- A value that represents a described tree has the same descriptors.
pub represents_inner : (ds : List Descriptor) (o : Option Tree) (v : Value) → Represents v (described_by ds o)
    → (t : Tree) × (u : Tree) × (o ≡ Some t) × Opened t u × (tree_of v ≡ under_descriptors ds (image u))
represents_inner ds None v s = absurd (subst (Represents v) (described_none ds) s)
represents_inner ds (Some t) v s =
    let h = subst (Represents v) (described_by-Some ds t) s in
    let r = opened_inside ds t h.0 h.1 in
    (t, r.0, refl, r.2, h.2 ∙ ap image r.1 ∙ image-described_in ds r.0)

lacks_in : (ds : List Descriptor) (o : Option Tree) → Lacks o → Lacks (described_by ds o)
lacks_in ds None h = subst Lacks (sym (described_none ds)) tt
lacks_in ds (Some t) h = subst Lacks (sym (described_by-Some ds t)) (unreadable_in ds t h)

-- An error that is permitted for a tree is permitted for the described tree.
pub refuses_in : (ds : List Descriptor) (o : Option Tree) (e : Error) → refuses e o → refuses e (described_by ds o)
refuses_in ds o e r = unreadable_whole e o (described_by ds o) (lacks_in ds o) r

-- All descriptors are the kept ones followed by the later ones.
pub all_contents : (bs : List (Box (Described Value) Global)) (kept : ℕ) (others later : List Descriptor) → descriptors_of (take kept bs) ≡ others → descriptors_of (drop kept bs) ≡ later → descriptors_of bs ≡ others ++ later
all_contents bs kept others later o l = ap descriptors_of (sym (take-append-drop kept bs)) ∙ map-append _ (take kept bs) (drop kept bs) ∙ (λ i. o i ++ l i)

-- The descriptors before an index, and those from it on.
pub parted : (bs : List (Box (Described Value) Global)) (others own : List Descriptor) (n : ℕ) → descriptors_of bs ≡ others ++ own → n ≡ length others
    → (descriptors_of (take n bs) ≡ others) × (descriptors_of (drop n bs) ≡ own)
parted bs others own n is e = (
  sym (take-map _ n bs) ∙ (λ i. take (e i) (is i)) ∙ take-append_seam others own,
  sym (drop-map _ n bs) ∙ (λ i. drop (e i) (is i)) ∙ drop-append_seam others own,
)

-- The descriptors before an index.
pub prefix : (bs cs : List (Box (Described Value) Global)) (ds later : List Descriptor) (n : ℕ) → descriptors_of bs ≡ ds ++ later → n ≡ length ds → cs ≡ take n bs → descriptors_of cs ≡ ds
prefix bs cs ds later n is e f = ap descriptors_of f ∙ (parted bs ds later n is e).0

-- A value without its descriptors, which are pushed back onto the stack.
pub put_again : (r : Result Value ValueError) (cs ns : List (Box (Described Value) Global)) (others own : List Descriptor) (t : Tree) (n : ℕ) (next : Bool) → descriptors_of cs ≡ others → n ≡ length others → next ≡ false
    → MatchResult r (λ v. (tree_of v ≡ t) × (descriptors_of ns ≡ descriptors_of cs ++ own)) (λ _. ⊥)
    → MatchResult r (λ v. (tree_of v ≡ t) × (descriptors_of (take n ns) ≡ others) × (descriptors_of (drop n ns) ≡ own) × (next ≡ false)) (λ _. ⊥)
put_again (Ok v) cs ns others own t n next is e idle h = let all = parted ns others own n (h.1 ∙ ap (λ ds. ds ++ own) is) e in (h.0, all.0, all.1, idle)
put_again (Err e) cs ns others own t n next is e' idle h = h

-- The last of the described values from index `first` on, and the others.
module _ (bs : List (Box (Described Value) Global)) (b : Box (Described Value) Global) (first : ℕ) (le : first ≤ length bs) where
  pub take-prefix : take first (bs ++ (b ∷ [])) ≡ take first bs
  take-prefix = take-append-le first bs (b ∷ []) le

  descriptors_of-prefix : descriptors_of (drop first (bs ++ (b ∷ []))) ≡ descriptors_of (drop first bs) ++ (descriptor_content b.value.descriptor ∷ [])
  descriptors_of-prefix = ap descriptors_of (drop-append-le first bs (b ∷ []) le) ∙ map-append _ (drop first bs) (b ∷ [])

  pub described-prefix : (t : Tree) → under_descriptors (descriptors_of (drop first (bs ++ (b ∷ [])))) t ≡ under_descriptors (descriptors_of (drop first bs)) (described (descriptor_content b.value.descriptor) t)
  described-prefix t = ap (λ ds. under_descriptors ds t) descriptors_of-prefix ∙ described_in-last (descriptors_of (drop first bs)) (descriptor_content b.value.descriptor) t

tree_of-Described : (b : Box (Described Value) Global) → tree_of (DescribedValue b) ≡ described (descriptor_content b.value.descriptor) (tree_of b.value.value)
tree_of-Described b = search (rules, the_lemmas)

-- A value that is put into the last described value.
pub wrapped : (prefix all initial : List (Box (Described Value) Global)) (b w : Box (Described Value) Global) (first : ℕ) (v : Value) (whole : Tree) → all ≡ prefix ++ (b ∷ []) → first < length all
    → w.value.descriptor ≡ b.value.descriptor → w.value.value ≡ v
    → (take first all ≡ take first initial) × (under_descriptors (descriptors_of (drop first all)) (tree_of v) ≡ whole)
    → (take first prefix ≡ take first initial) × (under_descriptors (descriptors_of (drop first prefix)) (tree_of (DescribedValue w)) ≡ whole)
wrapped prefix all initial b w first v whole is lt same inner h =
    let count : length all ≡ length prefix + 1 = ap length is ∙ length-append prefix (b ∷ []) in
    let le : first ≤ length prefix = omega arith in (
      sym (take-prefix prefix b first le) ∙ ap (take first) (sym is) ∙ h.0,
      ap (under_descriptors (descriptors_of (drop first prefix))) (tree_of-Described w ∙ (λ i. described (descriptor_content (same i)) (tree_of (inner i))))
          ∙ sym (described-prefix prefix b first le (tree_of v))
          ∙ ap (λ bs. under_descriptors (descriptors_of (drop first bs)) (tree_of v)) (sym is)
          ∙ h.1,
    )

-- The descriptor and the content of a described value.
module _ (b : Box (Described Value) Global) (d : Descriptor) (t : Tree) (is : tree_of (DescribedValue b) ≡ described d t) where
  abbrev head : Tree → Descriptor
  head (described e u) = e
  head u = d

  abbrev body : Tree → Tree
  body (described e u) = u
  body u = u

  peeled : (descriptor_content b.value.descriptor ≡ d) × (tree_of b.value.value ≡ t)
  peeled = let e = sym (tree_of-Described b) ∙ is in (ap head e, ap body e)

abbrev tagged : Tree → Bool
tagged (described d t) = true
tagged t = false

abbrev NoBox : Value → Type 0
NoBox v = (b : Box (Described Value) Global) → v ≡ DescribedValue b → ⊥

untagged : (y : Value-F Value) → NoBox (roll-Value y) → tagged (tree_step (map-Value Value Tree tree_of y)) ≡ false
untagged (Value-F.Described b) none = absurd (none b (search (rules, the_lemmas)))
untagged _ none = refl

-- The tree of a value that is not described is no described tree.
pub not_described : (v : Value) → NoBox v → (d : Descriptor) (t : Tree) → tree_of v ≡ described d t → ⊥
not_described v none d t is =
    let rolled = roll-out-Value v in
    let no = untagged (out-Value v) (subst NoBox (sym rolled) none) in
    true≢false (ap tagged (sym is ∙ ap tree_of (sym rolled) ∙ fold-roll-Value Tree tree_step (out-Value v)) ∙ no)

-- One of the remaining descriptors is pushed onto the stack.
pub unwrapped : (rest : List Descriptor) (old new : List (Box (Described Value) Global)) (b w : Box (Described Value) Global) (v : Value) (all : List Descriptor) (t : Tree) (at count len len' cap cap' : ℕ)
    → length rest + at ≡ count → at < count → len + length rest ≤ cap → len' ≡ len + 1 → cap ≤ cap'
    → descriptors_of old ++ rest ≡ all → new ≡ old ++ (w ∷ []) → w.value.descriptor ≡ b.value.descriptor → v ≡ b.value.value → tree_of (DescribedValue b) ≡ under_descriptors rest t
    → (x : List Descriptor) × (length x + (at + 1) ≡ count) × (len' + length x ≤ cap') × (descriptors_of new ++ x ≡ all) × (tree_of v ≡ under_descriptors x t)
unwrapped [] old new b w v all t at count len len' cap cap' n lt room grows more sum put same inner is = absurd (omega arith)
unwrapped (d ∷ rest) old new b w v all t at count len len' cap cap' n lt room grows more sum put same inner is =
    let p = peeled b d (under_descriptors rest t) is in (
      rest,
      omega arith,
      omega arith,
      ap (λ bs. descriptors_of bs ++ rest) put ∙ ap (λ ds. ds ++ rest) (map-append _ old (w ∷ [])) ∙ append_assoc (descriptors_of old) _ rest
          ∙ ap (λ e. descriptors_of old ++ (e ∷ rest)) (ap descriptor_content same ∙ p.0) ∙ sum,
      ap tree_of inner ∙ p.1,
    )

-- The remaining descriptors are not empty before the last step.
pub more_rest : (rest : List Descriptor) (at count : ℕ) (t : Tree) → length rest + at ≡ count → at < count → (d : Descriptor) × (u : Tree) × (under_descriptors rest t ≡ described d u)
more_rest [] at count t n lt = absurd (omega arith)
more_rest (d ∷ rest) at count t n lt = (d, under_descriptors rest t, refl)
