-- Encoded bytes as a source: there are no array elements without bytes.
use Rattle.std.proofs.Common.{◌≡◌, ℕ, zero, suc, ◌+◌, ◌-◌, ◌*◌, Bool, true, false, List, [], ◌∷◌, ◌++◌, Some, refl, sym, ap, ◌∙◌, append_assoc, arith, subst, ◌==◌, if◌then◌else◌}
use Rattle.std.proofs.lemmas.List.{append-nil}
use Rattle.std.specs.List.{AllZip}
use Rattle.amqp_ser.specs.Tree.{Tree, Scalar, Descriptor, scalar}
use Rattle.amqp_decode.specs.Parsed.{ValueReader, gather, parse, parse_content, descriptor_at}
use Rattle.amqp_decode.specs.Prefix.{HasCountOf, HasCountOfPayloads, IsScalar, item_of}
use Rattle.amqp_decode.specs.Scalars.{and_then}
use Rattle.amqp_decode.specs.WithoutBytes.{Counter, content_without_bytes, elements_without_bytes, if_read, sum_of}
use Rattle.amqp_decode.proofs.Counts.{found-count}
use Rattle.amqp_decode.proofs.Levels.{both, some_same}
use Rattle.amqp_decode.proofs.Steps.{not-zero}
use Rattle.amqp_de.specs.EncodedTrees.{element_counter, element_reader}
use Rattle.amqp_de.proofs.EncodedLemmas.{form_of_items}
use Rattle.amqp_de.proofs.ScalarCounts.{count_value, scalar_none}

pub scalar_counts : (d : ℕ) (bytes rest : List ℕ) (k : Scalar) → IsScalar bytes rest k → elements_without_bytes (suc d) bytes ≡ 0
scalar_counts d bytes rest k is = found-count (suc d) bytes (scalar k, rest) (omega arith) is

count_of_items : (d c : ℕ) → (c ≡ 0 → ⊥) → element_counter d c ≡ (λ s. elements_without_bytes (suc d) (c ∷ s))
count_of_items d c some = rw (not-zero c some) refl

pub list_counts : (depth d n : ℕ) (bytes body : List ℕ) → depth ≡ suc d → HasCountOf bytes n body
    → sum_of (element_counter d 0) (element_reader d 0) n body ≡ 0 → elements_without_bytes (suc depth) bytes ≡ 0
list_counts depth d n bytes body deep counted none =
    count_value depth bytes
    ∙ counted (elements_without_bytes depth) (parse depth) (content_without_bytes depth) (parse_content depth)
    ∙ ap (λ z. sum_of (elements_without_bytes z) (parse z) n body) deep
    ∙ none

pub map_counts : (depth d n : ℕ) (bytes body : List ℕ) → depth ≡ suc d → HasCountOf bytes (2 * n) body
    → sum_of (elements_without_bytes (suc d)) (parse (suc d)) (2 * n) body ≡ 0 → elements_without_bytes (suc depth) bytes ≡ 0
map_counts depth d n bytes body deep counted none =
    count_value depth bytes
    ∙ counted (elements_without_bytes depth) (parse depth) (content_without_bytes depth) (parse_content depth)
    ∙ ap (λ z. sum_of (elements_without_bytes z) (parse z) (2 * n) body) deep
    ∙ none

pub array_counts : (depth d n c : ℕ) (bytes payloads : List ℕ) (ts : List Tree) → depth ≡ suc d → (c ≡ 0 → ⊥) → HasCountOfPayloads bytes n c payloads
    → gather (element_reader d c) n payloads [] ≡ Some (ts, []) → sum_of (element_counter d c) (element_reader d c) n payloads ≡ 0 → elements_without_bytes (suc depth) bytes ≡ 0
array_counts depth d n c bytes payloads ts deep some counted all none =
    let inner : gather (item_of d c) n payloads [] ≡ Some (ts, []) = sym (ap (λ f. gather f n payloads []) (form_of_items d c some)) ∙ all in
    ap (λ z. elements_without_bytes (suc z) bytes) deep
    ∙ counted d ts inner
    ∙ sym (ap (λ f. sum_of f (item_of d c) n payloads) (count_of_items d c some))
    ∙ sym (ap (λ f. sum_of (element_counter d c) f n payloads) (form_of_items d c some))
    ∙ none

pub described_counts : (depth d c k : ℕ) (bytes after s : List ℕ) (e : Descriptor) → c ≡ 0 → depth ≡ suc d → descriptor_at bytes ≡ Some (e, after) → after ≡ k ∷ s
    → elements_without_bytes (suc d) (k ∷ s) ≡ 0 → elements_without_bytes (suc depth) (c ∷ bytes) ≡ 0
described_counts depth d c k bytes after s e is_zero deep at whole none =
    ap (λ z. elements_without_bytes (suc depth) (z ∷ bytes)) is_zero
    ∙ count_value depth (0 ∷ bytes)
    ∙ ap (λ o. if_read o (λ q. elements_without_bytes depth q.1)) at
    ∙ ap (elements_without_bytes depth) whole
    ∙ ap (λ z. elements_without_bytes z (k ∷ s)) deep
    ∙ none

-- The elements, one after another.
sum_more : (c : Counter) (f : ValueReader) (n : ℕ) (s r : List ℕ) (t : Tree) → (n ≡ 0 → ⊥) → f s ≡ Some (t, r) → c s ≡ 0 → sum_of c f (n - 1) r ≡ 0 → sum_of c f n s ≡ 0
sum_more c f zero s r t some e first others = absurd (some refl)
sum_more c f (suc n) s r t some e first others =
    let less : suc n - 1 ≡ n = omega arith in
    let inner : sum_of c f n r ≡ 0 = sym (ap (λ z. sum_of c f z r) less) ∙ others in
    let step : sum_of c f (suc n) s ≡ c s + sum_of c f n r = rw e refl in
    omega (arith, first, inner, step)

pub own_counts : (depth c n : ℕ) (s r : List ℕ) (t : Tree) → c ≡ 0 → (n ≡ 0 → ⊥) → parse (suc depth) s ≡ Some (t, r)
    → elements_without_bytes (suc depth) s ≡ 0 → sum_of (element_counter depth c) (element_reader depth c) (n - 1) r ≡ 0
    → sum_of (element_counter depth c) (element_reader depth c) n s ≡ 0
own_counts depth c n s r t own some e first others =
    let form : element_reader depth c ≡ parse (suc depth) = ap (element_reader depth) own in
    let count : element_counter depth c ≡ elements_without_bytes (suc depth) = ap (element_counter depth) own in
    sum_more (element_counter depth c) (element_reader depth c) n s r t some (ap (λ f. f s) form ∙ e) (ap (λ f. f s) count ∙ first) others

pub item_counts : (depth c n : ℕ) (s r : List ℕ) (t : Tree) → (c ≡ 0 → ⊥) → (n ≡ 0 → ⊥) → parse (suc depth) (c ∷ s) ≡ Some (t, r)
    → elements_without_bytes (suc depth) (c ∷ s) ≡ 0 → sum_of (element_counter depth c) (element_reader depth c) (n - 1) r ≡ 0
    → sum_of (element_counter depth c) (element_reader depth c) n s ≡ 0
item_counts depth c n s r t of some e first others =
    sum_more (element_counter depth c) (element_reader depth c) n s r t some (ap (λ f. f s) (form_of_items depth c of) ∙ e) (ap (λ f. f s) (count_of_items depth c of) ∙ first) others

pub closed_counts : (c : Counter) (f : ValueReader) (n : ℕ) (s : List ℕ) → n ≡ 0 → sum_of c f n s ≡ 0
closed_counts c f n s none = ap (λ z. sum_of c f z s) none

-- The entries, one after another.
pub pair_counts : (c : Counter) (f : ValueReader) (n : ℕ) (s m v : List ℕ) (k t : Tree) → (n ≡ 0 → ⊥) → f s ≡ Some (k, m) → f m ≡ Some (t, v) → c s ≡ 0 → c m ≡ 0
    → sum_of c f (2 * (n - 1)) v ≡ 0 → sum_of c f (2 * n) s ≡ 0
pair_counts c f zero s m v k t some key value first second others = absurd (some refl)
pair_counts c f (suc n) s m v k t some key value first second others =
    let less : 2 * (suc n - 1) ≡ 2 * n = omega arith in
    let inner : sum_of c f (2 * n) v ≡ 0 = sym (ap (λ z. sum_of c f z v) less) ∙ others in
    let more : 2 * suc n ≡ suc (suc (2 * n)) = omega arith in
    let step : sum_of c f (suc (suc (2 * n))) s ≡ c s + (c m + sum_of c f (2 * n) v) = rw (key, value) refl in
    let whole : sum_of c f (2 * suc n) s ≡ sum_of c f (suc (suc (2 * n))) s = ap (λ z. sum_of c f z s) more in
    omega (arith, first, second, inner, step, whole)

pub closed_entry_counts : (c : Counter) (f : ValueReader) (n : ℕ) (s : List ℕ) → n ≡ 0 → sum_of c f (2 * n) s ≡ 0
closed_entry_counts c f n s none = ap (λ z. sum_of c f (2 * z) s) none

-- Scalars of one kind.
module _ (c : Counter) (f : ValueReader) (none : (s r : List ℕ) (k : Scalar) → f s ≡ Some (scalar k, r) → c s ≡ 0) where
  gathered_after : (n : ℕ) (s r : List ℕ) (done ts : List Tree) → gather f n s done ≡ Some (ts, r) → (us : List Tree) × (ts ≡ done ++ us)
  gathered_after zero s r done ts e =
      let same = some_same {A = List Tree × List ℕ} (done, s) (ts, r) e in
      ([], sym (append-nil done ∙ ap (λ z. z.0) same))
  gathered_after (suc n) s r done ts e =
      let a = both (f s) (λ q. gather f n q.1 (done ++ q.0 ∷ [])) (ts, r) e in
      let others = gathered_after n a.0.1 r (done ++ a.0.0 ∷ []) ts a.2 in
      (a.0.0 ∷ others.0, others.1 ∙ append_assoc done (a.0.0 ∷ []) others.0)

  module _ {A : Type 0} (kind : A → Scalar) where
    scalar_at : (done : List Tree) (t : Tree) (us : List Tree) (xs : List A) → AllZip (λ t x. t ≡ scalar (kind x)) (done ++ t ∷ us) xs → (x : A) × (t ≡ scalar (kind x))
    scalar_at [] t us [] zip = absurd zip
    scalar_at [] t us (x ∷ xs) zip = (x, zip.0)
    scalar_at (d ∷ done) t us [] zip = absurd zip
    scalar_at (d ∷ done) t us (x ∷ xs) zip = scalar_at done t us xs zip.1

    gathered_none : (n : ℕ) (s r : List ℕ) (done ts : List Tree) (xs : List A) → gather f n s done ≡ Some (ts, r) → AllZip (λ t x. t ≡ scalar (kind x)) ts xs → sum_of c f n s ≡ 0
    gathered_none zero s r done ts xs e zip = refl
    gathered_none (suc n) s r done ts xs e zip =
        let a = both (f s) (λ q. gather f n q.1 (done ++ q.0 ∷ [])) (ts, r) e in
        let others = gathered_after n a.0.1 r (done ++ a.0.0 ∷ []) ts a.2 in
        let all : ts ≡ done ++ a.0.0 ∷ others.0 = others.1 ∙ append_assoc done (a.0.0 ∷ []) others.0 in
        let at = scalar_at done a.0.0 others.0 xs (subst (λ us. AllZip (λ t x. t ≡ scalar (kind x)) us xs) all zip) in
        let first : c s ≡ 0 = none s a.0.1 (kind at.0) (a.1 ∙ ap (λ t. Some (t, a.0.1)) at.1) in
        let rest : sum_of c f n a.0.1 ≡ 0 = gathered_none n a.0.1 r (done ++ a.0.0 ∷ []) ts xs a.2 zip in
        let step : sum_of c f (suc n) s ≡ c s + sum_of c f n a.0.1 = ap (λ o. c s + if_read o (λ r. sum_of c f n r.1)) a.1 in
        omega (arith, first, rest, step)

element_none : (depth c : ℕ) (s r : List ℕ) (k : Scalar) (b : Bool)
    → (if b then parse (suc depth) else (λ s. parse (suc depth) (c ∷ s))) s ≡ Some (scalar k, r)
    → (if b then elements_without_bytes (suc depth) else (λ s. elements_without_bytes (suc depth) (c ∷ s))) s ≡ 0
element_none depth c s r k true e = scalar_none depth s r k e
element_none depth c s r k false e = scalar_none depth (c ∷ s) r k e

pub scalars_counts : {A : Type 0} (kind : A → Scalar) (depth c n : ℕ) (s : List ℕ) (ts : List Tree) (xs : List A) → gather (element_reader depth c) n s [] ≡ Some (ts, [])
    → AllZip (λ t x. t ≡ scalar (kind x)) ts xs → sum_of (element_counter depth c) (element_reader depth c) n s ≡ 0
scalars_counts kind depth c n s ts xs e zip =
    gathered_none (element_counter depth c) (element_reader depth c) (λ s r k is. element_none depth c s r k (c == 0) is) kind n s [] [] ts xs e zip
