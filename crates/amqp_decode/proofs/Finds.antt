-- The function finds every tree that the relation permits.
use Rattle.std.proofs.Common.{◌≡◌, ℕ, zero, suc, ◌*◌, ◌/◌, ◌%◌, ◌<◌, ◌≤◌, true, eqb, leb, List, [], ◌∷◌, ◌++◌, length, Some, refl, sym, ◌∙◌, append_assoc, arith, length-append}
use Rattle.std.proofs.Math.Seq.{take-append_seam, drop-append_seam}
use Rattle.std.proofs.lemmas.List.{append-nil}
use Rattle.std.proofs.lemmas.Bool.{le-leb}
use Rattle.std.proofs.lemmas.Bool.Decides.{nat_tests}
use Rattle.amqp_data.specs.declared.format_code.EncodingCodes.{EncodingCodes}
use Rattle.amqp_frame.specs.declared.code.Category.{Category}
use Rattle.amqp_ser.specs.Tree as tree
use Rattle.amqp_ser.specs.Tree.{Descriptor, Tree, Pairs, no_pairs}
use Rattle.amqp_decode.specs.Encodes.{IsNumber, IsPayload, IsCounted, IsDescriptor, descriptor_scalar, Encodes, EncodesContent, EncodesElements, EncodesItems, EncodesEntries}
use Rattle.amqp_decode.specs.Parsed.{cut, number_at, sized_at, content_at, counted_in, tree_descriptor, descriptor_at, gather, insert, payload_in, content_of, parse, parse_content}
use Rattle.amqp_decode.specs.declared.payload.Count.{Count}
use Rattle.amqp_decode.proofs.CodeLemmas.{primitive-found, primitive-nonzero}

pub cut-seam : (s x : List ℕ) → cut (length s) (s ++ x) ≡ Some (s, x)
cut-seam s x =
    let fits : leb (length s) (length (s ++ x)) ≡ true = le-leb _ _ (omega (arith, length-append s x)) in
    rw (fits, take-append_seam, drop-append_seam) refl

pub number-four : {b : List ℕ} {n : ℕ} → IsNumber b n → (x : List ℕ) → number_at true (b ++ x) ≡ Some (n, x)
number-four (IsNumber.four_bytes a b c e) x =
    let h : cut 4 ((a ∷ b ∷ c ∷ e ∷ []) ++ x) ≡ Some (a ∷ b ∷ c ∷ e ∷ [], x) = cut-seam (a ∷ b ∷ c ∷ e ∷ []) x in
    rw h refl

-- The content of the payload at the start.
pub payload-found : {k : Category} {p content : List ℕ} → IsPayload k p content → (x : List ℕ) → content_at k (p ++ x) ≡ Some (content, x)
unfolding sized_at
payload-found (IsPayload.of_width content) x = cut-seam content x
payload-found (IsPayload.of_one_byte content) x = cut-seam content x
payload-found (IsPayload.of_four_bytes size content number) x = rw (append_assoc, number-four number (content ++ x)) (cut-seam content x)

pub counted-found : {k : Count} {content : List ℕ} {n : ℕ} {body : List ℕ} → IsCounted k content n body → counted_in k content ≡ Some (n, body)
unfolding counted_in
counted-found (IsCounted.in_none body) = refl
counted-found (IsCounted.in_one_byte n body) = refl
counted-found (IsCounted.in_four_bytes bytes n body number) = number-four number body

described-scalar : (d : Descriptor) → tree_descriptor (tree.scalar (descriptor_scalar d)) ≡ Some d
described-scalar (tree.name bs) = refl
described-scalar (tree.code n) = refl

pub descriptor-found : {b : List ℕ} {d : Descriptor} → IsDescriptor b d → (x : List ℕ) → descriptor_at (b ++ x) ≡ Some (d, x)
unfolding descriptor_at
descriptor-found (IsDescriptor.encoded code payload content d ok is scalar) x =
    rw (primitive-found code ok, payload-found is x, scalar, described-scalar d) refl

deep : {d : ℕ} {c : EncodingCodes} {s : List ℕ} {t : Tree} → EncodesContent d c s t → 0 < d
deep (EncodesContent.a_scalar d c s k shape is) = omega arith
deep (EncodesContent.a_list d c count s n body ts shape counts has) = omega arith
deep (EncodesContent.a_map d c count s n body ps shape counts has) = omega arith
deep (EncodesContent.a_bare_array d c count s shape counts) = omega arith
deep (EncodesContent.an_array d c count s n e items ts shape counts ok has) = omega arith

even : (n : ℕ) → eqb ((2 * n) % 2) 0 ≡ true
even n = grind (arith, nat_tests)

half : (n : ℕ) → (2 * n) / 2 ≡ n
half n = omega arith

mutual
  unfolding parse parse_content

  pub finds : {d : ℕ} {a : List ℕ} {t : Tree} → Encodes d a t → (e : ℕ) → d ≤ e → (x : List ℕ) → parse e (a ++ x) ≡ Some (t, x)
  finds (Encodes.primitive d c p s t ok is h) zero le x = let pos = deep h in absurd (omega arith)
  finds (Encodes.primitive d c p s t ok is h) (suc e) le x =
      let inner : content_of (parse e) (parse_content e) c s ≡ Some t = finds-content h (suc e) le in
      rw (primitive-nonzero c ok, primitive-found c ok, payload-found is x, inner) refl
  finds (Encodes.described d a b l t is_descriptor sp) zero le x = absurd (omega arith)
  finds (Encodes.described d a b l t is_descriptor sp) (suc e) le x =
      rw (append_assoc, descriptor-found is_descriptor (b ++ x), finds sp e (omega arith) x) refl

  pub finds-content : {d : ℕ} {c : EncodingCodes} {s : List ℕ} {t : Tree} → EncodesContent d c s t → (e : ℕ) → d ≤ e → parse_content e c s ≡ Some t
  finds-content h zero le = let pos = deep h in absurd (omega arith)
  finds-content (EncodesContent.a_scalar d c s k shape is) (suc e) le = rw (shape, is) refl
  finds-content (EncodesContent.a_list d c count s n body ts shape counts has) (suc e) le =
      let h : gather (parse e) n body [] ≡ Some (ts, []) = rw (sym (append-nil body)) (finds-elements has e (omega arith) [] []) in
      rw (shape, counted-found counts, h) refl
  finds-content (EncodesContent.a_map d c count s n body ps shape counts has) (suc e) le =
      let h : insert (parse e) n body no_pairs ≡ Some (ps, []) = rw (sym (append-nil body)) (finds-entries has e (omega arith) []) in
      rw (shape, counted-found counts, even n, half n, h) refl
  finds-content (EncodesContent.a_bare_array d c count s shape counts) (suc e) le = rw (shape, counted-found counts) refl
  finds-content (EncodesContent.an_array d c count s n k items ts shape counts ok has) (suc e) le =
      let h : gather (payload_in (parse_content e) k) n items [] ≡ Some (ts, []) = rw (sym (append-nil items)) (finds-items has e (omega arith) [] []) in
      rw (shape, counted-found counts, primitive-found k ok, h) refl

  finds-elements : {d n : ℕ} {b : List ℕ} {ts : List Tree} → EncodesElements d n b ts → (e : ℕ) → d ≤ e → (x : List ℕ) (done : List Tree) → gather (parse e) n (b ++ x) done ≡ Some (done ++ ts, x)
  finds-elements (EncodesElements.no_element d) e le x done = rw (append-nil done) refl
  finds-elements (EncodesElements.element d n a b t ts sp more) e le x done =
      rw (append_assoc, finds sp e le (b ++ x)) (finds-elements more e le x (done ++ t ∷ []) ∙ rw append_assoc refl)

  finds-items : {d : ℕ} {c : EncodingCodes} {n : ℕ} {b : List ℕ} {ts : List Tree} → EncodesItems d c n b ts → (e : ℕ) → d ≤ e → (x : List ℕ) (done : List Tree) → gather (payload_in (parse_content e) c) n (b ++ x) done ≡ Some (done ++ ts, x)
  finds-items (EncodesItems.no_item d c) e le x done = rw (append-nil done) refl
  finds-items (EncodesItems.item d c n p s b t ts is h more) e le x done =
      rw (append_assoc, payload-found is (b ++ x), finds-content h e le) (finds-items more e le x (done ++ t ∷ []) ∙ rw append_assoc refl)

  finds-entries : {d n : ℕ} {b : List ℕ} {done ps : Pairs} → EncodesEntries d n b done ps → (e : ℕ) → d ≤ e → (x : List ℕ) → insert (parse e) n (b ++ x) done ≡ Some (ps, x)
  finds-entries (EncodesEntries.no_entry d ps) e le x = refl
  finds-entries (EncodesEntries.entry d n a b rest k v done ps sk sv more) e le x =
      let first : parse e ((a ++ (b ++ rest)) ++ x) ≡ Some (k, b ++ (rest ++ x)) = rw (append_assoc, append_assoc) (finds sk e le (b ++ (rest ++ x))) in
      let second : parse e (b ++ (rest ++ x)) ≡ Some (v, rest ++ x) = finds sv e le (rest ++ x) in
      rw (first, second) (finds-entries more e le x)
