-- The bytes consumed by reads into the parts of a buffer.
use Rattle.std.proofs.Common.{◌≡◌, ℕ, ◌+◌, ◌-◌, ◌≤◌, ◌<◌, List, [], ◌∷◌, ◌++◌, Option, None, Some, Result, Ok, Err, OnOk, length, take, refl, sym, ap, ◌∙◌, subst, arith, length-take, length-append, slice_set}
use Rattle.std.proofs.lemmas.List.{take-append-le, drop_all, append-nil}
use Rattle.std.specs.Io.KnownBytes.{Consumes, prepend_known}
use Rattle.std.proofs.KnownBytes.{Consumes-trans}
use Rattle.std.proofs.Math.Seq.{take-append-add}
use Rattle.amqp_frame.specs.Reader.{Takes}
use borrow.Rule.Slice.PartMut.{put_mid, post_of}

-- a read of n bytes after the first `at` bytes
pub fills-more : (a b c : Option (List ℕ)) (at n k : ℕ) (buf part : List ℕ) → at ≤ length buf → n ≤ length part
    → Consumes a b (take at buf) → Consumes b c (take n part) → Consumes a c (take (at + n) (put_mid at k buf part))
fills-more a b c at n k buf part within fits was now =
    let prefix : length (take at buf) ≡ at = omega (arith, length-take at buf) in
    let joined : take (length (take at buf) + n) (take at buf ++ (part ++ post_of at k buf)) ≡ take at buf ++ take n
    (part ++ post_of at k buf) = take-append-add (take at buf) (part ++ post_of at k buf) n in
    let rest : take n (part ++ post_of at k buf) ≡ take n part = take-append-le n part (post_of at k buf) fits in
    let whole : take (at + n) (put_mid at k buf part) ≡ take at buf ++ take n part
    = ap (λ m. take (m + n) (put_mid at k buf part)) (sym prefix) ∙ joined ∙ ap (λ l. take at buf ++ l) rest in
    subst (Consumes a c) (sym whole) (Consumes-trans a b c _ _ was now)

-- a byte that was peeked, followed by the bytes that were read
pub seen-first : (byte : ℕ) (a b : Option (List ℕ)) (part : List ℕ) → Consumes a b part
    → Consumes (prepend_known (byte ∷ []) a) (prepend_known [] b) (byte ∷ part)
seen-first byte None b part h = tt
seen-first byte (Some xs) None part h = h
seen-first byte (Some xs) (Some ys) part h = ap (λ l. byte ∷ l) h

pub seen-first-ok : {T E : Type 0} (r : Result T E) (byte : ℕ) (a b : Option (List ℕ)) (part : List ℕ)
    → OnOk r (Consumes a b part) → OnOk r (Consumes (prepend_known (byte ∷ []) a) (prepend_known [] b) (byte ∷ part))
seen-first-ok (Ok x) byte a b part h = seen-first byte a b part h
seen-first-ok (Err e) byte a b part h = tt

pub seen-takes : (byte : ℕ) (a b : Option (List ℕ)) → Takes a b
    → Takes (prepend_known (byte ∷ []) a) (prepend_known [] b)
seen-takes byte a b (part, h) = (byte ∷ part, seen-first byte a b part h)

pub put-behind : (byte : ℕ) (buf part : List ℕ) → 0 < length buf → length part ≡ length buf - 1
    → put_mid 1 (length (slice_set buf 0 byte) - 1) (slice_set buf 0 byte) part ≡ byte ∷ part
put-behind byte [] part some len = absurd (omega arith)
put-behind byte (x ∷ buf) part some len =
    let k = length (x ∷ buf) - 1 in
    let none : post_of 1 k (byte ∷ buf) ≡ [] = drop_all k buf (omega arith) in
    ap (λ l. byte ∷ (part ++ l)) none ∙ ap (λ l. byte ∷ l) (append-nil part)

pub length-put : (at k : ℕ) (buf part : List ℕ) → at ≤ length buf → at + length part ≤ length (put_mid at k buf part)
length-put at k buf part within =
    simp length-append (omega (arith, length-take at buf))

-- one byte at the start of a buffer
pub first-put : (byte : ℕ) (buf : List ℕ) → 0 < length buf → take 1 (slice_set buf 0 byte) ≡ byte ∷ []
first-put byte [] some = absurd (omega arith)
first-put byte (x ∷ buf) some = refl

-- the byte that was peeked is read
pub seen-read : (byte : ℕ) (a : Option (List ℕ)) → Consumes (prepend_known (byte ∷ []) a) (prepend_known [] a) (byte ∷ [])
seen-read byte None = tt
seen-read byte (Some xs) = refl
