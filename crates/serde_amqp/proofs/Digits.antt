-- The digits written for a byte string, one byte after another.
use Rattle.std.proofs.Common.{◌≡◌, ℕ, ◌+◌, ◌*◌, ◌/◌, ◌%◌, ◌<◌, ◌≤◌, List, [], ◌∷◌, ◌++◌, length, take, drop, slice_index, slice_set, arith}
use Rattle.std.proofs.lemmas.List.{append_assoc, append-nil, drop_all, drop_more, take_all, take_more_set, length-set}
use Rattle.amqp_data.specs.Hexadecimal.{hex, hex_digit}

-- The digits written so far, and those of the bytes that remain, are those of all bytes.
abbrev pub IsWritten : List ℕ → List ℕ → ℕ → Type 0
IsWritten bytes digits n = take (2 * n) digits ++ hex (drop n bytes) ≡ hex bytes

-- Two stores in a row extend what was written by two.
two-stores : (s : List ℕ) (at x y : ℕ) → at + 1 < length s → take (at + 2) (slice_set (slice_set s at x) (at + 1) y) ≡ take at s ++ (x ∷ y ∷ [])
two-stores s at x y fits =
    let size : length (slice_set s at x) ≡ length s = length-set s at x in
    let two : at + 2 ≡ at + 1 + 1 = omega arith in
    let second = take_more_set (slice_set s at x) (at + 1) y (omega (arith, size)) in
    let first = take_more_set s at x (omega arith) in
    rw (two, second, first) (append_assoc (take at s) (x ∷ []) (y ∷ []))

-- The digits of one more byte are written.
pub written-more : (bytes digits : List ℕ) (n x y : ℕ) → n < length bytes → 2 * n + 1 < length digits → x ≡ hex_digit (slice_index bytes n / 16) → y ≡ hex_digit (slice_index bytes n % 16) → IsWritten bytes digits n → IsWritten bytes (slice_set (slice_set digits (2 * n) x) (2 * n + 1) y) (n + 1)
written-more bytes digits n x y below fits high low was =
    let two : 2 * (n + 1) ≡ 2 * n + 2 = omega arith in
    let front = two-stores digits (2 * n) x y fits in
    let rest = drop_more bytes n 0 below in
    rw (two, front, append_assoc, high, low) (rw rest at was)

-- The digits of all bytes are written.
pub written-all : (bytes digits : List ℕ) (n : ℕ) → length bytes ≤ n → length digits ≡ 2 * length bytes → IsWritten bytes digits n → digits ≡ hex bytes
written-all bytes digits n over size was =
    let none = drop_all n bytes over in
    let all = take_all (2 * n) digits (omega arith) in
    rw (none, all, append-nil) at was
