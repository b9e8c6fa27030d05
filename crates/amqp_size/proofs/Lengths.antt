-- The lengths of forms.
use Rattle.std.proofs.Common.{◌≡◌, ℕ, ◌+◌, List, [], ◌∷◌, ◌++◌, Bool, true, false, length, refl, arith, length-append, if◌then◌else◌}
use Rattle.std.proofs.lemmas.Bool.Decides.{nat_tests}
use Rattle.amqp_ser.specs.Tree.{Tree, uint}
use Rattle.amqp_ser.specs.Limits.{is_short}
use Rattle.amqp_ser.specs.Scalars.{scalar_form}
use Rattle.amqp_ser.specs.Encoding.{encoding, counted, wide, list_form}
use Rattle.amqp_size.specs.Width.{map_form_len, list_form_len, uint_form_len}

if_len : (t : Bool) (xs ys : List ℕ) (m n : ℕ) → length xs ≡ m → length ys ≡ n → length (if t then xs else ys) ≡ (if t then m else n)
if_len true xs ys m n a b = a
if_len false xs ys m n a b = b

pub length-counted : (a b n : ℕ) (body : List ℕ) → length (counted a b n body) ≡ map_form_len (length body)
length-counted a b n body = if_len (is_short (length body)) (a ∷ (length body + 1) ∷ n ∷ body) (b ∷ wide n body) (length body + 3) (length body + 9) (omega arith) (omega arith)

pub length-uint : (n : ℕ) → length (scalar_form (uint n)) ≡ uint_form_len n
length-uint n = grind (arith, nat_tests)

pub length-list_form : (n : ℕ) (body : List ℕ) → length (list_form n body) ≡ list_form_len (length body)
length-list_form n [] = refl
length-list_form n (b ∷ bs) = let e = length-counted 0xc0 0xd0 n (b ∷ bs) in grind (arith, nat_tests)

pub length-variant : (i : ℕ) (t : Tree) (size : ℕ) → size ≡ length (encoding t) → length (scalar_form (uint i) ++ encoding t) ≡ uint_form_len i + size
length-variant i t size e = let u = length-uint i in simp length-append (omega arith)
