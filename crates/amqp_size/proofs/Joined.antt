-- The bytes of parts after others.
use Rattle.std.proofs.Common.{◌≡◌, ℕ, ◌+◌, List, Option, Some, None, Bool, true, false, length, refl, ap, arith, length-append}
use Rattle.amqp_ser.specs.Tree.{Tree, Trees, no_trees, more}
use Rattle.amqp_ser.specs.Encoding.{encoding_each, payload, payload_each, code_list, constructor}
use Rattle.amqp_ser.specs.Writable.{same_constructor, each_constructor}
use Rattle.amqp_ser.proofs.Bools.{left_true}
use Rattle.amqp_ser.proofs.Joins.{join, encoding_each-join, payload_each-join}
use Rattle.amqp_size.specs.Position.{element, next, form}
use Rattle.amqp_size.specs.SizeSerializer.{body_bytes, inner_position_of, one_in}
use Rattle.amqp_size.specs.AddPart.{constructor_len}
use Rattle.amqp_size.specs.WholePosition.{FirstElement}

-- The bytes of the remaining parts.
abbrev pub rest_of : Bool → Trees → List ℕ
rest_of false us = encoding_each us
rest_of true us = payload_each us

code_list-constructor_len : (o : Option ℕ) → length (code_list o) ≡ constructor_len FirstElement (element o)
code_list-constructor_len None = refl
code_list-constructor_len (Some c) = refl

pub some_con : (o : Option ℕ) → same_constructor o o ≡ true → (c : ℕ) × (o ≡ Some c)
some_con None h = cc
some_con (Some c) h = (c, refl)

-- The length of the bytes of all parts: those so far, one more, and the remaining ones.
pub body_bytes-join : (arr : Bool) (ts : Trees) (t : Tree) (us : Trees) → one_in arr ts ≡ true →
    length (body_bytes arr (join ts (more t us))) ≡ length (form (inner_position_of arr ts) t) + constructor_len (inner_position_of arr ts) (next (inner_position_of arr ts) t) + length (body_bytes arr ts) + length (rest_of arr us)
body_bytes-join false ts t us h = simp (encoding_each-join, length-append) (omega arith)
body_bytes-join true no_trees t us h = let e = code_list-constructor_len (constructor t) in simp length-append (omega arith)
body_bytes-join true (more v ts) t us h =
    let s = some_con (constructor v) (left_true (same_constructor (constructor v) (constructor v)) (each_constructor (constructor v) ts) h) in
    let e : constructor v ≡ Some s.0 = s.1 in
    let a : form (element (constructor v)) t ≡ payload t = ap (λ o. form (element o) t) e in
    let b : constructor_len (element (constructor v)) (next (element (constructor v)) t) ≡ 0 = ap (λ o. constructor_len (element o) (next (element o) t)) e in
    let c = ap length a in
    simp (payload_each-join, length-append) (omega arith)
