-- A single compound after the result on its descriptor.
use Rattle.std.proofs.Common.{◌≡◌, ◌+◌, true, List, [], ◌∷◌, ◌++◌, Option, Some, None, Result, Ok, Err, length, refl, ap, sym, ◌∙◌, subst, append_assoc, arith}
use Rattle.std.proofs.lemmas.List.{length-append}
use Rattle.amqp_data.specs.declared.error.Error.{Error}
use Rattle.amqp_data.specs.declared.error.Error.TheVariants as error
use Rattle.amqp_ser.specs.Tree.{Scalar, Descriptor, Tree, scalar, symbol, ulong}
use Rattle.amqp_ser.specs.Composites.{as_described, descriptor_of}
use Rattle.amqp_value.specs.Image.{image}
use Rattle.amqp_value.specs.TreeOf.{tree_of}
use Rattle.amqp_value.specs.declared.value.Value.{Value}
use Rattle.amqp_to_value.specs.PendingDescriptors.{described_by, standing}
use Rattle.amqp_to_value.specs.ValueSerializer.{IsKeepingDescriptor, Leaves, meant_by, ValuePermits}
use Rattle.amqp_to_value.specs.ImageOf.{refuses, Represents, Answers}
use Rattle.amqp_ser.specs.Meant.{as_descriptor, meant}
use Rattle.amqp_ser.specs.declared.pending.Pending.{Pending}
use Rattle.amqp_to_value.specs.declared.serializer.Serializer.{Serializer}
use Rattle.amqp_to_value.specs.declared.value_error.ValueError.{ValueError}
use Rattle.amqp_to_value.proofs.AnswerLemmas.{none_refused, none_too}
use Rattle.amqp_to_value.proofs.LazyLemmas.{read_refused}
use Rattle.amqp_to_value.proofs.PendingDescriptorLemmas.{standing_none}

-- A value that represents a scalar gives the same descriptor as the scalar.
same_scalar : (v : Value) (s : Scalar) → Represents v (Some (scalar s)) → descriptor_of (Some (scalar s)) ≡ descriptor_of (Some (tree_of v))
same_scalar v s h = ap (λ u. descriptor_of (Some (image u))) (sym h.1) ∙ ap (λ u. descriptor_of (Some u)) (sym h.2)

scalar_descriptor : (v : Value) (s : Scalar) → Represents v (as_descriptor (Some (scalar s))) → descriptor_of (Some (scalar s)) ≡ descriptor_of (Some (tree_of v))
scalar_descriptor v (ulong n) h = same_scalar v (ulong n) h
scalar_descriptor v (symbol bs) h = same_scalar v (symbol bs) h
scalar_descriptor v s h = absurd h

pub same_descriptor : (v : Value) (d : Option Tree) → Represents v (as_descriptor d) → descriptor_of d ≡ descriptor_of (Some (tree_of v))
same_descriptor v None h = absurd h
same_descriptor v (Some (scalar s)) h = scalar_descriptor v s h
same_descriptor v (Some t) h = absurd h

-- The result on a descriptor is permitted for `as_descriptor` of its tree.
pub descriptor_answer : (start s : Serializer) (d : Option Tree) (r : Result Value ValueError) → IsKeepingDescriptor start s → Answers (meant_by s d) r → Answers (as_descriptor d) r
descriptor_answer start s d r keeping is =
    subst (λ o. Answers o r) (ap (λ ds. described_by ds (meant s.pending d)) (standing_none s.descriptors keeping.1) ∙ ap (λ u. meant u d) keeping.0) is

-- If there is no descriptor, `InvalidValue` is permitted for the described value.
pub no_descriptor : (start : Serializer) (d t : Option Tree) → descriptor_of d ≡ None → refuses error.InvalidValue (meant_by start (as_described (descriptor_of d) t))
no_descriptor start d t none = subst (λ o. refuses error.InvalidValue (meant_by start (as_described o t))) (sym none) (none_refused start)

memory_alone : (start : Serializer) (e : Error) (o : Option Tree) → e ≡ error.OutOfMemory → refuses e o
memory_alone start e o is = subst (λ x. refuses x o) (sym is) tt

scalar_refused : (start : Serializer) (s : Scalar) (e : Error) → refuses e (as_descriptor (Some (scalar s))) → (t : Option Tree) → refuses e (meant_by start (as_described (descriptor_of (Some (scalar s))) t))
scalar_refused start (ulong n) e r t = memory_alone start e _ (read_refused e (scalar (ulong n)) (scalar (ulong n)) refl r)
scalar_refused start (symbol bs) e r t = memory_alone start e _ (read_refused e (scalar (symbol bs)) (scalar (symbol bs)) refl r)
scalar_refused start s e r t = none_too start e r

pub descriptor_refused : (start : Serializer) (d : Option Tree) (e : Error) → refuses e (as_descriptor d) → (t : Option Tree) → refuses e (meant_by start (as_described (descriptor_of d) t))
descriptor_refused start None e r t = none_too start e r
descriptor_refused start (Some (scalar s)) e r t = scalar_refused start s e r t
descriptor_refused start (Some u) e r t = none_too start e r

-- A descriptor that is appended is the innermost.
described_by-last : (ds : List Descriptor) (d : Descriptor) (t : Option Tree) → described_by (ds ++ (d ∷ [])) t ≡ described_by ds (as_described (Some d) t)
described_by-last [] d t = refl
described_by-last (e ∷ ds) d t = ap (as_described (Some e)) (described_by-last ds d t)

leaves-prefix : (others own : List Descriptor) (d : Descriptor) (r : Result Value ValueError) (s : Serializer) → Leaves others (own ++ (d ∷ [])) r s → Leaves others own r s
leaves-prefix others own d (Ok v) s k =
    let sum : length (others ++ (own ++ (d ∷ []))) ≡ length (others ++ own) + 1 = ap length (sym (append_assoc others own (d ∷ []))) ∙ length-append (others ++ own) (d ∷ []) in
    let le = k.1 in
    (k.0, omega arith)
leaves-prefix others own d (Err e) s k = (k.0, ((d ∷ []) ++ k.1.0, k.1.1 ∙ append_assoc own (d ∷ []) k.1.0))

-- A result that is permitted after one more descriptor is permitted for the described value before
-- it.
pub permitted_before : (start : Serializer) (inner : Pending) (x : Descriptor) (d t : Option Tree) (r : Result Value ValueError) (after : Serializer) → descriptor_of d ≡ Some x
    → as_described (Some x) (meant inner t) ≡ meant start.pending (as_described (Some x) t)
    → ValuePermits (record { alloc = start.alloc; pending = inner; descriptors = record { kept = start.descriptors.kept; later = standing start.descriptors ++ (x ∷ []); next = true; room = 0 }; capacity = start.capacity }) t r after
    → ValuePermits start (as_described (descriptor_of d) t) r after
permitted_before start inner x d t r after is means p = (
  subst (λ o. Answers o r)
      (described_by-last (standing start.descriptors) x (meant inner t) ∙ ap (described_by (standing start.descriptors)) (means ∙ ap (λ o. meant start.pending (as_described o t)) (sym is))) p.0,
  leaves-prefix start.descriptors.kept (standing start.descriptors) x r after p.1,
)
