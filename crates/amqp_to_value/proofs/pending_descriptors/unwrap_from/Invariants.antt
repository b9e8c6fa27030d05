use Rattle.std.proofs.Common.{◌≡◌, ◌+◌, ◌≤◌, ◌++◌, List, length, vec_len, vec_capacity}
use Rattle.amqp_ser.specs.Tree.{Descriptor, Tree}
use Rattle.amqp_value.specs.TreeOf.{tree_of}
use Rattle.amqp_to_value.specs.PendingDescriptors.{descriptors_of, under_descriptors}
use Rattle.amqp_to_value.proofs.pending_descriptors.unwrap_from.Given as goal

-- The value is still inside the remaining descriptors, for which there is capacity.
abbrev pub invariant-loop : goal.invariant-loop
invariant-loop l =
    (ds : List Descriptor) (t : Tree) → l.count ≡ length ds → vec_len l.initial.stack + l.count ≤ vec_capacity l.initial.stack → tree_of l.initial.value ≡ under_descriptors ds t
    → (rest : List Descriptor) × (length rest + l.counter ≡ l.count) × (vec_len l.stack + length rest ≤ vec_capacity l.stack)
    × (descriptors_of l.stack.items ++ rest ≡ descriptors_of l.initial.stack.items ++ ds) × (tree_of l.value ≡ under_descriptors rest t)
