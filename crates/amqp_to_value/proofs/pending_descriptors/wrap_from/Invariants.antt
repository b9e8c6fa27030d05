use Rattle.std.proofs.Common.{◌≡◌, take, drop, vec_len, vec_capacity}
use Rattle.amqp_value.specs.TreeOf.{tree_of}
use Rattle.amqp_to_value.specs.PendingDescriptors.{descriptors_of, under_descriptors}
use Rattle.amqp_to_value.proofs.pending_descriptors.wrap_from.Given as goal

-- The value inside the remaining descriptors is the same as at the start.
abbrev pub invariant-loop-stack : goal.invariant-loop-stack
invariant-loop-stack l =
    (take l.first l.stack.items ≡ take l.first l.initial.stack.items) × (vec_capacity l.stack ≡ vec_capacity l.initial.stack)
    × (under_descriptors (descriptors_of (drop l.first l.stack.items)) (tree_of l.value) ≡ under_descriptors (descriptors_of (drop l.first l.initial.stack.items)) (tree_of l.initial.value))

abbrev pub decreases-loop-stack : goal.decreases-loop-stack
decreases-loop-stack l = vec_len l.stack
