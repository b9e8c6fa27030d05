-- A value that has no lazy value.
use Rattle.std.proofs.Common.{◌≡◌, ◌⊎◌, ℕ, List, Some, Err, inl, inr, true, sym, subst}
use Rattle.amqp_data.specs.declared.error.Error.{Error}
use Rattle.amqp_data.specs.declared.error.Error.TheVariants.{OutOfMemory, TooLong, InvalidValue, InvalidFormatCode, UnexpectedEof, Io, Message}
use Rattle.amqp_ser.specs.Tree.{Tree}
use Rattle.amqp_ser.specs.Writable.{writable}
use Rattle.amqp_value.specs.TreeOf.{tree_of}
use Rattle.amqp_value.specs.declared.value.Value.{Value}
use Rattle.amqp_value.proofs.SoundLemmas.{never_transparent}
use Rattle.amqp_wire.specs.LazyOf.{IsLazyOf}
use Rattle.amqp_wire.proofs.LazyRoot.{refused_writable}
use Rattle.amqp_de.specs.Reads.{ReadsLazy}
use Rattle.amqp_de.specs.Results.{IsMemory, kind_of}
use Rattle.amqp_de.specs.FromBytes.{kind_for}
use Rattle.amqp_de.specs.declared.fault.Fault.{Fault}

-- An error other than out of memory contradicts that the tree is writable.
unread : (e : Error) (v : Value) (t : Tree) (bs : List ℕ) → (e ≡ OutOfMemory → ⊥) → tree_of v ≡ t → IsLazyOf (Some (tree_of v)) (Err e) → ¬ ReadsLazy t bs
unread e v t bs other is h r =
    other (refused_writable (tree_of v) e (never_transparent v) (subst (λ u. writable u ≡ true) (sym is) r.0) h)

pub unreadable : (e : Error) (f : Fault) (v : Value) (t : Tree) → kind_of f ≡ kind_for e → tree_of v ≡ t → IsLazyOf (Some (tree_of v)) (Err e) → IsMemory f ⊎ ((bs : List ℕ) → ¬ ReadsLazy t bs)
unreadable OutOfMemory f v t m is h = inl m
unreadable TooLong f v t m is h = inr (λ bs. unread TooLong v t bs (λ k. cc) is h)
unreadable InvalidValue f v t m is h = inr (λ bs. unread InvalidValue v t bs (λ k. cc) is h)
unreadable InvalidFormatCode f v t m is h = absurd h
unreadable UnexpectedEof f v t m is h = absurd h
unreadable Io f v t m is h = absurd h
unreadable (Message words) f v t m is h = absurd h
