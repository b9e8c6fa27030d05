-- Statements that an iterator over a list yields its elements, or references to them, in order.
use Rattle.std.specs.Prelude.{◌≡◌, ◌^◌, ◌<◌, List, length}
use Rattle.std.specs.Iterator.Adapters.{IterYieldsInOrder, IterMutYieldsInOrder}
use Rattle.std.specs.Iterator.Runs.{EveryRun, ItemsAre}
use Rattle.std.specs.Slice.Iter.{iter_rest, iter_mut_rest}
use Rattle.std.specs.Vec.Iter.{into_iter_items, into_iter_len, into_iter_steps}
use Rattle.std.specs.declared.alloc.Global.{Global}
use Rattle.std.specs.declared.slice.Iter.{Iter}
use Rattle.std.specs.declared.slice.IterMut.{IterMut}
use Rattle.std.specs.declared.vec.IntoIter.{IntoIter}

module _ {T : Type 0} (items : List T) where
  -- the iterator yields the elements
  abbrev pub GivesItems : IntoIter T Global → Type 0
  GivesItems iter =
      (into_iter_items iter ≡ items) × (into_iter_len iter ≡ length items) × (into_iter_len iter < 2 ^ 64)
      × EveryRun (into_iter_steps {X = T} {Z = Global}) (λ p. ItemsAre p (into_iter_items p.from))

  -- the iterator yields shared references to the elements
  abbrev pub GivesRefs : Iter T → Type 0
  GivesRefs iter = (iter_rest iter ≡ items) × (length (iter_rest iter) < 2 ^ 64) × IterYieldsInOrder T

  -- the iterator yields mutable references to the elements
  abbrev pub GivesMutRefs : IterMut T → Type 0
  GivesMutRefs iter = (iter_mut_rest iter ≡ items) × (length (iter_mut_rest iter) < 2 ^ 64) × IterMutYieldsInOrder T
