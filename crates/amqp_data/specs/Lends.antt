-- The content of a transparent vector after a mutable borrow of its elements ends.
use Rattle.std.specs.Prelude.{Vec}
use Rattle.std.specs.Borrow.{Array, Fml, Lends, MutBor, RattleType, follows}
use Rattle.std.specs.Slice.Iter.{iter_mut_name}
use Rattle.std.specs.Vec.{with_items}
use Rattle.std.specs.declared.alloc.Global.{Global}
use Rattle.std.specs.declared.slice.IterMut.{IterMut}
use Rattle.std.specs.contracts.alloc.Global as global
use Rattle.std.specs.contracts.impls.GlobalAllocator.TheImpl.{ghosts}
use Rattle.std.specs.contracts.vec.Vec as vec
use Rattle.amqp_data.specs.declared.transparent_vec.TransparentVec.{TransparentVec}
use Rattle.amqp_data.specs.contracts.transparent_vec.TransparentVec.{the_row}

module _ (T : RattleType) (vector : MutBor (TransparentVec T.Denot)) where
  -- the transparent vector has the final content of the borrowed vector
  abbrev pub lends_vec : MutBor (Vec T.Denot Global) → Fml
  lends_vec inside = Lends (the_row T) (vec.the_row T global.the_row ghosts) vector inside (λ v. record { 0 = v })

  -- the transparent vector has the final values of the borrowed elements
  abbrev pub lends_items : IterMut T.Denot → Fml
  lends_items iter =
      follows (the_row T) (Array T 0) vector.ghost_name (iter_mut_name iter) (λ xs. record { 0 = with_items vector.now.0 xs })
