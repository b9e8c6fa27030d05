-- An optional value that is not there has the contents of an absent one.
use Rattle.std.proofs.Common.{◌≡◌, false, Option, Some, None, is_some}
use Rattle.amqp_de.specs.Reads.{SameOption}

pub no_option : {T : Type 0} (S : T → T → Type 0) (x y : Option T) → is_some y ≡ false → x ≡ None → SameOption S x y
no_option S None None e absent = tt
no_option S None (Some y) e absent = absurd cc
no_option S (Some x) y e absent = absurd cc
