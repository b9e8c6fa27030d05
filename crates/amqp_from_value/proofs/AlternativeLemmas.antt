-- The image of one of several composites.
use Rattle.std.specs.Prelude.{ℕ, Option}
use Rattle.amqp_ser.specs.Tree.{Tree, code, described}
use Rattle.amqp_de.specs.Branches.{either}
use Rattle.amqp_de.specs.Composites.{RestorableAlternative}
use Rattle.amqp_de.specs.declared.branches.Either.{Either}
use Rattle.amqp_de.specs.declared.branches.Either.TheVariants.{This, Other}
use Rattle.amqp_from_value.specs.HasImage.{HasImage}

pub either_has_image : {A R : Type 0} (tree : A → Option Tree) (trees : R → Option Tree) (c : ℕ) (code_of : R → ℕ) (f : A → Tree) (g : R → Tree) (P : A → Type 0) (Q : R → Type 0) →
    ((x : A) → P x → HasImage (tree x) (described (code c) (f x))) → ((y : R) → Q y → HasImage (trees y) (described (code (code_of y)) (g y))) →
    (x : Either A R) → RestorableAlternative c code_of P Q x → HasImage (either tree trees x) (described (code (either (λ _. c) code_of x)) (either f g x))
either_has_image tree trees c code_of f g P Q h k (This x) r = h x r
either_has_image tree trees c code_of f g P Q h k (Other y) r = k y r.1
