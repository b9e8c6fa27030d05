-- The format code of a tree's kind (AMQP 1.0 part 1, sections 1.2 and 1.6).
use Rattle.std.specs.Prelude.{◌≡◌, ℕ, [], ◌∷◌, Option, Some, None}
use Rattle.amqp_ser.specs.Tree.{Tree, Trees, no_trees, more}
use Rattle.amqp_ser.specs.Encoding.{constructor, array_constructor}
use Rattle.amqp_value.specs.Image.{image}

-- The constructor, or the `00` that a described tree begins with.
abbrev pub code_or_zero : Option ℕ → ℕ
code_or_zero (Some c) = c
code_or_zero None = 0x00

-- The constructor that the tree has as an element of an array, or `00` if it cannot be an element.
abbrev pub code_of_kind : Tree → ℕ
code_of_kind t = code_or_zero (constructor t)

-- The trees and their images all have this code.
abbrev pub AllHaveCode : ℕ → Trees → Type 0
AllHaveCode c no_trees = Unit {0}
AllHaveCode c (more t ts) = (code_of_kind t ≡ c) × (code_of_kind (image t) ≡ c) × AllHaveCode c ts

-- All the trees have one code, which is the constructor before them in an array.
abbrev pub HasOneCode : Trees → Type 0
HasOneCode ts = (c : ℕ) × (array_constructor ts ≡ c ∷ []) × AllHaveCode c ts
