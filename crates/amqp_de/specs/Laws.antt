-- How a type is read, in one record, and the same for a type that is built from parts.
use Rattle.std.specs.Prelude.{◌≡◌, ℕ, List, [], ◌∷◌}
use Rattle.amqp_ser.specs.Tree.{Scalar, Tree, code, described, scalar, string, symbol}
use Rattle.amqp_de.specs.Texts.{short_ascii}
use Rattle.amqp_de.specs.Composites.{OnComposite}
use Rattle.amqp_de.specs.Reads.{Always}

-- Which trees are read as which values, the tree of the untyped value that represents a value, whether a value
-- round-trips through it, and whether two values have the same contents.
pub record Laws (T : Type 0) : Type 1 where
  pub reads : Tree → T → Type 0
  pub image : T → Tree
  pub restorable : T → Type 0
  pub same : T → T → Type 0

-- The laws of a type, by those of its parts, whose fields have these names.
abbrev pub by_names : {T V : Type 0} → List (List ℕ) → (List (List ℕ) → Laws V) → (T → V) → Laws T
by_names ns laws parts = record {
  reads = λ t x. (laws ns).reads t (parts x);
  image = λ x. (laws ns).image (parts x);
  restorable = λ x. (laws ns).restorable (parts x);
  same = λ x y. (laws ns).same (parts x) (parts y);
}

-- The same for parts that are read whatever the names are.
abbrev pub by_parts : {T V : Type 0} → (List (List ℕ) → Laws V) → (T → V) → Laws T
by_parts laws parts = by_names [] laws parts

-- The first of the names of fields, and the others. The names are of no account if there are none.
abbrev pub first_name : List (List ℕ) → List ℕ
first_name [] = []
first_name (n ∷ ns) = n

abbrev pub other_names : List (List ℕ) → List (List ℕ)
other_names [] = []
other_names (n ∷ ns) = ns

-- Each value is read from its image alone.
abbrev pub by_image : {T : Type 0} → (T → Tree) → Laws T
by_image image = record { reads = λ t x. t ≡ image x; image = image; restorable = Always; same = λ x y. x ≡ y }

-- Each value is read from the symbol with its text, which is short and ASCII.
abbrev pub by_text : {T : Type 0} → (T → List ℕ) → Laws T
by_text text = by_image (λ x. scalar (symbol (short_ascii (text x))))

-- The same for strings.
abbrev pub by_string : {T : Type 0} → (T → List ℕ) → Laws T
by_string text = by_image (λ x. scalar (string (short_ascii (text x))))

-- Each value is read from one scalar alone, and has the contents of all values with this scalar.
abbrev pub by_scalar : {T : Type 0} → (T → Scalar) → Laws T
by_scalar content = record {
  reads = λ t x. t ≡ scalar (content x);
  image = λ x. scalar (content x);
  restorable = Always;
  same = λ x y. scalar (content x) ≡ scalar (content y);
}

-- The laws of what follows a descriptor, after it: it is read after the code or the name, and written after the code.
abbrev pub as_composite : {T : Type 0} → ℕ → List ℕ → Laws T → Laws T
as_composite c n body = record {
  reads = λ t x. OnComposite c n (λ u. body.reads u x) t;
  image = λ x. described (code c) (body.image x);
  restorable = body.restorable;
  same = body.same;
}
