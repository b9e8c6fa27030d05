-- The trees of encoded bytes that are a source, and of their parts.
use Rattle.std.specs.Prelude.{◌≡◌, ℕ, suc, ◌*◌, Bool, List, [], ◌∷◌, Option, Some, None, ◌==◌, if◌then◌else◌}
use Rattle.amqp_ser.specs.Tree.{Tree, scalar, null}
use Rattle.amqp_decode.specs.Parsed.{ValueReader, gather, parse}
use Rattle.amqp_decode.specs.Prefix.{item_of}
use Rattle.amqp_decode.specs.WithoutBytes.{Counter, elements_without_bytes, sum_of}
use Rattle.amqp_de.specs.Encodings.{collect}
use Rattle.amqp_de.specs.Present.{present_fields}
use Rattle.amqp_de.specs.declared.encoded_parts.Encoded.{Encoded}
use Rattle.amqp_de.specs.declared.encoded_parts.EncodedElements.{EncodedElements}
use Rattle.amqp_de.specs.declared.encoded_parts.EncodedEntries.{EncodedEntries}

-- The tree of a result, or null if there is none.
abbrev pub tree_in : Option (Tree × List ℕ) → Tree
tree_in None = scalar null
tree_in (Some r) = r.0

abbrev pub encoded_tree : Encoded → Tree
encoded_tree c = tree_in (parse (suc c.depth) (c.code ∷ c.bytes.now))

-- The value starts the bytes, it has no array elements without bytes, and this is left after it.
abbrev pub IsFirst : Encoded → List ℕ → Type 0
IsFirst c rest =
    (parse (suc c.depth) (c.code ∷ c.bytes.now) ≡ Some (encoded_tree c, rest))
    × (elements_without_bytes (suc c.depth) (c.code ∷ c.bytes.now) ≡ 0)

-- The form of the elements of a list, which have codes of their own, and of an array.
abbrev pub element_reader : ℕ → ℕ → ValueReader
element_reader depth constructor = if constructor == 0 then parse (suc depth) else item_of depth constructor

-- The array elements without bytes in an element of this form.
abbrev pub element_counter : ℕ → ℕ → Counter
element_counter depth constructor = if constructor == 0 then elements_without_bytes (suc depth) else (λ s. elements_without_bytes (suc depth) (constructor ∷ s))

-- The elements fill the bytes, and have no array elements without bytes.
abbrev pub HoldsElements : EncodedElements → List ℕ → List Tree → Type 0
HoldsElements es bytes ts =
    (gather (element_reader es.depth es.constructor) es.left bytes [] ≡ Some (ts, []))
    × (sum_of (element_counter es.depth es.constructor) (element_reader es.depth es.constructor) es.left bytes ≡ 0)

-- The entries fill the bytes, and have no array elements without bytes.
abbrev pub HoldsEntries : EncodedEntries → List ℕ → List (Tree × Tree) → Type 0
HoldsEntries es bytes ps =
    (collect (parse (suc es.depth)) es.left bytes ≡ Some (ps, []))
    × (sum_of (elements_without_bytes (suc es.depth)) (parse (suc es.depth)) (2 * es.left) bytes ≡ 0)

-- The value and the entries after it fill the bytes, and have no array elements without bytes.
abbrev pub HoldsValue : EncodedEntries → List ℕ → Tree → List (Tree × Tree) → Type 0
HoldsValue es bytes t ps =
    (mid : List ℕ) × (parse (suc es.depth) bytes ≡ Some (t, mid)) × (elements_without_bytes (suc es.depth) bytes ≡ 0) × HoldsEntries es mid ps

-- The keys are names of these, in their order.
abbrev pub HasOnly : List (List ℕ) → List (Tree × Tree) → Type 0
HasOnly ns ps = (fs : List (Bool × Tree)) × (ps ≡ present_fields ns fs)
