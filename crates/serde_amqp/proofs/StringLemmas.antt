-- The list of some strings: its tree, and the results of the crates below for it.
use Rattle.std.proofs.Common.{◌≡◌, ℕ, ◌⊎◌, inl, inr, ◌&&◌, List, [], ◌∷◌, Option, Some, Ok, Err, true, false, length, map, Bor, refl, ap, sym, ◌∙◌, subst}
use Rattle.amqp_data.specs.declared.error.Error.{Error}
use Rattle.amqp_data.specs.declared.error.Error.TheVariants.{OutOfMemory, TooLong, InvalidValue, InvalidFormatCode, UnexpectedEof, Io, Message}
use Rattle.amqp_ser.specs.Tree.{string, Tree, Trees, scalar, trees_of}
use Rattle.amqp_ser.specs.Compounds.{all_trees, prepend, as_kind, tree_of_parts}
use Rattle.amqp_ser.specs.declared.kind.CompoundKind.TheVariants as kind
use Rattle.amqp_ser.specs.Encoding.{encoding}
use Rattle.amqp_ser.specs.Ranged.{IsRanged}
use Rattle.amqp_ser.specs.Writable.{uniform_arrays, uniform_arrays_each, inside_each, placed, writable}
use Rattle.amqp_ser.specs.SizeAndBytes.{IsSizeOf, AreBytesOf}
use Rattle.amqp_to_value.specs.HasLazy.{has_lazy, has_lazy_each}
use Rattle.amqp_to_value.specs.ImageOf.{IsImageOf}
use Rattle.amqp_to_value.proofs.LazyLemmas.{read_refused}
use Rattle.amqp_to_value.proofs.ReadLemmas.{opened-itself, represents-image}
use Rattle.amqp_value.specs.declared.value.Value.{Value}
use Rattle.amqp_value.specs.Image.{image}
use Rattle.amqp_value.specs.Text.{text_of}
use Rattle.amqp_value.specs.TreeOf.{tree_of}
use Rattle.serde_amqp.specs.Lines.{texts, strings_tree, three_lines, report}

abbrev string_trees : List (List ℕ) → Trees
string_trees lines = trees_of (map (λ line. scalar (string line)) lines)

all-strings : (items : List (Bor (List ℕ))) → all_trees (map (λ s. Some (scalar (string s.now))) items) ≡ Some (string_trees (texts items))
all-strings [] = refl
all-strings (x ∷ items) = ap (prepend (Some (scalar (string x.now)))) (all-strings items)

-- The tree of a vector of strings.
abbrev pub vector_tree : List (Bor (List ℕ)) → Option Tree
vector_tree items = tree_of_parts kind.List (map (λ s. Some (scalar (string s.now))) items)

-- The tree of a vector of strings is the list of these strings.
pub strings-whole : (items : List (Bor (List ℕ))) → vector_tree items ≡ Some (strings_tree (texts items))
unfolding tree_of_parts strings_tree
strings-whole items = ap (as_kind kind.List) (all-strings items)

each-uniform_arrays : (lines : List (List ℕ)) → uniform_arrays_each (string_trees lines) ≡ true
each-uniform_arrays [] = refl
each-uniform_arrays (line ∷ lines) = each-uniform_arrays lines

each-inside : (lines : List (List ℕ)) → inside_each (string_trees lines) ≡ true
each-inside [] = refl
each-inside (line ∷ lines) = each-inside lines

strings-fair : (lines : List (List ℕ)) → (uniform_arrays (strings_tree lines) && placed (strings_tree lines)) ≡ true
unfolding strings_tree
strings-fair lines = ap (λ b. b && inside_each (string_trees lines)) (each-uniform_arrays lines) ∙ each-inside lines

-- The only errors are `TooLong` and `OutOfMemory`, and `TooLong` only if the list is not writable.
abbrev pub RefusesReport : List (Bor (List ℕ)) → Error → Type 0
RefusesReport items e = ((e ≡ TooLong) ⊎ (e ≡ OutOfMemory)) × (e ≡ TooLong → writable (strings_tree (texts items)) ≡ false)

size-refused-at : (items : List (Bor (List ℕ))) (e : Error) → IsSizeOf (Some (strings_tree (texts items))) (Err e) → RefusesReport items e
size-refused-at items TooLong h = (inl refl, λ k. ap (λ b. b && (uniform_arrays (strings_tree (texts items)) && placed (strings_tree (texts items)))) h)
size-refused-at items InvalidValue h = absurd (cc (strings-fair (texts items)))
size-refused-at items OutOfMemory h = absurd h
size-refused-at items InvalidFormatCode h = absurd h
size-refused-at items UnexpectedEof h = absurd h
size-refused-at items Io h = absurd h
size-refused-at items (Message words) h = absurd h

-- An error of the length is one of these errors.
pub size-refused : (items : List (Bor (List ℕ))) (e : Error) → IsSizeOf (vector_tree items) (Err e) → RefusesReport items e
size-refused items e h = size-refused-at items e (subst (λ t. IsSizeOf t (Err e)) (strings-whole items) h)

bytes-refused-at : (items : List (Bor (List ℕ))) (e : Error) → AreBytesOf (Some (strings_tree (texts items))) (Err e) → RefusesReport items e
bytes-refused-at items TooLong h = (inl refl, λ k. ap (λ b. b && (uniform_arrays (strings_tree (texts items)) && placed (strings_tree (texts items)))) h)
bytes-refused-at items InvalidValue h = absurd (cc (strings-fair (texts items)))
bytes-refused-at items OutOfMemory h = (inr refl, λ k. absurd (cc))
bytes-refused-at items InvalidFormatCode h = absurd h
bytes-refused-at items UnexpectedEof h = absurd h
bytes-refused-at items Io h = absurd h
bytes-refused-at items (Message words) h = absurd h

-- An error of the encoding is one of these errors.
pub bytes-refused : (items : List (Bor (List ℕ))) (e : Error) → AreBytesOf (vector_tree items) (Err e) → RefusesReport items e
bytes-refused items e h = bytes-refused-at items e (subst (λ t. AreBytesOf t (Err e)) (strings-whole items) h)

each-not_lazy : (lines : List (List ℕ)) → has_lazy_each (string_trees lines) ≡ false
each-not_lazy [] = refl
each-not_lazy (line ∷ lines) = each-not_lazy lines

strings-not_lazy : (lines : List (List ℕ)) → has_lazy (strings_tree lines) ≡ false
unfolding strings_tree
strings-not_lazy lines = each-not_lazy lines

value-refused-at : (items : List (Bor (List ℕ))) (e : Error) → IsImageOf (Some (strings_tree (texts items))) (Err e) → RefusesReport items e
value-refused-at items e h =
    let t = strings_tree (texts items) in
    let is : e ≡ OutOfMemory = read_refused e t t (opened-itself t (strings-not_lazy (texts items))) h in
    subst (RefusesReport items) (sym is) (inr refl, λ k. absurd (cc))

-- An error of the image is one of these errors.
pub value-refused : (items : List (Bor (List ℕ))) (e : Error) → IsImageOf (vector_tree items) (Err e) → RefusesReport items e
value-refused items e h = value-refused-at items e (subst (λ t. IsImageOf t (Err e)) (strings-whole items) h)

-- The output for a length, an encoding and a value.
pub reported : (items : List (Bor (List ℕ))) (size : ℕ) (bytes : List ℕ) (value : Value) → IsSizeOf (vector_tree items) (Ok size) → AreBytesOf (vector_tree items) (Ok bytes) → IsImageOf (vector_tree items) (Ok value) → (writable (strings_tree (texts items)) ≡ true) × (three_lines size bytes (text_of (tree_of value)) ≡ report (strings_tree (texts items)))
reported items size bytes value s b v =
    let size_is : (writable (strings_tree (texts items)) ≡ true) × (size ≡ length (encoding (strings_tree (texts items)))) × IsRanged (strings_tree (texts items)) = subst (λ t. IsSizeOf t (Ok size)) (strings-whole items) s in
    let bytes_are : (writable (strings_tree (texts items)) ≡ true) × (bytes ≡ encoding (strings_tree (texts items))) × IsRanged (strings_tree (texts items)) = subst (λ t. AreBytesOf t (Ok bytes)) (strings-whole items) b in
    let value_is : tree_of value ≡ image (strings_tree (texts items)) = represents-image (strings_tree (texts items)) value (strings-not_lazy (texts items)) (subst (λ t. IsImageOf t (Ok value)) (strings-whole items) v) in (
      size_is.0,
      ap (λ n. three_lines n bytes (text_of (tree_of value))) size_is.1
          ∙ (ap (λ l. three_lines (length (encoding (strings_tree (texts items)))) l (text_of (tree_of value))) bytes_are.1
          ∙ ap (λ t. three_lines (length (encoding (strings_tree (texts items)))) (encoding (strings_tree (texts items))) (text_of t)) value_is),
    )
