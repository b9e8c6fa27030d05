-- The output for the lines of a text: the length, the encoding and the text of their list (AMQP 1.0
-- part 1, sections 1.6.20 and 1.6.22).
use Rattle.std.specs.Prelude.{◌≡◌, ◌≢◌, ◌⊎◌, ℕ, List, [], ◌∷◌, ◌++◌, codes, length, map, ◌==◌, if◌then◌else◌}
use Rattle.std.specs.Borrow.{Bor}
use Rattle.std.specs.List.{AllByRecursion, flat_map, slice_split}
use Rattle.std.specs.Fmt.{decimal}
use Rattle.amqp_ser.specs.Tree.{string, Tree, scalar, list, trees_of}
use Rattle.amqp_ser.specs.Encoding.{encoding}
use Rattle.amqp_value.specs.Image.{image}
use Rattle.amqp_value.specs.Text.{text_of}
use Rattle.amqp_data.specs.Hexadecimal.{hex}

-- The texts that the items borrow.
abbrev pub texts : List (Bor (List ℕ)) → List (List ℕ)
texts items = map (λ item. item.now) items

-- All parts except an empty last one.
abbrev pub without_empty_last : List (List ℕ) → List (List ℕ)
without_empty_last [] = []
without_empty_last (part ∷ []) = if length part == 0 then [] else part ∷ []
without_empty_last (part ∷ next ∷ more) = part ∷ without_empty_last (next ∷ more)

-- The lines of a text: the parts before each 0A, and a last part without 0A if it is not empty.
abbrev pub lines_of : List ℕ → List (List ℕ)
lines_of s = without_empty_last (slice_split (λ b. b == 10) s)

-- The tree of the list of these strings.
unfoldable pub strings_tree : List (List ℕ) → Tree
strings_tree lines = list (trees_of (map (λ line. scalar (string line)) lines))

-- The tree of the list of the lines of a text.
abbrev pub lines_tree : List ℕ → Tree
lines_tree s = strings_tree (lines_of s)

-- A length in decimal, bytes in hexadecimal and a text, each on its own line.
unfoldable pub three_lines : ℕ → List ℕ → List ℕ → List ℕ
three_lines size bytes text =
    codes "size " ++ (decimal size ++ (codes "\nbytes " ++ (hex bytes ++ (codes "\ntext " ++ (text ++ codes "\n")))))

-- The length and the encoding of a tree, and the text of its image.
abbrev pub report : Tree → List ℕ
report t = three_lines (length (encoding t)) (encoding t) (text_of (image t))

-- The output for the lines of a text.
abbrev pub lines_out : List ℕ → List ℕ
lines_out s = report (lines_tree s)

-- The texts, each followed by 0A.
abbrev pub ended : List (List ℕ) → List ℕ
ended lines = flat_map (λ line. line ++ 10 ∷ []) lines

-- There is a last text, and it is not empty.
abbrev pub EndsFull : List (List ℕ) → Type 0
EndsFull lines = (prefix : List (List ℕ)) × (last : List ℕ) × (lines ≡ prefix ++ last ∷ []) × (last ≢ [])

-- The lines of s: no line contains 0A, and each followed by 0A they are s, in which the last 0A may
-- be absent if the last line is not empty.
pub record AreLines (s : List ℕ) (lines : List (List ℕ)) : Type 0 where
  pub within : AllByRecursion (λ line. AllByRecursion (λ b. b ≢ 10) line) lines
  pub text : (ended lines ≡ s) ⊎ ((ended lines ≡ s ++ 10 ∷ []) × EndsFull lines)
