-- Which words of a path are matched after a step.
use Rattle.std.specs.Prelude.{Bool, false, List, ◌∷◌, [], ◌&&◌, ◌||◌, not}

-- the entries from a word on: `starts` says whether the path may begin with it, `came` whether the
-- step matches the word before it, the first list which words the step matches, and the second is
-- the mask before the step
unfoldable pub mask_after : Bool → Bool → Bool → List Bool → List Bool → List Bool
mask_after is_descriptor starts came [] before = came ∷ []
mask_after is_descriptor starts came (m ∷ matched) [] = came ∷ []
mask_after is_descriptor starts came (m ∷ matched) (o ∷ before) =
    (came || ((starts || o) && (is_descriptor && not m)))
    ∷ mask_after is_descriptor false ((starts || o) && m) matched before
