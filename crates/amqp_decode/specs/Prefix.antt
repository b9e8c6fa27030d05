-- What the first encoded value of bytes is, at any depth (AMQP 1.0 part 1, sections 1.2 and 1.6).
use Rattle.std.specs.Prelude.{◌≡◌, ℕ, suc, List, [], ◌∷◌, Some}
use Rattle.amqp_ser.specs.Tree.{Scalar, Descriptor, Tree, Pairs, trees_of, no_pairs, scalar, list, map, array, described}
use Rattle.amqp_decode.specs.Parsed.{ValueReader, ContentReader, gather, insert, value_in_bytes, parse}
use Rattle.amqp_decode.specs.WithoutBytes.{Counter, ContentCounter, elements_without_bytes, counted_in_value, sum_of}

-- The bytes start with this scalar.
abbrev pub IsScalar : List ℕ → List ℕ → Scalar → Type 0
IsScalar bytes rest s = (f : ValueReader) (h : ContentReader) → value_in_bytes f h bytes ≡ Some (scalar s, rest)

-- The bytes start with the list of the `count` values in the body, if they fill it.
abbrev pub IsListOf : List ℕ → List ℕ → ℕ → List ℕ → Type 0
IsListOf bytes rest count body = (f : ValueReader) (h : ContentReader) (ts : List Tree)
    → gather f count body [] ≡ Some (ts, []) → value_in_bytes f h bytes ≡ Some (list (trees_of ts), rest)

-- The bytes start with the map that results from the `count` keys and values in the body, if they
-- fill it.
abbrev pub IsMapOf : List ℕ → List ℕ → ℕ → List ℕ → Type 0
IsMapOf bytes rest count body = (f : ValueReader) (h : ContentReader) (ps : Pairs)
    → insert f count body no_pairs ≡ Some (ps, []) → value_in_bytes f h bytes ≡ Some (map ps, rest)

-- A payload of this code, with at most `depth` levels inside, read as an encoded value.
abbrev pub item_of : ℕ → ℕ → ValueReader
item_of depth code s = parse (suc depth) (code ∷ s)

-- The bytes start with the array of the `count` payloads of this code, if they fill the content.
abbrev pub IsArrayOf : List ℕ → List ℕ → ℕ → ℕ → List ℕ → Type 0
IsArrayOf bytes rest count code payloads = (depth : ℕ) (ts : List Tree)
    → gather (item_of depth code) count payloads [] ≡ Some (ts, []) → parse (suc (suc depth)) bytes ≡ Some (array (trees_of ts), rest)

-- The bytes start with a value described by `d`, and the value inside starts the bytes `after`.
abbrev pub IsDescribedBy : Descriptor → List ℕ → List ℕ → Type 0
IsDescribedBy d bytes after = (f : ValueReader) (h : ContentReader) (t : Tree) (rest : List ℕ)
    → f after ≡ Some (t, rest) → value_in_bytes f h bytes ≡ Some (described d t, rest)

-- The array elements without bytes in the list or map at the start of the bytes are those in the
-- `count` values, keys or elements, of the body.
abbrev pub HasCountOf : List ℕ → ℕ → List ℕ → Type 0
HasCountOf bytes count body = (c : Counter) (f : ValueReader) (k : ContentCounter) (h : ContentReader)
    → counted_in_value c f k h bytes ≡ sum_of c f count body

-- The same for an array, given its payloads.
abbrev pub HasCountOfPayloads : List ℕ → ℕ → ℕ → List ℕ → Type 0
HasCountOfPayloads bytes count code payloads = (depth : ℕ) (ts : List Tree) → gather (item_of depth code) count payloads [] ≡ Some (ts, [])
    → elements_without_bytes (suc (suc depth)) bytes ≡ sum_of (λ s. elements_without_bytes (suc depth) (code ∷ s)) (item_of depth code) count payloads
