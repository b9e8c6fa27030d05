-- The text of a tree for logs and diagnostics, defined by recursion over all kinds.
use Rattle.std.specs.Prelude.{ℕ, zero, suc, true, false, List, [], ◌++◌, codes, encode_utf8, if◌then◌else◌, ◌==◌, nat_lt}
use Rattle.std.specs.Fmt.{decimal, digits, signed_decimal}
use Rattle.std.specs.Int.{w32, w64, to_be_bytes}
use Rattle.std.specs.List.{flat_map}
use Rattle.std.specs.Str.{chars}
use Rattle.amqp_calendar.specs.Moment.{moment_text}
use Rattle.amqp_data.specs.Hexadecimal.{hex}
use Rattle.amqp_data.specs.Displayed.{displayed_symbol, displayed_uuid}
use Rattle.amqp_ser.specs.Tree as tree
use Rattle.amqp_ser.specs.Tree.{Scalar, Descriptor, Tree, Trees, Pairs, no_trees, more, no_pairs, pair}

-- An escaped code in hexadecimal without leading zeros, such as `\u{7f}`.
abbrev pub code_escaped : ℕ → List ℕ
code_escaped c = codes "\\u{" ++ (digits 16 false c ++ codes "}")

-- A character between quotes of either kind. Control characters and the backslash are escaped.
abbrev pub escaped : ℕ → List ℕ
escaped c =
    if c == 0 then codes "\\0" else if c == 9 then codes "\\t" else if c == 10 then codes "\\n" else if c == 13 then codes "\\r"
    else if c == 92 then codes "\\\\" else if nat_lt c 32 then code_escaped c else if c == 127 then code_escaped c else encode_utf8 c

-- A character of a string. The double quote is escaped too.
abbrev pub string_escaped : ℕ → List ℕ
string_escaped c = if c == 34 then codes "\\\"" else escaped c

-- A single character. The single quote is escaped too.
abbrev pub char_escaped : ℕ → List ℕ
char_escaped c = if c == 39 then codes "\\'" else escaped c

-- A string, given by its UTF-8 bytes, in double quotes.
abbrev pub quoted : List ℕ → List ℕ
quoted s = codes "\"" ++ (flat_map string_escaped (chars s) ++ codes "\"")

-- A character in single quotes.
abbrev pub quoted_char : ℕ → List ℕ
quoted_char c = codes "'" ++ (char_escaped c ++ codes "'")

-- Bytes, with two digits each.
abbrev pub bytes_text : List ℕ → List ℕ
bytes_text bytes = codes "0x[" ++ (hex bytes ++ codes "]")

abbrev pub scalar_text : Scalar → List ℕ
scalar_text tree.null = codes "null"
scalar_text (tree.bool true) = codes "true"
scalar_text (tree.bool false) = codes "false"
scalar_text (tree.ubyte n) = decimal n
scalar_text (tree.ushort n) = decimal n
scalar_text (tree.uint n) = decimal n
scalar_text (tree.ulong n) = decimal n
scalar_text (tree.byte z) = signed_decimal z
scalar_text (tree.short z) = signed_decimal z
scalar_text (tree.int z) = signed_decimal z
scalar_text (tree.long z) = signed_decimal z
scalar_text (tree.float n) = bytes_text (to_be_bytes w32 n)
scalar_text (tree.double n) = bytes_text (to_be_bytes w64 n)
scalar_text (tree.decimal32 bytes) = bytes_text bytes
scalar_text (tree.decimal64 bytes) = bytes_text bytes
scalar_text (tree.decimal128 bytes) = bytes_text bytes
scalar_text (tree.char c) = quoted_char c
scalar_text (tree.timestamp ms) = moment_text ms
scalar_text (tree.uuid bytes) = displayed_uuid bytes
scalar_text (tree.binary bytes) = bytes_text bytes
scalar_text (tree.string s) = quoted s
scalar_text (tree.symbol s) = displayed_symbol s

-- A name, or a code in hexadecimal without leading zeros.
abbrev pub descriptor_text : Descriptor → List ℕ
descriptor_text (tree.name s) = displayed_symbol s
descriptor_text (tree.code n) = codes "0x" ++ digits 16 false n

-- The separator before the nth item: nothing before the first, otherwise a comma and a space.
abbrev pub separator : ℕ → List ℕ
separator zero = []
separator (suc n) = codes ", "

-- A variant has the text of its map, lazy bytes have that of bytes, and transparent trees that of a
-- list. The tree of a `Value` contains none of these.
abbrev mutual
  pub text_of : Tree → List ℕ
  text_of (tree.scalar s) = scalar_text s
  text_of (tree.list ts) = codes "[" ++ (items_text ts 0 ++ codes "]")
  text_of (tree.array ts) = codes "[" ++ (items_text ts 0 ++ codes "]")
  text_of (tree.map ps) = codes "{" ++ (pairs_text ps 0 ++ codes "}")
  text_of (tree.described d t) = descriptor_text d ++ (codes " -> " ++ text_of t)
  text_of (tree.variant i t) = codes "{" ++ (decimal i ++ (codes ": " ++ (text_of t ++ codes "}")))
  text_of (tree.lazy bytes) = bytes_text bytes
  text_of (tree.transparent ts) = codes "[" ++ (items_text ts 0 ++ codes "]")

  -- The text of the items, numbered from n on.
  pub items_text : Trees → ℕ → List ℕ
  items_text no_trees n = []
  items_text (more t ts) n = separator n ++ (text_of t ++ items_text ts (suc n))

  -- The text of the entries, numbered from n on.
  pub pairs_text : Pairs → ℕ → List ℕ
  pairs_text no_pairs n = []
  pairs_text (pair k v ps) n = separator n ++ (text_of k ++ (codes ": " ++ (text_of v ++ pairs_text ps (suc n))))
