-- What the hash of a text, a binary or an unsigned number reads, and that it determines the content.
use Rattle.std.proofs.Common.{pos, ◌≡◌, ◌∙◌, ◌<◌, ◌^◌, ℕ, List, [], ◌∷◌, ◌++◌, String, string_bytes, refl, sym, ap}
use Rattle.std.proofs.lemmas.Nat.{from_le_bytes-to_le_bytes_4, from_le_bytes-to_le_bytes_8}
use Rattle.std.specs.Global.{Global}
use Rattle.std.specs.Hash as hashed
use Rattle.std.specs.Hash.{le_bytes}
use Rattle.std.specs.Int.{w32, w64, from_le_bytes}
use Rattle.std.specs.List.{flat_map}
use Rattle.amqp_data.specs.Items.{byte_buf_bytes}
use Rattle.amqp_data.specs.Text.{symbol_text}
use Rattle.amqp_data.specs.declared.byte_buf.ByteBuf.{ByteBuf}
use Rattle.amqp_data.specs.declared.symbol.Symbol.{Symbol}
use Rattle.amqp_value.specs.declared.value.Value.{Value}
use Rattle.amqp_value.specs.declared.value.Value.TheVariants as kind
use Rattle.amqp_value.specs.contracts.value.ValueHash.TheImpl as hash
use Rattle.amqp_value.specs.contracts.value.ValueHash.TheImpl.Laws as laws

abbrev pub input : Value → hashed.HashWrites
input v = hash.ghosts.hash_input v

of_string : (a : String Global) → input (kind.String a) ≡ hashed.isize (pos 20) ++ hashed.str (string_bytes a)
unfolding Rattle.amqp_value.specs.declared.value.Value.TheViews.out-Value denote.Hole.Carrier.out
of_string a = laws.is (kind.String a) (kind.String a)

of_symbol : (a : Symbol) → input (kind.Symbol a) ≡ hashed.isize (pos 21) ++ hashed.str (symbol_text a)
unfolding Rattle.amqp_value.specs.declared.value.Value.TheViews.out-Value denote.Hole.Carrier.out
of_symbol a = laws.is (kind.Symbol a) (kind.Symbol a)

of_binary : (a : ByteBuf) → input (kind.Binary a) ≡ hashed.isize (pos 19) ++ hashed.slice hashed.u8 (byte_buf_bytes a)
unfolding Rattle.amqp_value.specs.declared.value.Value.TheViews.out-Value denote.Hole.Carrier.out
of_binary a = laws.is (kind.Binary a) (kind.Binary a)

of_uint : (n : ℕ) → input (kind.Uint n) ≡ hashed.isize (pos 5) ++ hashed.u32 n
unfolding Rattle.amqp_value.specs.declared.value.Value.TheViews.out-Value denote.Hole.Carrier.out
of_uint n = laws.is (kind.Uint n) (kind.Uint n)

of_ulong : (n : ℕ) → input (kind.Ulong n) ≡ hashed.isize (pos 6) ++ hashed.u64 n
unfolding Rattle.amqp_value.specs.declared.value.Value.TheViews.out-Value denote.Hole.Carrier.out
of_ulong n = laws.is (kind.Ulong n) (kind.Ulong n)

abbrev head : {T : Type 0} → T → List T → T
head d [] = d
head d (x ∷ xs) = x

abbrev tail : {T : Type 0} → List T → List T
tail [] = []
tail (x ∷ xs) = xs

abbrev second : List (List ℕ) → List ℕ
second ws = head [] (tail ws)

single : (xs ys : List ℕ) → flat_map hashed.u8 xs ≡ flat_map hashed.u8 ys → xs ≡ ys
single [] [] p = refl
single [] (y ∷ ys) p = absurd cc
single (x ∷ xs) [] p = absurd cc
single (x ∷ xs) (y ∷ ys) p = λ i. head 0 (head [] (p i)) ∷ single xs ys (ap tail p) i

four : (m n : ℕ) → m < 2 ^ 32 → n < 2 ^ 32 → le_bytes 4 m ≡ le_bytes 4 n → m ≡ n
unfolding le_bytes
four m n f g p = sym (from_le_bytes-to_le_bytes_4 m f) ∙ ap (from_le_bytes w32) p ∙ from_le_bytes-to_le_bytes_4 n g

eight : (m n : ℕ) → m < 2 ^ 64 → n < 2 ^ 64 → le_bytes 8 m ≡ le_bytes 8 n → m ≡ n
unfolding le_bytes
eight m n f g p = sym (from_le_bytes-to_le_bytes_8 m f) ∙ ap (from_le_bytes w64) p ∙ from_le_bytes-to_le_bytes_8 n g

pub strings : (a b : String Global) → input (kind.String a) ≡ input (kind.String b) → string_bytes a ≡ string_bytes b
strings a b h = ap second (sym (of_string a) ∙ h ∙ of_string b)

pub symbols : (a b : Symbol) → input (kind.Symbol a) ≡ input (kind.Symbol b) → symbol_text a ≡ symbol_text b
symbols a b h = ap second (sym (of_symbol a) ∙ h ∙ of_symbol b)

pub binaries : (a b : ByteBuf) → input (kind.Binary a) ≡ input (kind.Binary b) → byte_buf_bytes a ≡ byte_buf_bytes b
binaries a b h = single _ _ (ap (λ ws. tail (tail ws)) (sym (of_binary a) ∙ h ∙ of_binary b))

pub uints : (m n : ℕ) → m < 2 ^ 32 → n < 2 ^ 32 → input (kind.Uint m) ≡ input (kind.Uint n) → m ≡ n
uints m n f g h = four m n f g (ap second (sym (of_uint m) ∙ h ∙ of_uint n))

pub ulongs : (m n : ℕ) → m < 2 ^ 64 → n < 2 ^ 64 → input (kind.Ulong m) ≡ input (kind.Ulong n) → m ≡ n
ulongs m n f g h = eight m n f g (ap second (sym (of_ulong m) ∙ h ∙ of_ulong n))

codes_differ : ¬ (head [] (hashed.isize (pos 20)) ≡ head [] (hashed.isize (pos 21)))
unfolding le_bytes
codes_differ p = absurd cc

pub kinds : (a : String Global) (b : Symbol) → ¬ (input (kind.String a) ≡ input (kind.Symbol b))
kinds a b h = codes_differ (ap (head []) (sym (of_string a) ∙ h ∙ of_symbol b))
