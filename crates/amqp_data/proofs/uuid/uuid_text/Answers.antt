use Rattle.std.proofs.Common.{◌≡◌, ℕ, ◌≤◌, List, ◌++◌, length, take, append_assoc, sym, ap, ◌∙◌, arith}
use Rattle.std.proofs.lemmas.List.{take_all}
use Rattle.std.proofs.lemmas.Str.{IsAscii-append}
use Rattle.std.specs.Prelude.{IsAscii}
use Rattle.amqp_data.specs.Hexadecimal.{hex}
use Rattle.amqp_data.specs.Displayed.{uuid_group}
use Rattle.amqp_data.proofs.uuid.uuid_text.Goals as goal

four_appends : (a b c d e : List ℕ) → (((a ++ b) ++ c) ++ d) ++ e ≡ a ++ (b ++ (c ++ (d ++ e)))
four_appends a b c d e = append_assoc ((a ++ b) ++ c) d e ∙ append_assoc (a ++ b) c (d ++ e) ∙ append_assoc a b (c ++ (d ++ e))

-- five texts in a row, each put after what stands before it
in_a_row : (t u v w x : List ℕ) (a b c d e : List ℕ) → length x ≤ 36
    → take 8 t ≡ a → take 13 u ≡ take 8 t ++ b → take 18 v ≡ take 13 u ++ c → take 23 w ≡ take 18 v ++ d → take 36 x ≡ take 23 w ++ e
    → x ≡ a ++ (b ++ (c ++ (d ++ e)))
in_a_row t u v w x a b c d e short p q r s last =
    sym (take_all 36 x short) ∙ last
    ∙ ap (λ (xs : List ℕ). xs ++ e) (s ∙ ap (λ (xs : List ℕ). xs ++ d) (r ∙ ap (λ (xs : List ℕ). xs ++ c) (q ∙ ap (λ (xs : List ℕ). xs ++ b) p)))
    ∙ four_appends a b c d e

five_ascii : (a b c d e : List ℕ) → IsAscii a → IsAscii b → IsAscii c → IsAscii d → IsAscii e → IsAscii (a ++ (b ++ (c ++ (d ++ e))))
five_ascii a b c d e p q r s t =
    IsAscii-append a (b ++ (c ++ (d ++ e))) p (IsAscii-append b (c ++ (d ++ e)) q (IsAscii-append c (d ++ e) r (IsAscii-append d e s t)))

pub returns-clause-text : goal.returns-clause-text
returns-clause-text c =
    let b = c.args.bytes.now in
    in_a_row c.put_part.new.text c.put_group.new.text c.put_group-2.new.text c.put_group-3.new.text c.put_group-4.new.text
    (hex (take 4 b)) (uuid_group b 4 2) (uuid_group b 6 2) (uuid_group b 8 2) (uuid_group b 10 6) (omega (arith, c.put_group-4.array_long)) c.put_part.ensures.text c.put_group.ensures.text c.put_group-2.ensures.text c.put_group-3.ensures.text c.put_group-4.ensures.text

pub returns-clause-ascii : goal.returns-clause-ascii
returns-clause-ascii c =
    rw (returns-clause-text c)
    (five_ascii (hex (take 4 c.args.bytes.now)) (uuid_group c.args.bytes.now 4 2) (uuid_group c.args.bytes.now 6 2) (uuid_group c.args.bytes.now 8 2) (uuid_group c.args.bytes.now 10 6)
    c.put_part.ensures.ascii c.put_group.ensures.ascii c.put_group-2.ensures.ascii c.put_group-3.ensures.ascii c.put_group-4.ensures.ascii)
