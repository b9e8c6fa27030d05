use Rattle.std.proofs.Common.{◌≡◌, List, ℕ, ◌+◌, ◌/◌, ◌%◌, ◌≤◌, [], ◌∷◌, ◌++◌, length, take, sym, ap, append_assoc, ◌∙◌, arith}
use Rattle.std.proofs.lemmas.List.{take_all}
use Rattle.std.proofs.lemmas.Str.{IsAscii-append}
use Rattle.std.specs.Prelude.{pos, IsAscii}
use Rattle.amqp_calendar.specs.Moment.{padded, year_text}
use Rattle.amqp_calendar.proofs.BlockLemmas.{padded_two, padded_four}
use Rattle.amqp_calendar.proofs.moment.short_text.Goals as goal

-- the eight parts of the text
abbrev parts : List ℕ → List ℕ → List ℕ → List ℕ → List ℕ → List ℕ → List ℕ → List ℕ → List ℕ
parts a b c d e f g h = a ++ (b ++ (c ++ (d ++ (e ++ (f ++ (g ++ h))))))

appended : (a b c d e f g h : List ℕ) → ((((((a ++ b) ++ c) ++ d) ++ e) ++ f) ++ g) ++ h ≡ parts a b c d e f g h
appended a b c d e f g h =
    append_assoc (((((a ++ b) ++ c) ++ d) ++ e) ++ f) g h ∙ append_assoc ((((a ++ b) ++ c) ++ d) ++ e) f (g ++ h)
    ∙ append_assoc (((a ++ b) ++ c) ++ d) e (f ++ (g ++ h)) ∙ append_assoc ((a ++ b) ++ c) d (e ++ (f ++ (g ++ h)))
    ∙ append_assoc (a ++ b) c (d ++ (e ++ (f ++ (g ++ h)))) ∙ append_assoc a b (c ++ (d ++ (e ++ (f ++ (g ++ h)))))

-- the parts, each put after what stands before it
in_a_row : (s t u v w x y z : List ℕ) (a b c d e f g h : List ℕ) → length z ≤ 24
    → take 2 s ≡ a → take 4 t ≡ take 2 s ++ b → take 7 u ≡ take 4 t ++ c → take 10 v ≡ take 7 u ++ d → take 13 w ≡ take 10 v ++ e
    → take 16 x ≡ take 13 w ++ f → take 19 y ≡ take 16 x ++ g → take 24 z ≡ take 19 y ++ h
    → z ≡ parts a b c d e f g h
in_a_row s t u v w x y z a b c d e f g h short k l m n o p q r =
    sym (take_all 24 z short) ∙ r
    ∙ ap (λ (xs : List ℕ). xs ++ h) (q
    ∙ ap (λ (xs : List ℕ). xs ++ g) (p
    ∙ ap (λ (xs : List ℕ). xs ++ f) (o
    ∙ ap (λ (xs : List ℕ). xs ++ e) (n
    ∙ ap (λ (xs : List ℕ). xs ++ d) (m
    ∙ ap (λ (xs : List ℕ). xs ++ c) (l
    ∙ ap (λ (xs : List ℕ). xs ++ b) k))))))
    ∙ appended a b c d e f g h

all_ascii : (a b c d e f g h : List ℕ) → IsAscii a → IsAscii b → IsAscii c → IsAscii d → IsAscii e → IsAscii f → IsAscii g → IsAscii h → IsAscii (parts a b c d e f g h)
all_ascii a b c d e f g h k l m n o p q r =
    IsAscii-append a _ k (IsAscii-append b _ l (IsAscii-append c _ m (IsAscii-append d _ n (IsAscii-append e _ o (IsAscii-append f _ p (IsAscii-append g h q r))))))

-- four digits are two and two
year_parts : (y : ℕ) (rest : List ℕ) → y ≤ 9999 → padded 2 (y / 100) ++ (padded 2 (y % 100) ++ rest) ≡ year_text (pos y) ++ rest
year_parts y rest small =
    let four : year_text (pos y) ≡ padded 4 y = grind arith in
    sym (append_assoc (padded 2 (y / 100)) (padded 2 (y % 100)) rest)
    ∙ ap (λ (xs : List ℕ). xs ++ rest)
    (ap (λ (xs : List ℕ). xs ++ padded 2 (y % 100)) (padded_two (y / 100) (omega arith))
    ∙ ap (λ (xs : List ℕ). (48 + y / 100 / 10) ∷ (48 + y / 100 % 10) ∷ xs) (padded_two (y % 100) (omega arith))
    ∙ sym (padded_four y (omega arith)) ∙ sym four)

in_parts : (c : goal.After-put_millis) → c.put_millis.new.text ≡ parts (padded 2 (c.args.year / 100)) (padded 2 (c.args.year % 100)) (45 ∷ padded 2 c.args.month) (45 ∷ padded 2 c.args.day)
    (84 ∷ padded 2 (c.args.time / 3600000)) (58 ∷ padded 2 (c.args.time / 60000 % 60)) (58 ∷ padded 2 (c.args.time / 1000 % 60)) (46 ∷ (padded 3 (c.args.time % 1000) ++ 90 ∷ []))
in_parts c =
    let time = c.args.time in
    in_a_row c.put_two.new.text c.put_two-2.new.text c.put_after.new.text c.put_after-2.new.text c.put_after-3.new.text c.put_after-4.new.text c.put_after-5.new.text c.put_millis.new.text
    (padded 2 (c.args.year / 100)) (padded 2 (c.args.year % 100)) (45 ∷ padded 2 c.args.month) (45 ∷ padded 2 c.args.day)
    (84 ∷ padded 2 (time / 3600000)) (58 ∷ padded 2 (time / 60000 % 60)) (58 ∷ padded 2 (time / 1000 % 60)) (46 ∷ (padded 3 (time % 1000) ++ 90 ∷ []))
    (omega (arith, c.put_millis.array_long)) c.put_two.ensures.text c.put_two-2.ensures.text c.put_after.ensures.text c.put_after-2.ensures.text c.put_after-3.ensures.text c.put_after-4.ensures.text c.put_after-5.ensures.text c.put_millis.ensures.text

pub returns-clause-text : goal.returns-clause-text
returns-clause-text c = in_parts c ∙ year_parts c.args.year _ c.requires.year

pub returns-clause-ascii : goal.returns-clause-ascii
returns-clause-ascii c =
    let time = c.args.time in
    rw (in_parts c)
    (all_ascii (padded 2 (c.args.year / 100)) (padded 2 (c.args.year % 100)) (45 ∷ padded 2 c.args.month) (45 ∷ padded 2 c.args.day)
    (84 ∷ padded 2 (time / 3600000)) (58 ∷ padded 2 (time / 60000 % 60)) (58 ∷ padded 2 (time / 1000 % 60)) (46 ∷ (padded 3 (time % 1000) ++ 90 ∷ []))
    c.put_two.ensures.ascii c.put_two-2.ensures.ascii c.put_after.ensures.ascii c.put_after-2.ensures.ascii c.put_after-3.ensures.ascii c.put_after-4.ensures.ascii c.put_after-5.ensures.ascii c.put_millis.ensures.ascii)
