use Rattle.std.proofs.Common.{List, ℕ, ◌++◌, flat_map, string_bytes, sym, ap, ◌∙◌, map-id}
use Rattle.std.proofs.lemmas.Iterator.{YieldsList-from_chars}
use Rattle.std.proofs.lemmas.Iterator.Consumers.{YieldsList-end}
use Rattle.amqp_dump.specs.Safe.{safe_char}
use Rattle.amqp_dump.proofs.texts.push_each_safe.Goals as goal

pub returns : goal.returns
returns c =
    let end = YieldsList-end (YieldsList-from_chars c.args.part.now c.utf8.part cc) c.loop-character.yielded _
    c.loop-character.yielded_by _ _ c.in-None.is c.next.ensures.steps in
    record { text = c.loop-character.invariant ∙ ap (λ (z : List ℕ). string_bytes c.args.text.now ++ flat_map safe_char z) (sym (map-id c.loop-character.yielded) ∙ end.0) }
