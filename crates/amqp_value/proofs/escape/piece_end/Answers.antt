use Rattle.std.proofs.Common.{arith}
use Rattle.amqp_value.proofs.PieceLemmas.{past_a_character}
use Rattle.amqp_value.proofs.escape.piece_end.Goals as goal

pub returns-clause-low : goal.returns-clause-low
returns-clause-low c = past_a_character c.args.text.now _ _ c.utf8.text c.requires (omega arith) c.floor_char_boundary.ensures.nearest
