use Rattle.std.proofs.lemmas.Str.{IsUtf8-from_ascii}
use Rattle.amqp_data.proofs.hexadecimal.write_block.Goals as goal

pub from_utf8_unchecked-requires : goal.from_utf8_unchecked-requires
from_utf8_unchecked-requires g c = IsUtf8-from_ascii _ (rw c.put_block.ensures.text c.put_block.ensures.ascii)
