use Rattle.std.specs.String.{string_bytes}
use Rattle.amqp_data.specs.Fixed.{uuid_bytes}
use Rattle.amqp_data.specs.Items.{byte_buf_bytes}
use Rattle.amqp_data.specs.Text.{symbol_text}
use Rattle.amqp_de.proofs.KeyLaws.{texts_equal}
use Rattle.amqp_de.proofs.laws.keys_of_the_same_contents_are_equal.Goals as goal

pub returns-clause-string : goal.returns-clause-string
returns-clause-string c x y same = texts_equal (string_bytes x) (string_bytes y) same

pub returns-clause-symbol : goal.returns-clause-symbol
returns-clause-symbol c x y same = texts_equal (symbol_text x) (symbol_text y) same

pub returns-clause-binary : goal.returns-clause-binary
returns-clause-binary c x y same = texts_equal (byte_buf_bytes x) (byte_buf_bytes y) same

pub returns-clause-uuid : goal.returns-clause-uuid
returns-clause-uuid c x y same = texts_equal (uuid_bytes x) (uuid_bytes y) same
