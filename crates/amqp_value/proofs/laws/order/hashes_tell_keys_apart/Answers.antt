use Rattle.amqp_value.proofs.HashLemmas.{strings, symbols, binaries, uints, ulongs, kinds}
use Rattle.amqp_value.proofs.laws.order.hashes_tell_keys_apart.Goals as goal

pub returns-clause-strings : goal.returns-clause-strings
returns-clause-strings c = strings

pub returns-clause-symbols : goal.returns-clause-symbols
returns-clause-symbols c = symbols

pub returns-clause-binaries : goal.returns-clause-binaries
returns-clause-binaries c = binaries

pub returns-clause-uints : goal.returns-clause-uints
returns-clause-uints c = uints

pub returns-clause-ulongs : goal.returns-clause-ulongs
returns-clause-ulongs c = ulongs

pub returns-clause-kinds : goal.returns-clause-kinds
returns-clause-kinds c = kinds
