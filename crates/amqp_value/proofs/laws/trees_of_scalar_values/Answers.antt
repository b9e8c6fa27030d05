use Rattle.std.proofs.Common.{rules}
use Rattle.amqp_value.specs.declared.value.Value.{the_lemmas}
use Rattle.amqp_value.proofs.laws.trees_of_scalar_values.Goals as goal

pub returns : goal.returns
returns c = record {
  null = search (rules, the_lemmas);
  bool = λ x. search (rules, the_lemmas);
  ubyte = λ x. search (rules, the_lemmas);
  ushort = λ x. search (rules, the_lemmas);
  uint = λ x. search (rules, the_lemmas);
  ulong = λ x. search (rules, the_lemmas);
  byte = λ x. search (rules, the_lemmas);
  short = λ x. search (rules, the_lemmas);
  int = λ x. search (rules, the_lemmas);
  long = λ x. search (rules, the_lemmas);
  float = λ x. search (rules, the_lemmas);
  double = λ x. search (rules, the_lemmas);
  decimal32 = λ x. search (rules, the_lemmas);
  decimal64 = λ x. search (rules, the_lemmas);
  decimal128 = λ x. search (rules, the_lemmas);
  char = λ x. search (rules, the_lemmas);
  timestamp = λ x. search (rules, the_lemmas);
  uuid = λ x. search (rules, the_lemmas);
  binary = λ x. search (rules, the_lemmas);
  string = λ x. search (rules, the_lemmas);
  symbol = λ x. search (rules, the_lemmas);
}
