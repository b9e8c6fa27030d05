use Rattle.std.proofs.Common.{ap, sym, Some}
use Rattle.amqp_value.proofs.TreeLemmas.{tree_of-Described, list-tree, map-tree, array-tree}
use Rattle.amqp_value.proofs.laws.trees_of_compound_values.Goals as goal

pub returns : goal.returns
returns c = record {
  described = λ b. ap Some (tree_of-Described b);
  list = λ v. sym (list-tree v);
  map = λ m. sym (map-tree m);
  array = λ a. sym (array-tree a);
}
