use Rattle.std.proofs.Common.{rules, [], ap, append-nil}
use Rattle.amqp_ser.specs.Compounds.{tree_of_parts}
use Rattle.amqp_ser.proofs.Feeding.{moved}
use Rattle.amqp_ser.proofs.composite.serialize_values.Goals as goal

-- An error of the fields is permitted for the compound of the fields.
pub returns-in_err-serialize_list_parts : goal.returns-in_err-serialize_list_parts
returns-in_err-serialize_list_parts g c =
    moved (g.S.Serializer.permits c.args.serializer.now) (ap (tree_of_parts c.args.kind) (append-nil _)) (search rules) (search rules)
    (c.in_err-serialize_list_parts.ensures c.args.serializer.now c.args.kind [] c.begin_compound-compound.ensures [])
