use Rattle.std.proofs.Common.{[]}
use Rattle.amqp_de.specs.Fields.{OnFields}
use Rattle.amqp_de.proofs.Shapes.{on_fields, takes_same}
use Rattle.amqp_de.proofs.shape.ListOfShape.read_parts.Goals as goal

pub returns-clause-read : goal.returns-clause-read
returns-clause-read g c =
    takes_same (λ t x. OnFields (g.F.FieldSeeds.reads c.args.self.0 x) t) (λ t x. OnFields (g.F.NamedFields.reads_by_names [] x) t)
    (λ t x. on_fields (g.F.FieldSeeds.reads c.args.self.0 x) (g.F.NamedFields.reads_by_names [] x) (c.names_suffice.ensures.position c.args.self.0 [] x) t) _ _ _ _ c.read.ensures.read
