use Rattle.amqp_de.specs.Fields.{OnEntries}
use Rattle.amqp_de.proofs.Shapes.{on_entries, takes_same}
use Rattle.amqp_de.proofs.shape.MapOfShape.read_parts.Goals as goal

pub returns-clause-read : goal.returns-clause-read
returns-clause-read g c =
    takes_same (λ t x. OnEntries (g.F.FieldSeeds.reads c.args.self.0 x) t) (λ t x. OnEntries (g.F.NamedFields.reads_by_names (g.F.FieldSeeds.names c.args.self.0) x) t)
    (λ t x. on_entries (g.F.FieldSeeds.reads c.args.self.0 x) (g.F.NamedFields.reads_by_names (g.F.FieldSeeds.names c.args.self.0) x) (c.names_suffice.ensures.name c.args.self.0 x) t) _ _ _ _ c.read.ensures.read
