use Rattle.amqp_de.specs.Results.{IsMemory}
use Rattle.amqp_de.proofs.FieldLemmas.{unit_named, unit_err}
use Rattle.amqp_de.proofs.fields.UnitFieldSeeds.read_entries.Goals as goal

pub returns-clause-ok : goal.returns-clause-ok
returns-clause-ok g c = unit_named g.S.Source.needs g.S.Source.only (g.S.Source.holds_pairs c.args.entries) c.close_entries.result c.close_entries.ensures.ok

pub returns-clause-err : goal.returns-clause-err
returns-clause-err g c = unit_err (g.S.Source.pairs_whole c.args.entries) IsMemory _ c.close_entries.result c.close_entries.ensures.err

pub returns-clause-law : goal.returns-clause-law
returns-clause-law g c x p d e = c.close_entries.ensures.err
