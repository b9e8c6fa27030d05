use Rattle.amqp_de.specs.Results.{IsMemory}
use Rattle.amqp_de.proofs.FieldLemmas.{unit_taken, unit_err}
use Rattle.amqp_de.proofs.fields.UnitFieldSeeds.read_elements.Goals as goal

pub returns-clause-ok : goal.returns-clause-ok
returns-clause-ok g c = unit_taken (g.S.Source.holds c.args.elements) c.close.result c.close.ensures.ok

pub returns-clause-err : goal.returns-clause-err
returns-clause-err g c = unit_err (g.S.Source.are_whole c.args.elements) IsMemory _ c.close.result c.close.ensures.err

pub returns-clause-law : goal.returns-clause-law
returns-clause-law g c x p k = c.close.ensures.err
