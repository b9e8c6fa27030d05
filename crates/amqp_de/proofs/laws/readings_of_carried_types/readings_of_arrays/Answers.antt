use Rattle.std.specs.List.{AllZip}
use Rattle.amqp_data.specs.Items.{array_items}
use Rattle.amqp_de.proofs.ReadingLaws.{on_array}
use Rattle.amqp_de.proofs.laws.readings_of_carried_types.readings_of_arrays.Goals as goal

pub returns-clause-reads : goal.returns-clause-reads
returns-clause-reads g c = λ t v. on_array (λ ts. AllZip g.T.Deserialize.reads ts (array_items v)) t
