use Rattle.std.specs.List.{AllZip}
use Rattle.amqp_data.specs.Items.{transparent_items}
use Rattle.amqp_de.proofs.ReadingLaws.{on_list}
use Rattle.amqp_de.proofs.laws.readings_of_carried_types.readings_of_transparent_vectors.Goals as goal

pub returns-clause-reads : goal.returns-clause-reads
returns-clause-reads g c = λ t v. on_list (λ ts. AllZip g.T.Deserialize.reads ts (transparent_items v)) t
