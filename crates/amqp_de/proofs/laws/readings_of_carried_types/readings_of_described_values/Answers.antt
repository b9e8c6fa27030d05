use Rattle.amqp_ser.specs.Carried.{descriptor_content}
use Rattle.amqp_de.proofs.ReadingLaws.{on_described}
use Rattle.amqp_de.proofs.laws.readings_of_carried_types.readings_of_described_values.Goals as goal

pub returns-clause-reads : goal.returns-clause-reads
returns-clause-reads g c = λ t x. on_described (descriptor_content x.descriptor) (λ u. g.T.Deserialize.reads u x.value) t
