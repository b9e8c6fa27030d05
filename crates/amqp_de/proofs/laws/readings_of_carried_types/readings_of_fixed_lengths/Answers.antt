use Rattle.amqp_de.specs.Reads.{ReadsFirst}
use Rattle.amqp_de.proofs.ReadingLaws.{on_list}
use Rattle.amqp_de.proofs.laws.readings_of_carried_types.readings_of_fixed_lengths.Goals as goal

pub returns-clause-reads : goal.returns-clause-reads
returns-clause-reads g c = λ t. on_list (λ ts. ReadsFirst g.T.Deserialize.reads g.row.N ts c.args.array.now) t
