use Rattle.amqp_ser.specs.Carried.{descriptor_content}
use Rattle.amqp_de.proofs.Descriptors.{descriptor_taken, descriptor_brought}
use Rattle.amqp_de.proofs.impls.described.DescriptorDeserialize.read.Goals as goal

pub returns-clause-read : goal.returns-clause-read
returns-clause-read g c = descriptor_taken descriptor_content _ _ _ _ c.scalar.ensures

pub returns-clause-law : goal.returns-clause-law
returns-clause-law g c = descriptor_brought descriptor_content _ _ _ _ c.scalar.ensures
