use Rattle.amqp_data.specs.Fixed.{uuid_bytes}
use Rattle.amqp_ser.specs.Tree as tree
use Rattle.amqp_de.proofs.Contents.{contents_read, no_contents}
use Rattle.amqp_de.proofs.impls.fixed_widths.UuidDeserialize.read_all.Goals as goal

pub returns-clause-ok : goal.returns-clause-ok
returns-clause-ok g c = contents_read tree.uuid uuid_bytes (λ a b e. cc) (λ v. v.items) _ _ c.scalars.ensures.ok

pub returns-clause-law : goal.returns-clause-law
returns-clause-law g c = no_contents tree.uuid uuid_bytes _ _ _ _ c.scalars.ensures.err
