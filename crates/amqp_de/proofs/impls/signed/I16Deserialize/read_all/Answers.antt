use Rattle.amqp_ser.specs.Tree as tree
use Rattle.amqp_de.proofs.Loops.{leaves_read, no_leaves}
use Rattle.amqp_de.proofs.impls.signed.I16Deserialize.read_all.Goals as goal

pub returns-clause-ok : goal.returns-clause-ok
returns-clause-ok g c = leaves_read tree.short (λ a b e. cc) (λ v. v.items) _ _ c.scalars.ensures.ok

pub returns-clause-law : goal.returns-clause-law
returns-clause-law g c = no_leaves tree.short _ _ _ _ c.scalars.ensures.err
