use Rattle.std.proofs.Common.{ap, sym, ◌∙◌, inl}
use Rattle.amqp_size.specs.Position.{without_prefix}
use Rattle.amqp_size.specs.WholeContext.{Unmarked}
use Rattle.amqp_size.proofs.Holding.{map_of}
use Rattle.amqp_size.proofs.Part.{undone}
use Rattle.amqp_size.proofs.serializer.SizeSerializerSerializer.undo_part.Goals as goal

pub returns-clause-back : goal.returns-clause-back
returns-clause-back c = λ start ps p h even.
    let u = c.undo.ensures in
    (inl (undone start c.args.compound.now c.undo.new.self ps p (map_of start c.args.compound.now _ h.0) even u.position u.resolved_kind u.sum u.count u.inner_context u.small), h.1 ∙ ap (λ q. Unmarked (without_prefix q)) (sym u.position))
