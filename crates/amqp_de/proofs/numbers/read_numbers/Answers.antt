use Rattle.std.proofs.Common.{rules, arith, ◌≡◌, ◌*◌, ◌/◌, ◌%◌, length, ap, div-add-mod'}
use Rattle.amqp_de.specs.Encodings.{IsPayloadOf}
use Rattle.amqp_de.proofs.Chunks.{chunk_values, chunks_fill}
use Rattle.amqp_de.proofs.numbers.read_numbers.Goals as goal

pub as_chunks-requires : goal.as_chunks-requires
as_chunks-requires g c = (omega (arith, c.requires.size), c.requires.nonzero)

pub convert-requires : goal.convert-requires
convert-requires g c = omega (arith, c.requires.size)

pub returns : goal.returns
returns g c depth =
    let same : c.args.code ≡ g.row.CODE = search rules in
    let filled : length c.args.content.now / g.row.N ≡ c.args.count = search rules in
    let none : length c.args.content.now % g.row.N ≡ 0 = search rules in
    let whole : length c.args.content.now ≡ c.args.count * g.row.N = omega (arith, div-add-mod' (length c.args.content.now) g.row.N, ap (λ n. n * g.row.N) filled, none) in
    rw same (chunks_fill g.T.Number.content g.row.CODE g.row.N depth c.args.count c.args.content.now c.in_ok-items.items.items whole
    (chunk_values (λ bs x. IsPayloadOf g.row.CODE bs (g.T.Number.content x)) g.row.N _ c.args.count c.args.content.now _ c.in_ok-items.items.items c.as_chunks.ensures.front filled c.in_ok-items.ensures))
