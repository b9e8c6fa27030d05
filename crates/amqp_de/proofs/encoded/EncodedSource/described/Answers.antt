use Rattle.std.proofs.Common.{rules, ◌≡◌, ◌∷◌}
use Rattle.amqp_ser.specs.Carried.{descriptor_content}
use Rattle.amqp_de.proofs.EncodedCounts.{described_counts}
use Rattle.amqp_de.proofs.EncodedLemmas.{described_from}
use Rattle.amqp_de.proofs.encoded.EncodedSource.described.Goals as goal

pub returns-in-Some-split_first-clause-ok : goal.returns-in-Some-split_first-clause-ok
returns-in-Some-split_first-clause-ok c r left =
    let s = c.args.self in
    let after = c.in-Ok.found.1.now in
    let e = descriptor_content c.in-Ok.found.0 in
    let zero : s.code ≡ 0 = search rules in
    let whole : after ≡ c.in-Some-split_first.code.now ∷ c.in-Some-split_first.bytes.now = search rules in
    let (is, all) = described_from s.depth c.in-Some.inside s.code c.in-Some-split_first.code.now s.bytes.now after c.in-Some-split_first.bytes.now r.now e zero c.in-Some.ensures c.in-Ok.ensures whole left.0 in
    (is, (all, described_counts s.depth c.in-Some.inside s.code c.in-Some-split_first.code.now s.bytes.now after c.in-Some-split_first.bytes.now e zero c.in-Some.ensures c.in-Ok.ensures whole left.1))
