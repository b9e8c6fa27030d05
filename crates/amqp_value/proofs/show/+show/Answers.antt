use Rattle.std.proofs.Common.{◌++◌, codes, rules}
use Rattle.std.proofs.Output.{has_written_append}
use Rattle.std.specs.Fmt.{HasWritten}
use Rattle.amqp_value.specs.TreeOf.{tree_of}
use Rattle.amqp_value.specs.Text.{text_of, separator}
use Rattle.amqp_value.proofs.TextLemmas.{items_step, pairs_step}
use Rattle.amqp_value.proofs.show.+show.Goals as goal

pub show_items-loop-index-preserved : goal.show_items-loop-index-preserved
show_items-loop-index-preserved g t c plain =
    let inv = c.loop-index.invariant plain in
    let took = g.W.Write.write_str_gives in
    let a : HasWritten took c.args.f.now (inv.0 ++ separator c.loop-index.index) c.separate.new.f = has_written_append _ _ _ _ _ _ inv.1 (search rules) in
    let b : HasWritten took c.args.f.now ((inv.0 ++ separator c.loop-index.index) ++ text_of (tree_of c.index-items-index.result)) c.show.new.f = has_written_append _ _ _ _ _ _ a (search rules) in
    (_, b, items_step c.args.items.now c.loop-index.index c.index-items-index.result inv.0 _ c.loop-index-test.true c.index-items-index.is inv.2)

pub show_pairs-loop-index-preserved : goal.show_pairs-loop-index-preserved
show_pairs-loop-index-preserved g t c plain =
    let inv = c.loop-index.invariant plain in
    let took = g.W.Write.write_str_gives in
    let e = c.index-pairs-index.result in
    let a : HasWritten took c.args.f.now (inv.0 ++ separator c.loop-index.index) c.separate.new.f = has_written_append _ _ _ _ _ _ inv.1 (search rules) in
    let b : HasWritten took c.args.f.now ((inv.0 ++ separator c.loop-index.index) ++ text_of (tree_of e.0)) c.show.new.f = has_written_append _ _ _ _ _ _ a (search rules) in
    let d : HasWritten took c.args.f.now (((inv.0 ++ separator c.loop-index.index) ++ text_of (tree_of e.0)) ++ codes ": ") c.write_str.new.self = has_written_append _ _ _ _ _ _ b (search rules) in
    let h : HasWritten took c.args.f.now ((((inv.0 ++ separator c.loop-index.index) ++ text_of (tree_of e.0)) ++ codes ": ") ++ text_of (tree_of e.1)) c.show-in-loop-index.new.f = has_written_append _ _ _ _ _ _ d (search rules) in
    (_, h, pairs_step c.args.pairs.now c.loop-index.index e inv.0 _ c.loop-index-test.true c.index-pairs-index.is inv.2)
