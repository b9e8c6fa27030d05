use Rattle.std.proofs.Common.{◌∷◌, ◌++◌, [], sym, ap, ◌∙◌, append_assoc}
use Rattle.amqp_data.specs.Pairs.{insert_pair, insert_pairs}
use Rattle.amqp_data.proofs.IndexLemmas.{unless_true}
use Rattle.amqp_data.proofs.PairLemmas.{insert_pairs_push}
use Rattle.amqp_data.proofs.distinct_keys.insert_rest.Goals as goal

pub loop-key-preserved-then-all : goal.loop-key-preserved-then-all
loop-key-preserved-then-all g c =
    let eq = g.K.PartialEq.eq in
    let es = c.args.entries.now.items in
    let e : g.row.K.Denot × g.row.V.Denot = (c.in-Some.key, c.in-Some.value) in record {
      long = c.insert_one.ensures.length ∙ c.loop-key.invariant.long;
      merged = c.in_ok-all.ensures.merged ∙ ap (λ xs. insert_pair eq xs c.in-Some.key c.in-Some.value) c.loop-key.invariant.merged
          ∙ sym (insert_pairs_push eq (es ++ c.loop-key.yielded) e [])
          ∙ ap (λ xs. insert_pairs eq xs []) (append_assoc es c.loop-key.yielded (e ∷ []));
      indexed = c.in_ok-all.ensures.indexed;
    }

pub loop-key-preserved : goal.loop-key-preserved
loop-key-preserved g c =
    let eq = g.K.PartialEq.eq in
    let es = c.args.entries.now.items in
    let e : g.row.K.Denot × g.row.V.Denot = (c.in-Some.key, c.in-Some.value) in record {
      long = c.loop-key.invariant.long;
      merged = ap (λ xs. insert_pairs eq xs []) c.in_ok-push.ensures.items ∙ insert_pairs_push eq c.loop-key.entries.items e []
          ∙ ap (λ xs. insert_pair eq xs c.in-Some.key c.in-Some.value) c.loop-key.invariant.merged
          ∙ sym (insert_pairs_push eq (es ++ c.loop-key.yielded) e [])
          ∙ ap (λ xs. insert_pairs eq xs []) (append_assoc es c.loop-key.yielded (e ∷ []));
      indexed = unless_true _ c.loop-key.all c.if-all.false;
    }
