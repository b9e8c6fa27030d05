use Rattle.std.proofs.Common.{◌≡◌, ◌∷◌, ◌++◌, [], List, position, sym, ap, ◌∙◌, subst, append_assoc, append-nil}
use Rattle.amqp_data.specs.Pairs.{insert_pair, insert_pairs}
use Rattle.amqp_data.proofs.PairLemmas.{insert_pairs_distinct, insert_pairs_push}
use Rattle.amqp_data.proofs.keys.insert_each.Goals as goal

pub loop-key-init : goal.loop-key-init
loop-key-init g c =
    let eq = g.K.PartialEq.eq in
    let es = c.args.entries.items in
    sym (insert_pairs_distinct eq g.met.K.Eq.laws.symm es c.requires) ∙ ap (λ xs. insert_pairs eq xs []) (sym (append-nil es))

pub put-requires : goal.put-requires
put-requires g c =
    subst (λ (es : List (_ × _)). c.position_of-at.result ≡ position (λ e. g.K.PartialEq.eq c.in-Some.key e.0) es) c.deref.ensures.value c.position_of-at.ensures

pub loop-key-preserved : goal.loop-key-preserved
loop-key-preserved g c =
    let eq = g.K.PartialEq.eq in
    let es = c.args.entries.items in
    let e : g.row.K.Denot × g.row.V.Denot = (c.in-Some.key, c.in-Some.value) in
    c.in_ok-put.ensures ∙ ap (λ xs. insert_pair eq xs c.in-Some.key c.in-Some.value) c.loop-key.invariant
    ∙ sym (insert_pairs_push eq (es ++ c.loop-key.yielded) e [])
    ∙ ap (λ xs. insert_pairs eq xs []) (append_assoc es c.loop-key.yielded (e ∷ []))
