use Rattle.std.proofs.Common.{sym, ap, ◌∙◌, slice_set, arith, rules}
use Rattle.std.proofs.lemmas.List.Quantifiers.{position-Some}
use Rattle.amqp_data.proofs.PairLemmas.{insert_found, insert_new}
use Rattle.amqp_data.proofs.keys.put.Goals as goal

pub index_mut-requires : goal.index_mut-requires
index_mut-requires g c =
    let e : g.row.K.Denot × g.row.V.Denot = (c.args.key, c.args.value) in
    let below = (position-Some (λ x. g.K.PartialEq.eq c.args.key x.0) c.args.entries.now.items c.in-Some.at e (sym c.requires ∙ c.in-Some.is)).0 in
    first_of (omega (arith, below), grind (arith, below))

-- for a key that is present, the value at its position is replaced
pub returns-in-Some : goal.returns-in-Some
returns-in-Some g c =
    let es = c.args.entries.now.items in
    ap (λ v. slice_set es c.in-Some.at (c.index_mut.result.now.0, v)) c.replace.ensures.after
    ∙ insert_found g.K.PartialEq.eq c.args.key es c.args.value c.in-Some.at c.index_mut.result.now (sym c.in-Some.is ∙ c.requires) c.index_mut.ensures.value

-- for a new key, its entry is appended
pub returns-in_ok-push-in-None : goal.returns-in_ok-push-in-None
returns-in_ok-push-in-None g c =
    let new = insert_new g.K.PartialEq.eq c.args.key c.args.entries.now.items c.args.value (sym c.in-None.is ∙ c.requires) in
    search rules
