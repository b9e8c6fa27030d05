use Rattle.std.proofs.Common.{◌≡◌, sym, ap, ◌∙◌, subst, rules, Some, slice_set, true≢false}
use Rattle.std.specs.Map.{keys_of}
use Rattle.amqp_data.specs.Pairs.{AreDistinct, insert_pair}
use Rattle.amqp_data.proofs.PairLemmas.{lookup_none, lookup_found, insert_new, insert_found, distinct_after}
use Rattle.amqp_data.proofs.ordered_map.OrderedMap.insert.Goals as goal

-- a key that is present: the value at its position is replaced
replaced : (g : _) (c : goal.After-drop-key g)
    → slice_set c.args.self.now.entries.items c.in-Some.at (c.index_mut.result.now.0, c.replace.new.dest)
    ≡ insert_pair g.K.PartialEq.eq c.args.self.now.entries.items c.args.key c.args.value
replaced g c =
    ap (λ v. slice_set c.args.self.now.entries.items c.in-Some.at (c.index_mut.result.now.0, v)) c.replace.ensures.after
    ∙ insert_found g.K.PartialEq.eq c.args.key c.args.self.now.entries.items c.args.value c.in-Some.at
    c.index_mut.result.now c.in-Some.ensures c.index_mut.ensures.value

pub returns-in-Some-clause-replaced : goal.returns-in-Some-clause-replaced
returns-in-Some-clause-replaced g c =
    let es = c.args.self.now.entries.items in
    let e = c.index_mut.result.now in
    ap Some c.replace.ensures.value
    ∙ lookup_found g.K.PartialEq.eq c.args.key es c.in-Some.at e c.in-Some.ensures c.index_mut.ensures.value

pub returns-in-Some-clause-entries : goal.returns-in-Some-clause-entries
returns-in-Some-clause-entries g c = replaced g c

pub returns-in-Some-clause-distinct : goal.returns-in-Some-clause-distinct
returns-in-Some-clause-distinct g c distinct =
    let eq = g.K.PartialEq.eq in
    let kept = distinct_after eq g.met.K.Eq.laws.symm c.args.key c.args.value c.args.self.now.entries.items distinct in
    subst (λ es. AreDistinct eq (keys_of es)) (sym (replaced g c)) kept

-- a new key: its pair is appended
pushed : (g : _) (c : goal.In_ok-push-in-None g)
    → c.push.new.self.items ≡ insert_pair g.K.PartialEq.eq c.args.self.now.entries.items c.args.key c.args.value
pushed g c =
    let new = insert_new g.K.PartialEq.eq c.args.key c.args.self.now.entries.items c.args.value c.in-None.ensures in
    search rules

pub returns-in_ok-push-in-None-clause-replaced : goal.returns-in_ok-push-in-None-clause-replaced
returns-in_ok-push-in-None-clause-replaced g c =
    lookup_none g.K.PartialEq.eq c.args.key c.args.self.now.entries.items c.in-None.ensures

pub returns-in_ok-push-in-None-clause-entries : goal.returns-in_ok-push-in-None-clause-entries
returns-in_ok-push-in-None-clause-entries g c = pushed g c

pub returns-in_ok-push-in-None-clause-distinct : goal.returns-in_ok-push-in-None-clause-distinct
returns-in_ok-push-in-None-clause-distinct g c distinct =
    let eq = g.K.PartialEq.eq in
    let kept = distinct_after eq g.met.K.Eq.laws.symm c.args.key c.args.value c.args.self.now.entries.items distinct in
    subst (λ es. AreDistinct eq (keys_of es)) (sym (pushed g c)) kept

-- an error: the key was not present
pub returns-in_err-push-in-None-clause-present_succeeds : goal.returns-in_err-push-in-None-clause-present_succeeds
returns-in_err-push-in-None-clause-present_succeeds g c =
    let none = lookup_none g.K.PartialEq.eq c.args.key c.args.self.now.entries.items c.in-None.ensures in
    rw (sym none) (λ h. absurd (true≢false (sym h)))
