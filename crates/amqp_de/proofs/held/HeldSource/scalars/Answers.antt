use Rattle.std.proofs.Common.{rules, ◌≡◌, ◌+◌, ◌≤◌, vec_len, vec_capacity, inr, [], ◌∷◌, ◌++◌, map, refl, sym, ap, ◌∙◌, append_assoc, subst, arith}
use Rattle.std.proofs.lemmas.Grind.{common_steps}
use Rattle.std.proofs.lemmas.List.{append-nil}
use Rattle.std.specs.List.{AllZip}
use Rattle.std.specs.Vec.Iter.{into_iter_items, into_iter_len}
use Rattle.amqp_ser.specs.Tree.{scalar}
use Rattle.amqp_value.specs.TreeOf.{tree_of}
use Rattle.amqp_value.proofs.Zips.{zip_push}
use Rattle.amqp_de.proofs.Loops.{all_zip_none}
use Rattle.amqp_de.proofs.held.HeldSource.scalars.Goals as goal

pub elements-init : goal.elements-init
elements-init g c =
    let none : c.in-Ok.items.items ≡ [] = search rules in
    let room : vec_len c.in-Ok.items + into_iter_len c.args.elements.values ≤ vec_capacity c.in-Ok.items = omega (arith, c.in-Ok.ensures.len, c.in-Ok.ensures.exact, c.len.ensures) in
    rw none ([], tt, refl, room)

pub elements-preserved : goal.elements-preserved
elements-preserved g c =
    let (done, zip, all, room) = c.elements.invariant in
    let t = tree_of c.in-Some.value in
    let pushed : c.push_reserved.new.self.items ≡ c.elements.items.items ++ c.in-Ok-content_of.content ∷ [] = search rules in
    let step : into_iter_items c.elements.values ≡ c.in-Some.value ∷ into_iter_items c.next.new.self = c.in-Some.ensures.items in
    rw pushed (
      done ++ t ∷ [],
      zip_push (λ t x. t ≡ scalar (g.K.Scalar.content x)) done c.elements.items.items t c.in-Ok-content_of.content zip c.in-Ok-content_of.ensures.ok,
      rw append_assoc (all ∙ ap (λ vs. done ++ map tree_of vs) step),
      omega (arith, room, c.in-Some.ensures.len, c.push_reserved.ensures.len, c.push_reserved.ensures.capacity),
    )

pub push_reserved-requires : goal.push_reserved-requires
push_reserved-requires g c =
    let (done, zip, all, room) = c.elements.invariant in
    omega (arith, room, c.in-Some.ensures.len)

pub returns-in-None-clause-ok : goal.returns-in-None-clause-ok
returns-in-None-clause-ok g c =
    let (done, zip, all, room) = c.elements.invariant in
    let none : into_iter_items c.elements.values ≡ [] = grind (arith, common_steps) in
    (done, sym (all ∙ ap (λ vs. done ++ map tree_of vs) none ∙ append-nil done), zip)

pub returns-in-Err-clause-err : goal.returns-in-Err-clause-err
returns-in-Err-clause-err g c w =
    let (done, zip, all, room) = c.elements.invariant in
    let step : into_iter_items c.elements.values ≡ c.in-Some.value ∷ into_iter_items c.next.new.self = c.in-Some.ensures.items in
    let whole = all ∙ ap (λ vs. done ++ map tree_of vs) step in
    inr (λ xs a. all_zip_none (λ t x. t ≡ scalar (g.K.Scalar.content x)) done _ _ c.in-Err.ensures.err xs (subst (λ us. AllZip (λ t x. t ≡ scalar (g.K.Scalar.content x)) us xs) whole a))
