use Rattle.std.proofs.Common.{rules, ◌≡◌, inl, inr, [], ◌∷◌, ◌++◌, sym, ap, ◌∙◌, append_assoc, subst}
use Rattle.std.proofs.lemmas.List.{append-nil}
use Rattle.std.proofs.lemmas.Result.{IfOk-weaker, IfErr-weaker}
use Rattle.amqp_value.proofs.Zips.{zip_push}
use Rattle.amqp_de.specs.Results.{ReadsAndRestores}
use Rattle.amqp_de.proofs.Loops.{all_zip_none, image_at}
use Rattle.amqp_de.proofs.deserialize.Deserialize.read_all.Goals as goal

pub returns-in-None-clause-ok : goal.returns-in-None-clause-ok
returns-in-None-clause-ok g c =
    IfOk-weaker c.ended.result _ _ (λ v h.
    let (same, ts, held) = h in
    let (none, old) = c.in-None.ensures.none ts held in
    let empty : v.items ≡ [] = search (rules, same) in
    rw empty ([], old, tt)) c.ended.ensures.ok

pub returns-in-None-clause-err : goal.returns-in-None-clause-err
returns-in-None-clause-err g c =
    IfErr-weaker c.ended.result _ _ (λ e m w. inl (m (c.in-None.ensures.none_whole w).0)) c.ended.ensures.err

pub returns-in-None-clause-law : goal.returns-in-None-clause-law
returns-in-None-clause-law g c xs all p =
    IfErr-weaker c.ended.result _ _ (λ e m w. m (c.in-None.ensures.none_whole w).0) c.ended.ensures.err

pub returns-in-Err-clause-err : goal.returns-in-Err-clause-err
returns-in-Err-clause-err g c w =
    let s = c.in-Some.ensures.some_whole w in
    elim (c.in-Err.ensures.read s.0) [
      | inl m ↦ inl (c.placed.ensures ∙ m)
      | inr n ↦ inr (λ xs a. all_zip_none g.Self.Deserialize.reads [] _ _ n xs (rw s.2 at a))
    ]

pub returns-in-Err-clause-law : goal.returns-in-Err-clause-law
returns-in-Err-clause-law g c xs all p w =
    let s = c.in-Some.ensures.some_whole w in
    let (x, some, is) = image_at g.Self.Deserialize.image g.Self.Deserialize.restorable [] _ _ xs (sym s.2 ∙ p) all in
    c.placed.ensures ∙ c.in-Err.ensures.law x some is s.0

pub elements-init : goal.elements-init
elements-init g c =
    let t = g.S.Source.value c.in-Some.source in
    let one : c.in-Ok-first_item.values.items ≡ c.in-Ok.read.0 ∷ [] = search rules in
    rw one (
      t ∷ [],
      ((c.in-Ok.ensures.read.0, c.in-Ok.ensures.law), tt),
      λ ts k. c.in-Some.ensures.some c.in-Ok.read.1 ts c.in-Ok.ensures.read.1 (c.resume.ensures.holds ts k),
      λ w. let s = c.in-Some.ensures.some_whole w in
          let r = c.resume.ensures.whole s.1 in
          (r.0, s.2 ∙ ap (λ us. t ∷ us) (sym r.1)),
    )

pub returns-in-None-next-clause-ok : goal.returns-in-None-next-clause-ok
returns-in-None-next-clause-ok g c =
    let (done, z, h, f) = c.elements.invariant in
    IfOk-weaker c.ended-in-None-next.result _ _ (λ v k.
    let (same, ts, held) = k in
    let (none, old) = c.in-None-next.ensures.none ts held in
    rw same (done, subst (λ us. g.S.Source.holds c.args.elements us) (append-nil done) (h [] old), z)) c.ended-in-None-next.ensures.ok

pub returns-in-None-next-clause-err : goal.returns-in-None-next-clause-err
returns-in-None-next-clause-err g c =
    let (done, z, h, f) = c.elements.invariant in
    IfErr-weaker c.ended-in-None-next.result _ _ (λ e m w. inl (m (c.in-None-next.ensures.none_whole (f w).0).0)) c.ended-in-None-next.ensures.err

pub returns-in-None-next-clause-law : goal.returns-in-None-next-clause-law
returns-in-None-next-clause-law g c xs all p =
    let (done, z, h, f) = c.elements.invariant in
    IfErr-weaker c.ended-in-None-next.result _ _ (λ e m w. m (c.in-None-next.ensures.none_whole (f w).0).0) c.ended-in-None-next.ensures.err

pub returns-in-Err-read-clause-err : goal.returns-in-Err-read-clause-err
returns-in-Err-read-clause-err g c w =
    let (done, z, h, f) = c.elements.invariant in
    let s = c.in-Some-next.ensures.some_whole (f w).0 in
    let whole = (f w).1 ∙ ap (λ ts. done ++ ts) s.2 in
    elim (c.in-Err-read.ensures.read s.0) [
      | inl m ↦ inl (c.placed-in-Err-read.ensures ∙ m)
      | inr n ↦ inr (λ xs a. all_zip_none g.Self.Deserialize.reads done _ _ n xs (rw whole at a))
    ]

pub returns-in-Err-read-clause-law : goal.returns-in-Err-read-clause-law
returns-in-Err-read-clause-law g c xs all p w =
    let (done, z, h, f) = c.elements.invariant in
    let s = c.in-Some-next.ensures.some_whole (f w).0 in
    let (x, some, is) = image_at g.Self.Deserialize.image g.Self.Deserialize.restorable done _ _ xs (sym ((f w).1 ∙ ap (λ ts. done ++ ts) s.2) ∙ p) all in
    c.placed-in-Err-read.ensures ∙ c.in-Err-read.ensures.law x some is s.0

pub elements-preserved : goal.elements-preserved
elements-preserved g c =
    let (done, z, h, f) = c.elements.invariant in
    let t = g.S.Source.value c.in-Some-next.source in
    let pushed : c.push.new.self.items ≡ c.elements.values.items ++ c.in-Ok-read.read.0 ∷ [] = search rules in
    rw pushed (
      done ++ t ∷ [],
      zip_push (ReadsAndRestores g.Self.Deserialize.reads g.Self.Deserialize.image g.Self.Deserialize.restorable g.Self.Deserialize.same) done c.elements.values.items t c.in-Ok-read.read.0 z (c.in-Ok-read.ensures.read.0, c.in-Ok-read.ensures.law),
      λ ts k. rw append_assoc (h (t ∷ ts) (c.in-Some-next.ensures.some c.in-Ok-read.read.1 ts c.in-Ok-read.ensures.read.1 (c.resume-in-elements.ensures.holds ts k))),
      λ w. let s = c.in-Some-next.ensures.some_whole (f w).0 in
          let r = c.resume-in-elements.ensures.whole s.1 in
          (r.0, rw append_assoc ((f w).1 ∙ ap (λ ts. done ++ ts) (s.2 ∙ ap (λ us. t ∷ us) (sym r.1)))),
    )
