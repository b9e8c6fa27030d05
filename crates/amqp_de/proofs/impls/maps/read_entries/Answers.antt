use Rattle.std.proofs.Common.{rules, ◌≡◌, inl, inr, [], ◌∷◌, ◌++◌, sym, ap, ◌∙◌, append_assoc, subst}
use Rattle.std.proofs.lemmas.List.{append-nil}
use Rattle.amqp_ser.specs.Tree.{Tree}
use Rattle.amqp_value.proofs.Zips.{zip_push}
use Rattle.amqp_de.specs.Maps.{ReadsPair, pair_image, IsPair}
use Rattle.amqp_de.specs.Results.{ReadsAndRestores}
use Rattle.amqp_de.proofs.Loops.{all_zip_none, image_at}
use Rattle.amqp_de.proofs.impls.maps.read_entries.Goals as goal

pub entries-init : goal.entries-init
entries-init g c =
    let empty : c.in-Ok.items.items ≡ [] = search rules in
    rw empty ([], tt, λ ps k. k, λ w. (w, search rules))

pub returns-in-Ok-close_entries-clause-ok : goal.returns-in-Ok-close_entries-clause-ok
returns-in-Ok-close_entries-clause-ok g c =
    let (done, z, h, f) = c.entries.invariant in
    let (ps, held, among) = c.in-Ok-close_entries.ensures.ok in
    let (none, old) = c.in-None.ensures.none ps held in
    (done, subst (λ us. g.S.Source.holds_pairs c.args.entries us) (append-nil done) (h [] old), z)

pub returns-in-Err-read-clause-err : goal.returns-in-Err-read-clause-err
returns-in-Err-read-clause-err g c w =
    let (done, z, h, f) = c.entries.invariant in
    let s = c.in-Some.ensures.some_whole (f w).0 in
    let whole = (f w).1 ∙ ap (λ ps. done ++ ps) s.2 in
    elim (c.in-Err-read.ensures.read s.0) [
      | inl m ↦ inl (c.placed.ensures ∙ m)
      | inr n ↦ inr (λ xs a. all_zip_none (ReadsPair g.K.Deserialize.reads g.V.Deserialize.reads) done _ _ (λ p r. n p.0 r.0) xs (rw whole at a))
    ]

pub returns-in-Err-read-clause-law : goal.returns-in-Err-read-clause-law
returns-in-Err-read-clause-law g c xs all p w =
    let (done, z, h, f) = c.entries.invariant in
    let s = c.in-Some.ensures.some_whole (f w).0 in
    let (x, some, is) = image_at (pair_image g.K.Deserialize.image g.V.Deserialize.image) (IsPair g.K.Deserialize.restorable g.V.Deserialize.restorable) done _ _ xs (sym ((f w).1 ∙ ap (λ ps. done ++ ps) s.2) ∙ p) all in
    c.placed.ensures ∙ c.in-Err-read.ensures.law x.0 some.0 (ap (λ (q : Tree × Tree). q.0) is) s.0

pub returns-in-Err-value_after-clause-err : goal.returns-in-Err-value_after-clause-err
returns-in-Err-value_after-clause-err g c w =
    let (done, z, h, f) = c.entries.invariant in
    inl (c.in-Err-value_after.ensures.err (c.in-Some.ensures.some_whole (f w).0).1)

pub returns-in-Err-value_after-clause-law : goal.returns-in-Err-value_after-clause-law
returns-in-Err-value_after-clause-law g c xs all p w =
    let (done, z, h, f) = c.entries.invariant in
    c.in-Err-value_after.ensures.err (c.in-Some.ensures.some_whole (f w).0).1

pub returns-in-Err-read-2-clause-err : goal.returns-in-Err-read-2-clause-err
returns-in-Err-read-2-clause-err g c w =
    let (done, z, h, f) = c.entries.invariant in
    let s = c.in-Some.ensures.some_whole (f w).0 in
    let (sure, are, is, rest) = c.in-Ok-value_after.ensures.whole s.1 in
    let whole = (f w).1 ∙ ap (λ ps. done ++ ps) s.2 in
    elim (c.in-Err-read-2.ensures.read sure) [
      | inl m ↦ inl (c.placed-in-Err-read-2.ensures ∙ m)
      | inr n ↦ inr (λ xs a. all_zip_none (ReadsPair g.K.Deserialize.reads g.V.Deserialize.reads) done _ _ (λ p r. n p.1 (subst (λ t. g.V.Deserialize.reads t p.1) (sym is) r.1)) xs (rw whole at a))
    ]

pub returns-in-Err-read-2-clause-law : goal.returns-in-Err-read-2-clause-law
returns-in-Err-read-2-clause-law g c xs all p w =
    let (done, z, h, f) = c.entries.invariant in
    let s = c.in-Some.ensures.some_whole (f w).0 in
    let (sure, are, same, rest) = c.in-Ok-value_after.ensures.whole s.1 in
    let (x, some, is) = image_at (pair_image g.K.Deserialize.image g.V.Deserialize.image) (IsPair g.K.Deserialize.restorable g.V.Deserialize.restorable) done _ _ xs (sym ((f w).1 ∙ ap (λ ps. done ++ ps) s.2) ∙ p) all in
    c.placed-in-Err-read-2.ensures ∙ c.in-Err-read-2.ensures.law x.1 some.1 (same ∙ ap (λ (q : Tree × Tree). q.1) is) sure

pub entries-preserved : goal.entries-preserved
entries-preserved g c =
    let K = g.K.Deserialize in
    let V = g.V.Deserialize in
    let (done, z, h, f) = c.entries.invariant in
    let k = g.S.Source.value c.in-Some.next.0 in
    let v = g.S.Source.value c.in-Ok-value_after.source in
    let e : Tree × Tree = (k, v) in
    let pushed : c.push.new.self.items ≡ c.entries.items.items ++ (c.in-Ok-read.read.0, c.in-Ok-read-2.read.0) ∷ [] = search rules in
    rw pushed (
      done ++ e ∷ [],
      zip_push (ReadsPair (ReadsAndRestores K.reads K.image K.restorable K.same) (ReadsAndRestores V.reads V.image V.restorable V.same)) done c.entries.items.items e (c.in-Ok-read.read.0, c.in-Ok-read-2.read.0) z
          ((c.in-Ok-read.ensures.read.0, c.in-Ok-read.ensures.law), (c.in-Ok-read-2.ensures.read.0, c.in-Ok-read-2.ensures.law)),
      λ ps held. rw append_assoc (h (e ∷ ps) (c.in-Some.ensures.some c.in-Ok-read.read.1 v ps c.in-Ok-read.ensures.read.1
          (c.in-Ok-value_after.ensures.ok c.in-Ok-read-2.read.1 ps c.in-Ok-read-2.ensures.read.1 (c.resume_entries.ensures.holds ps held)))),
      λ w.
          let s = c.in-Some.ensures.some_whole (f w).0 in
          let (sure, are, is, rest) = c.in-Ok-value_after.ensures.whole s.1 in
          let r = c.resume_entries.ensures.whole are in
          (r.0, rw append_assoc ((f w).1 ∙ ap (λ ps. done ++ ps) (s.2 ∙ ap (λ t. (k, t) ∷ g.S.Source.pairs c.next_key.new.entries) (sym is) ∙ ap (λ ps. e ∷ ps) (sym (r.1 ∙ rest))))),
    )
