use Rattle.std.proofs.Common.{rules, arith, ◌≡◌, ◌<◌, inl, inr, [], ◌∷◌, ◌++◌, length, sym, ap, ◌∙◌, append_assoc}
use Rattle.std.proofs.lemmas.List.{append-nil, length-append}
use Rattle.amqp_value.proofs.Zips.{zip_push}
use Rattle.amqp_de.specs.Results.{ReadsAndRestores}
use Rattle.amqp_de.proofs.Firsts.{firsts_read, too_few, firsts_refused, as_long, too_few_images}
use Rattle.amqp_de.proofs.Loops.{image_at}
use Rattle.amqp_de.proofs.impls.arrays.read_first.Goals as goal

pub elements-init : goal.elements-init
elements-init g c =
    let empty : c.in-Ok.values.items ≡ [] = search rules in
    rw empty (omega arith, ([], tt, λ ts k. k, λ w. (w, search rules)))

pub returns-in-None-clause-err : goal.returns-in-None-clause-err
returns-in-None-clause-err g c w =
    let (most, (done, z, h, f)) = c.elements.invariant in
    let more : length c.elements.values.items < c.args.count = search (arith, rules) in
    let s = c.in-None.ensures.none_whole (f w).0 in
    let whole : g.S.Source.items c.args.elements ≡ done = (f w).1 ∙ ap (λ ts. done ++ ts) s.1 ∙ append-nil done in
    let short = as_long (ReadsAndRestores g.T.Deserialize.reads g.T.Deserialize.image g.T.Deserialize.restorable g.T.Deserialize.same) c.args.count done c.elements.values.items z more in
    inr (too_few g.T.Deserialize.reads c.args.count (g.S.Source.items c.args.elements) (rw whole short))

pub returns-in-None-clause-law : goal.returns-in-None-clause-law
returns-in-None-clause-law g c xs all long is w =
    let (most, (done, z, h, f)) = c.elements.invariant in
    let more : length c.elements.values.items < c.args.count = search (arith, rules) in
    let s = c.in-None.ensures.none_whole (f w).0 in
    let whole : g.S.Source.items c.args.elements ≡ done = (f w).1 ∙ ap (λ ts. done ++ ts) s.1 ∙ append-nil done in
    let short = as_long (ReadsAndRestores g.T.Deserialize.reads g.T.Deserialize.image g.T.Deserialize.restorable g.T.Deserialize.same) c.args.count done c.elements.values.items z more in
    too_few_images c.args.count g.T.Deserialize.image (g.S.Source.items c.args.elements) xs (rw whole short) long is

pub returns-in-Err-read-clause-err : goal.returns-in-Err-read-clause-err
returns-in-Err-read-clause-err g c w =
    let (most, (done, z, h, f)) = c.elements.invariant in
    let more : length c.elements.values.items < c.args.count = search (arith, rules) in
    let s = c.in-Some.ensures.some_whole (f w).0 in
    let whole = (f w).1 ∙ ap (λ ts. done ++ ts) s.2 in
    let short = as_long (ReadsAndRestores g.T.Deserialize.reads g.T.Deserialize.image g.T.Deserialize.restorable g.T.Deserialize.same) c.args.count done c.elements.values.items z more in
    elim (c.in-Err-read.ensures.read s.0) [
      | inl m ↦ inl (c.placed.ensures ∙ m)
      | inr n ↦ inr (firsts_refused g.T.Deserialize.reads c.args.count _ done _ _ whole short n)
    ]

pub returns-in-Err-read-clause-law : goal.returns-in-Err-read-clause-law
returns-in-Err-read-clause-law g c xs all long p w =
    let (most, (done, z, h, f)) = c.elements.invariant in
    let s = c.in-Some.ensures.some_whole (f w).0 in
    let (x, some, is) = image_at g.T.Deserialize.image g.T.Deserialize.restorable done _ _ xs (sym ((f w).1 ∙ ap (λ ts. done ++ ts) s.2) ∙ p) all in
    c.placed.ensures ∙ c.in-Err-read.ensures.law x some is s.0

pub elements-preserved : goal.elements-preserved
elements-preserved g c =
    let (most, (done, z, h, f)) = c.elements.invariant in
    let before = c.elements.values.items in
    let more : length before < c.args.count = search (arith, rules) in
    let t = g.S.Source.value c.in-Some.source in
    let pushed : c.push.new.self.items ≡ before ++ c.in-Ok-read.read.0 ∷ [] = search rules in
    let long = length-append before (c.in-Ok-read.read.0 ∷ []) in
    rw pushed (
      omega arith,
      (
        done ++ t ∷ [],
        zip_push (ReadsAndRestores g.T.Deserialize.reads g.T.Deserialize.image g.T.Deserialize.restorable g.T.Deserialize.same) done before t c.in-Ok-read.read.0 z (c.in-Ok-read.ensures.read.0, c.in-Ok-read.ensures.law),
        λ ts k. rw append_assoc (h (t ∷ ts) (c.in-Some.ensures.some c.in-Ok-read.read.1 ts c.in-Ok-read.ensures.read.1 (c.resume.ensures.holds ts k))),
        λ w. let s = c.in-Some.ensures.some_whole (f w).0 in
            let r = c.resume.ensures.whole s.1 in
            (r.0, rw append_assoc ((f w).1 ∙ ap (λ ts. done ++ ts) (s.2 ∙ ap (λ us. t ∷ us) (sym r.1)))),
      ),
    )

pub returns-in-Ok-close-clause-ok : goal.returns-in-Ok-close-clause-ok
returns-in-Ok-close-clause-ok g c =
    let (most, (done, z, h, f)) = c.elements.invariant in
    let long : length c.elements.values.items ≡ c.args.count = search (arith, rules) in
    let (ts, held) = c.in-Ok-close.ensures.ok in
    (done ++ ts, h ts held, long, firsts_read (ReadsAndRestores g.T.Deserialize.reads g.T.Deserialize.image g.T.Deserialize.restorable g.T.Deserialize.same) c.args.count done ts c.elements.values.items z long)

pub returns-in-Err-close-clause-err : goal.returns-in-Err-close-clause-err
returns-in-Err-close-clause-err g c w =
    let (most, (done, z, h, f)) = c.elements.invariant in
    inl (c.in-Err-close.ensures.err (f w).0)

pub returns-in-Err-close-clause-law : goal.returns-in-Err-close-clause-law
returns-in-Err-close-clause-law g c xs all long p w =
    let (most, (done, z, h, f)) = c.elements.invariant in
    c.in-Err-close.ensures.err (f w).0
