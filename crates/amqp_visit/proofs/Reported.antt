-- What a visitor gives for the parts of a value, it gives for the value.
use Rattle.std.proofs.Common.{◌≡◌, ◌∙◌, List, Result, Ok, Err, inl, inr, ap, sym, subst}
use Rattle.amqp_data.specs.declared.error.Error.{Error}
use Rattle.amqp_ser.specs.Tree as tree
use Rattle.amqp_ser.specs.Tree.{Tree, Scalar, Descriptor, scalar, trees_of}
use Rattle.amqp_value.specs.TreeOf.{pairs_of}
use Rattle.amqp_de.specs.Values.{elements_in, entries_in}
use Rattle.amqp_de.proofs.Lists.{list_of_trees, entries_in_pairs}
use Rattle.amqp_visit.specs.Events.{Event, Visits, unchanged_event, seq_event, map_event, described_event}
use Rattle.amqp_visit.specs.Events.{ByScalar, ByList, ByArray, ByMap, ByDescribed}
use Rattle.amqp_visit.specs.Results.{Answers, InvalidUnless}

module _ {T A B : Type 0} (P Q : A → T → Type 0) (P' Q' : B → T → Type 0) (same : T → T → Type 0) (a : A) (b : B) where
  pub relabel : (r : Result T Error) → ((x : T) → P a x → P' b x) → ((x : T) → P' b x → P a x)
      → ((x : T) → Q' b x → Q a x) → Visits P Q same a r → Visits P' Q' same b r
  relabel (Ok y) f g h v = (f y v.0, λ x q. v.1 x (h x q))
  relabel (Err e) f g h v = (refused v.0, λ x q. v.1 x (h x q))
    where
      refused : Answers (P a) (Err e) → Answers (P' b) (Err e)
      refused (inl m) = inl m
      refused (inr n) = inr (λ x p. n x (g x p))

module _ {T : Type 0} (P Q : Event → T → Type 0) (same : T → T → Type 0) (t : Tree) (r : Result T Error) where
  pub by_scalar : {A : Type 0} (kind : A → Scalar) (a : A) → t ≡ scalar (kind a)
      → Visits P Q same (unchanged_event (kind a)) r → Visits (ByScalar P kind) (ByScalar Q kind) same t r
  by_scalar kind a is =
      relabel P Q (ByScalar P kind) (ByScalar Q kind) same (unchanged_event (kind a)) t r (to P) (of P) (of Q)
    where
      to : (G : Event → T → Type 0) (x : T) → G (unchanged_event (kind a)) x → ByScalar G kind t x
      to G x g = (a, is, g)

      of : (G : Event → T → Type 0) (x : T) → ByScalar G kind t x → G (unchanged_event (kind a)) x
      of G x p = let inner : kind p.0 ≡ kind a = cc in subst (λ s. G (unchanged_event s) x) inner p.2

  pub by_list : (ts : List Tree) → t ≡ tree.list (trees_of ts)
      → Visits P Q same (seq_event ts) r → Visits (ByList P) (ByList Q) same t r
  by_list ts is = relabel P Q (ByList P) (ByList Q) same (seq_event ts) t r (to P) (of P) (of Q)
    where
      to : (G : Event → T → Type 0) (x : T) → G (seq_event ts) x → ByList G t x
      to G x g = (trees_of ts, is, subst (λ us. G (seq_event us) x) (sym (list_of_trees ts)) g)

      of : (G : Event → T → Type 0) (x : T) → ByList G t x → G (seq_event ts) x
      of G x p =
          let inner : p.0 ≡ trees_of ts = cc in
          subst (λ us. G (seq_event us) x) (ap elements_in inner ∙ list_of_trees ts) p.2

  pub by_array : (ts : List Tree) → t ≡ tree.array (trees_of ts)
      → Visits P Q same (seq_event ts) r → Visits (ByArray P) (ByArray Q) same t r
  by_array ts is = relabel P Q (ByArray P) (ByArray Q) same (seq_event ts) t r (to P) (of P) (of Q)
    where
      to : (G : Event → T → Type 0) (x : T) → G (seq_event ts) x → ByArray G t x
      to G x g = (trees_of ts, is, subst (λ us. G (seq_event us) x) (sym (list_of_trees ts)) g)

      of : (G : Event → T → Type 0) (x : T) → ByArray G t x → G (seq_event ts) x
      of G x p =
          let inner : p.0 ≡ trees_of ts = cc in
          subst (λ us. G (seq_event us) x) (ap elements_in inner ∙ list_of_trees ts) p.2

  pub by_map : (ps : List (Tree × Tree)) → t ≡ tree.map (pairs_of ps)
      → Visits P Q same (map_event ps) r → Visits (ByMap P) (ByMap Q) same t r
  by_map ps is = relabel P Q (ByMap P) (ByMap Q) same (map_event ps) t r (to P) (of P) (of Q)
    where
      to : (G : Event → T → Type 0) (x : T) → G (map_event ps) x → ByMap G t x
      to G x g = (pairs_of ps, is, subst (λ qs. G (map_event qs) x) (sym (entries_in_pairs ps)) g)

      of : (G : Event → T → Type 0) (x : T) → ByMap G t x → G (map_event ps) x
      of G x p =
          let inner : p.0 ≡ pairs_of ps = cc in
          subst (λ qs. G (map_event qs) x) (ap entries_in inner ∙ entries_in_pairs ps) p.2

  pub by_described : (d : Descriptor) (u : Tree) → t ≡ tree.described d u
      → Visits P Q same (described_event d u) r → Visits (ByDescribed P) (ByDescribed Q) same t r
  by_described d u is = relabel P Q (ByDescribed P) (ByDescribed Q) same (described_event d u) t r (to P) (of P) (of Q)
    where
      to : (G : Event → T → Type 0) (x : T) → G (described_event d u) x → ByDescribed G t x
      to G x g = (d, u, is, g)

      of : (G : Event → T → Type 0) (x : T) → ByDescribed G t x → G (described_event d u) x
      of G x p =
          let left : p.0 ≡ d = cc in
          let right : p.1 ≡ u = cc in
          subst (λ e. G (described_event e u) x) left (subst (λ v. G (described_event p.0 v) x) right p.3)

-- A value that is accepted is not called invalid.
pub accepted : {T A : Type 0} (r : Result T Error) → A → InvalidUnless A r
accepted (Ok x) a = tt
accepted (Err e) a = λ not. absurd (not a)
