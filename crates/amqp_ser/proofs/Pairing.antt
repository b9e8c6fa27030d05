-- Parts that are alternating keys and values.
use Rattle.amqp_ser.specs.Tree.{Tree, Trees, Pairs, no_trees, more, no_pairs, pair}
use Rattle.amqp_ser.specs.Compounds.{all_trees, prepend, in_pairs, prepend_pair, paired}
use Rattle.amqp_ser.specs.Encoding.{encoding, encoding_each, encoding_pairs}
use Rattle.amqp_ser.specs.Ranged.{AreRanged, HasRangedPairs}
use Rattle.amqp_ser.specs.Writable.{uniform_arrays, uniform_arrays_each, uniform_arrays_pairs, within_limits, within_limits_each, within_limits_pairs, inside, inside_each, inside_pairs}
use Rattle.std.proofs.Common.{◌≡◌, List, [], ◌∷◌, ◌++◌, Option, Some, None, Bool, true, false, not, ◌&&◌, refl, ap, sym, ◌∙◌, subst}

pub record Pairing (ts : Trees) : Type 0 where
  pub pairs : Pairs
  pub are : in_pairs ts ≡ Some pairs
  pub bytes : encoding_pairs pairs ≡ encoding_each ts
  pub alike_too : uniform_arrays_pairs pairs ≡ uniform_arrays_each ts
  pub within_too : within_limits_pairs pairs ≡ within_limits_each ts
  pub inside_too : inside_pairs pairs ≡ inside_each ts
  pub ranged_too : AreRanged ts → HasRangedPairs pairs

abbrev pub even : Trees → Bool
even no_trees = true
even (more t ts) = not (even ts)

not_not : (b : Bool) → not (not b) ≡ b
not_not true = refl
not_not false = refl

pub pairing : (ts : Trees) → even ts ≡ true → Pairing ts
pairing no_trees h = record { pairs = no_pairs; are = refl; bytes = refl; alike_too = refl; within_too = refl; inside_too = refl; ranged_too = λ q. q }
pairing (more k no_trees) h = cc
pairing (more k (more v ts)) h =
    let r = pairing ts (sym (not_not (even ts)) ∙ h) in
    record {
      pairs = pair k v r.pairs;
      are = ap (prepend_pair k v) r.are;
      bytes = ap (λ bs. encoding k ++ (encoding v ++ bs)) r.bytes;
      alike_too = ap (λ b. uniform_arrays k && (uniform_arrays v && b)) r.alike_too;
      within_too = ap (λ b. within_limits k && (within_limits v && b)) r.within_too;
      inside_too = ap (λ b. inside k && (inside v && b)) r.inside_too;
      ranged_too = λ q. (q.0, q.1.0, r.ranged_too q.1.1);
    }

go : (p : Option Tree) (o : Option Trees) (b : Bool) → ((us : Trees) → o ≡ Some us → b ≡ even us) → (ts : Trees) → prepend p o ≡ Some ts → not b ≡ even ts
go None o b f ts h = cc
go (Some t) None b f ts h = cc
go (Some t) (Some us) b f ts h =
    let e : more t us ≡ ts = cc in
    subst (λ x. not b ≡ even x) e (ap not (f us refl))

pub paired-even : (ps : List (Option Tree)) (ts : Trees) → all_trees ps ≡ Some ts → paired ps ≡ even ts
paired-even [] ts h = let e : no_trees ≡ ts = cc in subst (λ x. true ≡ even x) e refl
paired-even (p ∷ ps) ts h = go p (all_trees ps) (paired ps) (paired-even ps) ts h
