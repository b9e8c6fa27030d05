-- Trees without lazy trees are read as themselves.
use Rattle.std.proofs.Common.{◌≡◌, false, true, true≢false, Bool, ◌||◌, Some, refl, ap, sym, ◌∙◌, subst, if◌then◌else◌, List, ℕ, None}
use Rattle.amqp_ser.specs.Tree.{Tree, Trees, Pairs, scalar, list, array, map, described, variant, lazy, transparent, no_trees, more, no_pairs, pair}
use Rattle.amqp_value.specs.Plain.{IsPlain, ArePlain, HasPlainPairs}
use Rattle.amqp_to_value.specs.HasLazy.{has_lazy, has_lazy_each, has_lazy_pairs}
use Rattle.amqp_to_value.specs.Opened.{Opened, AreOpened, HasOpenedPairs}
use Rattle.amqp_decode.specs.Encodes.{Encodes}
use Rattle.amqp_decode.proofs.EncodedValues.{one-value}
use Rattle.amqp_decode.proofs.OwnImage.{encoded-own_image}
use Rattle.amqp_decode.proofs.Whole.{one-tree}
use Rattle.amqp_frame.proofs.Whole.{encoded_value_passes}
use Rattle.amqp_ser.specs.Marked.{of_encoded_value}
use Rattle.amqp_value.specs.Image.{image}
use Rattle.amqp_value.specs.Sound.{IsSound}
use Rattle.amqp_value.specs.TreeOf.{tree_of}
use Rattle.amqp_value.specs.declared.value.Value.{Value}
use Rattle.amqp_value.proofs.SoundLemmas.{image-sound, sound-plain}
use Rattle.amqp_to_value.specs.ImageOf.{Represents}

first : (a b : Bool) → (a || b) ≡ false → a ≡ false
first true b h = h
first false b h = refl

second : (a b : Bool) → (a || b) ≡ false → b ≡ false
second true b h = absurd (true≢false h)
second false b h = h

mutual
  -- Each tree without lazy trees is read as itself.
  pub opened-itself : (t : Tree) → has_lazy t ≡ false → Opened t t
  opened-itself (scalar s) h = refl
  opened-itself (list ts) h = (ts, refl, opened-themselves ts h)
  opened-itself (array ts) h = (ts, refl, opened-themselves ts h)
  opened-itself (map ps) h = (ps, refl, opened-pairs ps h)
  opened-itself (described d t) h = (t, refl, opened-itself t h)
  opened-itself (variant i t) h = (t, refl, opened-itself t h)
  opened-itself (lazy bs) h = absurd (true≢false h)
  opened-itself (transparent ts) h = (ts, refl, opened-themselves ts h)

  opened-themselves : (ts : Trees) → has_lazy_each ts ≡ false → AreOpened ts ts
  opened-themselves no_trees h = refl
  opened-themselves (more t ts) h =
      (t, ts, refl, opened-itself t (first (has_lazy t) (has_lazy_each ts) h), opened-themselves ts (second (has_lazy t) (has_lazy_each ts) h))

  opened-pairs : (ps : Pairs) → has_lazy_pairs ps ≡ false → HasOpenedPairs ps ps
  opened-pairs no_pairs h = refl
  opened-pairs (pair k v ps) h =
      let rest = second (has_lazy k) (has_lazy v || has_lazy_pairs ps) h in (
        k,
        v,
        ps,
        refl,
        opened-itself k (first (has_lazy k) (has_lazy v || has_lazy_pairs ps) h),
        opened-itself v (first (has_lazy v) (has_lazy_pairs ps) rest),
        opened-pairs ps (second (has_lazy v) (has_lazy_pairs ps) rest),
      )

mutual
  -- A plain tree contains nothing lazy.
  pub plain_not_lazy : (t : Tree) → IsPlain t → has_lazy t ≡ false
  plain_not_lazy (scalar s) h = refl
  plain_not_lazy (list ts) h = each_not_lazy ts h
  plain_not_lazy (array ts) h = each_not_lazy ts h
  plain_not_lazy (map ps) h = pairs_not_lazy ps h
  plain_not_lazy (described d t) h = plain_not_lazy t h
  plain_not_lazy (variant i t) h = plain_not_lazy t h
  plain_not_lazy (lazy bs) h = absurd h
  plain_not_lazy (transparent ts) h = absurd h

  each_not_lazy : (ts : Trees) → ArePlain ts → has_lazy_each ts ≡ false
  each_not_lazy no_trees h = refl
  each_not_lazy (more t ts) h = ap (λ b. b || has_lazy_each ts) (plain_not_lazy t h.0) ∙ each_not_lazy ts h.1

  pairs_not_lazy : (ps : Pairs) → HasPlainPairs ps → has_lazy_pairs ps ≡ false
  pairs_not_lazy no_pairs h = refl
  pairs_not_lazy (pair k v ps) h =
      ap (λ b. b || (has_lazy v || has_lazy_pairs ps)) (plain_not_lazy k h.0)
      ∙ ap (λ b. b || has_lazy_pairs ps) (plain_not_lazy v h.1) ∙ pairs_not_lazy ps h.3

mutual
  -- A tree is read as at most one tree.
  pub one-opened : (t u w : Tree) → Opened t u → Opened t w → u ≡ w
  one-opened (scalar s) u w a b = a ∙ sym b
  one-opened (list ts) u w a b = a.1 ∙ ap list (each-opened ts a.0 b.0 a.2 b.2) ∙ sym b.1
  one-opened (array ts) u w a b = a.1 ∙ ap array (each-opened ts a.0 b.0 a.2 b.2) ∙ sym b.1
  one-opened (map ps) u w a b = a.1 ∙ ap map (pairs-opened ps a.0 b.0 a.2 b.2) ∙ sym b.1
  one-opened (described d t) u w a b = a.1 ∙ ap (described d) (one-opened t a.0 b.0 a.2 b.2) ∙ sym b.1
  one-opened (variant i t) u w a b = a.1 ∙ ap (variant i) (one-opened t a.0 b.0 a.2 b.2) ∙ sym b.1
  one-opened (lazy bs) u w a b = one-tree 256 256 bs u w a b
  one-opened (transparent ts) u w a b = a.1 ∙ ap transparent (each-opened ts a.0 b.0 a.2 b.2) ∙ sym b.1

  each-opened : (ts us ws : Trees) → AreOpened ts us → AreOpened ts ws → us ≡ ws
  each-opened no_trees us ws a b = a ∙ sym b
  each-opened (more t ts) us ws a b =
      a.2 ∙ (λ i. more (one-opened t a.0 b.0 a.3 b.3 i) (each-opened ts a.1 b.1 a.4 b.4 i)) ∙ sym b.2

  pairs-opened : (ps qs rs : Pairs) → HasOpenedPairs ps qs → HasOpenedPairs ps rs → qs ≡ rs
  pairs-opened no_pairs qs rs a b = a ∙ sym b
  pairs-opened (pair k v ps) qs rs a b =
      a.3 ∙ (λ i. pair (one-opened k a.0 b.0 a.4 b.4 i) (one-opened v a.1 b.1 a.5 b.5 i) (pairs-opened ps a.2 b.2 a.6 b.6 i)) ∙ sym b.3

-- A tree without lazy trees is read only as itself.
pub opened-same : (t u : Tree) → has_lazy t ≡ false → Opened t u → u ≡ t
opened-same t u h o = one-opened t u t o (opened-itself t h)

-- A value that represents a tree without lazy trees has its image.
pub represents-image : (t : Tree) (v : Value) → has_lazy t ≡ false → Represents v (Some t) → tree_of v ≡ image t
represents-image t v h s = s.2 ∙ ap image (opened-same t s.0 h s.1)

pub own : (a b : Value) → IsSound a → Represents b (Some (tree_of a)) → tree_of b ≡ tree_of a
own a b sound s = represents-image (tree_of a) b (plain_not_lazy (tree_of a) (sound-plain a sound)) s ∙ image-sound a sound

-- A value that the bytes encode represents them as a lazy value.
pub lazy_read : (v : Value) (bs : List ℕ) → Encodes 256 bs (tree_of v) → Represents v (of_encoded_value bs)
lazy_read v bs h =
    subst (λ b. Represents v (if b then Some (lazy bs) else None)) (sym (encoded_value_passes bs (one-value h)))
    (tree_of v, h, sym (encoded-own_image h))
