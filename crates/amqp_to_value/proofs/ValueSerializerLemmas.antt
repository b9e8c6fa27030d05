-- The contents of an open compound after one part more or one part less.
use Rattle.std.proofs.Common.{◌≡◌, List, [], ◌∷◌, ◌++◌, Option, Some, None, Result, ok_or, false, true, true≢false, refl, ap, sym, ◌∙◌, subst}
use Rattle.amqp_data.specs.declared.error.Error.{Error}
use Rattle.amqp_ser.specs.Tree.{Descriptor, Tree, Trees, Pairs, null, scalar, no_trees, more}
use Rattle.amqp_ser.specs.Compounds.{all_trees, prepend, complete, in_pairs, as_kind, tree_of_parts, paired}
use Rattle.amqp_ser.specs.declared.kind.CompoundKind.{CompoundKind}
use Rattle.amqp_ser.specs.declared.kind.CompoundKind.TheVariants as kinds
use Rattle.amqp_ser.proofs.Joins.{join, joined, all_trees-append, kind_none}
use Rattle.amqp_ser.proofs.Meant.{joined_none}
use Rattle.amqp_ser.proofs.Pairing.{Pairing, pairing, paired-even}
use Rattle.amqp_ser.proofs.Unmarked.{unmarked}
use Rattle.amqp_value.specs.Image.{image}
use Rattle.amqp_value.specs.TreeOf.{tree_of}
use Rattle.amqp_value.specs.declared.value.Value.{Value}
use Rattle.amqp_to_value.specs.ImageOf.{refuses, Represents, Answers}
use Rattle.amqp_ser.specs.Meant.{meant, meant_none}
use Rattle.amqp_to_value.specs.HeldImages.{is_single, then, HoldsImages, IsOpenedImage, compound_tree, TakesPairs}
use Rattle.amqp_to_value.specs.Opened.{AreOpened}
use Rattle.amqp_to_value.specs.PendingDescriptors.{described_by}
use Rattle.amqp_to_value.specs.ValueSerializer.{HoldsParts, HasParts, HasValue, IsKept, meant_by}
use Rattle.amqp_ser.specs.declared.pending.Pending.{Pending}
use Rattle.amqp_ser.specs.declared.pending.Pending.TheVariants as pending
use Rattle.amqp_to_value.specs.declared.open_value.OpenBody.TheVariants as body
use Rattle.amqp_to_value.specs.declared.parts.CollectedParts.{CollectedParts}
use Rattle.amqp_to_value.specs.declared.parts.CollectedParts.TheVariants as parts
use Rattle.amqp_to_value.specs.declared.serializer.Serializer.{Serializer}
use Rattle.amqp_to_value.specs.declared.value_error.ValueError.{ValueError}
use Rattle.amqp_to_value.specs.declared.value_error.ValueError.TheVariants as error
use Rattle.amqp_to_value.proofs.PendingDescriptorLemmas.{standing_none}
use Rattle.amqp_to_value.proofs.HeldImagesLemmas.{join_then, all_trees-then}
use Rattle.amqp_to_value.proofs.LazyLemmas.{Lacks, part_lacks, unreadable_whole}
use Rattle.amqp_to_value.proofs.OpenedLemmas.{compound_opened, opened-last, opened-then, opened_answer, still_pairs}

none-some : (t : Tree) → None ≡ Some t → ⊥
none-some t q = cc

-- If nothing is pending, a result that is permitted for the intended tree is permitted for the
-- tree.
pub unmarked_answer : (s : Serializer) (ds : List Descriptor) (p : Option Tree) (r : Result Value ValueError) → IsKept ds s → Answers (meant_by s p) r → Answers p r
unmarked_answer s ds p r kept is =
    subst (λ o. Answers o r) (ap (λ ds. described_by ds (meant s.pending p)) (standing_none s.descriptors kept.0.1) ∙ ap (λ u. meant u p) kept.0.0 ∙ unmarked p) is

-- If one part has no tree, the compound has none.
without : (u : Pending) (kind : CompoundKind) (ps rest : List (Option Tree)) → meant u (tree_of_parts kind (ps ++ (None ∷ rest))) ≡ None
unfolding tree_of_parts
without u kind ps rest =
    ap (λ o. meant u (as_kind kind o)) (all_trees-append ps (None ∷ rest) ∙ joined_none (all_trees ps)) ∙ ap (meant u) (kind_none kind) ∙ meant_none u

whole_lacks : (u : Pending) (kind : CompoundKind) (ps : List (Option Tree)) (p : Option Tree) (rest : List (Option Tree)) → Lacks p → Lacks (meant u (tree_of_parts kind (ps ++ (p ∷ rest))))
whole_lacks u kind ps None rest h = subst Lacks (sym (without u kind ps rest)) tt
whole_lacks u kind ps (Some t) rest h = part_lacks u kind ps t rest h

-- An error of a part is permitted for the compound, whatever parts follow.
pub refused : (u : Pending) (kind : CompoundKind) (ps : List (Option Tree)) (p : Option Tree) (e : Error) → refuses e p → (rest : List (Option Tree)) → refuses e (meant u (tree_of_parts kind (ps ++ (p ∷ rest))))
refused u kind ps p e r rest = unreadable_whole e p (meant u (tree_of_parts kind (ps ++ (p ∷ rest)))) (whole_lacks u kind ps p rest) r

-- A kind other than `Single` is not single.
pub not_single : (k : CompoundKind) → (k ≡ kinds.Single → ⊥) → is_single k ≡ false
not_single kinds.Single h = absurd (h refl)
not_single kinds.List h = refl
not_single kinds.Map h = refl
not_single (kinds.Variant i) h = refl
not_single (kinds.NewtypeVariant i) h = refl

-- A compound without parts.
pub nothing_held : (u : Pending) (k : CompoundKind) (parts : CollectedParts) → HoldsImages parts no_trees → ((o : Option Trees) → meant u (as_kind k o) ≡ compound_tree parts o) → HoldsParts u k parts []
nothing_held u k parts accepted makes = record { ts = no_trees; trees = refl; us = no_trees; opened = refl; accepted = accepted; makes = makes }

module _ (u : Pending) (kind : CompoundKind) (old new : CollectedParts) (ps : List (Option Tree)) (h : HoldsParts u kind old ps) (makes : (o : Option Trees) → compound_tree new o ≡ compound_tree old o) where
  -- The parts are the same.
  kept : HoldsImages new h.us → HoldsParts u kind new ps
  kept accepted = record { ts = h.ts; trees = h.trees; us = h.us; opened = h.opened; accepted = accepted; makes = λ o. h.makes o ∙ sym (makes o) }

  -- One part is added.
  pub part_taken : (p : Option Tree) (v : Value) → Represents v p → ((ts : Trees) (t : Tree) → HoldsImages old ts → tree_of v ≡ image t → HoldsImages new (then ts t)) → HoldsParts u kind new (ps ++ (p ∷ []))
  part_taken None v s step = absurd s
  part_taken (Some t) v s step = record {
    ts = then h.ts t;
    trees = all_trees-then ps h.ts t h.trees;
    us = then h.us s.0;
    opened = opened-then h.ts h.us t s.0 h.opened s.1;
    accepted = step h.us s.0 h.accepted s.2;
    makes = λ o. h.makes o ∙ sym (makes o);
  }

  -- No part is added.
  pub part_left : (p : Option Tree) (v : Value) → Represents v p → ((ts : Trees) (t : Tree) → HoldsImages old ts → tree_of v ≡ image t → HoldsImages new ts) → HoldsParts u kind new ps
  part_left None v s step = absurd s
  part_left (Some t) v s step = kept (step h.us s.0 h.accepted s.2)

-- A compound of kind map takes keys and values in turn.
takes_pairs : (u : Pending) (o : CollectedParts) → ((ts : Option Trees) → meant u (as_kind kinds.Map ts) ≡ compound_tree o ts) → TakesPairs o
takes_pairs u (parts.Map g) m = tt
takes_pairs u parts.Refused m = tt
takes_pairs u (parts.List v) m = absurd (none-some _ (sym (meant_none u) ∙ m (Some (more (scalar null) no_trees))))
takes_pairs u (parts.Array v) m = absurd (none-some _ (sym (meant_none u) ∙ m (Some (more (scalar null) no_trees))))
takes_pairs u (parts.Transparent v) m = absurd (none-some _ (sym (meant_none u) ∙ m (Some (more (scalar null) no_trees))))
takes_pairs u (parts.Variant i v) m = absurd (none-some _ (sym (meant_none u) ∙ m (Some (more (scalar null) no_trees))))
takes_pairs u (parts.NewtypeVariant i v) m = absurd (none-some _ (sym (meant_none u) ∙ m (Some (more (scalar null) no_trees))))

-- The last of the parts.
last_part : (o : Option Trees) (p : Option Tree) (ts : Trees) → joined o (prepend p (Some no_trees)) ≡ Some ts → (us : Trees) × (t : Tree) × (o ≡ Some us) × (ts ≡ then us t)
last_part None p ts h = cc
last_part (Some us) None ts h = cc
last_part (Some us) (Some t) ts h = let e : join us (more t no_trees) ≡ ts = cc in (us, t, refl, sym e ∙ join_then us t)

-- Removing the pending key restores the parts before it.
pub undone : (u : Pending) (old new : CollectedParts) (ps : List (Option Tree)) (p : Option Tree) → HoldsParts u kinds.Map old (ps ++ (p ∷ [])) → paired ps ≡ true
    → ((o : Option Trees) → compound_tree new o ≡ compound_tree old o)
    → ((ts : Trees) (qs : Pairs) (t : Tree) → in_pairs ts ≡ Some qs → TakesPairs old → HoldsImages old (then ts t) → HoldsImages new ts)
    → HoldsParts u kinds.Map new ps
undone u old new ps p h even makes back =
    let last = last_part (all_trees ps) p h.ts (sym (all_trees-append ps (p ∷ [])) ∙ h.trees) in
    let us = last.0 in
    let pairs : Pairing us = pairing us (sym (paired-even ps us last.2) ∙ even) in
    let read = opened-last us last.1 h.us (subst (λ x. AreOpened x h.us) last.3 h.opened) in
    let still = still_pairs us read.0 pairs.pairs read.3 pairs.are in
    record {
      ts = us;
      trees = last.2;
      us = read.0;
      opened = read.3;
      accepted = back read.0 still.0 read.1 still.1 (takes_pairs u old h.makes) (subst (HoldsImages old) read.2 h.accepted);
      makes = λ o. h.makes o ∙ sym (makes o);
    }

-- The value of a single compound.
single_answer : (u : Pending) (o : Option Value) (r : Result Value ValueError) (ps : List (Option Tree)) → HasValue u o ps → complete kinds.Single ps ≡ true → r ≡ ok_or o error.InvalidValue
    → Answers (meant u (tree_of_parts kinds.Single ps)) r
unfolding tree_of_parts
single_answer u None r [] h c e = absurd (true≢false (sym c))
single_answer u None r (p ∷ ps) h c e = absurd h
single_answer u (Some v) r [] h c e = absurd h
single_answer u (Some v) r (None ∷ []) h c e = absurd (subst (Represents v) (meant_none u) h)
single_answer u (Some v) r (Some t ∷ []) h c e = subst (Answers (meant u (Some t))) (sym e) h
single_answer u (Some v) r (p ∷ (q ∷ ps)) h c e = absurd h

pub single_value : (u w : Pending) (k : CompoundKind) (o : Option Value) (r : Result Value ValueError) (ps : List (Option Tree)) → HasParts u k (body.Single w o) ps → complete k ps ≡ true
    → r ≡ ok_or o error.InvalidValue → Answers (meant u (tree_of_parts k ps)) r
single_value u w k o r ps h c e =
    subst (λ x. Answers (meant u (tree_of_parts x ps)) r) (sym h.0)
    (single_answer u o r ps h.2 (subst (λ x. complete x ps ≡ true) h.0 c) e)

-- The value of a compound that is built from parts.
pub parts_value : (u : Pending) (k : CompoundKind) (parts : CollectedParts) (r : Result Value ValueError) (ps : List (Option Tree)) → HoldsParts u k parts ps
    → ((ts : Trees) → HoldsImages parts ts → IsOpenedImage (compound_tree parts (Some ts)) r) → Answers (meant u (tree_of_parts k ps)) r
unfolding tree_of_parts
parts_value u k parts r ps h gives =
    subst (λ o. Answers o r) (sym (h.makes (Some h.ts)) ∙ ap (λ o. meant u (as_kind k o)) (sym h.trees))
    (opened_answer (compound_tree parts (Some h.ts)) (compound_tree parts (Some h.us)) r (compound_opened parts h.ts h.us h.opened) (gives h.us h.accepted))
