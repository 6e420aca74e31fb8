-- Members as masks by label, and as a test: which object is a member at which label. What the code does to the masks, said of the test.
use Prim.Native.Nat.{ℕ, zero, suc, ◌<◌}
use mathlib.Core.Path.{◌≡◌, refl, sym, ap, ◌∙◌, subst}
use mathlib.Core.Bool.{Bool, true, false, cond, ◌&&◌, ◌||◌}
use mathlib.Core.List.{List, [], ◌∷◌, map, foldl, Memᴰ}
use lib.Dec.{eqb}
use lib.ListN.{length, get_or, set, replicate, length-map, length-set, length-replicate, get_or-replicate}
use lib.Seq.{ext_get_or, get_or-set_same, get_or-set_other}
use borrow.Author.Tests.{eqb-true, eqb-false, eq-eqb}
use Rattle.laws.specs.Lists.{any, all, keep, up_to}
use Rattle.laws.specs.Bags.{is_empty, support}
use Rattle.laws.proofs.Tests.{by_test, same_test, and_left, and_right, and_intro, and_false_left, or_assoc, and_assoc, and_neutral, or_neutral}
use Rattle.laws.proofs.Lists.{any_at, any_intro, length_up_to, get_d_up_to, up_to_at, up_to_intro}
use Rattle.laws.proofs.Mapped.{get_d_map, map_ext, keep_ext}
use Rattle.masks.specs.Sets.{mask_of, union_of, common_of}
use Rattle.masks.proofs.Kept.{common_kept, union_kept, none_kept, one_kept, all_kept}
use Rattle.model.specs.Transitions.{Transition}
use Rattle.model.specs.Spaces.{moved}
use Rattle.properties.specs.Tables.{bag_at}
use Rattle.spaces.specs.Steps.{open_at, open_masks, join_at, enabled_by}
use Rattle.spaces.proofs.RuleSteps.{join_first, gain_by, round_of, rounds_of}

-- an object is a member of the space of a label
abbrev pub Joins : Type 0
Joins = ℕ → ℕ → Bool

-- the mask of the members at a label, and the masks at all labels
abbrev pub mask_at : ℕ → Joins → ℕ → ℕ
mask_at n joins l = mask_of (keep (λ o. joins o l) (up_to n))

unfoldable pub masks_of : ℕ → Joins → List ℕ
masks_of n joins = map (mask_at n joins) (up_to 60)

module _ (n : ℕ) where
  pub length_masks : (joins : Joins) → length (masks_of n joins) ≡ 60
  unfolding masks_of
  length_masks joins = length-map (up_to 60) (mask_at n joins) ∙ length_up_to 60

  pub masks_at : (joins : Joins) (l : ℕ) → l < 60 → get_or (masks_of n joins) l 0 ≡ mask_at n joins l
  unfolding masks_of
  masks_at joins l h =
      get_d_map (mask_at n joins) (up_to 60) l 0 0 (subst (λ (k : ℕ). l < k) (sym (length_up_to 60)) h) ∙ ap (mask_at n joins) (get_d_up_to 60 l 0 h)

  -- tests that agree have the same masks
  pub mask_ext : (f g : ℕ → Bool) → ((o : ℕ) → o < n → f o ≡ g o) → mask_of (keep f (up_to n)) ≡ mask_of (keep g (up_to n))
  mask_ext f g h = ap mask_of (keep_ext f g (up_to n) (λ o m. h o (up_to_at n o m)))

  pub masks_ext : (f g : Joins) → ((o l : ℕ) → o < n → f o l ≡ g o l) → masks_of n f ≡ masks_of n g
  unfolding masks_of
  masks_ext f g h = map_ext (mask_at n f) (mask_at n g) (up_to 60) (λ l m. mask_ext (λ o. f o l) (λ o. g o l) (λ o k. h o l k))

  -- no member anywhere
  pub masks_none : replicate 60 0 ≡ masks_of n (λ o l. false)
  masks_none =
      ext_get_or 0 (replicate 60 0) (masks_of n (λ o l. false)) (length-replicate {A = ℕ} 60 0 ∙ sym (length_masks (λ o l. false)))
      (λ l h.
      let k = subst (λ (m : ℕ). l < m) (length-replicate {A = ℕ} 60 0) h in
      get_or-replicate 60 l 0 0 k ∙ sym (masks_at (λ o j. false) l k ∙ none_kept n))

  -- some objects join at a label
  joined_at : (joins : Joins) (those : ℕ → Bool) (l : ℕ) → l < 60
      → set (masks_of n joins) l (union_of (get_or (masks_of n joins) l 0) (mask_of (keep those (up_to n))))
      ≡ masks_of n (λ o k. joins o k || (eqb k l && those o))
  joined_at joins those l hl =
      ext_get_or 0 before (masks_of n after) (size ∙ sym (length_masks after)) (λ k h. at k (subst (λ (m : ℕ). k < m) size h))
    where
      new : ℕ
      new = union_of (get_or (masks_of n joins) l 0) (mask_of (keep those (up_to n)))

      before : List ℕ
      before = set (masks_of n joins) l (union_of (get_or (masks_of n joins) l 0) (mask_of (keep those (up_to n))))

      after : Joins
      after o k = joins o k || (eqb k l && those o)

      size : length before ≡ 60
      size = length-set (masks_of n joins) l new ∙ length_masks joins

      here : union_of (get_or (masks_of n joins) l 0) (mask_of (keep those (up_to n))) ≡ mask_of (keep (λ o. joins o l || those o) (up_to n))
      here =
          ap (λ (m : ℕ). union_of m (mask_of (keep those (up_to n)))) (masks_at joins l hl) ∙ union_kept (λ o. joins o l) those n

      at : (k : ℕ) → k < 60 → get_or before k 0 ≡ get_or (masks_of n after) k 0
      at k h =
          by_test (eqb k l)
          (λ e.
          let same : k ≡ l = eqb-true k l e in
          ap (λ (j : ℕ). get_or before j 0) same
          ∙ get_or-set_same (masks_of n joins) l new 0 (subst (λ (m : ℕ). l < m) (sym (length_masks joins)) hl)
          ∙ here
          ∙ mask_ext (λ o. joins o l || those o) (λ o. after o k)
          (λ o m. sym (λ i. joins o (same i) || (e i && those o)))
          ∙ sym (masks_at after k h))
          (λ e.
          get_or-set_other (masks_of n joins) l k new 0 (eqb-false k l e)
          ∙ masks_at joins k h
          ∙ mask_ext (λ o. joins o k) (λ o. after o k)
          (λ o m. sym (or_neutral (joins o k) (eqb k l && those o) (and_false_left (eqb k l) (those o) e)))
          ∙ sym (masks_at after k h))

  -- A step that lets objects join by a test: its fold lets them join by the test for some element.
  module _ {A : Type 0} (step : List ℕ → A → List ℕ) (test : A → Joins) where
    pub fold_joins : (xs : List A)
        → ((x : A) → Memᴰ x xs → (joins : Joins) → step (masks_of n joins) x ≡ masks_of n (λ o l. joins o l || test x o l))
        → (joins : Joins) → foldl step (masks_of n joins) xs ≡ masks_of n (λ o l. joins o l || any (λ x. test x o l) xs)
    unfolding any
    fold_joins [] one joins = masks_ext joins (λ o l. joins o l || false) (λ o l h. sym (or_neutral (joins o l) false refl))
    fold_joins (x ∷ xs) one joins =
        ap (λ (masks : List ℕ). foldl step masks xs) (one x (Memᴰ.head refl) joins)
        ∙ fold_joins xs (λ y m. one y (Memᴰ.tail m)) (λ o l. joins o l || test x o l)
        ∙ masks_ext _ _ (λ o l h. or_assoc (joins o l) (test x o l) (any (λ y. test y o l) xs))

-- The members by the groups of an array of labels.
module _ (n : ℕ) (groups : List ℕ) (known : (c : ℕ) → get_or groups c 0 < 60) where
  -- some objects join the space of a property
  pub join_joins : (joins : Joins) (those : ℕ → Bool) (c : ℕ)
      → join_at groups (mask_of (keep those (up_to n))) (masks_of n joins) c ≡ masks_of n (λ o l. joins o l || (eqb l (get_or groups c 0) && those o))
  unfolding join_at
  join_joins joins those c = joined_at n joins those (get_or groups c 0) (known c)

  -- the members of the space of each of some properties
  pub enabled_joins : (joins : Joins) (cs : List ℕ) (those : ℕ → Bool)
      → foldl (λ m c. common_of m (get_or (masks_of n joins) (get_or groups c 0) 0)) (mask_of (keep those (up_to n))) cs
      ≡ mask_of (keep (λ o. those o && all (λ c. joins o (get_or groups c 0)) cs) (up_to n))
  unfolding all
  enabled_joins joins [] those = mask_ext n those (λ o. those o && true) (λ o m. sym (and_neutral (those o)))
  enabled_joins joins (c ∷ cs) those =
      let l = get_or groups c 0 in
      let next : ℕ → Bool = λ o. those o && joins o l in
      ap (λ (m : ℕ). foldl (λ k d. common_of k (get_or (masks_of n joins) (get_or groups d 0) 0)) m cs)
      (ap (common_of (mask_of (keep those (up_to n)))) (masks_at n joins l (known c)) ∙ common_kept those (λ o. joins o l) n)
      ∙ enabled_joins joins cs next
      ∙ mask_ext n _ _ (λ o m. and_assoc (those o) (joins o l) (all (λ d. joins o (get_or groups d 0)) cs))

  -- the rule admits the object, by the members at the labels
  unfoldable pub admitted_by : Joins → Transition → ℕ → Bool
  admitted_by joins r o = all (λ c. joins o (get_or groups c 0)) (support r.enablers)

  -- the label is that of the first property
  unfoldable pub first_label : List ℕ → ℕ → Bool
  first_label [] l = false
  first_label (c ∷ cs) l = eqb l (get_or groups c 0)

  -- what an increasing rule brings in
  unfoldable pub brings : Joins → Transition → Joins
  brings joins r o l = is_empty r.start && (first_label (moved r) l && admitted_by joins r o)

  unfoldable pub one_round : List Transition → Joins → Joins
  one_round rules joins o l = joins o l || any (λ r. brings joins r o l) rules

  enabled_by_joins : (joins : Joins) (r : Transition) → enabled_by groups n (masks_of n joins) r.enablers ≡ mask_of (keep (admitted_by joins r) (up_to n))
  unfolding enabled_by admitted_by
  enabled_by_joins joins r =
      ap (λ (m : ℕ). foldl (λ k c. common_of k (get_or (masks_of n joins) (get_or groups c 0) 0)) m (support r.enablers)) (sym (all_kept n))
      ∙ enabled_joins joins (support r.enablers) (λ o. true)

  gain_joins : (old joins : Joins) (r : Transition)
      → gain_by groups n (masks_of n old) (masks_of n joins) r ≡ masks_of n (λ o l. joins o l || brings old r o l)
  unfolding gain_by brings join_first first_label
  gain_joins old joins r = go (is_empty r.start) (moved r)
    where
      none : (o l : ℕ) → joins o l ≡ (joins o l || false)
      none o l = sym (or_neutral (joins o l) false refl)

      first : (cs : List ℕ) → join_first groups (enabled_by groups n (masks_of n old) r.enablers) (masks_of n joins) cs
          ≡ masks_of n (λ o l. joins o l || (first_label cs l && admitted_by old r o))
      first [] = masks_ext n joins _ (λ o l h. none o l)
      first (c ∷ cs) =
          ap (λ (m : ℕ). join_at groups m (masks_of n joins) c) (enabled_by_joins old r) ∙ join_joins joins (admitted_by old r) c

      go : (b : Bool) (cs : List ℕ)
          → cond b (join_first groups (enabled_by groups n (masks_of n old) r.enablers) (masks_of n joins) cs) (masks_of n joins)
          ≡ masks_of n (λ o l. joins o l || (b && (first_label cs l && admitted_by old r o)))
      go true cs = first cs
      go false cs = masks_ext n joins _ (λ o l h. none o l)

  -- a round of the code is a round of the test; and so are so many
  pub round_joins : (rules : List Transition) (joins : Joins) → round_of groups n rules (masks_of n joins) ≡ masks_of n (one_round rules joins)
  unfolding round_of one_round
  round_joins rules joins = fold_joins n (gain_by groups n (masks_of n joins)) (brings joins) rules (λ r m now. gain_joins joins now r) joins

  unfoldable pub many_rounds : List Transition → ℕ → Joins → Joins
  many_rounds rules zero joins = joins
  many_rounds rules (suc k) joins = many_rounds rules k (one_round rules joins)

  pub rounds_joins : (rules : List Transition) (k : ℕ) (joins : Joins)
      → rounds_of groups n rules k (masks_of n joins) ≡ masks_of n (many_rounds rules k joins)
  unfolding rounds_of many_rounds
  rounds_joins rules zero joins = refl
  rounds_joins rules (suc k) joins = ap (rounds_of groups n rules k) (round_joins rules joins) ∙ rounds_joins rules k (one_round rules joins)

  -- an object opens in the space of a label: it has a property of that label at first
  unfoldable pub opens_by : ℕ → List ℕ → Joins
  opens_by size counts o l = any (λ c. eqb l (get_or groups c 0)) (support (bag_at size counts o))

  open_joins : (size : ℕ) (counts : List ℕ) (x : ℕ) → x < n → (joins : Joins)
      → open_at groups size counts x (masks_of n joins)
      ≡ masks_of n (λ o l. joins o l || any (λ c. eqb l (get_or groups c 0) && eqb x o) (support (bag_at size counts x)))
  unfolding open_at
  open_joins size counts x h joins =
      ap (λ (m : ℕ). foldl (join_at groups m) (masks_of n joins) (support (bag_at size counts x))) (sym (one_kept x n h))
      ∙ fold_joins n (join_at groups (mask_of (keep (eqb x) (up_to n)))) (λ c o l. eqb l (get_or groups c 0) && eqb x o) (support (bag_at size counts x))
      (λ c m now. join_joins now (eqb x) c) joins

  pub opened_joins : (size : ℕ) (counts : List ℕ) → open_masks groups size counts n ≡ masks_of n (opens_by size counts)
  unfolding open_masks opens_by
  opened_joins size counts =
      ap (λ (masks : List ℕ). foldl (λ l o. open_at groups size counts o l) masks (up_to n)) (masks_none n)
      ∙ fold_joins n (λ l o. open_at groups size counts o l) joined (up_to n) (λ x m now. open_joins size counts x (up_to_at n x m) now) (λ o l. false)
      ∙ masks_ext n (λ o l. any (λ x. joined x o l) (up_to n)) (opens_by size counts) (λ o l h. same_test _ _ (into o l) (back o l h))
    where
      joined : ℕ → Joins
      joined x o l = any (λ c. eqb l (get_or groups c 0) && eqb x o) (support (bag_at size counts x))

      into : (o l : ℕ) → any (λ x. joined x o l) (up_to n) ≡ true → opens_by size counts o l ≡ true
      into o l e =
          let x = any_at (λ y. joined y o l) (up_to n) e in
          let c = any_at (λ d. eqb l (get_or groups d 0) && eqb x.0 o) (support (bag_at size counts x.0)) x.2 in
          let same : x.0 ≡ o = eqb-true x.0 o (and_right (eqb l (get_or groups c.0 0)) (eqb x.0 o) c.2) in
          any_intro (λ d. eqb l (get_or groups d 0)) (support (bag_at size counts o)) c.0
          (subst (λ (y : ℕ). Memᴰ c.0 (support (bag_at size counts y))) same c.1)
          (and_left (eqb l (get_or groups c.0 0)) (eqb x.0 o) c.2)

      back : (o l : ℕ) → o < n → opens_by size counts o l ≡ true → any (λ x. joined x o l) (up_to n) ≡ true
      back o l h e =
          let c = any_at (λ d. eqb l (get_or groups d 0)) (support (bag_at size counts o)) e in
          any_intro (λ x. joined x o l) (up_to n) o (up_to_intro n o h)
          (any_intro (λ d. eqb l (get_or groups d 0) && eqb o o) (support (bag_at size counts o)) c.0 c.1
          (and_intro (eqb l (get_or groups c.0 0)) (eqb o o) c.2 (eq-eqb o o refl)))
