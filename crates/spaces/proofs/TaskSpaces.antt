-- The code's groups and rounds are those of the task's spaces.
use Prim.Native.Nat.{ℕ, zero, suc, ◌≤◌, ◌<◌}
use native.Mathlib.Nat.{lt_of_lt_of_le}
use native.Mathlib.Omega.{arith}
use mathlib.Core.Path.{◌≡◌, refl, sym, ap, ◌∙◌, subst, fun_ext}
use mathlib.Core.Bool.{Bool, true, not, ◌&&◌, ◌||◌}
use mathlib.Core.List.{List, [], ◌∷◌, map, map-map, Memᴰ}
use lib.Dec.{eqb}
use lib.ListN.{length, get_or, length-map}
use borrow.Author.Tests.{eqb-true, eq-eqb}
use Rattle.laws.proofs.Padded.{padded_at, padded_below}
use Rattle.laws.specs.Lists.{any, all, keep, up_to, member, padded}
use Rattle.laws.specs.Bags.{Bag, is_empty, support, restrict}
use Rattle.laws.proofs.Tests.{by_test, same_test, and_left, and_right, and_intro, and_swap, not-true, to_not_true}
use Rattle.laws.proofs.Lists.{any_at, any_intro, keep_at, keep_intro, up_to_at, up_to_intro, member_at, member_intro, mem_get_d, place_of}
use Rattle.laws.proofs.Mapped.{any_ext, all_ext, keep_ext, map_ext}
use Rattle.laws.proofs.Numbers.{member_keep_up_to}
use Rattle.laws.proofs.Closure.{repeat}
use Rattle.laws.proofs.Bags.{is_empty_at, is_empty_not, length_restrict, get_d_restrict, support_at_lem, support_intro}
use Rattle.masks.specs.Sets.{mask_of}
use Rattle.laws.proofs.Walks.{any_keep}
use Rattle.model.specs.Card.{Task}
use Rattle.model.specs.Transitions.{Transition, properties, bag_of, transitions}
use Rattle.model.specs.Spaces.{moved, moves, condition, spaces}
use Rattle.model.proofs.Grouping.{Lowest, label_known, grouping_joins, grouping_lowest, transitions_sized, moved_known}
use Rattle.model.proofs.Closing.{groups, labels, properties_at, rules_at, opens, space_with, spaces_with, admitted, step, belongs, spaces_alone}
use Rattle.properties.specs.Tables.{bag_at}
use Rattle.spaces.specs.Steps.{labelled, open_masks}
use Rattle.spaces.proofs.RuleSteps.{rounds_of}
use Rattle.spaces.proofs.Joins.{Joins, first_label, admitted_by, brings, one_round, many_rounds, opens_by}
use Rattle.spaces.proofs.Joins.{masks_at, mask_ext, rounds_joins, opened_joins}

-- an array of labels, each the lowest property of its group, holds numbers below 60
pub grouping_known : (size : ℕ) → size ≤ 60 → (labels : List ℕ) → Lowest size labels → (c : ℕ) → get_or (padded 60 0 labels) c 0 < 60
grouping_known size narrow labels low =
    padded_below 60 60 labels
    (λ x m.
    let place = place_of labels x 0 m in
    subst (λ (n : ℕ). n < 60) place.2
    (lt_of_lt_of_le (label_known size labels low place.0 (subst (λ (n : ℕ). place.0 < n) low.sized place.1)) narrow))
    (omega arith)

-- the array of labels of a task's properties
unfoldable pub group_array : Task → List ℕ
group_array t = padded 60 0 (groups t)

module _ (t : Task) where
  lowest : Lowest (length (properties t)) (groups t)
  unfolding groups
  lowest = grouping_lowest (length (properties t)) (transitions t) (moved_known t)

  -- the properties of one rule have one label
  joined : (r : Transition) → Memᴰ r (transitions t) → (c d : ℕ) → Memᴰ c (moved r) → Memᴰ d (moved r)
      → get_or (groups t) c 0 ≡ get_or (groups t) d 0
  unfolding groups
  joined = grouping_joins (length (properties t)) (transitions t) (moved_known t)

  -- a property's label in the array
  pub label_at : (c : ℕ) → c < length (properties t) → get_or (group_array t) c 0 ≡ get_or (groups t) c 0
  unfolding group_array
  label_at c h = padded_at 60 0 (groups t) c 0 (subst (λ (n : ℕ). c < n) (sym lowest.sized) h)

  -- the labels are properties
  label_below : (c : ℕ) → c < length (properties t) → get_or (group_array t) c 0 < length (properties t)
  label_below c h = subst (λ (n : ℕ). n < length (properties t)) (sym (label_at c h)) (label_known (length (properties t)) (groups t) lowest c h)

  -- a space's properties are those of its label
  of_label : (l c : ℕ) → c < length (properties t) → member c (properties_at t l) ≡ eqb l (get_or (group_array t) c 0)
  unfolding properties_at
  of_label l c h =
      member_keep_up_to (λ d. eqb (get_or (groups t) d 0) l) (length (groups t)) c (subst (λ (n : ℕ). c < n) (sym lowest.sized) h)
      ∙ same_test (eqb (get_or (groups t) c 0) l) (eqb l (get_or (group_array t) c 0))
      (λ e. eq-eqb l (get_or (group_array t) c 0) (sym (label_at c h ∙ eqb-true (get_or (groups t) c 0) l e)))
      (λ e. eq-eqb (get_or (groups t) c 0) l (sym (label_at c h) ∙ sym (eqb-true l (get_or (group_array t) c 0) e)))

  property_below : (l c : ℕ) → Memᴰ c (properties_at t l) → c < length (properties t)
  unfolding properties_at
  property_below l c m =
      subst (λ (n : ℕ). c < n) lowest.sized
      (up_to_at (length (groups t)) c (keep_at (λ d. eqb (get_or (groups t) d 0) l) (up_to (length (groups t))) c m).0)

  -- the label of a property is a label
  pub own_label : (c : ℕ) → c < length (properties t) → Memᴰ (get_or (group_array t) c 0) (labels t)
  unfolding labels
  own_label c h =
      let l = get_or (groups t) c 0 in
      subst (λ (k : ℕ). Memᴰ k (keep (λ d. eqb (get_or (groups t) d 0) d) (up_to (length (groups t))))) (sym (label_at c h))
      (keep_intro (λ d. eqb (get_or (groups t) d 0) d) (up_to (length (groups t))) l
      (up_to_intro (length (groups t)) l
      (subst (λ (n : ℕ). l < n) (sym lowest.sized) (label_known (length (properties t)) (groups t) lowest c h)))
      (eq-eqb (get_or (groups t) l 0) l (lowest.own c h)))

  label_in : (l : ℕ) → Memᴰ l (labels t) → l < length (properties t)
  unfolding labels
  label_in l m =
      subst (λ (n : ℕ). l < n) lowest.sized
      (up_to_at (length (groups t)) l (keep_at (λ d. eqb (get_or (groups t) d 0) d) (up_to (length (groups t))) l m).0)

  -- the labels that the code finds
  pub labels_found : labelled (length (properties t)) (group_array t) ≡ labels t
  unfolding labelled labels
  labels_found =
      keep_ext _ _ (up_to (length (properties t))) (λ c m. ap (λ (l : ℕ). eqb l c) (label_at c (up_to_at (length (properties t)) c m)))
      ∙ ap (λ (n : ℕ). keep (λ c. eqb (get_or (groups t) c 0) c) (up_to n)) (sym lowest.sized)

  module _ (narrow : length (properties t) ≤ 60) where
    -- every place of the array holds the label of a property, or 0
    pub labels_known : (c : ℕ) → get_or (group_array t) c 0 < 60
    unfolding group_array
    labels_known = grouping_known (length (properties t)) narrow (groups t) lowest

    module _ (n : ℕ) where
      -- a rule moves a property of a label's space if its first has that label
      first_moves : (r : Transition) → Memᴰ r (transitions t) → (l : ℕ)
          → first_label n (group_array t) labels_known (moved r) l ≡ moves (properties_at t l) r
      unfolding moves first_label any
      first_moves r m l = go (moved r) refl
        where
          go : (cs : List ℕ) → moved r ≡ cs → first_label n (group_array t) labels_known cs l ≡ any (λ c. member c (properties_at t l)) cs
          go [] e = refl
          go (c ∷ cs) e =
              same_test _ _
              (λ p. any_intro (λ d. member d (properties_at t l)) (c ∷ cs) c (Memᴰ.head refl) (of_label l c (below c (Memᴰ.head refl)) ∙ p))
              (λ p.
              let d = any_at (λ x. member x (properties_at t l)) (c ∷ cs) p in
              eq-eqb l (get_or (group_array t) c 0)
              (eqb-true l (get_or (group_array t) d.0 0) (sym (of_label l d.0 (below d.0 d.1)) ∙ d.2)
              ∙ shared d.0 c d.1 (Memᴰ.head refl)))
            where
              below : (d : ℕ) → Memᴰ d (c ∷ cs) → d < length (properties t)
              below d k = moved_known t r m d (subst (Memᴰ d) (sym e) k)

              shared : (d d' : ℕ) → Memᴰ d (c ∷ cs) → Memᴰ d' (c ∷ cs) → get_or (group_array t) d 0 ≡ get_or (group_array t) d' 0
              shared d d' k k' =
                  label_at d (below d k)
                  ∙ joined r m d d' (subst (Memᴰ d) (sym e) k) (subst (Memᴰ d') (sym e) k')
                  ∙ sym (label_at d' (below d' k'))

      -- an object is a member of the space of a property if it is one at its label
      pub member_alone : (f : ℕ → Bool) (c : ℕ) → c < length (properties t)
          → f (get_or (group_array t) c 0) ≡ any (λ l. member c (properties_at t l) && f l) (labels t)
      member_alone f c h =
          let own = get_or (group_array t) c 0 in
          same_test _ _
          (λ e.
          any_intro (λ l. member c (properties_at t l) && f l) (labels t) own (own_label c h)
          (and_intro (member c (properties_at t own)) (f own) (of_label own c h ∙ eq-eqb own own refl) e))
          (λ e.
          let l = any_at (λ k. member c (properties_at t k) && f k) (labels t) e in
          let here = and_left (member c (properties_at t l.0)) (f l.0) l.2 in
          ap f (sym (eqb-true l.0 own (sym (of_label l.0 c h) ∙ here)))
          ∙ and_right (member c (properties_at t l.0)) (f l.0) l.2)

      -- what a rule brings in
      brings_alone : (joins : Joins) (r : Transition) → Memᴰ r (transitions t) → (o l : ℕ)
          → brings n (group_array t) labels_known joins r o l ≡ (moves (properties_at t l) r && admitted t (joins o) r)
      unfolding brings admitted_by admitted
      brings_alone joins r m o l =
          (λ i. is_empty r.start && (first_moves r m l i && enabled i))
          ∙ and_swap (is_empty r.start) (moves (properties_at t l) r) _
        where
          enabled : all (λ c. joins o (get_or (group_array t) c 0)) (support r.enablers)
              ≡ all (λ c. any (λ k. member c (properties_at t k) && joins o k) (labels t)) (support r.enablers)
          enabled =
              all_ext _ _ (support r.enablers)
              (λ c k. member_alone (joins o) c (subst (λ (x : ℕ). c < x) (transitions_sized t r m).enablers (support_at_lem r.enablers c k).0))

      -- a round of the code is each object's step
      round_alone : (joins : Joins) (o l : ℕ) → one_round n (group_array t) labels_known (transitions t) joins o l ≡ step t (joins o) l
      unfolding one_round step rules_at
      round_alone joins o l =
          ap (λ (b : Bool). joins o l || b)
          (any_ext _ _ (transitions t) (λ r m. brings_alone joins r m o l)
          ∙ sym (any_keep (admitted t (joins o)) (moves (properties_at t l)) (transitions t)))

      pub rounds_alone : (k : ℕ) (joins : Joins) (o : ℕ)
          → many_rounds n (group_array t) labels_known (transitions t) k joins o ≡ repeat (step t) k (joins o)
      unfolding many_rounds repeat
      rounds_alone zero joins o = refl
      rounds_alone (suc k) joins o =
          rounds_alone k (one_round n (group_array t) labels_known (transitions t) joins) o
          ∙ ap (repeat (step t) k) (fun_ext (λ l. round_alone joins o l))

      -- an object opens in the space of a label if it has a property of it
      opens_by_bag : (b : Bag) → length b ≡ length (properties t) → (l : ℕ)
          → any (λ c. eqb l (get_or (group_array t) c 0)) (support b) ≡ not (is_empty (restrict (properties_at t l) b))
      opens_by_bag b size l = same_test _ _ into back
        where
          cs : List ℕ
          cs = properties_at t l

          known : (c : ℕ) → c < length b → c < length (properties t)
          known c h = subst (λ (m : ℕ). c < m) size h

          into : any (λ c. eqb l (get_or (group_array t) c 0)) (support b) ≡ true → not (is_empty (restrict (properties_at t l) b)) ≡ true
          into e =
              let c = any_at (λ d. eqb l (get_or (group_array t) d 0)) (support b) e in
              let has = support_at_lem b c.0 c.1 in
              let here = member_at c.0 (properties_at t l) (of_label l c.0 (known c.0 has.0) ∙ c.2) in
              let place = place_of (properties_at t l) c.0 0 here in
              let count : get_or (restrict (properties_at t l) b) place.0 0 ≡ get_or b c.0 0 =
              get_d_restrict (properties_at t l) b place.0 place.1 ∙ ap (λ (d : ℕ). get_or b d 0) place.2 in
              to_not_true (is_empty (restrict (properties_at t l) b))
              (by_test (is_empty (restrict (properties_at t l) b))
              (λ p. let none = is_empty_at (restrict (properties_at t l) b) p place.0 in absurd (positive has.1 (sym count ∙ none)))
              (λ p. p))
            where
              positive : {a : ℕ} → 0 < a → a ≡ 0 → ⊥
              positive h e = omega arith

          back : not (is_empty (restrict (properties_at t l) b)) ≡ true → any (λ c. eqb l (get_or (group_array t) c 0)) (support b) ≡ true
          back e =
              let some = is_empty_not (restrict (properties_at t l) b) (not-true (is_empty (restrict (properties_at t l) b)) e) in
              let i : ℕ = some.0 in
              let h : i < length (properties_at t l) = subst (λ (m : ℕ). i < m) (length_restrict (properties_at t l) b) some.1 in
              let c : ℕ = get_or (properties_at t l) i 0 in
              let here = mem_get_d (properties_at t l) i 0 h in
              let below : c < length (properties t) = property_below l c here in
              any_intro (λ d. eqb l (get_or (group_array t) d 0)) (support b) c
              (support_intro b c (subst (λ (m : ℕ). c < m) (sym size) below)
              (subst (λ (m : ℕ). 0 < m) (get_d_restrict (properties_at t l) b i h) some.2))
              (sym (of_label l c below) ∙ member_intro c (properties_at t l) here)

      pub opens_alone : (counts : List ℕ) (o : ℕ) → bag_at (length (properties t)) counts o ≡ bag_of (properties t) t.facts o → (l : ℕ)
          → opens_by n (group_array t) labels_known (length (properties t)) counts o l ≡ opens t o l
      unfolding opens_by opens condition bag_of
      opens_alone counts o e l =
          ap (λ (b : Bag). any (λ c. eqb l (get_or (group_array t) c 0)) (support b)) e
          ∙ opens_by_bag (bag_of (properties t) t.facts o) (length-map (properties t) _) l

  -- the masks that the code closes on, by label
  unfoldable pub closed_masks : List ℕ → List ℕ
  closed_masks counts =
      rounds_of (group_array t) t.objects (transitions t) (length (labels t))
      (open_masks (group_array t) (length (properties t)) counts t.objects)

  module _ (narrow : length (properties t) ≤ 60) where
    -- the members that the code finds are those of the task's spaces
    pub members_found : (counts : List ℕ)
        → ((o : ℕ) → o < t.objects → bag_at (length (properties t)) counts o ≡ bag_of (properties t) t.facts o)
        → map (λ l. get_or (closed_masks counts) l 0) (labels t) ≡ map (λ s. mask_of s.members) (spaces t)
    unfolding spaces_with space_with belongs closed_masks
    members_found counts held =
        map_ext _ _ (labels t) (λ l m. at l m)
        ∙ sym (map-map (λ s. mask_of s.members) (space_with t (belongs t)) (labels t))
        ∙ ap (map (λ s. mask_of s.members)) (sym (spaces_alone t))
      where
        at : (l : ℕ) → Memᴰ l (labels t)
            → get_or (closed_masks counts) l 0 ≡ mask_of (keep (λ o. belongs t o l) (up_to t.objects))
        at l m =
            let n = t.objects in
            let size = length (properties t) in
            let k = length (labels t) in
            let opening : Joins = opens_by n (group_array t) (labels_known narrow) size counts in
            ap (λ (masks : List ℕ). get_or (rounds_of (group_array t) n (transitions t) k masks) l 0)
            (opened_joins n (group_array t) (labels_known narrow) size counts)
            ∙ ap (λ (masks : List ℕ). get_or masks l 0) (rounds_joins n (group_array t) (labels_known narrow) (transitions t) k opening)
            ∙ masks_at n (many_rounds n (group_array t) (labels_known narrow) (transitions t) k opening) l (lt_of_lt_of_le (label_in l m) narrow)
            ∙ mask_ext n _ _
            (λ o h.
            ap (λ (f : ℕ → Bool). f l)
            (rounds_alone narrow n k opening o ∙ ap (repeat (step t) k) (fun_ext (λ j. opens_alone narrow n counts o (held o h) j))))
