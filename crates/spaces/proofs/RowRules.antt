-- What the rules of one parameter do together: they unite the properties of D less X and A less X if there is a start, and without one each of
-- these properties comes in by an increasing rule, enabled by P. A property that is exchanged for itself unites nothing and brings nothing in.
use Prim.Native.Nat.{ℕ, zero, suc, ◌+◌, ◌-◌, ◌≤◌, ◌<◌, min}
use native.Mathlib.Nat.{not-suc-le-zero}
use native.Mathlib.Numerals.{add-one}
use native.Mathlib.Omega.{arith}
use mathlib.Core.Path.{◌≡◌, refl, sym, ap, ◌∙◌, subst}
use mathlib.Core.Bool.{Bool, true, false, cond, not}
use mathlib.Core.List.Memᴰ
use mathlib.Core.List.{List, [], ◌∷◌, ◌++◌, map, foldl, foldl-append, foldl-map, Memᴰ}
use lib.Dec.{eqb, ltb}
use lib.ListN.{length, get_or}
use borrow.Author.Tests.{eqb-true, eqb-false, ltb-true, ltb-false, lt-ltb, le-ltb, ne_eqb}
use Rattle.laws.specs.Lists.{keep, up_to}
use Rattle.laws.specs.Bags.{Bag, plus, less, meet, is_empty, single, support}
use Rattle.laws.proofs.Tests.{by_test, cond_true, cond_false}
use Rattle.laws.proofs.Lists.{any_at, any_none, up_to_at, up_to_intro}
use Rattle.laws.proofs.Folds.{fold_still, fold_ext}
use Rattle.laws.proofs.Mapped.{keep_ext, keep_none}
use Rattle.laws.proofs.Walks.{keep_one_more, keep_no_more}
use Rattle.laws.proofs.Bags.{length_plus, length_less, length_meet, get_d_plus, get_d_less, get_d_meet, is_empty_at, is_empty_intro}
use Rattle.laws.proofs.Bags.{less_empty, length_single, get_d_single, single_here, support_at_lem}
use Rattle.model.specs.Transitions.{Transition, exchanges, remaining, rules_of}
use Rattle.model.specs.Spaces.{moved, unite_all}
use Rattle.spaces.specs.Steps.{has_start, changed_by, united_by, gained_by, join_at, enabled_by, gain_row}
use Rattle.spaces.proofs.RuleSteps.{join_first, gain_by}

-- ---- one property

-- the number below n that is c
keep_only : (c n : ℕ) → c < n → keep (eqb c) (up_to n) ≡ c ∷ []
keep_only c zero h = absurd (not-suc-le-zero h)
keep_only c (suc n) h =
    ap (λ (k : ℕ). keep (eqb c) (up_to k)) (sym (add-one n))
    ∙ by_test (eqb c n)
    (λ e.
    keep_one_more (eqb c) n e
    ∙ ap (λ (l : List ℕ). l ++ (n ∷ []))
    (keep_none (eqb c) (up_to n) (λ i m. ne_eqb c i (λ q. let same = eqb-true c n e in let below = up_to_at n i m in omega arith)))
    ∙ ap (λ (k : ℕ). k ∷ []) (sym (eqb-true c n e)))
    (λ e. keep_no_more (eqb c) n e ∙ keep_only c n (let other = eqb-false c n e in omega arith))

-- a bag that has the property c and no other
support_one : (n c : ℕ) (b : Bag) → length b ≡ n → c < n → ((i : ℕ) → i < n → ltb 0 (get_or b i 0) ≡ eqb c i) → support b ≡ c ∷ []
unfolding support
support_one n c b e h same =
    ap (λ (k : ℕ). keep (λ i. ltb 0 (get_or b i 0)) (up_to k)) e
    ∙ keep_ext (λ i. ltb 0 (get_or b i 0)) (eqb c) (up_to n) (λ i m. same i (up_to_at n i m))
    ∙ keep_only c n h

-- such a property beside an empty bag, and beside itself
moved_alone : (n c : ℕ) (s : Bag) → length s ≡ n → c < n → is_empty s ≡ true → support (plus s (single n c)) ≡ c ∷ []
moved_alone n c s e h empty =
    support_one n c (plus s (single n c)) (length_plus n s (single n c) e (length_single n c)) h
    (λ i k.
    ap (ltb 0) (get_d_plus s (single n c) (e ∙ sym (length_single n c)) i ∙ (λ j. is_empty_at s empty i j + get_d_single n c i k j))
    ∙ go (eqb c i))
  where
    go : (b : Bool) → ltb 0 (0 + cond b 1 0) ≡ b
    go true = lt-ltb 0 (0 + 1) (omega arith)
    go false = le-ltb 0 (0 + 0) (omega arith)

moved_twice : (n c : ℕ) → c < n → support (plus (single n c) (single n c)) ≡ c ∷ []
moved_twice n c h =
    support_one n c (plus (single n c) (single n c)) (length_plus n (single n c) (single n c) (length_single n c) (length_single n c)) h
    (λ i k.
    ap (ltb 0) (get_d_plus (single n c) (single n c) refl i ∙ (λ j. get_d_single n c i k j + get_d_single n c i k j))
    ∙ go (eqb c i))
  where
    go : (b : Bool) → ltb 0 (cond b 1 0 + cond b 1 0) ≡ b
    go true = lt-ltb 0 (1 + 1) (omega arith)
    go false = le-ltb 0 (0 + 0) (omega arith)

single_some : (n c : ℕ) → c < n → is_empty (single n c) ≡ false
single_some n c h =
    by_test (is_empty (single n c)) (λ e. absurd (one (single_here n c h) (is_empty_at (single n c) e c))) (λ e. e)
  where
    one : {k : ℕ} → k ≡ 1 → k ≡ 0 → ⊥
    one p q = omega arith

-- ---- the bags of a parameter

module _ (n : ℕ) (p d a : Bag) (lp : length p ≡ n) (ld : length d ≡ n) (la : length a ≡ n) where
  common : Bag
  common = meet d a

  start : Bag
  start = less d (meet d a)

  finish : Bag
  finish = less a (meet d a)

  length_start : length start ≡ n
  unfolding start
  length_start = length_less n d (meet d a) ld (length_meet n d a ld la)

  length_finish : length finish ≡ n
  unfolding finish
  length_finish = length_less n a (meet d a) la (length_meet n d a ld la)

  start_at : (i : ℕ) → get_or start i 0 ≡ get_or d i 0 - min (get_or d i 0) (get_or a i 0)
  unfolding start
  start_at i =
      get_d_less d (meet d a) (ld ∙ sym (length_meet n d a ld la)) i ∙ ap (λ (k : ℕ). get_or d i 0 - k) (get_d_meet d a (ld ∙ sym la) i)

  finish_at : (i : ℕ) → get_or finish i 0 ≡ get_or a i 0 - min (get_or d i 0) (get_or a i 0)
  unfolding finish
  finish_at i =
      get_d_less a (meet d a) (la ∙ sym (length_meet n d a ld la)) i ∙ ap (λ (k : ℕ). get_or a i 0 - k) (get_d_meet d a (ld ∙ sym la) i)

  -- the start is empty if no property is deleted more often than it is added
  start_empty : has_start d a ≡ false → is_empty start ≡ true
  unfolding has_start
  start_empty e =
      is_empty_intro start
      (λ i h.
      let less = ltb-false (get_or a i 0) (get_or d i 0)
      (any_none (λ c. ltb (get_or a c 0) (get_or d c 0)) (up_to (length d)) e i (up_to_intro (length d) i (subst (λ (k : ℕ). i < k) (length_start ∙ sym ld) h))) in
      start_at i ∙ omega arith)

  start_some : has_start d a ≡ true → is_empty start ≡ false
  unfolding has_start
  start_some e =
      let c = any_at (λ c. ltb (get_or a c 0) (get_or d c 0)) (up_to (length d)) e in
      let more = ltb-true (get_or a c.0 0) (get_or d c.0 0) c.2 in
      by_test (is_empty start) (λ q. absurd (above more (start_at c.0) (is_empty_at start q c.0))) (λ q. q)
    where
      above : {x y k : ℕ} → x < y → k ≡ y - min y x → k ≡ 0 → ⊥
      above h p q = omega arith

  -- the properties of start and finish
  both_are : support (plus start finish) ≡ changed_by d a
  unfolding support changed_by
  both_are =
      ap (λ (k : ℕ). keep (λ c. ltb 0 (get_or (plus start finish) c 0)) (up_to k)) (length_plus n start finish length_start length_finish ∙ sym ld)
      ∙ keep_ext _ _ (up_to (length d))
      (λ c m.
      ap (ltb 0) (get_d_plus start finish (length_start ∙ sym length_finish) c ∙ (λ j. start_at c j + finish_at c j))
      ∙ differ (get_or d c 0) (get_or a c 0))
    where
      differ : (x y : ℕ) → ltb 0 ((x - min x y) + (y - min x y)) ≡ not (eqb x y)
      differ x y =
          by_test (eqb x y)
          (λ e. let same = eqb-true x y e in le-ltb 0 ((x - min x y) + (y - min x y)) (omega arith) ∙ ap not (sym e))
          (λ e. let other = eqb-false x y e in lt-ltb 0 ((x - min x y) + (y - min x y)) (omega arith) ∙ ap not (sym e))

  -- and of the finish alone, without a start
  finish_are : has_start d a ≡ false → support finish ≡ changed_by d a
  unfolding support changed_by has_start
  finish_are none =
      ap (λ (k : ℕ). keep (λ c. ltb 0 (get_or finish c 0)) (up_to k)) (length_finish ∙ sym ld)
      ∙ keep_ext _ _ (up_to (length d))
      (λ c m.
      ap (ltb 0) (finish_at c)
      ∙ comes (get_or d c 0) (get_or a c 0)
      (ltb-false (get_or a c 0) (get_or d c 0) (any_none (λ c. ltb (get_or a c 0) (get_or d c 0)) (up_to (length d)) none c m)))
    where
      comes : (x y : ℕ) → x ≤ y → ltb 0 (y - min x y) ≡ not (eqb x y)
      comes x y h =
          by_test (eqb x y)
          (λ e. let same = eqb-true x y e in le-ltb 0 (y - min x y) (omega arith) ∙ ap not (sym e))
          (λ e. let other = eqb-false x y e in lt-ltb 0 (y - min x y) (omega arith) ∙ ap not (sym e))

  -- ---- the rules

  -- an exchange moves one property, and has a start
  exchange_still : (r : Transition) → Memᴰ r (exchanges p common) → ((c : ℕ) × (moved r ≡ c ∷ [])) × (is_empty r.start ≡ false)
  unfolding exchanges common moved
  exchange_still r m =
      let c = Memᴰ.of_map (λ c. record { enablers = less p (single (length p) c); start = single (length p) c; finish = single (length p) c })
      (support (meet d a)) m in
      let h : c.0 < length p = subst (λ (k : ℕ). c.0 < k) (length_meet n d a ld la ∙ sym lp) (support_at_lem (meet d a) c.0 c.1).0 in
      subst (λ (q : Transition). ((x : ℕ) × (moved q ≡ x ∷ [])) × (is_empty q.start ≡ false)) c.2
      ((c.0, moved_twice (length p) c.0 h), single_some (length p) c.0 h)

  -- the increasing rule of a property
  increase : ℕ → Transition
  increase c = record { enablers = less p start; start = start; finish = single (length p) c }

  increase_moved : has_start d a ≡ false → (c : ℕ) → Memᴰ c (support finish) → moved (increase c) ≡ c ∷ []
  unfolding moved increase
  increase_moved none c m =
      moved_alone (length p) c start (length_start ∙ sym lp)
      (subst (λ (k : ℕ). c < k) (length_finish ∙ sym lp) (support_at_lem finish c m).0) (start_empty none)

  -- what remains beside the exchanges
  remaining_increasing : has_start d a ≡ false → remaining p start finish ≡ map increase (support finish)
  unfolding remaining increase
  remaining_increasing none = cond_true (is_empty start) _ _ (start_empty none)

  remaining_one : has_start d a ≡ true → remaining p start finish ≡ record { enablers = less p start; start = start; finish = finish } ∷ []
  unfolding remaining
  remaining_one some = cond_false (is_empty start) _ _ (start_some some)

  -- a fold over all rules that leaves the exchanges out
  rules_fold : {B : Type 0} (f : B → Transition → B) (b : B) → ((x : B) (r : Transition) → Memᴰ r (exchanges p common) → f x r ≡ x)
      → foldl f b (rules_of p d a) ≡ foldl f b (remaining p start finish)
  unfolding rules_of common start finish
  rules_fold f b still =
      foldl-append f b (exchanges p (meet d a)) (remaining p (less d (meet d a)) (less a (meet d a)))
      ∙ ap (λ (x : _). foldl f x (remaining p (less d (meet d a)) (less a (meet d a)))) (fold_still f (exchanges p (meet d a)) still b)

  -- ---- uniting

  -- one property alone unites nothing
  alone : (groups : List ℕ) (r : Transition) → (c : ℕ) × (moved r ≡ c ∷ []) → unite_all groups (moved r) ≡ groups
  unfolding unite_all
  alone groups r c = ap (unite_all groups) c.1

  pub unite_rules : (groups : List ℕ) → foldl (λ l r. unite_all l (moved r)) groups (rules_of p d a) ≡ unite_all groups (united_by d a)
  unfolding united_by unite_all moved
  unite_rules groups =
      rules_fold (λ l r. unite_all l (moved r)) groups (λ l r m. alone l r (exchange_still r m).0)
      ∙ by_test (has_start d a)
      (λ e.
      ap (foldl (λ l r. unite_all l (moved r)) groups) (remaining_one e)
      ∙ ap (unite_all groups) (both_are ∙ sym (cond_true (has_start d a) (changed_by d a) [] e)))
      (λ e.
      ap (foldl (λ l r. unite_all l (moved r)) groups) (remaining_increasing e)
      ∙ foldl-map increase (λ l r. unite_all l (moved r)) (support finish) groups
      ∙ fold_still (λ l c. unite_all l (moved (increase c))) (support finish) (λ l c m. alone l (increase c) (c, increase_moved e c m)) groups
      ∙ ap (unite_all groups) (sym (cond_false (has_start d a) (changed_by d a) [] e)))

  -- ---- gaining

  module _ (groups : List ℕ) (objects : ℕ) (old : List ℕ) where
    -- a rule with a start brings nobody
    started : (masks : List ℕ) (r : Transition) → is_empty r.start ≡ false → gain_by groups objects old masks r ≡ masks
    unfolding gain_by
    started masks r e = cond_false (is_empty r.start) _ masks e

    -- an increasing rule brings those whom P enables into the space of its property
    increased : has_start d a ≡ false → (masks : List ℕ) (c : ℕ) → Memᴰ c (support finish)
        → gain_by groups objects old masks (increase c) ≡ join_at groups (enabled_by groups objects old p) masks c
    unfolding gain_by join_first increase
    increased none masks c m =
        cond_true (is_empty start) _ masks (start_empty none)
        ∙ ap (λ (b : Bag). join_first groups (enabled_by groups objects old b) masks (moved (increase c)))
        (less_empty n p start lp length_start (start_empty none))
        ∙ ap (join_first groups (enabled_by groups objects old p) masks) (increase_moved none c m)

    pub gain_rules : (masks : List ℕ) → foldl (gain_by groups objects old) masks (rules_of p d a) ≡ gain_row groups objects old masks p d a
    unfolding gain_row gained_by
    gain_rules masks =
        let join = join_at groups (enabled_by groups objects old p) in
        rules_fold (gain_by groups objects old) masks (λ l r m. started l r (exchange_still r m).1)
        ∙ by_test (has_start d a)
        (λ e.
        ap (foldl (gain_by groups objects old) masks) (remaining_one e)
        ∙ started masks (record { enablers = less p start; start = start; finish = finish }) (start_some e)
        ∙ ap (foldl join masks) (sym (cond_true (has_start d a) [] (changed_by d a) e)))
        (λ e.
        ap (foldl (gain_by groups objects old) masks) (remaining_increasing e)
        ∙ foldl-map increase (gain_by groups objects old) (support finish) masks
        ∙ fold_ext (λ l c. gain_by groups objects old l (increase c)) join (support finish) (increased e) masks
        ∙ ap (foldl join masks) (finish_are e ∙ sym (cond_false (has_start d a) [] (changed_by d a) e)))
