-- Document 01, "Spaces": what is known of each space of a task: its properties, its rules, its members.
use Prim.Native.Nat.{ℕ, ◌<◌}
use mathlib.Core.Path.{◌≡◌, refl, sym, ap, ◌∙◌, subst}
use mathlib.Core.Bool.{Bool, true, false, cond, ◌&&◌, ◌||◌}
use mathlib.Core.List.{List, [], ◌∷◌, Memᴰ}
use lib.Dec.{eqb}
use lib.ListN.{length, get_or}
use native.Mathlib.Omega.{arith}
use borrow.Author.Tests.{eqb-true, eq-eqb}
use Rattle.laws.specs.Lists.{any, all, keep, up_to, member}
use Rattle.laws.specs.Bags.{is_empty, support}
use Rattle.laws.proofs.Tests.{cond_true, and_intro, and_false_left, or_right, or_false_left, or_false_right, not-true, to_not_true, by_test, or_neutral}
use Rattle.laws.proofs.Lists.{all_intro, any_at, any_intro, any_false, keep_at, keep_intro, up_to_intro}
use Rattle.laws.proofs.Bags.{support_at_lem}
use Rattle.laws.proofs.Mapped.{map_fixed}
use Rattle.laws.proofs.Numbers.{InOrder, kept_in_order, member_keep_up_to, kept_below}
use Rattle.laws.proofs.Closure.{repeat_adds, repeat_leaves}
use Rattle.model.specs.Card.{Task}
use Rattle.model.specs.Transitions.{Transition, properties, transitions}
use Rattle.model.specs.Spaces.{Space, static, attribute, property, moved, moves, condition, has_member, admits, gain, round, spaces, kind_of}
use Rattle.model.proofs.Grouping.{label, Lowest, label_known, grouping_joins, grouping_lowest, transitions_sized, moved_known}
use Rattle.model.proofs.Closing.{groups, labels, properties_at, rules_at, opens, space_with, spaces_with, admitted, step, step_adds, belongs}
use Rattle.model.proofs.Closing.{spaces_alone, closing_fixed}

-- "Some rule with empty start or finish: attribute"
one_sided_attribute : (rules : List Transition) (r : Transition) → Memᴰ r rules
    → (is_empty r.start || is_empty r.finish) ≡ true → kind_of rules ≡ attribute
unfolding kind_of
one_sided_attribute [] r m e = absurd (mathlib.Core.List.Memᴰ.not-nil m)
one_sided_attribute (q ∷ rules) r m e =
    let is_one_sided : Transition → Bool = λ x. is_empty x.start || is_empty x.finish in
    cond_true (any is_one_sided (q ∷ rules)) attribute property (any_intro is_one_sided (q ∷ rules) r m e)

-- the rules of any other space have both a start and a finish
two_sided : (rules : List Transition) → (kind_of rules ≡ attribute → ⊥) → (r : Transition) → Memᴰ r rules
    → (is_empty r.start ≡ false) × (is_empty r.finish ≡ false)
two_sided rules other r m =
    let both : (is_empty r.start || is_empty r.finish) ≡ false =
    by_test (is_empty r.start || is_empty r.finish) (λ e. absurd (other (one_sided_attribute rules r m e))) (λ e. e) in
    (or_false_left (is_empty r.start) (is_empty r.finish) both, or_false_right (is_empty r.start) (is_empty r.finish) both)

pub property_rules : (rules : List Transition) → kind_of rules ≡ property → (r : Transition) → Memᴰ r rules
    → (is_empty r.start ≡ false) × (is_empty r.finish ≡ false)
property_rules rules kind = two_sided rules (λ e. let clash : ◌≡◌ {A = ℕ} 0 1 = cc in omega arith)

pub static_rules : (rules : List Transition) → kind_of rules ≡ static → rules ≡ []
unfolding kind_of
static_rules [] kind = refl
static_rules (r ∷ rules) kind = go (any (λ x. is_empty x.start || is_empty x.finish) (r ∷ rules)) kind
  where
    go : (b : Bool) → cond b attribute property ≡ static → (r ∷ rules) ≡ []
    go true e = let clash : ◌≡◌ {A = ℕ} 0 1 = cc in absurd (omega arith)
    go false e = let clash : ◌≡◌ {A = ℕ} 0 1 = cc in absurd (omega arith)

module _ (t : Task) where
  lowest : Lowest (length (properties t)) (groups t)
  unfolding groups
  lowest = grouping_lowest (length (properties t)) (transitions t) (moved_known t)

  -- what holds of the space of each label holds of each space
  of_labels : (Holds : Space → Type 0) → ((l : ℕ) → Memᴰ l (labels t) → Holds (space_with t (belongs t) l))
      → (s : Space) → Memᴰ s (spaces t) → Holds s
  unfolding spaces_with
  of_labels Holds h s m =
      let r = mathlib.Core.List.Memᴰ.of_map (space_with t (belongs t)) (labels t) (subst (Memᴰ s) (spaces_alone t) m) in
      subst Holds r.2 (h r.0 r.1)

  -- the properties of the space of a label are those of its group
  at_label : (l c : ℕ) → member c (properties_at t l) ≡ true → (c < length (properties t)) × (label (groups t) c ≡ l)
  unfolding properties_at
  at_label l c e =
      let below = kept_below (λ d. eqb (get_or (groups t) d 0) l) (length (groups t)) c e in (
        subst (λ (n : ℕ). c < n) lowest.sized below,
        eqb-true (get_or (groups t) c 0) l (sym (member_keep_up_to (λ d. eqb (get_or (groups t) d 0) l) (length (groups t)) c below) ∙ e),
      )

  to_label : (l c : ℕ) → c < length (properties t) → label (groups t) c ≡ l → member c (properties_at t l) ≡ true
  unfolding properties_at
  to_label l c h e =
      member_keep_up_to (λ d. eqb (get_or (groups t) d 0) l) (length (groups t)) c (subst (λ (n : ℕ). c < n) (sym lowest.sized) h)
      ∙ eq-eqb (get_or (groups t) c 0) l e

  -- the properties of one rule have one label
  shared : (r : Transition) → Memᴰ r (transitions t) → (c d : ℕ) → Memᴰ c (moved r) → Memᴰ d (moved r)
      → label (groups t) c ≡ label (groups t) d
  unfolding groups
  shared = grouping_joins (length (properties t)) (transitions t) (moved_known t)

  -- every property is in a space
  pub space_of : (c : ℕ) → c < length (properties t) → (s : Space) × Memᴰ s (spaces t) × (member c s.properties ≡ true)
  unfolding spaces_with space_with labels
  space_of c h =
      let l = label (groups t) c in
      let own : Memᴰ l (labels t) =
      keep_intro (λ x. eqb (get_or (groups t) x 0) x) (up_to (length (groups t))) l
      (up_to_intro (length (groups t)) l
      (subst (λ (n : ℕ). l < n) (sym lowest.sized) (label_known (length (properties t)) (groups t) lowest c h)))
      (eq-eqb (label (groups t) l) l (lowest.own c h)) in (
        space_with t (belongs t) l,
        subst (Memᴰ (space_with t (belongs t) l)) (sym (spaces_alone t)) (mathlib.Core.List.Memᴰ.map (space_with t (belongs t)) own),
        to_label l c h refl,
      )

  -- and in no other
  pub space_unique : (s s' : Space) → Memᴰ s (spaces t) → Memᴰ s' (spaces t) → (c : ℕ)
      → member c s.properties ≡ true → member c s'.properties ≡ true → s ≡ s'
  unfolding space_with
  space_unique s s' m m' c =
      of_labels (λ u. member c u.properties ≡ true → member c s'.properties ≡ true → u ≡ s')
      (λ l k.
      of_labels (λ u'. member c (properties_at t l) ≡ true → member c u'.properties ≡ true → space_with t (belongs t) l ≡ u')
      (λ l' k' e e'. ap (space_with t (belongs t)) (sym (at_label l c e).1 ∙ (at_label l' c e').1)) s' m')
      s m

  -- an object is a member of the space of a property if it is one of each space with that property
  has_member_lem : (o c : ℕ) → c < length (properties t)
      → ((s : Space) → Memᴰ s (spaces t) → member c s.properties ≡ true → member o s.members ≡ true)
      → has_member (spaces t) o c ≡ true
  unfolding has_member
  has_member_lem o c h inside =
      let found = space_of c h in
      any_intro (λ s. member c s.properties && member o s.members) (spaces t) found.0 found.1
      (and_intro (member c found.0.properties) (member o found.0.members) found.2 (inside found.0 found.1 found.2))

  module _ (s : Space) (m : Memᴰ s (spaces t)) where
    -- the properties of a space are properties of the task, in their order
    pub properties_known : (c : ℕ) → member c s.properties ≡ true → c < length (properties t)
    unfolding space_with
    properties_known c = of_labels (λ u. member c u.properties ≡ true → c < length (properties t)) (λ l k e. (at_label l c e).0) s m

    pub properties_in_order : InOrder (length (properties t)) s.properties
    unfolding space_with properties_at
    properties_in_order =
        of_labels (λ u. InOrder (length (properties t)) u.properties)
        (λ l k.
        subst (λ (n : ℕ). InOrder n (properties_at t l)) lowest.sized
        (kept_in_order (λ d. eqb (get_or (groups t) d 0) l) (length (groups t))))
        s m

    -- its rules are those that move one of its properties
    pub rules_moving : s.rules ≡ keep (moves s.properties) (transitions t)
    unfolding space_with rules_at
    rules_moving = of_labels (λ u. u.rules ≡ keep (moves u.properties) (transitions t)) (λ l k. refl) s m

    -- a rule that moves one property of a space is a rule of the space, and moves no other properties
    pub rule_in_one_space : (r : Transition) → Memᴰ r (transitions t) → (c : ℕ) → Memᴰ c (moved r)
        → member c s.properties ≡ true
        → ((d : ℕ) → Memᴰ d (moved r) → member d s.properties ≡ true) × Memᴰ r s.rules
    unfolding space_with rules_at moves
    rule_in_one_space r k c j =
        of_labels
        (λ u. member c u.properties ≡ true
        → ((d : ℕ) → Memᴰ d (moved r) → member d u.properties ≡ true) × Memᴰ r u.rules)
        (λ l n e. (
          λ d i. to_label l d (moved_known t r k d i) (shared r k d c i j ∙ (at_label l c e).1),
          keep_intro (moves (properties_at t l)) (transitions t) r k (any_intro (λ x. member x (properties_at t l)) (moved r) c j e),
        ))
        s m

    -- the rules of a space are rules of the task that move one of its properties
    pub rules_of_space : (r : Transition) → Memᴰ r s.rules
        → Memᴰ r (transitions t) × ((c : ℕ) × Memᴰ c (moved r) × (member c s.properties ≡ true))
    unfolding space_with rules_at moves
    rules_of_space r =
        of_labels
        (λ u. Memᴰ r u.rules
        → Memᴰ r (transitions t) × ((c : ℕ) × Memᴰ c (moved r) × (member c u.properties ≡ true)))
        (λ l n k.
        let kept = keep_at (moves (properties_at t l)) (transitions t) r k in
        (kept.0, any_at (λ c. member c (properties_at t l)) (moved r) kept.1))
        s m

    -- the rules of a space move its properties alone
    pub moved_in_space : (r : Transition) → Memᴰ r s.rules → (c : ℕ) → Memᴰ c (moved r) → member c s.properties ≡ true
    moved_in_space r k c j =
        let known = rules_of_space r k in
        (rule_in_one_space r known.0 known.1.0 known.1.1 known.1.2).0 c j

    -- the enablers of its rules are properties of the task
    enabler_known : (r : Transition) → Memᴰ r s.rules → (c : ℕ) → Memᴰ c (support r.enablers) → c < length (properties t)
    enabler_known r k c j =
        subst (λ (n : ℕ). c < n) (transitions_sized t r (rules_of_space r k).0).enablers (support_at_lem r.enablers c j).0

    -- an object that a rule of a space admits is a member
    pub closing_closed : (r : Transition) → Memᴰ r s.rules → (o : ℕ) → o < t.objects
        → admits (spaces t) o r ≡ true → member o s.members ≡ true
    unfolding round gain
    closing_closed r k o h e =
        let fixed : gain t (spaces t) s ≡ s = map_fixed (gain t (spaces t)) (spaces t) (closing_fixed t) s m in
        sym (ap (λ (u : Space). member o u.members) fixed)
        ∙ member_keep_up_to (λ x. member x s.members || any (admits (spaces t) x) s.rules) t.objects o h
        ∙ or_right (member o s.members) (any (admits (spaces t) o) s.rules) (any_intro (admits (spaces t) o) s.rules r k e)

    -- an object that is in the space of each enabler of an increasing rule of a space is a member
    pub increasing_members : (r : Transition) → Memᴰ r s.rules → is_empty r.start ≡ true → (o : ℕ) → o < t.objects
        → ((c : ℕ) → Memᴰ c (support r.enablers) → (u : Space) → Memᴰ u (spaces t)
        → member c u.properties ≡ true → member o u.members ≡ true)
        → member o s.members ≡ true
    unfolding admits
    increasing_members r k e o h enabled =
        closing_closed r k o h
        (and_intro (is_empty r.start) (all (has_member (spaces t) o) (support r.enablers)) e
        (all_intro (has_member (spaces t) o) (support r.enablers) (λ c j. has_member_lem o c (enabler_known r k c j) (enabled c j))))

    -- an object with a nonempty initial condition is a member
    pub initial_members : (o : ℕ) → o < t.objects → is_empty (condition t s.properties t.facts o) ≡ false
        → member o s.members ≡ true
    unfolding space_with belongs opens
    initial_members o h =
        of_labels (λ u. is_empty (condition t u.properties t.facts o) ≡ false → member o u.members ≡ true)
        (λ l k e.
        member_keep_up_to (λ x. belongs t x l) t.objects o h
        ∙ repeat_adds (step t) (step_adds t) (length (labels t)) (opens t o) l
        (to_not_true (is_empty (condition t (properties_at t l) t.facts o)) e))
        s m

    -- members are objects of the task in their order
    pub members_in_order : InOrder t.objects s.members
    unfolding space_with
    members_in_order = of_labels (λ u. InOrder t.objects u.members) (λ l k. kept_in_order (λ o. belongs t o l) t.objects) s m

    -- a space whose rules all have a start has the initial members alone
    fixed_members : ((r : Transition) → Memᴰ r s.rules → is_empty r.start ≡ false) → (o : ℕ) → member o s.members ≡ true
        → is_empty (condition t s.properties t.facts o) ≡ false
    unfolding space_with belongs opens step admitted
    fixed_members started o =
        of_labels
        (λ u. ((r : Transition) → Memᴰ r u.rules → is_empty r.start ≡ false) → member o u.members ≡ true
        → is_empty (condition t u.properties t.facts o) ≡ false)
        (λ l k starts e.
        let leaves : (f : ℕ → Bool) → step t f l ≡ f l =
        λ f.
        or_neutral (f l) (any (admitted t f) (rules_at t l))
        (any_false (admitted t f) (rules_at t l) (λ r j. and_false_left (is_empty r.start) _ (starts r j))) in
        not-true (is_empty (condition t (properties_at t l) t.facts o))
        (sym (repeat_leaves (step t) l leaves (length (labels t)) (opens t o))
        ∙ sym (member_keep_up_to (λ x. belongs t x l) t.objects o (kept_below (λ x. belongs t x l) t.objects o e)) ∙ e))
        s m started

    -- so have property spaces and static spaces
    pub property_space_members : kind_of s.rules ≡ property → (o : ℕ) → member o s.members ≡ true
        → is_empty (condition t s.properties t.facts o) ≡ false
    property_space_members kind = fixed_members (λ r k. (property_rules s.rules kind r k).0)

    pub static_space_members : kind_of s.rules ≡ static → (o : ℕ) → member o s.members ≡ true
        → is_empty (condition t s.properties t.facts o) ≡ false
    static_space_members kind =
        fixed_members (λ r k. absurd (mathlib.Core.List.Memᴰ.not-nil (subst (Memᴰ r) (static_rules s.rules kind) k)))
