-- Parts of spaces (document 02, No. 5): a space of a task, or what is left of one when properties are dropped.
use Prim.Native.Nat.{ℕ, ◌<◌}
use mathlib.Core.Path.{◌≡◌, sym, ap, ◌∙◌, subst}
use mathlib.Core.Bool.{Bool, true, false, not, ◌||◌}
use mathlib.Core.List.Memᴰ
use mathlib.Core.List.{List, Memᴰ}
use lib.Dec.{eqb}
use lib.ListN.{length}
use Rattle.laws.specs.Lists.{any, keep, member, distinct}
use Rattle.laws.specs.Bags.{Bag, is_empty, support, restrict}
use Rattle.laws.proofs.Tests.{never, or_false_left, or_false_right, to_not_true}
use Rattle.laws.proofs.Lists.{any_at, any_intro, any_none, keep_at, keep_intro, member_at, member_intro}
use Rattle.laws.proofs.Mapped.{keep_narrow}
use Rattle.laws.proofs.Numbers.{InOrder, keep_in_order, in_order_below, in_order_distinct}
use Rattle.laws.proofs.Bags.{is_empty_not, restrict_is_empty}
use Rattle.laws.proofs.Restricted.{restrict_some, restrict_one}
use Rattle.model.specs.Card.{Task}
use Rattle.model.specs.Transitions.{Transition, properties, bag_of, transitions}
use Rattle.model.specs.Spaces.{Space, property, moved, moves, condition, spaces, kind_of}
use Rattle.model.specs.Extension.{Move}
use Rattle.model.specs.Analysis.{moves_of}
use Rattle.model.specs.Rescue.{without_hidden, narrowed, lost}
use Rattle.model.proofs.Grouping.{transitions_sized}
use Rattle.model.proofs.ParameterRules.{moved_start, moved_finish}
use Rattle.model.proofs.SpaceFacts.{properties_in_order, rules_moving, members_in_order, initial_members, rules_of_space, moved_in_space}
use Rattle.model.proofs.SpaceFacts.{property_rules, increasing_members}

-- Properties of the task in their order, all rules that move one of them, and objects of the task in their order, among them all that
-- open with one of the properties.
pub record Part (t : Task) (u : Space) : Type 0 where
  pub in_order : InOrder (length (properties t)) u.properties
  pub rules_are : u.rules ≡ keep (moves u.properties) (transitions t)
  pub members_in_order : InOrder t.objects u.members
  pub opens : (o : ℕ) → o < t.objects → is_empty (condition t u.properties t.facts o) ≡ false → member o u.members ≡ true

-- Its rules have a start and a finish in it.
pub record TwoSided (u : Space) : Type 0 where
  pub sides : (m : Move) → Memᴰ m (moves_of u) → (is_empty m.start ≡ false) × (is_empty m.finish ≡ false)

-- a rule of a part is a rule of the task, and one that moves a property of the part is its own
pub rule_of_task : {t : Task} {u : Space} → Part t u → (r : Transition) → Memᴰ r u.rules → Memᴰ r (transitions t)
rule_of_task {t} {u} p r k = (keep_at (moves u.properties) (transitions t) r (subst (Memᴰ r) p.rules_are k)).0

pub own_rule : {t : Task} {u : Space} → Part t u → (r : Transition) → Memᴰ r (transitions t) → (c : ℕ) → Memᴰ c (moved r)
    → member c u.properties ≡ true → Memᴰ r u.rules
unfolding moves
own_rule {t} {u} p r k c j h =
    subst (Memᴰ r) (sym p.rules_are)
    (keep_intro (moves u.properties) (transitions t) r k (any_intro (λ d. member d u.properties) (moved r) c j h))

-- the move that a rule of a space is over the space's properties
pub own_move : (u : Space) (r : Transition) → Memᴰ r u.rules
    → Memᴰ (record { start = restrict u.properties r.start; finish = restrict u.properties r.finish }) (moves_of u)
unfolding moves_of
own_move u r k = Memᴰ.map (λ r. record { start = restrict u.properties r.start; finish = restrict u.properties r.finish }) k

-- properties are the task's and distinct, and members are objects of the task and distinct
module _ {t : Task} {u : Space} (p : Part t u) where
  pub known_properties : (c : ℕ) → member c u.properties ≡ true → c < length (properties t)
  known_properties c h = in_order_below (length (properties t)) u.properties p.in_order c (member_at c u.properties h)

  pub distinct_properties : distinct u.properties ≡ true
  distinct_properties = in_order_distinct (length (properties t)) u.properties p.in_order

  pub known_members : (o : ℕ) → member o u.members ≡ true → o < t.objects
  known_members o h = in_order_below t.objects u.members p.members_in_order o (member_at o u.members h)

  pub distinct_members : distinct u.members ≡ true
  distinct_members = in_order_distinct t.objects u.members p.members_in_order

-- a bag that has something over some properties has something over more
more_properties : (some all : List ℕ) (b : Bag) → ((c : ℕ) → Memᴰ c some → Memᴰ c all) → is_empty (restrict some b) ≡ false
    → is_empty (restrict all b) ≡ false
more_properties some all b among e = let r = restrict_one some b e in restrict_some all b r.0 (among r.0 r.1) r.2

-- ---- a space of the task

pub space_part : (t : Task) (u : Space) → Memᴰ u (spaces t) → Part t u
space_part t u m =
    record {
      in_order = properties_in_order t u m;
      rules_are = rules_moving t u m;
      members_in_order = members_in_order t u m;
      opens = initial_members t u m;
    }

-- what a rule of a space starts with is in the space, and so is what it finishes with
module _ (t : Task) (u : Space) (m : Memᴰ u (spaces t)) (r : Transition) (k : Memᴰ r u.rules) where
  moved_inside : (c : ℕ) → Memᴰ c (moved r) → Memᴰ c u.properties
  moved_inside c j = member_at c u.properties (moved_in_space t u m r k c j)

  start_inside : is_empty r.start ≡ false → is_empty (restrict u.properties r.start) ≡ false
  start_inside e =
      let sized = transitions_sized t r (rules_of_space t u m r k).0 in
      let s = is_empty_not r.start e in
      let low = subst (λ (n : ℕ). s.0 < n) sized.start s.1 in
      restrict_some u.properties r.start s.0
      (moved_inside s.0 (moved_start (length (properties t)) r sized.start sized.finish s.0 low s.2))
      s.2

  finish_inside : is_empty r.finish ≡ false → is_empty (restrict u.properties r.finish) ≡ false
  finish_inside e =
      let sized = transitions_sized t r (rules_of_space t u m r k).0 in
      let f = is_empty_not r.finish e in
      let low = subst (λ (n : ℕ). f.0 < n) sized.finish f.1 in
      restrict_some u.properties r.finish f.0
      (moved_inside f.0 (moved_finish (length (properties t)) r sized.start sized.finish f.0 low f.2))
      f.2

-- the rules of a property space have both sides, and all their properties are in it
pub property_two_sided : (t : Task) (u : Space) → Memᴰ u (spaces t) → kind_of u.rules ≡ property → TwoSided u
unfolding moves_of
property_two_sided t u m kind = record { sides = of_rules }
  where
    of_rules : (v : Move) → Memᴰ v (moves_of u) → (is_empty v.start ≡ false) × (is_empty v.finish ≡ false)
    of_rules v k =
        let p = Memᴰ.of_map (λ r. record { start = restrict u.properties r.start; finish = restrict u.properties r.finish }) u.rules k in
        let whole = property_rules u.rules kind p.0 p.1 in
        subst (λ (x : Move). (is_empty x.start ≡ false) × (is_empty x.finish ≡ false)) p.2
        (start_inside t u m p.0 p.1 whole.0, finish_inside t u m p.0 p.1 whole.1)

-- ---- what is left of a part

module _ {t : Task} {u : Space} (p : Part t u) (hidden : List ℕ) where
  abbrev left : List ℕ
  left = without_hidden hidden u.properties

  among : (c : ℕ) → Memᴰ c left → Memᴰ c u.properties
  unfolding without_hidden
  among c k = (keep_at (λ d. not (member d hidden)) u.properties c k).0

  narrower : (r : Transition) → moves left r ≡ true → moves u.properties r ≡ true
  unfolding moves
  narrower r e =
      let k = any_at (λ c. member c left) (moved r) e in
      any_intro (λ c. member c u.properties) (moved r) k.0 k.1
      (member_intro k.0 u.properties (among k.0 (member_at k.0 left k.2)))

  pub narrowed_part : Part t (narrowed t u (without_hidden hidden u.properties))
  unfolding narrowed condition without_hidden
  narrowed_part =
      record {
        in_order = ordered;
        rules_are = ap (keep (moves left)) p.rules_are ∙ keep_narrow (moves u.properties) (moves left) (transitions t) narrower;
        members_in_order = keep_in_order opening t.objects u.members p.members_in_order;
        opens =
            λ o h e.
            member_intro o (keep opening u.members)
            (keep_intro opening u.members o
            (member_at o u.members (p.opens o h (more_properties left u.properties (bag_of (properties t) t.facts o) among e)))
            (to_not_true (is_empty (condition t left t.facts o)) e));
      }
    where
      opening : ℕ → Bool
      opening o = not (is_empty (condition t left t.facts o))

      ordered : InOrder (length (properties t)) left
      ordered = keep_in_order (λ c. not (member c hidden)) (length (properties t)) u.properties p.in_order

-- where it is not lost, its rules have both sides
pub left_two_sided : (u : Space) → lost u ≡ false → TwoSided u
unfolding lost
left_two_sided u e =
    let is_one_sided : Move → Bool = λ m. is_empty m.start || is_empty m.finish in
    let none = or_false_right (eqb 0 (length u.properties)) (any is_one_sided (moves_of u)) e in
    record {
      sides = λ m k.
          let both = any_none is_one_sided (moves_of u) none m k in
          (or_false_left (is_empty m.start) (is_empty m.finish) both, or_false_right (is_empty m.start) (is_empty m.finish) both);
    }

-- ---- who is outside stays outside

-- A part that nobody enters from outside: a rule with a start has some of its start inside, so that whom it moves was a member; and whoever
-- is in the space of each enabler of a rule without a start is a member already.
pub record Enclosed (t : Task) (u : Space) : Type 0 where
  pub part : Part t u
  pub starts_inside :
      (r : Transition) → Memᴰ r u.rules → is_empty r.start ≡ false → is_empty (restrict u.properties r.start) ≡ false
  pub admits_members :
      (r : Transition) → Memᴰ r u.rules → is_empty r.start ≡ true → (o : ℕ) → o < t.objects
      → ((c : ℕ) → Memᴰ c (support r.enablers) → (v : Space) → Memᴰ v (spaces t) → member c v.properties ≡ true
      → member o v.members ≡ true)
      → member o u.members ≡ true

-- such is every space of the task, of whatever kind
pub space_enclosed : (t : Task) (u : Space) → Memᴰ u (spaces t) → Enclosed t u
space_enclosed t u m =
    record { part = space_part t u m; starts_inside = start_inside t u m; admits_members = increasing_members t u m }

-- and every part whose rules have both sides: it has no rule without a start
pub two_sided_enclosed : {t : Task} {u : Space} → Part t u → TwoSided u → Enclosed t u
two_sided_enclosed {u = u} p two =
    record {
      part = p;
      starts_inside = λ r k e. (two.sides _ (own_move u r k)).0;
      admits_members =
          λ r k e o h enabled. never (sym (restrict_is_empty u.properties r.start e) ∙ (two.sides _ (own_move u r k)).0);
    }
