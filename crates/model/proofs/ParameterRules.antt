-- The rules that a parameter of a schema gives: its exchanges, and the remaining rule or the increasing ones.
use Prim.Native.Nat.{ℕ, ◌<◌}
use native.Mathlib.Omega.{arith}
use mathlib.Core.Path.{◌≡◌, refl, sym, ◌∙◌, subst}
use mathlib.Core.Bool.{true, false}
use mathlib.Core.List.Memᴰ
use mathlib.Core.List.{List, [], ◌∷◌, map, Memᴰ}
use lib.ListN.{length, get_or, length-map}
use Rattle.laws.specs.Lists.{up_to}
use Rattle.laws.specs.Bags.{Bag, plus, less, meet, is_empty, single, support}
use Rattle.laws.proofs.Tests.{cond_true, cond_false}
use Rattle.laws.proofs.Lists.{flat_map_intro, up_to_intro}
use Rattle.laws.proofs.Bags.{length_plus, length_less, length_meet, get_d_plus, support_intro}
use Rattle.model.specs.Card.{Atom, Task, Schema}
use Rattle.model.specs.Transitions.{Transition, properties, bag_of, exchanges, remaining, rules_of, parameter_rules, transitions}
use Rattle.model.specs.Spaces.{moved}

-- a bag of atoms is over all properties
pub length_bag_of : (t : Task) (atoms : List Atom) (x : ℕ) → length (bag_of (properties t) atoms x) ≡ length (properties t)
unfolding bag_of
length_bag_of t atoms x = length-map (properties t) _

-- a property that a rule starts or finishes with is moved by it
pub moved_start : (n : ℕ) (r : Transition) → length r.start ≡ n → length r.finish ≡ n → (c : ℕ) → c < n
    → 0 < get_or r.start c 0 → Memᴰ c (moved r)
unfolding moved
moved_start n r ls lf c h k =
    let l = length_plus n r.start r.finish ls lf in
    let g = get_d_plus r.start r.finish (ls ∙ sym lf) c in
    support_intro (plus r.start r.finish) c (omega arith) (omega arith)

pub moved_finish : (n : ℕ) (r : Transition) → length r.start ≡ n → length r.finish ≡ n → (c : ℕ) → c < n
    → 0 < get_or r.finish c 0 → Memᴰ c (moved r)
unfolding moved
moved_finish n r ls lf c h k =
    let l = length_plus n r.start r.finish ls lf in
    let g = get_d_plus r.start r.finish (ls ∙ sym lf) c in
    support_intro (plus r.start r.finish) c (omega arith) (omega arith)

-- P, D and A of a parameter, and X, what D and A have in common
module _ (t : Task) (s : Schema) (k : ℕ) where
  abbrev pub needed : Bag
  needed = bag_of (properties t) s.preconditions k

  abbrev pub deleted : Bag
  deleted = bag_of (properties t) s.deletes k

  abbrev pub added : Bag
  added = bag_of (properties t) s.adds k

  abbrev pub common : Bag
  common = meet deleted added

  -- all of them are over all properties
  pub length_common : length common ≡ length (properties t)
  length_common = length_meet (length (properties t)) deleted added (length_bag_of t s.deletes k) (length_bag_of t s.adds k)

  pub length_start : length (less deleted common) ≡ length (properties t)
  length_start = length_less (length (properties t)) deleted common (length_bag_of t s.deletes k) length_common

  pub length_finish : length (less added common) ≡ length (properties t)
  length_finish = length_less (length (properties t)) added common (length_bag_of t s.adds k) length_common

  -- the rules
  abbrev pub exchange_rule : ℕ → Transition
  exchange_rule c =
      record {
        enablers = less needed (single (length needed) c);
        start = single (length needed) c;
        finish = single (length needed) c;
      }

  abbrev pub rest_rule : Transition
  rest_rule =
      record {
        enablers = less needed (less deleted common);
        start = less deleted common;
        finish = less added common;
      }

  abbrev pub increasing_rule : ℕ → Transition
  increasing_rule c =
      record {
        enablers = less needed (less deleted common);
        start = less deleted common;
        finish = single (length needed) c;
      }

  module _ (named : Memᴰ s t.schemas) (below : k < s.parameters) where
    -- a rule of the parameter is a rule of the task
    of_task : (r : Transition) → Memᴰ r (parameter_rules t s k) → Memᴰ r (transitions t)
    unfolding transitions
    of_task r m =
        flat_map_intro _ t.schemas s r named (flat_map_intro (parameter_rules t s) (up_to s.parameters) k r (up_to_intro s.parameters k below) m)

    pub exchange_there : (c : ℕ) → c < length (properties t) → 0 < get_or common c 0 → Memᴰ (exchange_rule c) (transitions t)
    unfolding parameter_rules rules_of exchanges
    exchange_there c h x =
        of_task (exchange_rule c)
        (Memᴰ.append_left (remaining needed (less deleted common) (less added common))
        (Memᴰ.map
        (λ c.
        record {
          enablers = less needed (single (length needed) c);
          start = single (length needed) c;
          finish = single (length needed) c;
        })
        (support_intro common c (subst (λ (n : ℕ). c < n) (sym length_common) h) x)))

    pub rest_there : is_empty (less deleted common) ≡ false → Memᴰ rest_rule (transitions t)
    unfolding parameter_rules rules_of remaining
    rest_there e =
        of_task rest_rule
        (Memᴰ.append_right (exchanges needed common)
        (subst (λ (rules : List Transition). Memᴰ rest_rule rules)
        (sym (cond_false (is_empty (less deleted common)) _ (rest_rule ∷ []) e))
        (Memᴰ.head refl)))

    pub increasing_there : is_empty (less deleted common) ≡ true → (c : ℕ) → c < length (properties t)
        → 0 < get_or (less added common) c 0 → Memᴰ (increasing_rule c) (transitions t)
    unfolding parameter_rules rules_of remaining
    increasing_there e c h x =
        of_task (increasing_rule c)
        (Memᴰ.append_right (exchanges needed common)
        (subst (λ (rules : List Transition). Memᴰ (increasing_rule c) rules)
        (sym (cond_true (is_empty (less deleted common)) (map increasing_rule (support (less added common))) _ e))
        (Memᴰ.map increasing_rule (support_intro (less added common) c (subst (λ (n : ℕ). c < n) (sym length_finish) h) x))))
