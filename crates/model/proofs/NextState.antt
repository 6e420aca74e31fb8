-- The number of facts after an action, and with it 20: the deletes were there and go, and of the adds those come that were not there.
use Prim.Native.Nat.{ℕ, ◌+◌, ◌-◌, ◌≤◌}
use native.Mathlib.Omega.{arith}
use mathlib.Core.Path.{◌≡◌, refl, sym, ap, ◌∙◌}
use mathlib.Core.Bool.{Bool, true, false, not, ◌&&◌}
use mathlib.Core.Option.{none}
use mathlib.Core.List.Memᴰ
use mathlib.Core.List.{List, map, Memᴰ}
use lib.Dec.{leb}
use lib.ListN.{length, length-map}
use borrow.Author.Tests.{leb-true, le-leb}
use Rattle.laws.specs.Lists.{keep, count, distinct}
use Rattle.laws.proofs.Tests.{never, not-true, to_not_true, and_neutral, same_test}
use Rattle.laws.proofs.Lists.{all_at, keep_at, keep_intro, length_keep, count_ext}
use Rattle.laws.proofs.Counting.{count_all, count_both, count_map}
use Rattle.model.specs.Answer.{accepted}
use Rattle.model.specs.Card.{Atom, Schema, has}
use Rattle.model.specs.Strips.{State, most_facts, ascending, ground, applicable, taken_out, put_in, successor, limited, progress}
use Rattle.model.specs.Open.{is_accepted}
use Rattle.model.proofs.Answers.{accepted_both}
use Rattle.model.proofs.Order.{has_at, has_intro, has_none}
use Rattle.model.proofs.Checked.{CheckedSchema}
use Rattle.model.proofs.Binding.{ground_injective}
use Rattle.model.proofs.Effect.{Ready, kept_facts, absorbed_facts, ready_change, checked_ready}

-- the adds that are not in the state
abbrev pub new_facts : Schema → List ℕ → State → ℕ
new_facts schema objects s = count (λ a. not (has s (ground objects a))) schema.adds

module _ {arities : List ℕ} {schema : Schema} (lists : CheckedSchema arities schema) {objects : List ℕ} {s : State} (ready : Ready schema objects s) where
  -- no add is taken out: the deletes are preconditions, and the adds are none
  pub add_stays : (a : Atom) → Memᴰ a schema.adds → has (taken_out schema objects) (ground objects a) ≡ false
  unfolding taken_out
  add_stays a m = has_none (map (ground objects) schema.deletes) (ground objects a) (λ k.
      let (d, deleted, is) = Memᴰ.of_map (ground objects) schema.deletes k in
      let same = ground_injective objects ready.different d a (ready.deletes.bound d deleted) (ready.adds.bound a m) is in
      never (sym (all_at _ schema.deletes lists.deletes_right.atoms_pass d deleted)
      ∙ ap (has schema.preconditions) same
      ∙ not-true (has schema.preconditions a) (all_at _ schema.adds lists.adds_right.atoms_pass a m)))

  -- so an add is among the facts that are kept exactly if it is in the state
  add_kept : (a : Atom) → Memᴰ a schema.adds → has (kept_facts schema objects s) (ground objects a) ≡ has s (ground objects a)
  unfolding kept_facts
  add_kept a m =
      same_test (has kept (ground objects a)) (has s (ground objects a))
      (λ e. has_intro s (ground objects a) (keep_at stays s (ground objects a) (has_at kept (ground objects a) e)).0)
      (λ e.
      has_intro kept (ground objects a)
      (keep_intro stays s (ground objects a) (has_at s (ground objects a) e) (to_not_true (has (taken_out schema objects) (ground objects a)) (add_stays a m))))
    where
      stays : Atom → Bool
      stays f = not (has (taken_out schema objects) f)

      kept : State
      kept = keep stays s

  -- the number of facts after the action
  pub ready_size : length (successor schema objects s) + length schema.deletes ≡ length s + new_facts schema objects s
  unfolding absorbed_facts put_in
  ready_size =
      let change = ready_change (λ f. true) schema objects s ready in
      let next = count_all (successor schema objects s) in
      let was = count_all s in
      let kept = count_all (kept_facts schema objects s) in
      let absorbed = count_all (absorbed_facts schema objects s) ∙ length_keep (has (kept_facts schema objects s)) (map (ground objects) schema.adds)
      ∙ count_map (has (kept_facts schema objects s)) (ground objects) schema.adds
      ∙ count_ext _ (λ a. has s (ground objects a)) schema.adds add_kept in
      let deletes = count_all (map (ground objects) schema.deletes) ∙ length-map schema.deletes (ground objects) in
      let adds = count_all (map (ground objects) schema.adds) ∙ length-map schema.adds (ground objects) in
      let both = count_both (λ a. has s (ground objects a)) schema.adds in
      omega (arith, change.removed, change.joined)

-- the number of facts after a schema of an accepted task is applied to a state that allows it
pub next_state_size : {arities : List ℕ} {schema : Schema} → CheckedSchema arities schema → (objects : List ℕ) (s : State)
    → ascending none s ≡ true → length objects ≡ schema.parameters → distinct objects ≡ true → applicable schema objects s ≡ true
    → length (successor schema objects s) + length schema.deletes ≡ length s + new_facts schema objects s
next_state_size lists objects s in_order complete different holds =
    ready_size lists (checked_ready lists objects s in_order complete different holds)

-- the next state is not too large exactly if there is room for the new facts
fits_by_room : (next deletes was new : ℕ) → was ≤ most_facts → next + deletes ≡ was + new
    → leb next most_facts ≡ leb new (most_facts + deletes - was)
fits_by_room next deletes was new few size =
    same_test (leb next most_facts) (leb new (most_facts + deletes - was))
    (λ e. let h = leb-true next most_facts e in le-leb new (most_facts + deletes - was) (omega arith))
    (λ e. let h = leb-true new (most_facts + deletes - was) e in le-leb next most_facts (omega arith))

-- 19 and 20 by counting: every precondition is in the state, and no more adds are new than there is room for
pub progress_by_room : {arities : List ℕ} {schema : Schema} → CheckedSchema arities schema → (objects : List ℕ) (s : State)
    → ascending none s ≡ true → length s ≤ most_facts → length objects ≡ schema.parameters → distinct objects ≡ true
    → is_accepted (progress schema objects s)
    ≡ (applicable schema objects s && leb (new_facts schema objects s) (most_facts + length schema.deletes - length s))
unfolding progress limited is_accepted
progress_by_room {arities} {schema} lists objects s in_order few complete different =
    accepted_both (applicable schema objects s) 19 (limited (successor schema objects s))
    ∙ go (applicable schema objects s) (next_state_size lists objects s in_order complete different)
  where
    go : (b : Bool) → (b ≡ true → length (successor schema objects s) + length schema.deletes ≡ length s + new_facts schema objects s)
        → (b && is_accepted (limited (successor schema objects s)))
        ≡ (b && leb (new_facts schema objects s) (most_facts + length schema.deletes - length s))
    go true size =
        accepted_both (leb (length (successor schema objects s)) most_facts) 20 (accepted (successor schema objects s))
        ∙ and_neutral (leb (length (successor schema objects s)) most_facts)
        ∙ fits_by_room (length (successor schema objects s)) (length schema.deletes) (length s) (new_facts schema objects s) few (size refl)
    go false size = refl
