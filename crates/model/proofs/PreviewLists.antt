-- The two lists of a preview, where the state allows the action.
--
-- going_sorted, coming_sorted: the facts that go are the ground deletes, put in order; those that come are the ground adds that are not in
-- the state, put in order.
-- going_is, coming_is: a fact goes exactly if it is in the state and not in the next one; it comes exactly if it is in the next one and
-- not in the state.
use Prim.Native.Nat.{ℕ, ◌+◌, ◌≤◌}
use native.Mathlib.Nat.{le_antisymm}
use native.Mathlib.Omega.{arith}
use mathlib.Core.Path.{◌≡◌, refl, sym, ◌∙◌, subst}
use mathlib.Core.Bool.{true, false, not}
use mathlib.Core.Logic.{◌⊎◌, ◌↔◌, ⊎_elim}
use mathlib.Core.Option.{none}
use mathlib.Core.List.Memᴰ
use mathlib.Core.List.{List, [], Memᴰ}
use lib.ListN.{length, length-map}
use Rattle.laws.specs.Lists.{keep, distinct}
use Rattle.laws.proofs.Tests.{never, not-true, to_not_true, by_test}
use Rattle.laws.proofs.Lists.{keep_at, keep_intro, length_keep}
use Rattle.laws.proofs.Counting.{NoRepeat, count_most, count_map, no_repeat_keep, no_repeat_length}
use Rattle.model.specs.Card.{Atom, Schema, has}
use Rattle.model.specs.Strips.{State, ascending, ground, applicable, taken_out, put_in, successor}
use Rattle.model.specs.Preview.{going, coming}
use Rattle.model.proofs.Order.{has_at, has_intro, has_none, ascending_no_repeat, ascending_unique}
use Rattle.model.proofs.Checked.{CheckedSchema}
use Rattle.model.proofs.States.{keep_ascending}
use Rattle.model.proofs.Putting.{put_all, put_all_ascending, put_all_stays, put_all_there, put_all_at}
use Rattle.model.proofs.Effect.{Ready, kept_facts, checked_ready}
use Rattle.model.proofs.NextState.{new_facts, add_stays, ready_size}

-- the ground adds that are not in the state
abbrev pub newly_put_in : Schema → List ℕ → State → List Atom
newly_put_in schema objects s = keep (λ f. not (has s f)) (put_in schema objects)

-- the facts of the next state: those that are kept, and the adds
module _ (schema : Schema) (objects : List ℕ) (s : State) (f : Atom) where
  next_at : Memᴰ f (successor schema objects s) → Memᴰ f (kept_facts schema objects s) ⊎ Memᴰ f (put_in schema objects)
  unfolding successor kept_facts
  next_at m = put_all_at (kept_facts schema objects s) (put_in schema objects) f m

  next_kept : Memᴰ f s → has (taken_out schema objects) f ≡ false → Memᴰ f (successor schema objects s)
  unfolding successor kept_facts
  next_kept m e =
      put_all_stays (kept_facts schema objects s) (put_in schema objects) f
      (keep_intro (λ f. not (has (taken_out schema objects) f)) s f m (to_not_true (has (taken_out schema objects) f) e))

  next_added : Memᴰ f (put_in schema objects) → Memᴰ f (successor schema objects s)
  unfolding successor kept_facts
  next_added m = put_all_there (kept_facts schema objects s) (put_in schema objects) f m

  kept_at : Memᴰ f (kept_facts schema objects s) → Memᴰ f s × (has (taken_out schema objects) f ≡ false)
  unfolding kept_facts
  kept_at m =
      let (there, stays) = keep_at (λ f. not (has (taken_out schema objects) f)) s f m in
      (there, not-true (has (taken_out schema objects) f) stays)

-- two lists that repeat nothing and have the same elements are of one length
same_length : {A : Type 0} (xs ys : List A) → NoRepeat xs → NoRepeat ys → ((x : A) → Memᴰ x xs ↔ Memᴰ x ys) → length xs ≡ length ys
same_length xs ys p q alike = le_antisymm (no_repeat_length xs ys p (λ x. (alike x).0)) (no_repeat_length ys xs q (λ x. (alike x).1))

-- an ascending list is the facts put in order that it has
sorted : (s : State) (atoms : List Atom) → ascending none s ≡ true → ((f : Atom) → Memᴰ f s ↔ Memᴰ f atoms) → s ≡ put_all [] atoms
unfolding ascending
sorted s atoms e alike =
    ascending_unique s (put_all [] atoms) e (put_all_ascending [] atoms refl)
    (λ f m. put_all_there [] atoms f ((alike f).0 m))
    (λ f m. ⊎_elim (λ k. absurd (Memᴰ.not-nil k)) (λ k. (alike f).1 k) (put_all_at [] atoms f m))

module _ {arities : List ℕ} {schema : Schema} (lists : CheckedSchema arities schema) (objects : List ℕ) (s : State)
    (in_order : ascending none s ≡ true) (complete : length objects ≡ schema.parameters) (different : distinct objects ≡ true)
    (holds : applicable schema objects s ≡ true) where
  ready : Ready schema objects s
  ready = checked_ready lists objects s in_order complete different holds

  next_ascends : ascending none (successor schema objects s) ≡ true
  unfolding successor
  next_ascends = put_all_ascending _ (put_in schema objects) (keep_ascending (λ f. not (has (taken_out schema objects) f)) none s in_order)

  -- ---- the facts that go

  pub going_ascends : ascending none (going schema objects s) ≡ true
  unfolding going
  going_ascends = keep_ascending (has (taken_out schema objects)) none s in_order

  -- all that are taken out
  pub going_taken : (f : Atom) → Memᴰ f (going schema objects s) ↔ Memᴰ f (taken_out schema objects)
  unfolding going taken_out
  going_taken f = (
    λ m. has_at (taken_out schema objects) f (keep_at (has (taken_out schema objects)) s f m).1,
    λ m. keep_intro (has (taken_out schema objects)) s f (ready.deletes_hold f m) (has_intro (taken_out schema objects) f m),
  )

  pub going_sorted : going schema objects s ≡ put_all [] (taken_out schema objects)
  going_sorted = sorted (going schema objects s) (taken_out schema objects) going_ascends going_taken

  pub going_size : length (going schema objects s) ≡ length schema.deletes
  unfolding taken_out
  going_size =
      same_length (going schema objects s) (taken_out schema objects) (ascending_no_repeat none _ going_ascends) ready.deletes.once going_taken
      ∙ length-map schema.deletes (ground objects)

  pub few_going : length (going schema objects s) ≤ 8
  few_going = let few = lists.deletes_right.few in let size = going_size in omega arith

  -- no fact that is put in is taken out
  added_stays : (f : Atom) → Memᴰ f (put_in schema objects) → has (taken_out schema objects) f ≡ false
  unfolding put_in
  added_stays f m =
      let (a, added, is) = Memᴰ.of_map (ground objects) schema.adds m in
      subst (λ (g : Atom). has (taken_out schema objects) g ≡ false) is (add_stays lists ready a added)

  -- exactly those that are in the state and not in the next one
  pub going_is : (f : Atom)
      → Memᴰ f (going schema objects s) ↔ (Memᴰ f s × (Memᴰ f (successor schema objects s) → ⊥))
  unfolding going
  going_is f = (
    λ m.
        let (there, taken) = keep_at (has (taken_out schema objects)) s f m in (
          there,
          λ k.
              ⊎_elim (λ j. never (sym taken ∙ (kept_at schema objects s f j).1)) (λ j. never (sym taken ∙ added_stays f j)) (next_at schema objects s f k),
        ),
    λ (there, gone).
        by_test (has (taken_out schema objects) f)
        (λ taken. keep_intro (has (taken_out schema objects)) s f there taken)
        (λ stays. absurd (gone (next_kept schema objects s f there stays))),
  )

  -- ---- the facts that come

  pub coming_ascends : ascending none (coming schema objects s) ≡ true
  unfolding coming
  coming_ascends = keep_ascending (λ f. not (has s f)) none (successor schema objects s) next_ascends

  -- exactly those that are in the next state and not in this one
  pub coming_is : (f : Atom)
      → Memᴰ f (coming schema objects s) ↔ (Memᴰ f (successor schema objects s) × (Memᴰ f s → ⊥))
  unfolding coming
  coming_is f = (
    λ m.
        let (there, new) = keep_at (λ f. not (has s f)) (successor schema objects s) f m in
        (there, λ k. never (sym (has_intro s f k) ∙ not-true (has s f) new)),
    λ (there, new). keep_intro (λ f. not (has s f)) (successor schema objects s) f there (to_not_true (has s f) (has_none s f new)),
  )

  -- all that are newly put in
  pub coming_new : (f : Atom) → Memᴰ f (coming schema objects s) ↔ Memᴰ f (newly_put_in schema objects s)
  coming_new f = (
    λ m.
        let (there, new) = (coming_is f).0 m in
        ⊎_elim (λ k. absurd (new (kept_at schema objects s f k).0))
        (λ k. keep_intro (λ f. not (has s f)) (put_in schema objects) f k (to_not_true (has s f) (has_none s f new)))
        (next_at schema objects s f there),
    λ m.
        let (added, new) = keep_at (λ f. not (has s f)) (put_in schema objects) f m in
        (coming_is f).1 (next_added schema objects s f added, λ k. never (sym (has_intro s f k) ∙ not-true (has s f) new)),
  )

  pub coming_sorted : coming schema objects s ≡ put_all [] (keep (λ f. not (has s f)) (put_in schema objects))
  coming_sorted = sorted (coming schema objects s) (newly_put_in schema objects s) coming_ascends coming_new

  pub coming_size : length (coming schema objects s) ≡ new_facts schema objects s
  unfolding put_in
  coming_size =
      same_length (coming schema objects s) (newly_put_in schema objects s) (ascending_no_repeat none _ coming_ascends)
      (no_repeat_keep (λ f. not (has s f)) (put_in schema objects) ready.adds.once) coming_new
      ∙ length_keep (λ f. not (has s f)) (put_in schema objects)
      ∙ count_map (λ f. not (has s f)) (ground objects) schema.adds

  pub few_coming : length (coming schema objects s) ≤ 8
  few_coming =
      let few = lists.adds_right.few in
      let most = count_most (λ a. not (has s (ground objects a))) schema.adds in
      let size = coming_size in
      omega arith

  -- the number of facts changes by theirs
  pub next_size : length (successor schema objects s) + length (going schema objects s) ≡ length s + length (coming schema objects s)
  next_size = let size = ready_size lists ready in let gone = going_size in let come = coming_size in omega arith
