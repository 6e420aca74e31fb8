-- What demand 3 says can be false: for each of its clauses (specs/Truth.antt) but `TypesListed` and `NestingsTrue`, which ask nothing of the
-- facts, a set of facts over K1's task of which that clause is not so, and for those that ask something of H spaces a set of facts over
-- K5's task. A clause that asked for less would let its set of facts pass.
use Prim.Native.Nat.{ℕ, ◌≤◌}
use native.Mathlib.Omega.{arith}
use mathlib.Core.Path.{◌≡◌, refl, sym}
use mathlib.Core.Bool.{Bool, true, false}
use mathlib.Core.List.{List, [], ◌∷◌}
use lib.Dec.{ltb}
use lib.ListN.{length, get_or}
use borrow.Author.Tests.{ltb-true}
use Rattle.laws.specs.Lists.{any}
use Rattle.laws.specs.Bags.{contains, is_empty}
use Rattle.laws.proofs.Tests.{never}
use Rattle.laws.proofs.Lists.{any_intro, mem_get_d}
use Rattle.model.specs.Answer.{Answer, refused, accepted}
use Rattle.model.specs.Card.{Atom, Task, decode}
use Rattle.model.specs.Strips.{State}
use Rattle.model.specs.Spaces.{property, rescued}
use Rattle.model.specs.Lines.{Line, space, state, limit, membership, exclusion, nesting, total, ceiling, types, sections}
use Rattle.model.specs.Truth.{◌is_on◌, ◌is_section_of◌, gives_conditions, states_of, count_in}
use Rattle.model.specs.Truth.{StatesListed, NoneOutside, LimitsTrue, MembershipsTrue, ExclusionsTrue, TotalsTrue, CeilingsTrue, TypesTrue}
use Rattle.model.specs.Vectors.{k1, k5, act}
use Rattle.model.proofs.Vectors.{definitions_open}

-- ---- the tasks of K1 and K5, their sections and their lines

task_in : Answer Task → Task
task_in (accepted t) = t
task_in (refused n) = record { arities = []; objects = 0; schemas = []; facts = [] }

bench : Task
bench = task_in (decode k1)

switch : Task
switch = task_in (decode k5)

section : Task → ℕ → List Line
section t n = get_or (sections t) n []

opened : Unit {0}
unfolding definitions_open task_in bench switch section gives_conditions states_of count_in
opened = tt

listed : (t : Task) (n : ℕ) → ltb n (length (sections t)) ≡ true → section t n is_section_of t
unfolding section
listed t n h = mem_get_d (sections t) n [] (ltb-true n (length (sections t)) h)

line : Task → ℕ → ℕ → Line
line t n i = get_or (section t n) i (membership 0)

on : (t : Task) (n i : ℕ) → ltb i (length (section t n)) ≡ true → line t n i is_on section t n
unfolding line
on t n i h = mem_get_d (section t n) i (membership 0) (ltb-true i (length (section t n)) h)

fact : ℕ → List ℕ → Atom
fact predicate arguments = record { predicate = predicate; arguments = arguments }

-- a clause is false of these facts over a task
Untrue : Task → (Task → State → Type 0) → State → Type 0
Untrue t Clause s = Clause t s → ⊥

-- ---- clause by clause

-- without facts no member has a condition that is listed
unlisted : Line → Bool
unlisted l = any is_empty (states_of (l ∷ []))

states_tell : Untrue bench StatesListed []
unfolding opened line unlisted Untrue
states_tell h =
    let there = h (section bench 0) 0 property (0 ∷ 1 ∷ []) (0 ∷ 1 ∷ []) 0 (listed bench 0 refl) (on bench 0 0 refl) refl refl in
    never (sym (any_intro unlisted (section bench 0) (state (0 ∷ 0 ∷ [])) there refl))

rescued_states_tell : Untrue switch StatesListed []
unfolding opened line unlisted Untrue
rescued_states_tell h =
    let there = h (section switch 0) 0 rescued (0 ∷ 1 ∷ []) (0 ∷ []) 0 (listed switch 0 refl) (on switch 0 1 refl) refl refl in
    never (sym (any_intro unlisted (section switch 0) (state (0 ∷ 0 ∷ [])) there refl))

-- idle(3), and 3 is outside that space
outside_tells : Untrue bench NoneOutside (fact 0 (3 ∷ []) ∷ [])
unfolding opened line fact Untrue
outside_tells h =
    let none : ◌≡◌ {A = ℕ} 1 0 =
    h (section bench 0) 0 property (0 ∷ 1 ∷ []) (0 ∷ 1 ∷ []) 3 0 (listed bench 0 refl) (on bench 0 0 refl) refl refl in
    omega arith

-- holds(0,2) and holds(0,3), where the most is 1
limits_tell : Untrue bench LimitsTrue (fact 2 (0 ∷ 2 ∷ []) ∷ fact 2 (0 ∷ 3 ∷ []) ∷ [])
unfolding opened line fact Untrue
limits_tell h = let few : 2 ≤ 1 = h (section bench 1) 2 1 0 (listed bench 1 refl) (on bench 1 2 refl) in omega arith

-- without facts no member's condition contains one of a D line, in section 0 of K1 and in that of K5
contained : List Line → Line → Bool
contained lines (membership i) = contains (0 ∷ 0 ∷ []) (get_or (states_of lines) i [])
contained lines (space n kind properties members) = false
contained lines (state counts) = false
contained lines (limit c most) = false
contained lines (exclusion i j) = false
contained lines (nesting i j) = false
contained lines (total p n) = false
contained lines (ceiling p n) = false
contained lines (types n k objects) = false

memberships_tell : Untrue bench MembershipsTrue []
unfolding opened line contained Untrue
memberships_tell h =
    let lines = section bench 0 in
    let (i, there, holds) = h lines 0 property (0 ∷ 1 ∷ []) (0 ∷ 1 ∷ []) 0 (listed bench 0 refl) (on bench 0 0 refl) refl refl in
    never (sym (any_intro (contained lines) lines (membership i) there holds))

rescued_memberships_tell : Untrue switch MembershipsTrue []
unfolding opened line contained Untrue
rescued_memberships_tell h =
    let lines = section switch 0 in
    let (i, there, holds) = h lines 0 rescued (0 ∷ 1 ∷ []) (0 ∷ []) 0 (listed switch 0 refl) (on switch 0 1 refl) refl refl in
    never (sym (any_intro (contained lines) lines (membership i) there holds))

-- idle(0) and armed(0), which exclude each other, and so do on(0) and off(0)
exclusions_tell : Untrue bench ExclusionsTrue (fact 0 (0 ∷ []) ∷ fact 1 (0 ∷ []) ∷ [])
unfolding opened line fact Untrue
exclusions_tell h =
    never (h (section bench 0) 0 property (0 ∷ 1 ∷ []) (0 ∷ 1 ∷ []) 0 0 1 (listed bench 0 refl) (on bench 0 0 refl) refl refl (on bench 0 5 refl))

rescued_exclusions_tell : Untrue switch ExclusionsTrue (fact 0 (0 ∷ []) ∷ fact 1 (0 ∷ []) ∷ [])
unfolding opened line fact Untrue
rescued_exclusions_tell h =
    never (h (section switch 0) 0 rescued (0 ∷ 1 ∷ []) (0 ∷ []) 0 0 1 (listed switch 0 refl) (on switch 0 1 refl) refl refl (on switch 0 6 refl))

-- no holds, where the total is 2
totals_tell : Untrue bench TotalsTrue []
unfolding opened line Untrue
totals_tell h = let two : ◌≡◌ {A = ℕ} 0 2 = h (section bench 4) 2 2 (listed bench 4 refl) (on bench 4 0 refl) in omega arith

-- sample(0), sample(1) and sample(2), where there are never more than 2
ceilings_tell : Untrue bench CeilingsTrue (fact 3 (0 ∷ []) ∷ fact 3 (1 ∷ []) ∷ fact 3 (2 ∷ []) ∷ [])
unfolding opened line fact Untrue
ceilings_tell h = let few : 3 ≤ 2 = h (section bench 4) 3 2 (listed bench 4 refl) (on bench 4 2 refl) in omega arith

-- idle(2), by which schema 0 is allowed on 2, which is not listed for its role
types_tell : Untrue bench TypesTrue (fact 0 (2 ∷ []) ∷ [])
unfolding opened line fact Untrue
types_tell h =
    never
    (sym
    (h (section bench 4) 0 0 (0 ∷ 1 ∷ []) (act 0 (2 ∷ [])) (listed bench 4 refl) (on bench 4 3 refl) (record { named = refl; holds = refl }) refl))
