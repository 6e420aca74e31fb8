-- How many properties an accepted task has, at most 60, and how large the counts in a bag are.
use Prim.Native.Nat.{ℕ, zero, suc, ◌*◌, ◌≤◌, zero-le}
use native.Mathlib.Omega.{arith}
use mathlib.Core.Path.{◌≡◌, refl, ap, ◌∙◌, subst}
use mathlib.Core.Bool.{true}
use mathlib.Core.List.{List, [], ◌∷◌, map}
use lib.ListN.{length, get_or, length-append, length-map}
use Rattle.laws.specs.Lists.{all, up_to, sum}
use Rattle.laws.specs.Bags.{Bag}
use Rattle.laws.proofs.Lists.{all_at, length_up_to}
use Rattle.laws.proofs.Counting.{count_most}
use Rattle.laws.proofs.Columns.{sum_at_most}
use Rattle.model.specs.Answer.{accepted}
use Rattle.model.specs.Card.{Atom, Task, between}
use Rattle.model.specs.Writer.{check_task}
use Rattle.model.specs.Transitions.{Property, properties_from, properties, occurs, bag_of}
use Rattle.model.proofs.Checked.{checked, between_high}

-- the properties of one predicate
block : ℕ → ℕ → List Property
block p arity = map (λ i. record { predicate = p; position = i }) (up_to arity)

length_block : (p arity : ℕ) → length (block p arity) ≡ arity
unfolding block
length_block p arity = length-map (up_to arity) _ ∙ length_up_to arity

-- as many properties as the arities add up to
pub length_properties : (p : ℕ) (arities : List ℕ) → length (properties_from p arities) ≡ sum arities
unfolding properties_from sum block
length_properties p [] = refl
length_properties p (arity ∷ arities) =
    length-append (block p arity) (properties_from (suc p) arities)
    ∙ omega (arith, length_block p arity, length_properties (suc p) arities)

-- a sum of small numbers
pub sum_all : (n : ℕ) (xs : List ℕ) → all (between 1 n) xs ≡ true → sum xs ≤ n * length xs
sum_all n xs h =
    subst (λ (l : List ℕ). sum l ≤ n * length xs) (map_same xs) (sum_at_most (λ x. x) n xs (λ x m. between_high 1 n x (all_at (between 1 n) xs h x m)))
  where
    map_same : (xs : List ℕ) → map (λ x. x) xs ≡ xs
    map_same [] = refl
    map_same (x ∷ xs) = ap (λ (l : List ℕ). x ∷ l) (map_same xs)

-- at most 60 properties
pub properties_few : (t : Task) → check_task t ≡ accepted tt → length (properties t) ≤ 60
unfolding properties
properties_few t ok =
    let c = checked t ok in
    omega (arith, length_properties 0 t.arities, sum_all 3 t.arities c.arities_right, c.few_predicates)

-- ---- the counts in bags

-- no count is above n
abbrev pub AtMost : ℕ → Bag → Type 0
AtMost n b = (i : ℕ) → get_or b i 0 ≤ n

-- a bag counts no more than there are atoms
pub bag_at_most : (cs : List Property) (atoms : List Atom) (x : ℕ) → AtMost (length atoms) (bag_of cs atoms x)
unfolding bag_of
bag_at_most [] atoms x i = zero-le
bag_at_most (c ∷ cs) atoms x zero = count_most (λ a. occurs x a c) atoms
bag_at_most (c ∷ cs) atoms x (suc i) = bag_at_most cs atoms x i
