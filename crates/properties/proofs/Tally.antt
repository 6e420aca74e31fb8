-- What a pass over the arguments of an atom does to a bag: it counts the atom for each property that x has in it.
use Prim.Native.Nat.{ℕ, zero, suc, ◌+◌, ◌-◌, ◌≤◌, ◌<◌}
use native.Mathlib.Nat.{zero-add, add-zero, le_refl, not-suc-le-zero, le_of_suc-le-suc}
use native.Mathlib.Omega.{arith}
use mathlib.Core.Path.{◌≡◌, refl, sym, ap, ◌∙◌, subst}
use mathlib.Core.Bool.{Bool, true, false, cond, ◌&&◌}
use mathlib.Core.List.{List, [], ◌∷◌, ◌++◌}
use lib.Dec.{eqb, ltb}
use lib.ListN.{length, get_or, take, set, length-set, get_or-eq_default}
use borrow.Author.Tests.{ltb-true, ltb-false, eqb-true, eqb-false}
use lib.Seq.{get_or-set_same, get_or-set_other}
use Rattle.laws.specs.Lists.{stands_at, sum, count}
use Rattle.laws.proofs.Tests.{by_test}
use Rattle.laws.proofs.Lists.{count_append}
use Rattle.laws.proofs.Columns.{stands_at_past}
use Rattle.laws.proofs.Fronts.{sum_take_next, sum_take_within, sum_take_all, Located, located}
use Rattle.model.specs.Card.{Atom}
use Rattle.model.specs.Transitions.{Property, properties_from, occurs, bag_of}
use Rattle.model.proofs.Totals.{property_at}
use Rattle.model.proofs.Grouping.{length_bag_of}
use Rattle.model.proofs.RuleCount.{length_properties}
use Rattle.properties.specs.Tables.{row}
use Rattle.properties.specs.Tallies.{raised, marked, tallied}
use Rattle.properties.proofs.Rows.{length_row, get_d_row, row_ext}

-- one argument: the place that it may raise, every other place, and the length
pub marked_here : (x y place : ℕ) (bag : List ℕ) → place < length bag
    → get_or (marked x y place bag) place 0 ≡ get_or bag place 0 + cond (eqb x y) 1 0
unfolding marked raised
marked_here x y place bag h = go (eqb x y)
  where
    go : (b : Bool) → get_or (cond b (set bag place (get_or bag place 0 + 1)) bag) place 0 ≡ get_or bag place 0 + cond b 1 0
    go true = get_or-set_same bag place (get_or bag place 0 + 1) 0 h
    go false = omega arith

pub marked_elsewhere : (x y place : ℕ) (bag : List ℕ) (c : ℕ) → (c ≡ place → ⊥) → get_or (marked x y place bag) c 0 ≡ get_or bag c 0
unfolding marked raised
marked_elsewhere x y place bag c h = go (eqb x y)
  where
    go : (b : Bool) → get_or (cond b (set bag place (get_or bag place 0 + 1)) bag) c 0 ≡ get_or bag c 0
    go true = get_or-set_other bag place c (get_or bag place 0 + 1) 0 h
    go false = refl

pub length_marked : (x y place : ℕ) (bag : List ℕ) → length (marked x y place bag) ≡ length bag
unfolding marked raised
length_marked x y place bag = go (eqb x y)
  where
    go : (b : Bool) → length (cond b (set bag place (get_or bag place 0 + 1)) bag) ≡ length bag
    go true = length-set bag place (get_or bag place 0 + 1)
    go false = refl

-- all arguments: the length, the places before the first, and the places from the first on
pub length_tallied : (x first : ℕ) (ys : List ℕ) (bag : List ℕ) → length (tallied x first ys bag) ≡ length bag
unfolding tallied
length_tallied x first [] bag = refl
length_tallied x first (y ∷ ys) bag = length_tallied x (suc first) ys (marked x y first bag) ∙ length_marked x y first bag

pub tallied_before : (x first : ℕ) (ys : List ℕ) (bag : List ℕ) (c : ℕ) → c < first → get_or (tallied x first ys bag) c 0 ≡ get_or bag c 0
unfolding tallied
tallied_before x first [] bag c h = refl
tallied_before x first (y ∷ ys) bag c h =
    tallied_before x (suc first) ys (marked x y first bag) c (omega arith)
    ∙ marked_elsewhere x y first bag c (λ e. omega arith)

pub tallied_from : (x first : ℕ) (ys : List ℕ) (bag : List ℕ) (i : ℕ) → first + length ys ≤ length bag
    → get_or (tallied x first ys bag) (first + i) 0 ≡ get_or bag (first + i) 0 + cond (stands_at x i ys) 1 0
unfolding tallied stands_at
tallied_from x first [] bag i h = omega arith
tallied_from x first (y ∷ ys) bag zero h =
    ap (λ (c : ℕ). get_or (tallied x (suc first) ys (marked x y first bag)) c 0) (add-zero first)
    ∙ tallied_before x (suc first) ys (marked x y first bag) first (le_refl (suc first))
    ∙ marked_here x y first bag (omega arith)
    ∙ ap (λ (c : ℕ). get_or bag c 0 + cond (eqb x y) 1 0) (sym (add-zero first))
tallied_from x first (y ∷ ys) bag (suc i) h =
    ap (λ (c : ℕ). get_or (tallied x (suc first) ys (marked x y first bag)) c 0) (shift first i)
    ∙ tallied_from x (suc first) ys (marked x y first bag) i (omega (arith, length_marked x y first bag))
    ∙ ap (λ (n : ℕ). n + cond (stands_at x i ys) 1 0)
    (marked_elsewhere x y first bag (suc first + i) (λ e. omega arith) ∙ ap (λ (c : ℕ). get_or bag c 0) (sym (shift first i)))
  where
    shift : (first i : ℕ) → first + suc i ≡ suc first + i
    shift first i = omega arith

-- ---- an atom counted

-- one more atom, in the bag of x
pub bag_next : (cs : List Property) (atoms : List Atom) (a : Atom) (x c : ℕ) (d : Property) → c < length cs
    → get_or (bag_of cs (atoms ++ (a ∷ [])) x) c 0 ≡ get_or (bag_of cs atoms x) c 0 + cond (occurs x a (get_or cs c d)) 1 0
unfolding bag_of
bag_next [] atoms a x c d h = absurd (not-suc-le-zero h)
bag_next (q ∷ cs) atoms a x zero d h = count_append (λ b. occurs x b q) atoms (a ∷ []) ∙ ap (λ (n : ℕ). count (λ b. occurs x b q) atoms + n) one
  where
    one : count (λ b. occurs x b q) (a ∷ []) ≡ cond (occurs x a q) 1 0
    one = unfold count in refl
bag_next (q ∷ cs) atoms a x (suc c) d h = bag_next cs atoms a x c d (le_of_suc-le-suc h)

module _ (arities : List ℕ) (few : sum arities ≤ 60) (a : Atom) (known : a.predicate < length arities)
    (whole : length a.arguments ≡ get_or arities a.predicate 0) (x : ℕ) where
  first : ℕ
  first = sum (take a.predicate arities)

  -- the places of a predicate lie within the properties
  within : first + length a.arguments ≤ sum arities
  unfolding first
  within =
      omega (arith, sum_take_next arities a.predicate known, sum_take_all (suc a.predicate) arities, whole)

  -- a place that no argument of the atom can take
  past : (bag : List ℕ) (c : ℕ) → length bag ≡ 60 → first + length a.arguments ≤ c
      → get_or (tallied x first a.arguments bag) c 0 ≡ get_or bag c 0
  past bag c e h =
      let i = c - first in
      let place : first + i ≡ c = omega arith in
      subst (λ (k : ℕ). get_or (tallied x first a.arguments bag) k 0 ≡ get_or bag k 0) place
      (tallied_from x first a.arguments bag i (omega (arith, within))
      ∙ ap (λ (b : Bool). get_or bag (first + i) 0 + cond b 1 0) (stands_at_past x i a.arguments (omega arith))
      ∙ omega arith)

  -- each property of the task is counted if x has it in the atom
  tallied_property : (bag : List ℕ) (c : ℕ) (d : Property) → length bag ≡ 60 → c < sum arities
      → get_or (tallied x first a.arguments bag) c 0 ≡ get_or bag c 0 + cond (occurs x a (get_or (properties_from 0 arities) c d)) 1 0
  tallied_property bag c d e h = go (located arities c h)
    where
      new : ℕ
      new = get_or (tallied x first a.arguments bag) c 0

      -- the property's predicate and position
      taken : (l : Located arities c) → occurs x a (get_or (properties_from 0 arities) c d)
          ≡ (eqb l.block a.predicate && stands_at x l.position a.arguments)
      taken l =
          unfold occurs in
          ap (λ (k : ℕ). occurs x a (get_or (properties_from 0 arities) k d)) l.place
          ∙ ap (occurs x a) (property_at 0 l.block l.position arities d l.block_there l.inside)
          ∙ ap (λ (p : ℕ). eqb p a.predicate && stands_at x l.position a.arguments) (zero-add l.block)

      -- a property of the atom's own predicate
      own : (l : Located arities c) → l.block ≡ a.predicate → new ≡ get_or bag c 0 + cond (stands_at x l.position a.arguments) 1 0
      own l p =
          unfold first in
          let place : first + l.position ≡ c = sym (l.place ∙ ap (λ (q : ℕ). sum (take q arities) + l.position) p) in
          subst (λ (k : ℕ). get_or (tallied x first a.arguments bag) k 0 ≡ get_or bag k 0 + cond (stands_at x l.position a.arguments) 1 0) place
          (tallied_from x first a.arguments bag l.position (omega (arith, within)))

      -- a property of another one
      other : (l : Located arities c) → (l.block ≡ a.predicate → ⊥) → new ≡ get_or bag c 0
      other l differ =
          unfold first in
          by_test (ltb l.block a.predicate)
          (λ t.
          tallied_before x first a.arguments bag c
          (omega (
            arith,
            l.place,
            l.inside,
            sum_take_next arities l.block l.block_there,
            sum_take_within (suc l.block) a.predicate arities (ltb-true _ _ t),
          )))
          (λ t.
          let behind : a.predicate < l.block = let k = ltb-false l.block a.predicate t in omega arith in
          past bag c e
          (omega (
            arith,
            l.place,
            whole,
            sum_take_next arities a.predicate known,
            sum_take_within (suc a.predicate) l.block arities behind,
          )))

      go : Located arities c → new ≡ get_or bag c 0 + cond (occurs x a (get_or (properties_from 0 arities) c d)) 1 0
      go l =
          by_test (eqb l.block a.predicate)
          (λ t.
          own l (eqb-true _ _ t)
          ∙ ap (λ (b : Bool). get_or bag c 0 + cond b 1 0)
          (sym (taken l ∙ ap (λ (b : Bool). b && stands_at x l.position a.arguments) t)))
          (λ t.
          other l (eqb-false _ _ t) ∙ sym (add-zero (get_or bag c 0))
          ∙ ap (λ (b : Bool). get_or bag c 0 + cond b 1 0)
          (sym (taken l ∙ ap (λ (b : Bool). b && stands_at x l.position a.arguments) t)))

  -- the row of a bag over some atoms becomes the row over one atom more
  pub tallied_atom : (atoms : List Atom)
      → tallied x (sum (take a.predicate arities)) a.arguments (row (bag_of (properties_from 0 arities) atoms x))
      ≡ row (bag_of (properties_from 0 arities) (atoms ++ (a ∷ [])) x)
  unfolding first
  tallied_atom atoms =
      row_ext (tallied x first a.arguments old) (bag_of cs (atoms ++ (a ∷ [])) x)
      (length_tallied x first a.arguments old ∙ sized)
      (omega (arith, length_bag_of cs (atoms ++ (a ∷ [])) x, all))
      (λ c h. by_test (ltb c (sum arities)) (λ t. at_property c (ltb-true _ _ t)) (λ t. behind c (ltb-false _ _ t)))
    where
      cs : List Property
      cs = properties_from 0 arities

      all : length cs ≡ sum arities
      all = length_properties 0 arities

      old : List ℕ
      old = row (bag_of cs atoms x)

      sized : length old ≡ 60
      sized = length_row (bag_of cs atoms x) (omega (arith, length_bag_of cs atoms x, all))

      none : Property
      none = record { predicate = 0; position = 0 }

      at_property : (c : ℕ) → c < sum arities → get_or (tallied x first a.arguments old) c 0 ≡ get_or (bag_of cs (atoms ++ (a ∷ [])) x) c 0
      at_property c h =
          tallied_property old c none sized h
          ∙ ap (λ (n : ℕ). n + cond (occurs x a (get_or cs c none)) 1 0) (get_d_row (bag_of cs atoms x) c)
          ∙ sym (bag_next cs atoms a x c none (omega (arith, all)))

      behind : (c : ℕ) → sum arities ≤ c → get_or (tallied x first a.arguments old) c 0 ≡ get_or (bag_of cs (atoms ++ (a ∷ [])) x) c 0
      behind c h =
          past old c sized (omega (arith, within))
          ∙ get_d_row (bag_of cs atoms x) c
          ∙ get_or-eq_default (bag_of cs atoms x) 0 (omega (arith, length_bag_of cs atoms x, all))
          ∙ sym (get_or-eq_default (bag_of cs (atoms ++ (a ∷ [])) x) 0 (omega (arith, length_bag_of cs (atoms ++ (a ∷ [])) x, all)))
