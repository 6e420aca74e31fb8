-- Ascending lists of numbers: the place of a number, and what the list is without the number and with it.
use Prim.Native.Nat.{ℕ, zero, suc, ◌≤◌, ◌<◌, zero-le, suc-le-suc}
use native.Mathlib.Nat.{le_of_suc-le-suc, not-suc-le-zero, le_refl, le_antisymm}
use native.Mathlib.Omega.{arith}
use mathlib.Core.Path.{◌≡◌, refl, sym, ap, ◌∙◌, subst}
use mathlib.Core.Bool.{Bool, true, false, cond, not, ◌||◌}
use mathlib.Core.List.{List, [], ◌∷◌, ◌++◌}
use lib.Dec.{eqb, ltb, leb}
use lib.ListN.{length, get_or, take, drop}
use borrow.Author.Tests.{eqb-true, eqb-false, eq-eqb, ne_eqb, ltb-true, ltb-false, lt-ltb, le-ltb, leb-true, le-leb}
use Rattle.laws.specs.Lists.{any, keep, member}
use Rattle.laws.proofs.Tests.{never, and_left, and_right, and_intro, or_false_left, or_false_right, or_false_intro, cond_true, cond_false, by_test}
use Rattle.sets.specs.Numbers.{rising, place, without, inserted}

-- the first number of an ascending list is at or above the bound, and the rest ascends from above it
pub rising_first : (bound n : ℕ) (ns : List ℕ) → rising bound (n ∷ ns) ≡ true → bound ≤ n
unfolding rising
rising_first bound n ns e = leb-true bound n (and_left (leb bound n) (rising (suc n) ns) e)

pub rising_rest : (bound n : ℕ) (ns : List ℕ) → rising bound (n ∷ ns) ≡ true → rising (suc n) ns ≡ true
unfolding rising
rising_rest bound n ns e = and_right (leb bound n) (rising (suc n) ns) e

pub rising_cons : (bound n : ℕ) (ns : List ℕ) → bound ≤ n → rising (suc n) ns ≡ true → rising bound (n ∷ ns) ≡ true
unfolding rising
rising_cons bound n ns h e = and_intro (leb bound n) (rising (suc n) ns) (le-leb bound n h) e

-- a lower bound does as well
pub rising_lower : (bound lower : ℕ) (ns : List ℕ) → lower ≤ bound → rising bound ns ≡ true → rising lower ns ≡ true
unfolding rising
rising_lower bound lower [] h e = refl
rising_lower bound lower (n ∷ ns) h e =
    let first = rising_first bound n ns e in
    rising_cons lower n ns (omega arith) (rising_rest bound n ns e)

-- every number stands at or above the bound
pub rising_above : (bound : ℕ) (ns : List ℕ) → rising bound ns ≡ true → (i : ℕ) → i < length ns → bound ≤ get_or ns i 0
rising_above bound [] e i h = absurd (not-suc-le-zero h)
rising_above bound (n ∷ ns) e zero h = rising_first bound n ns e
rising_above bound (n ∷ ns) e (suc i) h =
    let first = rising_first bound n ns e in
    let later = rising_above (suc n) ns (rising_rest bound n ns e) i (le_of_suc-le-suc h) in
    omega arith

-- a number below the bound is not on the list
pub rising_absent : (bound n : ℕ) (ns : List ℕ) → rising bound ns ≡ true → n < bound → member n ns ≡ false
unfolding member any
rising_absent bound n [] e h = refl
rising_absent bound n (m ∷ ms) e h =
    let first = rising_first bound m ms e in
    or_false_intro (eqb n m) (member n ms) (ne_eqb n m (λ p. omega arith))
    (rising_absent (suc m) n ms (rising_rest bound m ms e) (omega arith))

-- the place of a number is within the list or at its end
pub place_within : (n : ℕ) (ns : List ℕ) → place n ns ≤ length ns
unfolding place
place_within n [] = zero-le
place_within n (m ∷ ms) = go (ltb m n) (place_within n ms)
  where
    go : (b : Bool) → place n ms ≤ length ms → cond b (suc (place n ms)) 0 ≤ suc (length ms)
    go true h = suc-le-suc h
    go false h = zero-le

-- it is past every smaller number
pub place_past : (bound n : ℕ) (ns : List ℕ) → rising bound ns ≡ true → (i : ℕ) → i < length ns → get_or ns i 0 < n → i < place n ns
unfolding place
place_past bound n [] e i h k = absurd (not-suc-le-zero h)
place_past bound n (m ∷ ms) e zero h k = rw (lt-ltb m n k) (suc-le-suc zero-le)
place_past bound n (m ∷ ms) e (suc i) h k =
    let later = rising_above (suc m) ms (rising_rest bound m ms e) i (le_of_suc-le-suc h) in
    let less : m < n = omega arith in
    rw (lt-ltb m n less) (suc-le-suc (place_past (suc m) n ms (rising_rest bound m ms e) i (le_of_suc-le-suc h) k))

-- and not past another
pub place_up_to : (n : ℕ) (ns : List ℕ) (i : ℕ) → i < length ns → n ≤ get_or ns i 0 → place n ns ≤ i
unfolding place
place_up_to n [] i h k = zero-le
place_up_to n (m ∷ ms) zero h k = rw (le-ltb m n k) zero-le
place_up_to n (m ∷ ms) (suc i) h k = go (ltb m n) (place_up_to n ms i (le_of_suc-le-suc h) k)
  where
    go : (b : Bool) → place n ms ≤ i → cond b (suc (place n ms)) 0 ≤ suc i
    go true later = suc-le-suc later
    go false later = zero-le

-- a number stands below each of those after it
pub rising_less : (bound : ℕ) (ns : List ℕ) → rising bound ns ≡ true → (i j : ℕ) → i < j → j < length ns → get_or ns i 0 < get_or ns j 0
rising_less bound [] e i j h k = absurd (not-suc-le-zero k)
rising_less bound (n ∷ ns) e i zero h k = absurd (not-suc-le-zero h)
rising_less bound (n ∷ ns) e zero (suc j) h k = rising_above (suc n) ns (rising_rest bound n ns e) j (le_of_suc-le-suc k)
rising_less bound (n ∷ ns) e (suc i) (suc j) h k =
    rising_less (suc n) ns (rising_rest bound n ns e) i j (le_of_suc-le-suc h) (le_of_suc-le-suc k)

pub rising_no_less : (ns : List ℕ) → rising 0 ns ≡ true → (i j : ℕ) → i ≤ j → j < length ns → get_or ns i 0 ≤ get_or ns j 0
rising_no_less ns e i j h k =
    by_test (ltb i j) (λ p. let less = rising_less 0 ns e i j (ltb-true i j p) k in omega arith)
    (λ p. let same : i ≡ j = (let past = ltb-false i j p in omega arith) in subst (λ (m : ℕ). get_or ns i 0 ≤ get_or ns m 0) same (le_refl _))

-- the place is where all before it are smaller, and none from there on is
pub place_is :
    (n : ℕ) (ns : List ℕ) → rising 0 ns ≡ true → (i : ℕ) → i ≤ length ns → ((k : ℕ) → k < i → get_or ns k 0 < n)
    → ((k : ℕ) → i ≤ k → k < length ns → n ≤ get_or ns k 0) → i ≡ place n ns
place_is n ns e i h below above = le_antisymm (low i h below) high
  where
    low : (j : ℕ) → j ≤ length ns → ((k : ℕ) → k < j → get_or ns k 0 < n) → j ≤ place n ns
    low zero h below = zero-le
    low (suc j) h below = place_past 0 n ns e j h (below j (le_refl (suc j)))

    high : place n ns ≤ i
    high =
        by_test (ltb i (length ns))
        (λ p. let inside = ltb-true i (length ns) p in place_up_to n ns i inside (above i (le_refl i) inside))
        (λ p. let past = ltb-false i (length ns) p in let within = place_within n ns in omega arith)

-- What stands at the place of n in an ascending list: n, or a number above it, or nothing.
module _ (n : ℕ) where
  -- a number that stands below n: its place is in the rest
  place_rest : (m : ℕ) (ms : List ℕ) → m < n → place n (m ∷ ms) ≡ suc (place n ms)
  unfolding place
  place_rest m ms h = cond_true (ltb m n) (suc (place n ms)) 0 (lt-ltb m n h)

  place_here : (m : ℕ) (ms : List ℕ) → n ≤ m → place n (m ∷ ms) ≡ 0
  unfolding place
  place_here m ms h = cond_false (ltb m n) (suc (place n ms)) 0 (le-ltb m n h)

  member_rest : (m : ℕ) (ms : List ℕ) → (n ≡ m → ⊥) → member n (m ∷ ms) ≡ member n ms
  unfolding member any
  member_rest m ms d = ap (λ (b : Bool). b || member n ms) (ne_eqb n m d)

  member_here : (m : ℕ) (ms : List ℕ) → n ≡ m → member n (m ∷ ms) ≡ true
  unfolding member any
  member_here m ms p = ap (λ (b : Bool). b || member n ms) (eq-eqb n m p)

  -- the number is on the list if it stands at its place
  pub member_at_place :
      (bound : ℕ) (ns : List ℕ) → rising bound ns ≡ true → place n ns < length ns
      → member n ns ≡ eqb (get_or ns (place n ns) 0) n
  member_at_place bound [] e h = absurd (not-suc-le-zero h)
  member_at_place bound (m ∷ ms) e h =
      by_test (ltb m n)
      (λ p. let less = ltb-true m n p in
      let there = place_rest m ms less in
      let within : suc (place n ms) ≤ length ms = omega arith in
      member_rest m ms (λ q. omega arith)
      ∙ member_at_place (suc m) ms (rising_rest bound m ms e) within
      ∙ sym (ap (λ (i : ℕ). eqb (get_or (m ∷ ms) i 0) n) there))
      (λ p. let least = ltb-false m n p in
      (by_test (eqb m n)
      (λ q. member_here m ms (sym (eqb-true m n q)) ∙ sym q)
      (λ q. let differ = eqb-false m n q in
      member_rest m ms (λ r. differ (sym r))
      ∙ rising_absent (suc m) n ms (rising_rest bound m ms e) (omega arith) ∙ sym q))
      ∙ sym (ap (λ (i : ℕ). eqb (get_or (m ∷ ms) i 0) n) (place_here m ms least)))

  -- and it is not if its place is the end
  pub member_past_end : (ns : List ℕ) → length ns ≤ place n ns → member n ns ≡ false
  unfolding member any
  member_past_end [] h = refl
  member_past_end (m ∷ ms) h =
      by_test (ltb m n)
      (λ p. let less = ltb-true m n p in
      let there = place_rest m ms less in
      member_rest m ms (λ q. omega arith) ∙ member_past_end ms (omega arith))
      (λ p. let there = place_here m ms (ltb-false m n p) in absurd (omega arith))

  -- a number of the list stands at its place
  pub place_there : (ns : List ℕ) → rising 0 ns ≡ true → (i : ℕ) → i < length ns → get_or ns i 0 ≡ n → i ≡ place n ns
  place_there ns e i h p =
      place_is n ns e i (omega arith) (λ k below. let less = rising_less 0 ns e k i below h in omega arith)
      (λ k above within. let more = rising_no_less ns e i k above within in omega arith)

  pub member_there : (ns : List ℕ) → rising 0 ns ≡ true → (i : ℕ) → i < length ns → get_or ns i 0 ≡ n → member n ns ≡ true
  member_there ns e i h p =
      let here = place_there ns e i h p in
      member_at_place 0 ns e (subst (λ (k : ℕ). k < length ns) here h) ∙ ap (λ (k : ℕ). eqb (get_or ns k 0) n) (sym here) ∙ eq-eqb _ n p

  -- and it is not on it where one above it stands at its place, or none does
  pub member_missing : (ns : List ℕ) → rising 0 ns ≡ true → (i : ℕ) → i ≡ place n ns → (i < length ns → n < get_or ns i 0) → member n ns ≡ false
  member_missing ns e i here above =
      by_test (ltb i (length ns))
      (λ p. let inside = ltb-true i (length ns) p in
      let more = above inside in
      member_at_place 0 ns e (subst (λ (k : ℕ). k < length ns) here inside) ∙ ap (λ (k : ℕ). eqb (get_or ns k 0) n) (sym here)
      ∙ ne_eqb _ n (λ q. omega arith))
      (λ p. member_past_end ns (subst (λ (k : ℕ). length ns ≤ k) here (ltb-false i (length ns) p)))

  -- the list without a number that is not on it
  pub without_absent : (ns : List ℕ) → member n ns ≡ false → without n ns ≡ ns
  unfolding without keep member any
  without_absent [] e = refl
  without_absent (m ∷ ms) e =
      let differ = or_false_left (eqb n m) (member n ms) e in
      ap (λ (b : Bool). cond (not b) (m ∷ without n ms) (without n ms)) differ
      ∙ ap (λ (l : List ℕ). m ∷ l) (without_absent ms (or_false_right (eqb n m) (member n ms) e))

  -- and without one that is: what stands before its place, and what stands after it
  pub without_there :
      (bound : ℕ) (ns : List ℕ) → rising bound ns ≡ true → member n ns ≡ true
      → without n ns ≡ take (place n ns) ns ++ drop (suc (place n ns)) ns
  unfolding without keep member any
  without_there bound [] e k = never (sym k)
  without_there bound (m ∷ ms) e k =
      by_test (eqb n m)
      (λ q. let here = place_here m ms (let p = eqb-true n m q in omega arith) in
      let rest = rising_rest bound m ms e in
      ap (λ (b : Bool). cond (not b) (m ∷ without n ms) (without n ms)) q
      ∙ without_absent ms (rising_absent (suc m) n ms rest (let p = eqb-true n m q in omega arith))
      ∙ sym (ap (λ (i : ℕ). take i (m ∷ ms) ++ drop (suc i) (m ∷ ms)) here))
      (λ q. let differ = eqb-false n m q in
      let rest = rising_rest bound m ms e in
      let there : member n ms ≡ true = sym (member_rest m ms differ) ∙ k in
      let below : m < n = go rest there differ in
      ap (λ (b : Bool). cond (not b) (m ∷ without n ms) (without n ms)) q
      ∙ ap (λ (l : List ℕ). m ∷ l) (without_there (suc m) ms rest there)
      ∙ sym (ap (λ (i : ℕ). take i (m ∷ ms) ++ drop (suc i) (m ∷ ms)) (place_rest m ms below)))
    where
      go : rising (suc m) ms ≡ true → member n ms ≡ true → (n ≡ m → ⊥) → m < n
      go rest there differ =
          by_test (ltb m n) (ltb-true m n)
          (λ q. let least = ltb-false m n q in
          never (sym there ∙ rising_absent (suc m) n ms rest (omega arith)))

  -- the list with a number that is on it already
  pub inserted_there : (bound : ℕ) (ns : List ℕ) → rising bound ns ≡ true → member n ns ≡ true → inserted n ns ≡ ns
  unfolding inserted member any
  inserted_there bound [] e k = never (sym k)
  inserted_there bound (m ∷ ms) e k = go (eqb n m) refl (ltb n m) refl (inserted_there (suc m) ms (rising_rest bound m ms e))
    where
      go : (same : Bool) → eqb n m ≡ same → (less : Bool) → ltb n m ≡ less → (member n ms ≡ true → inserted n ms ≡ ms)
          → cond same (m ∷ ms) (cond less (n ∷ m ∷ ms) (m ∷ inserted n ms)) ≡ m ∷ ms
      go true p less q later = refl
      go false p true q later =
          let h = ltb-true n m q in
          never (sym k ∙ member_rest m ms (eqb-false n m p) ∙ rising_absent (suc m) n ms (rising_rest bound m ms e) (omega arith))
      go false p false q later = ap (λ (l : List ℕ). m ∷ l) (later (sym (member_rest m ms (eqb-false n m p)) ∙ k))

  -- and with one that is not: it stands at its place
  pub inserted_absent :
      (ns : List ℕ) → member n ns ≡ false → inserted n ns ≡ take (place n ns) ns ++ n ∷ drop (place n ns) ns
  unfolding inserted member any place
  inserted_absent [] e = refl
  inserted_absent (m ∷ ms) e =
      let differ = or_false_left (eqb n m) (member n ms) e in
      go (ltb n m) refl (eqb-false n m differ) (inserted_absent ms (or_false_right (eqb n m) (member n ms) e))
    where
      go : (less : Bool) → ltb n m ≡ less → (n ≡ m → ⊥) → inserted n ms ≡ take (place n ms) ms ++ n ∷ drop (place n ms) ms
          → cond (eqb n m) (m ∷ ms) (cond less (n ∷ m ∷ ms) (m ∷ inserted n ms))
          ≡ take (place n (m ∷ ms)) (m ∷ ms) ++ n ∷ drop (place n (m ∷ ms)) (m ∷ ms)
      go true q differ later =
          let h = ltb-true n m q in
          cond_false (eqb n m) (m ∷ ms) (n ∷ m ∷ ms) (ne_eqb n m differ)
          ∙ sym (ap (λ (i : ℕ). take i (m ∷ ms) ++ n ∷ drop i (m ∷ ms)) (place_here m ms (omega arith)))
      go false q differ later =
          let h = ltb-false n m q in
          cond_false (eqb n m) (m ∷ ms) (m ∷ inserted n ms) (ne_eqb n m differ)
          ∙ ap (λ (l : List ℕ). m ∷ l) later
          ∙ sym (ap (λ (i : ℕ). take i (m ∷ ms) ++ n ∷ drop i (m ∷ ms)) (place_rest m ms (omega arith)))

  -- both ascend
  pub without_rising : (bound : ℕ) (ns : List ℕ) → rising bound ns ≡ true → rising bound (without n ns) ≡ true
  unfolding without keep rising
  without_rising bound [] e = refl
  without_rising bound (m ∷ ms) e =
      let first = rising_first bound m ms e in
      go (not (eqb n m)) first (without_rising (suc m) ms (rising_rest bound m ms e))
    where
      go : (b : Bool) → bound ≤ m → rising (suc m) (without n ms) ≡ true → rising bound (cond b (m ∷ without n ms) (without n ms)) ≡ true
      go true first later = rising_cons bound m (without n ms) first later
      go false first later = rising_lower (suc m) bound (without n ms) (omega arith) later

  pub inserted_rising : (bound : ℕ) (ns : List ℕ) → bound ≤ n → rising bound ns ≡ true → rising bound (inserted n ns) ≡ true
  unfolding inserted rising
  inserted_rising bound [] h e = rising_cons bound n [] h refl
  inserted_rising bound (m ∷ ms) h e =
      go (eqb n m) refl (ltb n m) refl (λ k. inserted_rising (suc m) ms k (rising_rest bound m ms e))
    where
      go : (same : Bool) → eqb n m ≡ same → (less : Bool) → ltb n m ≡ less → (suc m ≤ n → rising (suc m) (inserted n ms) ≡ true)
          → rising bound (cond same (m ∷ ms) (cond less (n ∷ m ∷ ms) (m ∷ inserted n ms))) ≡ true
      go true p less q later = e
      go false p true q later =
          rising_cons bound n (m ∷ ms) h (rising_cons (suc n) m ms (ltb-true n m q) (rising_rest bound m ms e))
      go false p false q later =
          let differ = eqb-false n m p in
          let least = ltb-false n m q in
          rising_cons bound m (inserted n ms) (rising_first bound m ms e) (later (omega arith))

  -- a set grows by one number at most
  pub length_inserted : (ns : List ℕ) → length (inserted n ns) ≤ suc (length ns)
  unfolding inserted
  length_inserted [] = omega arith
  length_inserted (m ∷ ms) = go (eqb n m) (ltb n m) (length_inserted ms)
    where
      go : (same less : Bool) → length (inserted n ms) ≤ suc (length ms)
          → length (cond same (m ∷ ms) (cond less (n ∷ m ∷ ms) (m ∷ inserted n ms))) ≤ suc (suc (length ms))
      go true less later = omega arith
      go false true later = omega arith
      go false false later = suc-le-suc later

  pub length_without : (ns : List ℕ) → length (without n ns) ≤ length ns
  unfolding without keep
  length_without [] = zero-le
  length_without (m ∷ ms) = go (not (eqb n m)) (length_without ms)
    where
      go : (b : Bool) → length (without n ms) ≤ length ms → length (cond b (m ∷ without n ms) (without n ms)) ≤ suc (length ms)
      go true later = suc-le-suc later
      go false later = omega arith
