-- Walks: what is left of a walk over the numbers below a size, and an array that is filled or changed place by place.
use Prim.Native.Nat.{ℕ, zero, suc, ◌+◌, ◌-◌, ◌≤◌, ◌<◌}
use native.Mathlib.Nat.{le_of_suc-le-suc, not-suc-le-zero, zero-add}
use native.Mathlib.Numerals.{add-one}
use native.Mathlib.Omega.{arith}
use mathlib.Core.Path.{◌≡◌, refl, sym, ap, ◌∙◌, subst}
use mathlib.Core.Bool.{Bool, true, false, cond, ◌&&◌, ◌||◌}
use mathlib.Core.List.{List, [], ◌∷◌, ◌++◌, map, foldl, append-nil}
use lib.ListN.{length, get_or, set, length-map}
use lib.Seq.{set-get_or, ext_get_or}
use Rattle.laws.specs.Lists.{any, keep, count, from, up_to}
use Rattle.laws.proofs.Tests.{cond_true, cond_false}
use Rattle.laws.proofs.Lists.{length_keep, length_up_to, get_d_up_to}
use Rattle.laws.proofs.Fronts.{from_next, keep_parts}
use Rattle.laws.proofs.Mapped.{get_d_map}
use Rattle.laws.proofs.Counting.{count_most}

-- the numbers from i on below size
unfoldable pub left : ℕ → ℕ → List ℕ
left i size = from i (size - i)

-- at the start all are left, at the end none
pub left_all : (size : ℕ) → left 0 size ≡ up_to size
unfolding left up_to
left_all size = ap (from 0) (whole size)
  where
    whole : (n : ℕ) → n - 0 ≡ n
    whole n = omega arith

pub left_none : (i size : ℕ) → size ≤ i → left i size ≡ []
unfolding left from
left_none i size h = ap (from i) (nothing h)
  where
    nothing : {a b : ℕ} → a ≤ b → a - b ≡ 0
    nothing p = omega arith

-- one number after the other
pub left_one : (i size : ℕ) → i < size → left i size ≡ i ∷ left (i + 1) size
unfolding left from
left_one i size h = ap (from i) (less h) ∙ ap (λ (k : ℕ). i ∷ from k (size - k)) (sym (add-one i))
  where
    less : {a b : ℕ} → a < b → b - a ≡ suc (b - suc a)
    less p = omega arith

module _ (test : ℕ → Bool) where
  -- the numbers left that pass a test, where the next one passes and where it fails
  pub kept_passes : (i size : ℕ) → i < size → test i ≡ true → keep test (left i size) ≡ i ∷ keep test (left (i + 1) size)
  unfolding keep
  kept_passes i size h e = ap (keep test) (left_one i size h) ∙ cond_true (test i) _ _ e

  pub kept_fails : (i size : ℕ) → i < size → test i ≡ false → keep test (left i size) ≡ keep test (left (i + 1) size)
  unfolding keep
  kept_fails i size h e = ap (keep test) (left_one i size h) ∙ cond_false (test i) _ _ e

  pub kept_none : (i size : ℕ) → size ≤ i → keep test (left i size) ≡ []
  unfolding keep
  kept_none i size h = ap (keep test) (left_none i size h)

  pub kept_all : (size : ℕ) → keep test (left 0 size) ≡ keep test (up_to size)
  kept_all size = ap (keep test) (left_all size)

-- A walk folds what is left into what it has so far: the answer stays the same, and in the end it is what the walk has.
module _ {B : Type 0} (f : B → ℕ → B) (answer : B) (size : ℕ) where
  pub walk_starts : (b : B) → foldl f b (up_to size) ≡ answer → foldl f b (left 0 size) ≡ answer
  walk_starts b e = ap (foldl f b) (left_all size) ∙ e

  pub walk_next : (i : ℕ) (b b' : B) → i < size → b' ≡ f b i → foldl f b (left i size) ≡ answer → foldl f b' (left (i + 1) size) ≡ answer
  walk_next i b b' h next e =
      ap (λ (x : B). foldl f x (left (i + 1) size)) next ∙ sym (ap (foldl f b) (left_one i size h)) ∙ e

  pub walk_ends : (i : ℕ) (b : B) → size ≤ i → foldl f b (left i size) ≡ answer → b ≡ answer
  walk_ends i b h e = sym (ap (foldl f b) (left_none i size h)) ∙ e

  -- the same where only the numbers that pass a test are folded in
  module _ (test : ℕ → Bool) where
    pub pick_starts : (b : B) → foldl f b (keep test (up_to size)) ≡ answer → foldl f b (keep test (left 0 size)) ≡ answer
    pick_starts b e = ap (foldl f b) (kept_all test size) ∙ e

    pub pick_passes : (i : ℕ) (b b' : B) → i < size → test i ≡ true → b' ≡ f b i
        → foldl f b (keep test (left i size)) ≡ answer → foldl f b' (keep test (left (i + 1) size)) ≡ answer
    pick_passes i b b' h passes next e =
        ap (λ (x : B). foldl f x (keep test (left (i + 1) size))) next
        ∙ sym (ap (foldl f b) (kept_passes test i size h passes))
        ∙ e

    pub pick_fails : (i : ℕ) (b b' : B) → i < size → test i ≡ false → b' ≡ b
        → foldl f b (keep test (left i size)) ≡ answer → foldl f b' (keep test (left (i + 1) size)) ≡ answer
    pick_fails i b b' h fails next e =
        ap (λ (x : B). foldl f x (keep test (left (i + 1) size))) next
        ∙ sym (ap (foldl f b) (kept_fails test i size h fails))
        ∙ e

    pub pick_ends : (i : ℕ) (b : B) → size ≤ i → foldl f b (keep test (left i size)) ≡ answer → b ≡ answer
    pick_ends i b h e = sym (ap (foldl f b) (kept_none test i size h)) ∙ e

-- A list that a function has changed in its first i places.
module _ {A : Type 0} (f : A → A) where
  unfoldable pub changed : ℕ → List A → List A
  changed zero xs = xs
  changed (suc i) [] = []
  changed (suc i) (x ∷ xs) = f x ∷ changed i xs

  -- the next place still holds what it held
  pub changed_at : (i : ℕ) (xs : List A) (d : A) → get_or (changed i xs) i d ≡ get_or xs i d
  unfolding changed
  changed_at zero xs d = refl
  changed_at (suc i) [] d = refl
  changed_at (suc i) (x ∷ xs) d = changed_at i xs d

  -- it is changed next, by a store, or by none where the function leaves it as it is
  changed_next_suc : (i : ℕ) (xs : List A) (d : A) → i < length xs → set (changed i xs) i (f (get_or xs i d)) ≡ changed (suc i) xs
  unfolding changed
  changed_next_suc i [] d h = absurd (not-suc-le-zero h)
  changed_next_suc zero (x ∷ xs) d h = refl
  changed_next_suc (suc i) (x ∷ xs) d h = ap (λ (l : List A). f x ∷ l) (changed_next_suc i xs d (le_of_suc-le-suc h))

  pub changed_next : (i : ℕ) (xs : List A) (d : A) → i < length xs → set (changed i xs) i (f (get_or xs i d)) ≡ changed (i + 1) xs
  changed_next i xs d h = changed_next_suc i xs d h ∙ ap (λ (k : ℕ). changed k xs) (sym (add-one i))

  pub changed_left : (i : ℕ) (xs : List A) (d : A) → i < length xs → f (get_or xs i d) ≡ get_or xs i d → changed i xs ≡ changed (i + 1) xs
  changed_left i xs d h e =
      sym (set-get_or (changed i xs) i d) ∙ ap (set (changed i xs) i) (changed_at i xs d ∙ sym e) ∙ changed_next i xs d h

  -- in the end every place is changed
  pub changed_all : (xs : List A) → changed (length xs) xs ≡ map f xs
  unfolding changed
  changed_all [] = refl
  changed_all (x ∷ xs) = ap (λ (l : List A). f x ∷ l) (changed_all xs)

  pub length_changed : (i : ℕ) (xs : List A) → length (changed i xs) ≡ length xs
  unfolding changed
  length_changed zero xs = refl
  length_changed (suc i) [] = refl
  length_changed (suc i) (x ∷ xs) = ap suc (length_changed i xs)

pub up_to_next : (n : ℕ) → up_to (n + 1) ≡ up_to n ++ (n ∷ [])
unfolding up_to
up_to_next n = ap (from 0) (add-one n) ∙ from_next 0 n ∙ ap (λ (k : ℕ). from 0 n ++ (k ∷ [])) (zero-add n)

-- one more number that passes a test, or fails it
module _ (test : ℕ → Bool) (n : ℕ) where
  more : keep test (up_to (n + 1)) ≡ keep test (up_to n) ++ keep test (n ∷ [])
  more = ap (keep test) (up_to_next n) ∙ keep_parts test (up_to n) (n ∷ [])

  pub keep_one_more : test n ≡ true → keep test (up_to (n + 1)) ≡ keep test (up_to n) ++ (n ∷ [])
  unfolding keep
  keep_one_more e = more ∙ ap (λ (l : List ℕ). keep test (up_to n) ++ l) (cond_true (test n) (n ∷ []) [] e)

  pub keep_no_more : test n ≡ false → keep test (up_to (n + 1)) ≡ keep test (up_to n)
  unfolding keep
  keep_no_more e = more ∙ ap (λ (l : List ℕ). keep test (up_to n) ++ l) (cond_false (test n) (n ∷ []) [] e) ∙ append-nil (keep test (up_to n))

  -- no more numbers are kept than there are
  pub keep_few : length (keep test (up_to n)) ≤ n
  keep_few =
      subst (λ (k : ℕ). k ≤ n) (sym (length_keep test (up_to n)))
      (subst (λ (k : ℕ). count test (up_to n) ≤ k) (length_up_to n) (count_most test (up_to n)))

-- a test on the kept elements of a list
pub any_keep : {A : Type 0} (test kept : A → Bool) (xs : List A) → any test (keep kept xs) ≡ any (λ x. kept x && test x) xs
unfolding any keep
any_keep test kept [] = refl
any_keep test kept (x ∷ xs) = go (kept x) (any_keep test kept xs)
  where
    go : (b : Bool) → any test (keep kept xs) ≡ any (λ y. kept y && test y) xs
        → any test (cond b (x ∷ keep kept xs) (keep kept xs)) ≡ ((b && test x) || any (λ y. kept y && test y) xs)
    go true e = ap (λ (b : Bool). test x || b) e
    go false e = e

-- a list is its elements in the order of their places
pub listed : {A : Type 0} (xs : List A) (d : A) → map (λ k. get_or xs k d) (up_to (length xs)) ≡ xs
listed xs d =
    ext_get_or d (map (λ k. get_or xs k d) (up_to (length xs))) xs size
    (λ k h.
    let below = subst (λ (n : ℕ). k < n) size h in
    get_d_map (λ j. get_or xs j d) (up_to (length xs)) k 0 d (subst (λ (n : ℕ). k < n) (sym (length_up_to (length xs))) below)
    ∙ ap (λ (j : ℕ). get_or xs j d) (get_d_up_to (length xs) k 0 below))
  where
    size : length (map (λ k. get_or xs k d) (up_to (length xs))) ≡ length xs
    size = length-map (up_to (length xs)) (λ k. get_or xs k d) ∙ length_up_to (length xs)
