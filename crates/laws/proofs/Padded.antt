-- Arrays filled from the front, with a blank in the places past what was written.
use Prim.Native.Nat.{ℕ, zero, suc, ◌+◌, ◌-◌, ◌≤◌, ◌<◌}
use native.Mathlib.Numerals.{add-one}
use native.Mathlib.Omega.{arith}
use mathlib.Core.Path.{◌≡◌, refl, sym, ap, ◌∙◌, subst}
use mathlib.Core.Bool.{Bool, true, false}
use mathlib.Core.List.{List, [], ◌∷◌, ◌++◌, map, map-append, append_assoc, append-nil, Memᴰ}
use lib.Dec.{ltb}
use lib.ListN.{length, take, get_or, set, replicate, length-map, length-append, length-replicate, get_or-append, get_or-eq_default}
use lib.Seq.{set-append_seam, take-suc, length-take-le}
use borrow.Author.Tests.{ltb-true, ltb-false}
use Rattle.laws.specs.Lists.{keep, up_to, padded}
use Rattle.laws.proofs.Tests.{by_test, cond_true, cond_false}
use Rattle.laws.proofs.Lists.{mem_get_d, length_keep, length_up_to}
use Rattle.laws.proofs.Counting.{count_most}
use Rattle.laws.proofs.Fronts.{keep_parts}
use Rattle.laws.proofs.Walks.{up_to_next}

module _ {A : Type 0} where
  get_d_blanks : (n i : ℕ) (blank : A) → get_or (replicate n blank) i blank ≡ blank
  get_d_blanks zero i blank = refl
  get_d_blanks (suc n) zero blank = refl
  get_d_blanks (suc n) (suc i) blank = get_d_blanks n i blank

  get_d_before_blanks : (xs : List A) (n i : ℕ) (blank : A) → get_or (xs ++ replicate n blank) i blank ≡ get_or xs i blank
  get_d_before_blanks [] n i blank = get_d_blanks n i blank
  get_d_before_blanks (x ∷ xs) n zero blank = refl
  get_d_before_blanks (x ∷ xs) n (suc i) blank = get_d_before_blanks xs n i blank

module _ {A : Type 0} (size : ℕ) (blank : A) where
  pub length_padded : (xs : List A) → length xs ≤ size → length (padded size blank xs) ≡ size
  unfolding padded
  length_padded xs h =
      length-append xs (replicate (size - length xs) blank) ∙ (let z = length-replicate (size - length xs) blank in omega arith)

  -- each element is where it was
  pub padded_at : (xs : List A) (i : ℕ) (d : A) → i < length xs → get_or (padded size blank xs) i d ≡ get_or xs i d
  unfolding padded
  padded_at xs i d h = get_or-append xs (replicate (size - length xs) blank) d i h

  -- at each place stands the element, or the blank
  pub padded_get_d : (xs : List A) (i : ℕ) → get_or (padded size blank xs) i blank ≡ get_or xs i blank
  unfolding padded
  padded_get_d xs i = get_d_before_blanks xs (size - length xs) i blank

  pub padded_past : (xs : List A) (i : ℕ) → length xs ≤ i → get_or (padded size blank xs) i blank ≡ blank
  padded_past xs i h = padded_get_d xs i ∙ get_or-eq_default xs blank h

  -- the next element takes the first place past the elements
  pub padded_next : (xs : List A) (x : A) → length xs < size → set (padded size blank xs) (length xs) x ≡ padded size blank (xs ++ (x ∷ []))
  unfolding padded
  padded_next xs x h =
      ap (λ (k : ℕ). set (xs ++ replicate k blank) (length xs) x) (one_less h)
      ∙ set-append_seam xs blank (replicate (size - suc (length xs)) blank) x
      ∙ sym (append_assoc xs (x ∷ []) (replicate (size - suc (length xs)) blank))
      ∙ ap (λ (k : ℕ). (xs ++ (x ∷ [])) ++ replicate (size - k) blank) (sym (one_more (length-append xs (x ∷ []))))
    where
      one_less : {a b : ℕ} → a < b → b - a ≡ suc (b - suc a)
      one_less h = omega arith

      one_more : {a b : ℕ} → a ≡ b + 1 → a ≡ suc b
      one_more h = omega arith

  -- the same at a place that is their number
  pub padded_set : (xs : List A) {i : ℕ} (x : A) → length xs ≡ i → i < size → set (padded size blank xs) i x ≡ padded size blank (xs ++ (x ∷ []))
  padded_set xs x e h =
      ap (λ (k : ℕ). set (padded size blank xs) k x) (sym e) ∙ padded_next xs x (subst (λ (k : ℕ). k < size) (sym e) h)

-- an array of numbers below a bound, filled up with 0, holds numbers below it
pub padded_below : (n m : ℕ) (xs : List ℕ) → ((x : ℕ) → Memᴰ x xs → x < m) → 0 < m → (i : ℕ) → get_or (padded n 0 xs) i 0 < m
padded_below n m xs below positive i =
    by_test (ltb i (length xs))
    (λ e.
    let h = ltb-true i (length xs) e in
    subst (λ (x : ℕ). x < m) (sym (padded_at n 0 xs i 0 h)) (below (get_or xs i 0) (mem_get_d xs i 0 h)))
    (λ e. subst (λ (x : ℕ). x < m) (sym (padded_past n 0 xs i (ltb-false i (length xs) e))) positive)

-- An array that holds those elements of a front that pass a test, and how many there are.
module _ {A : Type 0} (test : A → Bool) (size : ℕ) (blank : A) (front : List A) (x : A) (array : List A) (count : ℕ) (room : length front < size)
    (counted : count ≡ length (keep test front)) (are : array ≡ padded size blank (keep test front)) where
  more : keep test (front ++ (x ∷ [])) ≡ keep test front ++ keep test (x ∷ [])
  more = keep_parts test front (x ∷ [])

  -- the next element passes and is written behind them
  pub passed_written : test x ≡ true
      → (count + 1 ≡ length (keep test (front ++ (x ∷ [])))) × (set array count x ≡ padded size blank (keep test (front ++ (x ∷ []))))
  unfolding keep
  passed_written e =
      let next = more ∙ ap (λ (l : List A). keep test front ++ l) (cond_true (test x) (x ∷ []) [] e) in
      let few = length_keep test front in
      let most = count_most test front in (
        ap (λ (k : ℕ). k + 1) counted ∙ sym (length-append (keep test front) (x ∷ [])) ∙ ap length (sym next),
        ap (λ (l : List A). set l count x) are
            ∙ padded_set size blank (keep test front) x (sym counted) (omega arith)
            ∙ ap (padded size blank) (sym next),
      )

  -- or fails, and nothing changes
  pub failed_skipped : test x ≡ false
      → (count ≡ length (keep test (front ++ (x ∷ [])))) × (array ≡ padded size blank (keep test (front ++ (x ∷ []))))
  unfolding keep
  failed_skipped e =
      let next = sym (more ∙ ap (λ (l : List A). keep test front ++ l) (cond_false (test x) (x ∷ []) [] e) ∙ append-nil (keep test front)) in
      (counted ∙ ap length next, are ∙ ap (padded size blank) next)

-- the same of the numbers so far
module _ (test : ℕ → Bool) (n : ℕ) (array : List ℕ) (count i : ℕ) (room : i < n)
    (counted : count ≡ length (keep test (up_to i))) (are : array ≡ padded n 0 (keep test (up_to i))) where
  inside : length (up_to i) < n
  inside = subst (λ (k : ℕ). k < n) (sym (length_up_to i)) room

  pub pick_written : test i ≡ true
      → (count + 1 ≡ length (keep test (up_to (i + 1)))) × (set array count i ≡ padded n 0 (keep test (up_to (i + 1))))
  pick_written e = rw (up_to_next i) (passed_written test n 0 (up_to i) i array count inside counted are e)

  pub pick_skipped : test i ≡ false
      → (count ≡ length (keep test (up_to (i + 1)))) × (array ≡ padded n 0 (keep test (up_to (i + 1))))
  pick_skipped e = rw (up_to_next i) (failed_skipped test n 0 (up_to i) i array count inside counted are e)

-- An array that holds what a function gives of the first i elements of a list: the next is written behind them.
pub map_written : {A : Type 0} (n : ℕ) (f : A → ℕ) (xs : List A) (d : A) (array : List ℕ) (i : ℕ) → i < n → i < length xs
    → array ≡ padded n 0 (map f (take i xs)) → set array i (f (get_or xs i d)) ≡ padded n 0 (map f (take (i + 1) xs))
map_written n f xs d array i room h are =
    ap (λ (l : List ℕ). set l i (f (get_or xs i d))) are
    ∙ padded_set n 0 (map f (take i xs)) (f (get_or xs i d)) (length-map (take i xs) f ∙ length-take-le i xs (omega arith)) room
    ∙ ap (padded n 0) (sym (map-append f (take i xs) (get_or xs i d ∷ [])) ∙ ap (map f) (sym one_more))
  where
    one_more : take (i + 1) xs ≡ take i xs ++ (get_or xs i d ∷ [])
    one_more = ap (λ (k : ℕ). take k xs) (add-one i) ∙ take-suc xs i d h
