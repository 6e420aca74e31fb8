-- Sums and counts over numbers in sequence: counting a relation by rows or by columns, and how many a list of different numbers holds.
use Prim.Native.Nat.{ℕ, zero, suc, ◌+◌, ◌*◌, ◌≤◌, ◌<◌}
use native.Mathlib.Nat.{zero-add, mul-suc, mul-zero, not-suc-le-zero}
use native.Mathlib.Omega.{arith}
use mathlib.Core.Path.{◌≡◌, refl, sym, ap, ◌∙◌}
use mathlib.Core.Bool.{Bool, true, false, cond, not, ◌||◌}
use mathlib.Core.List.{List, [], ◌∷◌, map, Memᴰ}
use lib.Dec.{eqb}
use lib.ListN.{length, get_or}
use borrow.Author.Tests.{eqb-true, eqb-false, ne_eqb}
use Rattle.laws.specs.Lists.{count, from, up_to, sum, member, any, distinct, stands_at}
use Rattle.laws.proofs.Tests.{never, by_test, not-true, and_left, and_right}
use Rattle.laws.proofs.Lists.{count_none, from_at}

module _ {A : Type 0} where
  -- one more of each that passes
  pub sum_one_more : (test : A → Bool) (g : A → ℕ) (xs : List A)
      → sum (map (λ x. cond (test x) (suc (g x)) (g x)) xs) ≡ count test xs + sum (map g xs)
  unfolding sum count
  sum_one_more test g [] = refl
  sum_one_more test g (x ∷ xs) = go (sum_one_more test g xs) (test x)
    where
      go : sum (map (λ y. cond (test y) (suc (g y)) (g y)) xs) ≡ count test xs + sum (map g xs) → (b : Bool)
          → cond b (suc (g x)) (g x) + sum (map (λ y. cond (test y) (suc (g y)) (g y)) xs)
          ≡ cond b (suc (count test xs)) (count test xs) + (g x + sum (map g xs))
      go e true = omega arith
      go e false = omega arith

  -- functions that agree have one sum
  pub sum_ext : (f g : A → ℕ) (xs : List A) → ((x : A) → Memᴰ x xs → f x ≡ g x) → sum (map f xs) ≡ sum (map g xs)
  unfolding sum
  sum_ext f g [] h = refl
  sum_ext f g (x ∷ xs) h =
      ap (λ (n : ℕ). n + sum (map f xs)) (h x (Memᴰ.head refl))
      ∙ ap (λ (n : ℕ). g x + n) (sum_ext f g xs (λ y m. h y (Memᴰ.tail m)))

  -- nothing added up
  pub sum_zero : (xs : List A) → sum (map (λ x. 0) xs) ≡ 0
  unfolding sum
  sum_zero [] = refl
  sum_zero (x ∷ xs) = zero-add (sum (map (λ x. 0) xs)) ∙ sum_zero xs

  -- the same number for each that passes, and 0 for the others
  pub sum_same : (test : A → Bool) (n : ℕ) (xs : List A) → sum (map (λ x. cond (test x) n 0) xs) ≡ n * count test xs
  unfolding sum count
  sum_same test n [] = sym (mul-zero n)
  sum_same test n (x ∷ xs) = go (sum_same test n xs) (test x)
    where
      go : sum (map (λ y. cond (test y) n 0) xs) ≡ n * count test xs → (b : Bool)
          → cond b n 0 + sum (map (λ y. cond (test y) n 0) xs) ≡ n * cond b (suc (count test xs)) (count test xs)
      go e true =
          let step = mul-suc n (count test xs) in omega arith
      go e false = omega arith

  -- two tests that never pass together
  pub count_apart : (f g : A → Bool) (xs : List A) → ((x : A) → Memᴰ x xs → f x ≡ true → g x ≡ false)
      → count (λ x. f x || g x) xs ≡ count f xs + count g xs
  unfolding count
  count_apart f g [] h = refl
  count_apart f g (x ∷ xs) h =
      go (count_apart f g xs (λ y m. h y (Memᴰ.tail m))) (f x) (g x) (h x (Memᴰ.head refl))
    where
      go : count (λ y. f y || g y) xs ≡ count f xs + count g xs → (a b : Bool) → (a ≡ true → b ≡ false)
          → cond (a || b) (suc (count (λ y. f y || g y) xs)) (count (λ y. f y || g y) xs)
          ≡ cond a (suc (count f xs)) (count f xs) + cond b (suc (count g xs)) (count g xs)
      go e true true k = never (k refl)
      go e true false k = omega arith
      go e false true k = omega arith
      go e false false k = e

-- a number stands once among those in sequence
pub count_from : (start size x : ℕ) → start ≤ x → x < start + size → count (λ o. eqb o x) (from start size) ≡ 1
unfolding count from
count_from start zero x h k = absurd (omega arith)
count_from start (suc size) x h k =
    by_test (eqb start x)
    (λ e.
    let same : start ≡ x = eqb-true start x e in
    ap (λ (b : Bool). cond b (suc (count (λ o. eqb o x) (from (suc start) size))) (count (λ o. eqb o x) (from (suc start) size))) e
    ∙ ap suc (count_none (λ o. eqb o x) (from (suc start) size) (λ o m. above o (from_at (suc start) size o m).0 same)))
    (λ e.
    ap (λ (b : Bool). cond b (suc (count (λ o. eqb o x) (from (suc start) size))) (count (λ o. eqb o x) (from (suc start) size))) e
    ∙ later (eqb-false start x e) (count_from (suc start) size x))
  where
    above : (o : ℕ) → suc start ≤ o → start ≡ x → eqb o x ≡ false
    above o g same = ne_eqb o x (λ q. omega arith)

    later : (start ≡ x → ⊥) → (suc start ≤ x → x < suc start + size → count (λ o. eqb o x) (from (suc start) size) ≡ 1)
        → count (λ o. eqb o x) (from (suc start) size) ≡ 1
    later different next = next (omega arith) (omega arith)

pub count_up_to : (n x : ℕ) → x < n → count (λ o. eqb o x) (up_to n) ≡ 1
unfolding up_to
count_up_to n x h = count_from 0 n x (omega arith) (omega arith)

-- a list of different numbers below n holds as many of them as it is long
pub count_members : (n : ℕ) (xs : List ℕ) → distinct xs ≡ true → ((x : ℕ) → Memᴰ x xs → x < n)
    → count (λ o. member o xs) (up_to n) ≡ length xs
unfolding distinct member any
count_members n [] d h = count_none (λ o. false) (up_to n) (λ o m. refl)
count_members n (x ∷ xs) d h =
    count_apart (λ o. eqb o x) (λ o. any (eqb o) xs) (up_to n)
    (λ o m e. apart o e)
    ∙ ap
    (λ (k : ℕ). k + count (λ o. any (eqb o) xs) (up_to n))
    (count_up_to n x (h x (Memᴰ.head refl)))
    ∙ ap
    (λ (k : ℕ). 1 + k)
    (count_members n xs (and_right (not (any (eqb x) xs)) (distinct xs) d) (λ y m. h y (Memᴰ.tail m)))
    ∙ one_plus (length xs)
  where
    apart : (o : ℕ) → eqb o x ≡ true → any (eqb o) xs ≡ false
    apart o e =
        ap (λ (y : ℕ). any (eqb y) xs) (eqb-true o x e) ∙ not-true (any (eqb x) xs) (and_left (not (any (eqb x) xs)) (distinct xs) d)

    one_plus : (k : ℕ) → 1 + k ≡ suc k
    one_plus k = omega arith

-- the number at a position
pub stands_at_get_d : (x i : ℕ) (ys : List ℕ) → i < length ys → stands_at x i ys ≡ eqb x (get_or ys i 0)
unfolding stands_at
stands_at_get_d x i [] h = absurd (not-suc-le-zero h)
stands_at_get_d x zero (y ∷ ys) h = refl
stands_at_get_d x (suc i) (y ∷ ys) h = stands_at_get_d x i ys (omega arith)

-- what stands at a position is on the list
pub stands_at_member : (x i : ℕ) (ys : List ℕ) → stands_at x i ys ≡ true → Memᴰ x ys
unfolding stands_at
stands_at_member x i [] e = never (sym e)
stands_at_member x zero (y ∷ ys) e = Memᴰ.head (eqb-true x y e)
stands_at_member x (suc i) (y ∷ ys) e = Memᴰ.tail (stands_at_member x i ys e)
