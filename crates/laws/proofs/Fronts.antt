-- Front parts of lists, as a loop passes over a list: what one more element adds to a front part and to its sum.
use Prim.Native.Nat.{ℕ, zero, suc, ◌+◌, ◌-◌, ◌≤◌, ◌<◌, zero-le, suc-le-suc}
use native.Mathlib.Nat.{zero-add, not-suc-le-zero, le_of_suc-le-suc, le_refl}
use native.Mathlib.Omega.{arith}
use mathlib.Core.Path.{◌≡◌, refl, sym, ap, ◌∙◌, subst}
use mathlib.Core.Bool.{Bool, true, false, cond}
use mathlib.Core.List.{List, [], ◌∷◌, ◌++◌, map}
use lib.Dec.{ltb, eqb}
use lib.ListN.{length, get_or, take, set, length-set}
use lib.Seq.{take-suc, get_or-set_same, get_or-set_other}
use borrow.Author.Tests.{ltb-true, ltb-false, eqb-true, eqb-false}
use Rattle.laws.specs.Lists.{from, up_to, sum, keep}
use Rattle.laws.proofs.Tests.{by_test}

-- one more number in sequence
pub from_next : (start n : ℕ) → from start (suc n) ≡ from start n ++ ((start + n) ∷ [])
unfolding from
from_next start zero = ap (λ (k : ℕ). k ∷ []) (omega arith)
from_next start (suc n) =
    ap (λ (l : List ℕ). start ∷ l) (from_next (suc start) n ∙ ap (λ (k : ℕ). from (suc start) n ++ (k ∷ [])) (omega arith))

pub up_to_next : (n : ℕ) → up_to (suc n) ≡ up_to n ++ (n ∷ [])
unfolding up_to
up_to_next n = from_next 0 n ∙ ap (λ (k : ℕ). from 0 n ++ (k ∷ [])) (zero-add n)

module _ {A B : Type 0} where
  -- a function on two parts of a list
  pub map_parts : (f : A → B) (xs ys : List A) → map f (xs ++ ys) ≡ map f xs ++ map f ys
  map_parts f [] ys = refl
  map_parts f (x ∷ xs) ys = ap (λ (l : List B). f x ∷ l) (map_parts f xs ys)

-- what a function gives on the numbers so far, and on one more
pub map_up_to_next : {B : Type 0} (f : ℕ → B) (n : ℕ) → map f (up_to (suc n)) ≡ map f (up_to n) ++ (f n ∷ [])
map_up_to_next f n = ap (map f) (up_to_next n) ∙ map_parts f (up_to n) (n ∷ [])

-- the sum of two parts, and of one more element
pub sum_parts : (xs ys : List ℕ) → sum (xs ++ ys) ≡ sum xs + sum ys
unfolding sum
sum_parts [] ys = sym (zero-add (sum ys))
sum_parts (x ∷ xs) ys = ap (λ (n : ℕ). x + n) (sum_parts xs ys) ∙ omega arith

pub sum_take_next : (xs : List ℕ) (n : ℕ) → n < length xs → sum (take (suc n) xs) ≡ sum (take n xs) + get_or xs n 0
unfolding sum
sum_take_next xs n h =
    ap sum (take-suc xs n 0 h) ∙ sum_parts (take n xs) (get_or xs n 0 ∷ []) ∙ ap (λ (k : ℕ). sum (take n xs) + k) (omega arith)

-- a longer front part has no smaller sum
pub sum_take_within : (p q : ℕ) (xs : List ℕ) → p ≤ q → sum (take p xs) ≤ sum (take q xs)
unfolding sum
sum_take_within zero q xs h = zero-le
sum_take_within (suc p) zero xs h = absurd (not-suc-le-zero h)
sum_take_within (suc p) (suc q) [] h = zero-le
sum_take_within (suc p) (suc q) (x ∷ xs) h = omega (arith, sum_take_within p q xs (le_of_suc-le-suc h))

pub sum_take_all : (p : ℕ) (xs : List ℕ) → sum (take p xs) ≤ sum xs
unfolding sum
sum_take_all zero xs = zero-le
sum_take_all (suc p) [] = zero-le
sum_take_all (suc p) (x ∷ xs) = omega (arith, sum_take_all p xs)

-- Where a place stands in blocks of these sizes: in which block, and at which position in it.
pub record Located (sizes : List ℕ) (c : ℕ) : Type 0 where
  pub block : ℕ
  pub position : ℕ
  pub block_there : block < length sizes
  pub inside : position < get_or sizes block 0
  pub place : c ≡ sum (take block sizes) + position

-- past the first block
behind : (size : ℕ) (sizes : List ℕ) (c : ℕ) → size ≤ c → Located sizes (c - size) → Located (size ∷ sizes) c
behind size sizes c h r = record {
  block = suc r.block;
  position = r.position;
  block_there = suc-le-suc r.block_there;
  inside = r.inside;
  place = unfold sum in (let e = r.place in omega arith);
}

pub located : (sizes : List ℕ) (c : ℕ) → c < sum sizes → Located sizes c
unfolding sum
located [] c h = absurd (not-suc-le-zero h)
located (size ∷ sizes) c h =
    by_test (ltb c size)
    (λ e. record { block = 0; position = c; block_there = omega arith; inside = ltb-true c size e; place = sym (zero-add c) })
    (λ e. let k = ltb-false c size e in behind size sizes c k (located sizes (c - size) (omega arith)))

-- An array that a loop works over from the front, place by place: new numbers in the places passed, old ones in those ahead.
pub record Reworked (new old : ℕ → ℕ) (size i : ℕ) (l : List ℕ) : Type 0 where
  pub sized : length l ≡ size
  pub done : (j : ℕ) → j < i → get_or l j 0 ≡ new j
  pub ahead : (j : ℕ) → i ≤ j → get_or l j 0 ≡ old j

module _ (new old : ℕ → ℕ) (size : ℕ) where
  -- before the first place
  pub rework_start : (l : List ℕ) → length l ≡ size → ((j : ℕ) → get_or l j 0 ≡ old j) → Reworked new old size 0 l
  rework_start l e h = record { sized = e; done = λ j k. absurd (not-suc-le-zero k); ahead = λ j k. h j }

  -- a place is set, or stays where the old number is the new one
  pub rework_set : (i v : ℕ) (l : List ℕ) → i < size → v ≡ new i → Reworked new old size i l → Reworked new old size (i + 1) (set l i v)
  rework_set i v l h e r = record {
    sized = length-set l i v ∙ r.sized;
    done =
        λ j k. by_test (eqb j i)
        (λ t. let p = eqb-true j i t in
        subst (λ (m : ℕ). get_or (set l i v) m 0 ≡ new m) (sym p)
        (get_or-set_same l i v 0 (subst (λ (n : ℕ). i < n) (sym r.sized) h) ∙ e))
        (λ t. let p = eqb-false j i t in get_or-set_other l i j v 0 p ∙ r.done j (omega arith));
    ahead = λ j k. get_or-set_other l i j v 0 (λ p. omega arith) ∙ r.ahead j (omega arith);
  }

  pub rework_keep : (i : ℕ) (l : List ℕ) → old i ≡ new i → Reworked new old size i l → Reworked new old size (i + 1) l
  rework_keep i l e r = record {
    sized = r.sized;
    done =
        λ j k. by_test (eqb j i)
        (λ t. let p = eqb-true j i t in subst (λ (m : ℕ). get_or l m 0 ≡ new m) (sym p) (r.ahead i (le_refl i) ∙ e))
        (λ t. let p = eqb-false j i t in r.done j (omega arith));
    ahead = λ j k. r.ahead j (omega arith);
  }

-- ---- the kept elements of a front part

module _ {A : Type 0} (test : A → Bool) where
  pub keep_parts : (xs ys : List A) → keep test (xs ++ ys) ≡ keep test xs ++ keep test ys
  unfolding keep
  keep_parts [] ys = refl
  keep_parts (x ∷ xs) ys = go (test x) (keep_parts xs ys)
    where
      go : (b : Bool) → keep test (xs ++ ys) ≡ keep test xs ++ keep test ys
          → cond b (x ∷ keep test (xs ++ ys)) (keep test (xs ++ ys)) ≡ cond b (x ∷ keep test xs) (keep test xs) ++ keep test ys
      go true e = ap (λ (l : List A). x ∷ l) e
      go false e = e
