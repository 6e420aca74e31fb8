-- Lists: what some, every, kept, counted and numbered elements are.
use Prim.Native.Nat.{ℕ, zero, suc, ◌+◌, ◌≤◌, ◌<◌, zero-le, suc-le-suc}
use native.Mathlib.Nat.{le_of_suc-le-suc, not-suc-le-zero, zero-add, suc-add}
use native.Mathlib.Omega.{arith}
use mathlib.Core.Path.{◌≡◌, refl, sym, ap, ◌∙◌, subst}
use mathlib.Core.Bool.{Bool, true, false, cond}
use mathlib.Core.Logic.{◌⊎◌, inl, inr, ⊎_elim}
use mathlib.Core.List.Memᴰ
use mathlib.Core.List.{List, [], ◌∷◌, ◌++◌, flat_map, Memᴰ}
use mathlib.Core.List.{append_assoc}
use lib.Dec.{eqb}
use lib.ListN.{length, get_or, take}
use borrow.Author.Tests.{eqb-true, eqb-false, eq-eqb}
use Rattle.laws.specs.Lists.{any, all, keep, count, from, up_to, member, same}
use Rattle.laws.proofs.Tests.{never, and_left, and_right, and_intro, or_cases, or_left, or_right, by_test}

module _ {A : Type 0} where
  -- every element of a list passes a test that the list passes
  pub all_at : (test : A → Bool) (xs : List A) → all test xs ≡ true → (x : A) → Memᴰ x xs → test x ≡ true
  unfolding all
  all_at test [] e x m = absurd (Memᴰ.not-nil m)
  all_at test (y ∷ ys) e x m =
      ⊎_elim (λ p. ap test p ∙ and_left (test y) (all test ys) e)
      (λ k. all_at test ys (and_right (test y) (all test ys) e) x k)
      (Memᴰ.cases_cons m)

  pub all_intro : (test : A → Bool) (xs : List A) → ((x : A) → Memᴰ x xs → test x ≡ true) → all test xs ≡ true
  unfolding all
  all_intro test [] f = refl
  all_intro test (y ∷ ys) f =
      and_intro (test y) (all test ys) (f y (Memᴰ.head refl)) (all_intro test ys (λ x m. f x (Memᴰ.tail m)))

  -- some element passes
  pub any_at : (test : A → Bool) (xs : List A) → any test xs ≡ true → (x : A) × Memᴰ x xs × (test x ≡ true)
  unfolding any
  any_at test [] e = never (sym e)
  any_at test (y ∷ ys) e =
      ⊎_elim (λ p. (y, Memᴰ.head refl, p))
      (λ q. let r = any_at test ys q in (r.0, Memᴰ.tail r.1, r.2))
      (or_cases (test y) (any test ys) e)

  pub any_intro : (test : A → Bool) (xs : List A) (x : A) → Memᴰ x xs → test x ≡ true → any test xs ≡ true
  unfolding any
  any_intro test [] x m e = absurd (Memᴰ.not-nil m)
  any_intro test (y ∷ ys) x m e =
      ⊎_elim (λ p. or_left (test y) (any test ys) (sym (ap test p) ∙ e))
      (λ k. or_right (test y) (any test ys) (any_intro test ys x k e))
      (Memᴰ.cases_cons m)

  -- no element passes
  pub any_none : (test : A → Bool) (xs : List A) → any test xs ≡ false → (x : A) → Memᴰ x xs → test x ≡ false
  any_none test xs e x m = by_test (test x) (λ p. never (sym (any_intro test xs x m p) ∙ e)) (λ q. q)

  pub any_false : (test : A → Bool) (xs : List A) → ((x : A) → Memᴰ x xs → test x ≡ false) → any test xs ≡ false
  any_false test xs f =
      by_test (any test xs) (λ p. let r = any_at test xs p in never (sym r.2 ∙ f r.0 r.1)) (λ q. q)

  -- the kept elements are those that pass
  pub keep_at : (test : A → Bool) (xs : List A) (x : A) → Memᴰ x (keep test xs) → Memᴰ x xs × (test x ≡ true)
  unfolding keep
  keep_at test [] x m = absurd (Memᴰ.not-nil m)
  keep_at test (y ∷ ys) x m = go (keep_at test ys x) (test y) refl m
    where
      go : (Memᴰ x (keep test ys) → Memᴰ x ys × (test x ≡ true)) → (b : Bool) → test y ≡ b
          → Memᴰ x (cond b (y ∷ keep test ys) (keep test ys)) → Memᴰ x (y ∷ ys) × (test x ≡ true)
      go later true e k =
          ⊎_elim (λ p. (Memᴰ.head p, ap test p ∙ e)) (λ j. (Memᴰ.tail (later j).0, (later j).1))
          (Memᴰ.cases_cons k)
      go later false e k = (Memᴰ.tail (later k).0, (later k).1)

  pub keep_intro : (test : A → Bool) (xs : List A) (x : A) → Memᴰ x xs → test x ≡ true → Memᴰ x (keep test xs)
  unfolding keep
  keep_intro test [] x m e = absurd (Memᴰ.not-nil m)
  keep_intro test (y ∷ ys) x m e = go (λ k. keep_intro test ys x k e) (test y) refl (Memᴰ.cases_cons m)
    where
      go : (Memᴰ x ys → Memᴰ x (keep test ys)) → (b : Bool) → test y ≡ b → (x ≡ y) ⊎ Memᴰ x ys
          → Memᴰ x (cond b (y ∷ keep test ys) (keep test ys))
      go later true h (inl p) = Memᴰ.head p
      go later true h (inr k) = Memᴰ.tail (later k)
      go later false h (inl p) = never (sym e ∙ ap test p ∙ h)
      go later false h (inr k) = later k

  -- the number of kept elements
  pub length_keep : (test : A → Bool) (xs : List A) → length (keep test xs) ≡ count test xs
  unfolding keep count
  length_keep test [] = refl
  length_keep test (x ∷ xs) = go (length_keep test xs) (test x)
    where
      go : length (keep test xs) ≡ count test xs → (b : Bool)
          → length (cond b (x ∷ keep test xs) (keep test xs)) ≡ cond b (suc (count test xs)) (count test xs)
      go later true = ap suc later
      go later false = later

  pub count_append : (test : A → Bool) (xs ys : List A) → count test (xs ++ ys) ≡ count test xs + count test ys
  unfolding count
  count_append test [] ys = sym (zero-add (count test ys))
  count_append test (x ∷ xs) ys = go (test x) (count_append test xs ys)
    where
      go : (b : Bool) → count test (xs ++ ys) ≡ count test xs + count test ys
          → cond b (suc (count test (xs ++ ys))) (count test (xs ++ ys))
          ≡ cond b (suc (count test xs)) (count test xs) + count test ys
      go true e = ap suc e ∙ sym (suc-add (count test xs) (count test ys))
      go false e = e

  -- tests that agree count alike
  pub count_ext : (f g : A → Bool) (xs : List A) → ((x : A) → Memᴰ x xs → f x ≡ g x) → count f xs ≡ count g xs
  unfolding count
  count_ext f g [] h = refl
  count_ext f g (x ∷ xs) h =
      ap (λ (n : ℕ). cond (f x) (suc n) n) (count_ext f g xs (λ y m. h y (Memᴰ.tail m)))
      ∙ ap (λ (b : Bool). cond b (suc (count g xs)) (count g xs)) (h x (Memᴰ.head refl))

  -- nothing passes: the count is 0; and an element that passes makes it positive
  pub count_none : (f : A → Bool) (xs : List A) → ((x : A) → Memᴰ x xs → f x ≡ false) → count f xs ≡ 0
  unfolding count
  count_none f [] h = refl
  count_none f (x ∷ xs) h =
      ap (λ (b : Bool). cond b (suc (count f xs)) (count f xs)) (h x (Memᴰ.head refl))
      ∙ count_none f xs (λ y m. h y (Memᴰ.tail m))

  pub count_some : (f : A → Bool) (xs : List A) (x : A) → Memᴰ x xs → f x ≡ true → 0 < count f xs
  unfolding count
  count_some f [] x m e = absurd (Memᴰ.not-nil m)
  count_some f (y ∷ ys) x m e = go (λ k. count_some f ys x k e) (f y) refl (Memᴰ.cases_cons m)
    where
      go : (Memᴰ x ys → 0 < count f ys) → (b : Bool) → f y ≡ b → (x ≡ y) ⊎ Memᴰ x ys
          → 0 < cond b (suc (count f ys)) (count f ys)
      go later true h k = suc-le-suc zero-le
      go later false h (inl p) = never (sym e ∙ ap f p ∙ h)
      go later false h (inr k) = later k

  -- an element at a place is a member, and a member has a place
  pub mem_get_d : (xs : List A) (i : ℕ) (d : A) → i < length xs → Memᴰ (get_or xs i d) xs
  mem_get_d [] i d h = absurd (not-suc-le-zero h)
  mem_get_d (x ∷ xs) zero d h = Memᴰ.head refl
  mem_get_d (x ∷ xs) (suc i) d h = Memᴰ.tail (mem_get_d xs i d (le_of_suc-le-suc h))

  pub place_of : (xs : List A) (x d : A) → Memᴰ x xs → (i : ℕ) × (i < length xs) × (get_or xs i d ≡ x)
  place_of [] x d m = absurd (Memᴰ.not-nil m)
  place_of (y ∷ ys) x d m =
      ⊎_elim (λ p. (0, suc-le-suc zero-le, sym p))
      (λ k. let r = place_of ys x d k in (suc r.0, suc-le-suc r.1, r.2))
      (Memᴰ.cases_cons m)

  -- a member of a front part is a member
  pub mem_take : (n : ℕ) (xs : List A) (x : A) → Memᴰ x (take n xs) → Memᴰ x xs
  mem_take zero xs x m = absurd (Memᴰ.not-nil m)
  mem_take (suc n) [] x m = absurd (Memᴰ.not-nil m)
  mem_take (suc n) (y ∷ ys) x m =
      ⊎_elim Memᴰ.head (λ k. Memᴰ.tail (mem_take n ys x k)) (Memᴰ.cases_cons m)

module _ {A B : Type 0} where
  -- members of a list made element by element
  pub flat_map_at : (f : A → List B) (xs : List A) (y : B) → Memᴰ y (flat_map f xs) → (x : A) × Memᴰ x xs × Memᴰ y (f x)
  unfolding flat_map
  flat_map_at f [] y m = absurd (Memᴰ.not-nil m)
  flat_map_at f (x ∷ xs) y m =
      ⊎_elim (λ k. (x, Memᴰ.head refl, k))
      (λ k. let r = flat_map_at f xs y k in (r.0, Memᴰ.tail r.1, r.2))
      (Memᴰ.append_cases (f x) m)

  pub flat_map_intro : (f : A → List B) (xs : List A) (x : A) (y : B) → Memᴰ x xs → Memᴰ y (f x) → Memᴰ y (flat_map f xs)
  unfolding flat_map
  flat_map_intro f [] x y m k = absurd (Memᴰ.not-nil m)
  flat_map_intro f (z ∷ zs) x y m k =
      ⊎_elim (λ p. Memᴰ.append_left (flat_map f zs) (subst (λ (w : A). Memᴰ y (f w)) p k))
      (λ j. Memᴰ.append_right (f z) (flat_map_intro f zs x y j k))
      (Memᴰ.cases_cons m)

  pub flat_map_append : (f : A → List B) (xs ys : List A) → flat_map f (xs ++ ys) ≡ flat_map f xs ++ flat_map f ys
  unfolding flat_map
  flat_map_append f [] ys = refl
  flat_map_append f (x ∷ xs) ys = ap (λ (l : List B). f x ++ l) (flat_map_append f xs ys) ∙ sym (append_assoc (f x) (flat_map f xs) (flat_map f ys))

-- numbers in sequence
pub length_from : (start size : ℕ) → length (from start size) ≡ size
unfolding from
length_from start zero = refl
length_from start (suc size) = ap suc (length_from (suc start) size)

pub from_at : (start size n : ℕ) → Memᴰ n (from start size) → (start ≤ n) × (n < start + size)
unfolding from
from_at start zero n m = absurd (Memᴰ.not-nil m)
from_at start (suc size) n m =
    ⊎_elim (λ p. (omega arith, omega arith)) (λ k. let r = from_at (suc start) size n k in (omega arith, omega arith))
    (Memᴰ.cases_cons m)

pub from_intro : (start size n : ℕ) → start ≤ n → n < start + size → Memᴰ n (from start size)
unfolding from
from_intro start zero n h k = absurd (omega arith)
from_intro start (suc size) n h k =
    by_test (eqb n start) (λ e. Memᴰ.head (eqb-true n start e))
    (λ e. let d = eqb-false n start e in Memᴰ.tail (from_intro (suc start) size n (step d) (omega arith)))
  where
    step : (n ≡ start → ⊥) → suc start ≤ n
    step d = omega arith

pub get_d_from : (start size i d : ℕ) → i < size → get_or (from start size) i d ≡ start + i
unfolding from
get_d_from start zero i d h = absurd (not-suc-le-zero h)
get_d_from start (suc size) zero d h = omega arith
get_d_from start (suc size) (suc i) d h = get_d_from (suc start) size i d (le_of_suc-le-suc h) ∙ omega arith

pub length_up_to : (n : ℕ) → length (up_to n) ≡ n
unfolding up_to
length_up_to n = length_from 0 n

pub up_to_at : (n i : ℕ) → Memᴰ i (up_to n) → i < n
unfolding up_to
up_to_at n i m = let r = from_at 0 n i m in omega (arith, r.1)

pub up_to_intro : (n i : ℕ) → i < n → Memᴰ i (up_to n)
unfolding up_to
up_to_intro n i h = from_intro 0 n i zero-le (omega arith)

pub get_d_up_to : (n i d : ℕ) → i < n → get_or (up_to n) i d ≡ i
unfolding up_to
get_d_up_to n i d h = get_d_from 0 n i d h ∙ zero-add i

-- the test for membership is membership
pub member_at : (n : ℕ) (ns : List ℕ) → member n ns ≡ true → Memᴰ n ns
unfolding member
member_at n ns e = let r = any_at (eqb n) ns e in subst (λ (k : ℕ). Memᴰ k ns) (sym (eqb-true n r.0 r.2)) r.1

pub member_intro : (n : ℕ) (ns : List ℕ) → Memᴰ n ns → member n ns ≡ true
unfolding member
member_intro n ns m = any_intro (eqb n) ns n m (eq-eqb n n refl)

pub member_not : (n : ℕ) (ns : List ℕ) → member n ns ≡ false → Memᴰ n ns → ⊥
member_not n ns e m = never (sym (member_intro n ns m) ∙ e)

pub not_member : (n : ℕ) (ns : List ℕ) → (Memᴰ n ns → ⊥) → member n ns ≡ false
not_member n ns f = by_test (member n ns) (λ p. absurd (f (member_at n ns p))) (λ q. q)

-- the test for equal lists is equality
pub same_eq : (xs ys : List ℕ) → same xs ys ≡ true → xs ≡ ys
unfolding same
same_eq [] [] e = refl
same_eq [] (y ∷ ys) e = never (sym e)
same_eq (x ∷ xs) [] e = never (sym e)
same_eq (x ∷ xs) (y ∷ ys) e =
    ap (λ (n : ℕ). n ∷ xs) (eqb-true x y (and_left (eqb x y) (same xs ys) e))
    ∙ ap (λ (l : List ℕ). y ∷ l) (same_eq xs ys (and_right (eqb x y) (same xs ys) e))

pub same_refl : (xs : List ℕ) → same xs xs ≡ true
unfolding same
same_refl [] = refl
same_refl (x ∷ xs) = and_intro (eqb x x) (same xs xs) (eq-eqb x x refl) (same_refl xs)
