-- Orders: lists of numbers in the order by elements, front to back; lists in which nothing stands twice; lists all of whose elements pass a test.
use Prim.Native.Nat.{ℕ, zero, suc, ◌≤◌, ◌<◌, zero-le, suc-le-suc}
use native.Mathlib.Nat.{le_of_suc-le-suc, not-suc-le-zero}
use native.Mathlib.Omega.{arith}
use mathlib.Core.Path.{◌≡◌, refl, sym, ap, ◌∙◌}
use mathlib.Core.Bool.{Bool, true, false, ◌&&◌, ◌||◌}
use mathlib.Core.Logic.{◌⊎◌, inl, inr, ⊎_elim}
use mathlib.Core.List.{List, [], ◌∷◌, ◌++◌, head-eq_of_cons-eq, tail-eq_of_cons-eq}
use lib.Dec.{eqb, ltb}
use lib.ListN.{length, get_or, take}
use borrow.Author.Tests.{eqb-true, eqb-false, eq-eqb, ltb-true, ltb-false, lt-ltb}
use Rattle.laws.specs.Lists.{before}
use Rattle.laws.proofs.Tests.{never, and_left, and_right, and_intro, or_cases, or_left, or_right, by_test}

-- the first elements decide, or they are equal and the rest decides
pub before_cases :
    (x y : ℕ) (xs ys : List ℕ) → before (x ∷ xs) (y ∷ ys) ≡ true → (x < y) ⊎ ((x ≡ y) × (before xs ys ≡ true))
unfolding before
before_cases x y xs ys e =
    ⊎_elim (λ p. inl (ltb-true x y p))
    (λ p. inr (eqb-true x y (and_left (eqb x y) (before xs ys) p), and_right (eqb x y) (before xs ys) p))
    (or_cases (ltb x y) (eqb x y && before xs ys) e)

pub before_first : (x y : ℕ) (xs ys : List ℕ) → x < y → before (x ∷ xs) (y ∷ ys) ≡ true
unfolding before
before_first x y xs ys h = or_left (ltb x y) (eqb x y && before xs ys) (lt-ltb x y h)

pub before_rest : (x y : ℕ) (xs ys : List ℕ) → x ≡ y → before xs ys ≡ true → before (x ∷ xs) (y ∷ ys) ≡ true
unfolding before
before_rest x y xs ys h e =
    or_right (ltb x y) (eqb x y && before xs ys) (and_intro (eqb x y) (before xs ys) (eq-eqb x y h) e)

-- no list stands before itself
pub before_irreflexive : (xs : List ℕ) → before xs xs ≡ false
unfolding before
before_irreflexive [] = refl
before_irreflexive (x ∷ xs) =
    by_test (before (x ∷ xs) (x ∷ xs))
    (λ e. ⊎_elim (λ h. absurd (omega arith)) (λ h. never (sym h.1 ∙ before_irreflexive xs)) (before_cases x x xs xs e))
    (λ q. q)

pub before_transitive : (xs ys zs : List ℕ) → before xs ys ≡ true → before ys zs ≡ true → before xs zs ≡ true
unfolding before
before_transitive [] [] zs p q = never (sym p)
before_transitive [] (y ∷ ys) [] p q = never (sym q)
before_transitive [] (y ∷ ys) (z ∷ zs) p q = refl
before_transitive (x ∷ xs) [] zs p q = never (sym p)
before_transitive (x ∷ xs) (y ∷ ys) [] p q = never (sym q)
before_transitive (x ∷ xs) (y ∷ ys) (z ∷ zs) p q =
    go (before_transitive xs ys zs) (before_cases x y xs ys p) (before_cases y z ys zs q)
  where
    go : (before xs ys ≡ true → before ys zs ≡ true → before xs zs ≡ true) → (x < y) ⊎ ((x ≡ y) × (before xs ys ≡ true))
        → (y < z) ⊎ ((y ≡ z) × (before ys zs ≡ true)) → before (x ∷ xs) (z ∷ zs) ≡ true
    go later (inl h) (inl k) = before_first x z xs zs (omega arith)
    go later (inl h) (inr k) = before_first x z xs zs (omega arith)
    go later (inr h) (inl k) = before_first x z xs zs (omega arith)
    go later (inr h) (inr k) = before_rest x z xs zs (h.0 ∙ k.0) (later h.1 k.1)

-- of two numbers one is smaller, or they are equal
pub compared : (x y : ℕ) → (x < y) ⊎ ((x ≡ y) ⊎ (y < x))
compared x y =
    by_test (ltb x y) (λ e. inl (ltb-true x y e))
    (λ e. by_test (eqb x y) (λ q. inr (inl (eqb-true x y q)))
    (λ q. let h = ltb-false x y e in let d = eqb-false x y q in inr (inr (strict h d))))
  where
    strict : y ≤ x → (x ≡ y → ⊥) → y < x
    strict h d = omega arith

-- of two lists one stands before the other, or they are equal
pub before_total : (xs ys : List ℕ) → (before xs ys ≡ true) ⊎ ((xs ≡ ys) ⊎ (before ys xs ≡ true))
unfolding before
before_total [] [] = inr (inl refl)
before_total [] (y ∷ ys) = inl refl
before_total (x ∷ xs) [] = inr (inr refl)
before_total (x ∷ xs) (y ∷ ys) = go (compared x y) (before_total xs ys)
  where
    go : (x < y) ⊎ ((x ≡ y) ⊎ (y < x)) → (before xs ys ≡ true) ⊎ ((xs ≡ ys) ⊎ (before ys xs ≡ true))
        → (before (x ∷ xs) (y ∷ ys) ≡ true) ⊎ ((x ∷ xs ≡ y ∷ ys) ⊎ (before (y ∷ ys) (x ∷ xs) ≡ true))
    go (inl h) k = inl (before_first x y xs ys h)
    go (inr (inl h)) (inl k) = inl (before_rest x y xs ys h k)
    go (inr (inl h)) (inr (inl k)) = inr (inl (cc))
    go (inr (inl h)) (inr (inr k)) = inr (inr (before_rest y x ys xs (sym h) k))
    go (inr (inr h)) k = inr (inr (before_first y x ys xs h))

-- the first place at which two lists differ, the first list with the smaller number there
unfoldable pub Earlier : List ℕ → List ℕ → Type 0
Earlier xs ys = (i : ℕ) × (i < length xs) × (take i xs ≡ take i ys) × (get_or xs i 0 < get_or ys i 0)

-- among lists of one length the order is that of the first place at which they differ
pub before_says : (xs ys : List ℕ) → length xs ≡ length ys → before xs ys ≡ true → Earlier xs ys
unfolding before Earlier
before_says [] [] n e = never (sym e)
before_says [] (y ∷ ys) n e = absurd (omega arith)
before_says (x ∷ xs) [] n e = never (sym e)
before_says (x ∷ xs) (y ∷ ys) n e = go (before_says xs ys (omega arith)) (before_cases x y xs ys e)
  where
    go : (before xs ys ≡ true → Earlier xs ys) → (x < y) ⊎ ((x ≡ y) × (before xs ys ≡ true)) → Earlier (x ∷ xs) (y ∷ ys)
    go later (inl h) = (0, suc-le-suc zero-le, refl, h)
    go later (inr h) =
        let r = later h.1 in
        (suc r.0, suc-le-suc r.1, cc, r.3)

pub says_before : (xs ys : List ℕ) → length xs ≡ length ys → Earlier xs ys → before xs ys ≡ true
unfolding before Earlier
says_before [] ys n r = absurd (not-suc-le-zero r.1)
says_before (x ∷ xs) [] n r = absurd (omega arith)
says_before (x ∷ xs) (y ∷ ys) n r = go (says_before xs ys (omega arith)) r.0 r.1 r.2 r.3
  where
    go : (Earlier xs ys → before xs ys ≡ true) → (i : ℕ) → i < length (x ∷ xs) → take i (x ∷ xs) ≡ take i (y ∷ ys)
        → get_or (x ∷ xs) i 0 < get_or (y ∷ ys) i 0 → before (x ∷ xs) (y ∷ ys) ≡ true
    go later zero h k l = before_first x y xs ys l
    go later (suc i) h k l =
        before_rest x y xs ys (head-eq_of_cons-eq k) (later (i, le_of_suc-le-suc h, tail-eq_of_cons-eq k, l))

-- the rests matter only where the first elements are equal
pub before_head :
    (x y : ℕ) (xs ys us vs : List ℕ) → (x ≡ y → before xs ys ≡ before us vs)
    → before (x ∷ xs) (y ∷ ys) ≡ before (x ∷ us) (y ∷ vs)
unfolding before
before_head x y xs ys us vs f = ap (λ (b : Bool). ltb x y || b) (go (eqb x y) refl)
  where
    go : (b : Bool) → eqb x y ≡ b → (b && before xs ys) ≡ (b && before us vs)
    go true e = f (eqb-true x y e)
    go false e = refl

-- one ending after lists of one length does not change their order
pub before_append : (xs ys zs : List ℕ) → length xs ≡ length ys → before (xs ++ zs) (ys ++ zs) ≡ before xs ys
unfolding before
before_append [] [] zs n = before_irreflexive zs
before_append [] (y ∷ ys) zs n = absurd (omega arith)
before_append (x ∷ xs) [] zs n = absurd (omega arith)
before_append (x ∷ xs) (y ∷ ys) zs n =
    ap (λ (b : Bool). ltb x y || (eqb x y && b)) (before_append xs ys zs (omega arith))
