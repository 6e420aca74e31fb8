-- Numbers: distinct ones, and those kept of the numbers below another.
use Prim.Native.Nat.{ℕ, zero, suc, ◌<◌}
use native.Mathlib.Nat.{le_of_suc-le-suc, not-suc-le-zero}
use native.Mathlib.Omega.{arith}
use mathlib.Core.Path.{◌≡◌, refl, sym, ap, ◌∙◌, subst}
use mathlib.Core.Bool.{Bool, true, false, cond, not, ◌&&◌}
use mathlib.Core.List.{List, [], ◌∷◌, Memᴰ}
use lib.ListN.{length, get_or}
use Rattle.laws.specs.Lists.{keep, from, up_to, member, distinct}
use Rattle.laws.proofs.Tests.{and_left, and_right, and_intro, same_test, not-true, to_not_true}
use Rattle.laws.proofs.Lists.{mem_get_d, keep_at, keep_intro, from_at, up_to_at, up_to_intro, member_at, member_intro, member_not, not_member}
use Rattle.laws.proofs.Mapped.{keep_ext, keep_narrow}

-- numbers in sequence are distinct, and so are those kept of distinct numbers
pub distinct_keep : (test : ℕ → Bool) (ns : List ℕ) → distinct ns ≡ true → distinct (keep test ns) ≡ true
unfolding distinct keep
distinct_keep test [] e = refl
distinct_keep test (n ∷ ns) e = go (test n) (distinct_keep test ns (and_right (not (member n ns)) (distinct ns) e))
  where
    fresh : member n (keep test ns) ≡ false
    fresh =
        not_member n (keep test ns)
        (λ m. member_not n ns (not-true (member n ns) (and_left (not (member n ns)) (distinct ns) e)) (keep_at test ns n m).0)

    go : (b : Bool) → distinct (keep test ns) ≡ true → distinct (cond b (n ∷ keep test ns) (keep test ns)) ≡ true
    go true later =
        and_intro (not (member n (keep test ns))) (distinct (keep test ns)) (to_not_true (member n (keep test ns)) fresh) later
    go false later = later

pub distinct_from : (start size : ℕ) → distinct (from start size) ≡ true
unfolding distinct from
distinct_from start zero = refl
distinct_from start (suc size) =
    and_intro (not (member start (from (suc start) size))) (distinct (from (suc start) size))
    (to_not_true (member start (from (suc start) size))
    (not_member start (from (suc start) size) (λ m. let r = from_at (suc start) size start m in omega arith)))
    (distinct_from (suc start) size)

pub distinct_up_to : (n : ℕ) → distinct (up_to n) ≡ true
unfolding up_to
distinct_up_to n = distinct_from 0 n

-- the numbers kept of those below n are those that pass
pub member_keep_up_to : (test : ℕ → Bool) (n i : ℕ) → i < n → member i (keep test (up_to n)) ≡ test i
member_keep_up_to test n i h =
    same_test (member i (keep test (up_to n))) (test i)
    (λ e. (keep_at test (up_to n) i (member_at i (keep test (up_to n)) e)).1)
    (λ e. member_intro i (keep test (up_to n)) (keep_intro test (up_to n) i (up_to_intro n i h) e))

pub kept_below : (test : ℕ → Bool) (n i : ℕ) → member i (keep test (up_to n)) ≡ true → i < n
kept_below test n i e = up_to_at n i (keep_at test (up_to n) i (member_at i (keep test (up_to n)) e)).0

-- Numbers below n in their order.
abbrev pub InOrder : ℕ → List ℕ → Type 0
InOrder n ns = keep (λ i. member i ns) (up_to n) ≡ ns

-- what is kept of all numbers below n is in their order, and so is what is kept of numbers in order
pub kept_in_order : (test : ℕ → Bool) (n : ℕ) → InOrder n (keep test (up_to n))
kept_in_order test n =
    keep_ext (λ i. member i (keep test (up_to n))) test (up_to n) (λ i m. member_keep_up_to test n i (up_to_at n i m))

pub keep_in_order : (test : ℕ → Bool) (n : ℕ) (ns : List ℕ) → InOrder n ns → InOrder n (keep test ns)
keep_in_order test n ns e = subst (InOrder n) (sym both) (kept_in_order (λ i. member i ns && test i) n)
  where
    both : keep test ns ≡ keep (λ i. member i ns && test i) (up_to n)
    both =
        keep_ext test (λ i. member i ns && test i) ns (λ i m. sym (ap (λ (b : Bool). b && test i) (member_intro i ns m)))
        ∙ ap (keep (λ i. member i ns && test i)) (sym e)
        ∙ keep_narrow (λ i. member i ns) (λ i. member i ns && test i) (up_to n) (λ i p. and_left (member i ns) (test i) p)

-- they are below n, and distinct
pub in_order_below : (n : ℕ) (ns : List ℕ) → InOrder n ns → (i : ℕ) → Memᴰ i ns → i < n
in_order_below n ns e i m = up_to_at n i (keep_at (λ j. member j ns) (up_to n) i (subst (Memᴰ i) (sym e) m)).0

pub in_order_distinct : (n : ℕ) (ns : List ℕ) → InOrder n ns → distinct ns ≡ true
in_order_distinct n ns e = subst (λ (l : List ℕ). distinct l ≡ true) e (distinct_keep (λ j. member j ns) (up_to n) (distinct_up_to n))

-- different numbers stand at different places
pub distinct_places : (ns : List ℕ) → distinct ns ≡ true → (j k : ℕ) → j < length ns → k < length ns
    → get_or ns j 0 ≡ get_or ns k 0 → j ≡ k
unfolding distinct
distinct_places [] d j k hj hk e = absurd (not-suc-le-zero hj)
distinct_places (n ∷ ns) d zero zero hj hk e = refl
distinct_places (n ∷ ns) d zero (suc k) hj hk e =
    absurd
    (member_not n ns (not-true (member n ns) (and_left (not (member n ns)) (distinct ns) d))
    (subst (λ (x : ℕ). Memᴰ x ns) (sym e) (mem_get_d ns k 0 (le_of_suc-le-suc hk))))
distinct_places (n ∷ ns) d (suc j) zero hj hk e =
    absurd
    (member_not n ns (not-true (member n ns) (and_left (not (member n ns)) (distinct ns) d))
    (subst (λ (x : ℕ). Memᴰ x ns) e (mem_get_d ns j 0 (le_of_suc-le-suc hj))))
distinct_places (n ∷ ns) d (suc j) (suc k) hj hk e =
    ap suc
    (distinct_places ns (and_right (not (member n ns)) (distinct ns) d) j k (le_of_suc-le-suc hj) (le_of_suc-le-suc hk) e)
