-- Masks of which conditions contain which, made pair by pair: each condition is entered with those before it, and they with it.
use Prim.Native.Nat.{ℕ, zero, suc, ◌+◌, ◌≤◌, ◌<◌}
use native.Mathlib.Nat.{le_antisymm}
use native.Mathlib.Omega.{arith}
use mathlib.Core.Path.{◌≡◌, refl, sym, ap, ◌∙◌, subst}
use mathlib.Core.Bool.{Bool, true, false}
use mathlib.Core.List.{List, map}
use lib.Dec.{eqb, ltb}
use lib.ListN.{length, get_or, set, replicate, length-set, length-map, length-replicate}
use lib.Seq.{ext_get_or, get_or-set_same, get_or-set_other}
use borrow.Author.Tests.{eqb-true, eqb-false, ltb-true, ltb-false}
use Rattle.laws.specs.Lists.{keep, up_to, padded}
use Rattle.laws.proofs.Lists.{length_up_to, get_d_up_to}
use Rattle.laws.proofs.Mapped.{get_d_map}
use Rattle.laws.proofs.Padded.{length_padded, padded_at, padded_past}
use Rattle.laws.proofs.Tests.{by_test}
use Rattle.masks.specs.Sets.{mask_of, union_of, single_of}
use Rattle.masks.proofs.Joining.{kept_start, kept_joined, kept_skipped}
use Rattle.conditions.specs.Minimal.{entered_at, entered_if, row_mask, Entered, Masks, AllEntered}

-- ---- one number entered into one mask

entered_long : (holds : Bool) (p q : ℕ) (masks : List ℕ) → length (entered_if holds p q masks) ≡ length masks
unfolding entered_if entered_at
entered_long true p q masks = length-set masks p (union_of (get_or masks p 0) (single_of q))
entered_long false p q masks = refl

-- into no other
entered_other : (holds : Bool) (p q : ℕ) (masks : List ℕ) (i : ℕ) → (i ≡ p → ⊥) → get_or (entered_if holds p q masks) i 0 ≡ get_or masks i 0
unfolding entered_if entered_at
entered_other true p q masks i d = get_or-set_other masks p i (union_of (get_or masks p 0) (single_of q)) 0 d
entered_other false p q masks i d = refl

-- into the mask of the numbers below it
entered_here : (test : ℕ → Bool) {holds : Bool} (p q : ℕ) (masks : List ℕ) → p < length masks → get_or masks p 0 ≡ mask_of (keep test (up_to q))
    → test q ≡ holds → get_or (entered_if holds p q masks) p 0 ≡ mask_of (keep test (up_to (q + 1)))
unfolding entered_if entered_at
entered_here test {holds = true} p q masks h e t =
    get_or-set_same masks p (union_of (get_or masks p 0) (single_of q)) 0 h ∙ ap (λ (m : ℕ). union_of m (single_of q)) e ∙ kept_joined test q t
entered_here test {holds = false} p q masks h e t = e ∙ kept_skipped test q t

-- ---- condition i entered with those before it

-- It is entered with those before k.
pub record Partly (test : ℕ → ℕ → Bool) (i k : ℕ) (masks : List ℕ) : Type 0 where
  pub few : (k ≤ i) × (i < 64)
  pub long : length masks ≡ 64
  done : (b : ℕ) → b < k → get_or masks b 0 ≡ row_mask test (i + 1) b
  ahead : (b : ℕ) → k ≤ b → b < i → get_or masks b 0 ≡ row_mask test i b
  own : get_or masks i 0 ≡ row_mask test k i
  blank : (b : ℕ) → i < b → get_or masks b 0 ≡ 0

module _ {test : ℕ → ℕ → Bool} {i : ℕ} {masks : List ℕ} where
  pub partly_start : i < 64 → Entered test i masks → Partly test i 0 masks
  unfolding row_mask
  partly_start h e =
      record {
        few = (omega arith, h);
        long = e.long;
        done = λ b l. absurd (omega (arith, l));
        ahead = λ b l m. e.rows b m;
        own = e.blank i (omega arith) ∙ kept_start (λ k. test k i);
        blank = λ b l. e.blank b (omega arith);
      }

  -- with all before it, and then with itself
  with_itself : Partly test i i masks → test i i ≡ true → Entered test (i + 1) (entered_at i i masks)
  unfolding row_mask entered_at
  with_itself p t =
      let new = union_of (get_or masks i 0) (single_of i) in
      record {
        long = length-set masks i new ∙ p.long;
        rows = λ b l.
            by_test (eqb b i)
            (λ e.
            subst (λ (n : ℕ). get_or (set masks i new) n 0 ≡ mask_of (keep (λ a. test a n) (up_to (i + 1)))) (sym (eqb-true b i e))
            (get_or-set_same masks i new 0 (omega (arith, p.few.1, p.long))
            ∙ ap (λ (m : ℕ). union_of m (single_of i)) p.own ∙ kept_joined (λ a. test a i) i t))
            (λ e. let d = eqb-false b i e in get_or-set_other masks i b new 0 d ∙ p.done b (omega (arith, d)));
        blank = λ b l. get_or-set_other masks i b new 0 (λ e. omega (arith, e)) ∙ p.blank b (omega arith);
      }

  pub partly_all : {k : ℕ} → Partly test i k masks → i ≤ k → test i i ≡ true → {now : List ℕ} → now ≡ entered_at i i masks → Entered test (i + 1) now
  partly_all p h t e =
      subst (Entered test (i + 1)) (sym e)
      (with_itself (subst (λ (n : ℕ). Partly test i n masks) (le_antisymm p.few.0 h) p) t)

  module _ {k : ℕ} (p : Partly test i k masks) (before : k < i) where
    -- with k too, where both masks are made and no other changes
    partly_next : {now : List ℕ} → length now ≡ length masks → get_or now i 0 ≡ row_mask test (k + 1) i → get_or now k 0 ≡ row_mask test (i + 1) k
        → ((b : ℕ) → (b ≡ i → ⊥) → (b ≡ k → ⊥) → get_or now b 0 ≡ get_or masks b 0) → Partly test i (k + 1) now
    partly_next {now} l at_i at_k others =
        record {
          few = (omega arith, p.few.1);
          long = l ∙ p.long;
          done = λ b h.
              by_test (eqb b k)
              (λ e. subst (λ (n : ℕ). get_or now n 0 ≡ row_mask test (i + 1) n) (sym (eqb-true b k e)) at_k)
              (λ e.
              let d = eqb-false b k e in
              others b (λ f. omega (arith, h, f)) d ∙ p.done b (omega (arith, h, d)));
          ahead = λ b h m. others b (λ f. omega (arith, m, f)) (λ f. omega (arith, h, f)) ∙ p.ahead b (omega (arith, h)) m;
          own = at_i;
          blank = λ b h. others b (λ f. omega (arith, h, f)) (λ f. omega (arith, h, f)) ∙ p.blank b h;
        }

    -- the masks as a pair enters them: first that of i, then that of k, or the other way round
    pub own_first : {now : List ℕ} → now ≡ entered_if (test i k) k i (entered_if (test k i) i k masks) → Partly test i (k + 1) now
    unfolding row_mask
    own_first {now} e =
        let mid = entered_if (test k i) i k masks in
        subst (Partly test i (k + 1)) (sym e)
        (partly_next (entered_long (test i k) k i mid ∙ entered_long (test k i) i k masks)
        (entered_other (test i k) k i mid i (λ f. omega (arith, f))
        ∙ entered_here (λ a. test a i) i k masks (omega (arith, p.few.1, p.long)) p.own refl)
        (entered_here (λ a. test a k) k i mid (omega (arith, p.few.1, p.long, entered_long (test k i) i k masks))
        (entered_other (test k i) i k masks k (λ f. omega (arith, f)) ∙ p.ahead k (omega arith) before) refl)
        (λ b d f. entered_other (test i k) k i mid b f ∙ entered_other (test k i) i k masks b d))

    pub other_first : {now : List ℕ} → now ≡ entered_if (test k i) i k (entered_if (test i k) k i masks) → Partly test i (k + 1) now
    unfolding row_mask
    other_first {now} e =
        let mid = entered_if (test i k) k i masks in
        subst (Partly test i (k + 1)) (sym e)
        (partly_next (entered_long (test k i) i k mid ∙ entered_long (test i k) k i masks)
        (entered_here (λ a. test a i) i k mid (omega (arith, p.few.1, p.long, entered_long (test i k) k i masks))
        (entered_other (test i k) k i masks i (λ f. omega (arith, f)) ∙ p.own) refl)
        (entered_other (test k i) i k mid k (λ f. omega (arith, f))
        ∙ entered_here (λ a. test a k) k i masks (omega (arith, p.few.1, p.long)) (p.ahead k (omega arith) before) refl)
        (λ b d f. entered_other (test k i) i k mid b d ∙ entered_other (test i k) k i masks b f))

-- ---- all conditions entered

pub entered_none : {test : ℕ → ℕ → Bool} → Entered test 0 (replicate 64 0)
entered_none = record { long = length-replicate {A = ℕ} 64 0; rows = λ i h. absurd (omega (arith, h)); blank = λ i h. none 64 i }
  where
    none : (n i : ℕ) → ◌≡◌ {A = ℕ} (get_or (replicate n 0) i 0) 0
    none zero i = refl
    none (suc n) zero = refl
    none (suc n) (suc i) = none n i

pub entered_all : {test : ℕ → ℕ → Bool} {n : ℕ} {masks : List ℕ} → n ≤ 64 → Entered test n masks
    → masks ≡ padded 64 0 (map (row_mask test n) (up_to n))
entered_all {test} {n} {masks} few e =
    ext_get_or 0 masks (padded 64 0 (map (row_mask test n) (up_to n))) (e.long ∙ sym (length_padded 64 0 (map (row_mask test n) (up_to n)) (omega (arith, long))))
    (λ i h.
    by_test (ltb i n)
    (λ t.
    let l = ltb-true i n t in
    e.rows i l
    ∙ sym (padded_at 64 0 (map (row_mask test n) (up_to n)) i 0 (omega (arith, l, long))
    ∙ get_d_map (row_mask test n) (up_to n) i 0 0 (omega (arith, l, length_up_to n))
    ∙ ap (row_mask test n) (get_d_up_to n i 0 l)))
    (λ t.
    let l = ltb-false i n t in
    e.blank i l ∙ sym (padded_past 64 0 (map (row_mask test n) (up_to n)) i (omega (arith, l, long)))))
  where
    long : length (map (row_mask test n) (up_to n)) ≡ n
    long = length-map (up_to n) (row_mask test n) ∙ length_up_to n

-- as many as there are
pub all_entered : {size n count : ℕ} {table : List ℕ} {masks : Masks} → n ≤ count → count ≤ n → AllEntered size table n masks
    → AllEntered size table count masks
all_entered {size} {table = table} {masks = masks} p q a = subst (λ (k : ℕ). AllEntered size table k masks) (le_antisymm p q) a
