-- Masks that stand at the labels of their spaces.
use Prim.Native.Nat.{ℕ, zero, suc, ◌<◌}
use native.Mathlib.Nat.{not-suc-le-zero}
use native.Mathlib.Omega.{arith}
use mathlib.Core.Path.{◌≡◌, refl, sym, ◌∙◌, subst}
use mathlib.Core.Bool.{true, false}
use mathlib.Core.List.{List}
use lib.Dec.{eqb}
use lib.ListN.{length, get_or, set, length-set}
use lib.Seq.{get_or-set_same, get_or-set_other}
use borrow.Author.Tests.{eqb-true, eqb-false}
use Rattle.laws.proofs.Tests.{by_test}
use Rattle.closing.specs.Typing.{label_masks}

module _ (lowest members : List ℕ) where
  pub length_label_masks : (count : ℕ) → length (label_masks lowest members count) ≡ 60
  unfolding label_masks
  length_label_masks zero = refl
  length_label_masks (suc k) = length-set (label_masks lowest members k) (get_or lowest k 0) (get_or members k 0) ∙ length_label_masks k

  -- where the labels differ, the mask of a space stands at its label
  pub mask_at_label : ((k : ℕ) → get_or lowest k 0 < 60) → (count : ℕ)
      → ((j k : ℕ) → j < count → k < count → get_or lowest j 0 ≡ get_or lowest k 0 → j ≡ k)
      → (j : ℕ) → j < count → get_or (label_masks lowest members count) (get_or lowest j 0) 0 ≡ get_or members j 0
  unfolding label_masks
  mask_at_label known zero different j h = absurd (not-suc-le-zero h)
  mask_at_label known (suc n) different j h =
      by_test (eqb j n) last (earlier (mask_at_label known n (λ a b p q. different a b (omega arith) (omega arith)) j))
    where
      before : List ℕ
      before = label_masks lowest members n

      last : eqb j n ≡ true → get_or (set before (get_or lowest n 0) (get_or members n 0)) (get_or lowest j 0) 0 ≡ get_or members j 0
      last e =
          let p = eqb-true j n e in
          subst (λ (k : ℕ). get_or (set before (get_or lowest n 0) (get_or members n 0)) (get_or lowest k 0) 0 ≡ get_or members k 0) (sym p)
          (get_or-set_same before (get_or lowest n 0) (get_or members n 0) 0 (let k = known n in omega (arith, length_label_masks n)))

      earlier : (j < n → get_or before (get_or lowest j 0) 0 ≡ get_or members j 0) → eqb j n ≡ false
          → get_or (set before (get_or lowest n 0) (get_or members n 0)) (get_or lowest j 0) 0 ≡ get_or members j 0
      earlier rest e =
          let other = eqb-false j n e in
          get_or-set_other before (get_or lowest n 0) (get_or lowest j 0) (get_or members n 0) 0 (λ q. other (different j n h (below n) q))
          ∙ rest (fewer h other)
        where
          fewer : {a b : ℕ} → a < suc b → (a ≡ b → ⊥) → a < b
          fewer p q = omega arith

          below : (m : ℕ) → m < suc m
          below m = omega arith
