-- An array that `from_fn` makes of calls that leave the closure as it was: the value at each place.
use Rattle.std.proofs.Common.{◌≡◌, ℕ, zero, suc, ◌+◌, ◌<◌, List, length, get_or, map, sym, ◌∙◌, subst, arith, add-zero, zero-add}
use Rattle.std.specs.Fn.{Called}
use Rattle.std.specs.Array.{IsFromFnResult, IsFromFnResultFrom}
use denote.Param.Members.{Mut}
use Rattle.laws.specs.Lists.{up_to}
use Rattle.laws.proofs.Places.{each_place}
use Rattle.tables.specs.Flat.{array}

module _ {F A : Type 0} {g : Mut F (ℕ × Unit {0}) A} {f : F} (value : ℕ → A)
    (gives : (i : ℕ) (y : A) (q : F) → Called g f (i, tt) y q → (q ≡ f) × (y ≡ value i)) where
  -- from place i on
  made_from : (ys : List A) (n i : ℕ) → IsFromFnResultFrom g f ys i n → (j : ℕ) (d : A) → j < n → get_or ys (i + j) d ≡ value (i + j)
  made_from ys zero i calls j d h = absurd (omega arith)
  made_from ys (suc n) i calls zero d h = rw add-zero (calls.2.1 d ∙ (gives i _ _ calls.3).1)
  made_from ys (suc n) i calls (suc j) d h =
      let rest = subst (λ (s : F). IsFromFnResultFrom g s ys (i + 1) n) (gives i _ _ calls.3).0 calls.4 in
      let next : i + suc j ≡ i + 1 + j = omega arith in
      rw next (made_from ys n (i + 1) rest j d (omega arith))

  pub made : {ys : List A} {n : ℕ} → IsFromFnResult g f ys n → ys ≡ array n value
  unfolding array up_to
  made {ys} {n} calls =
      let places : map value (up_to (length ys)) ≡ ys =
      each_place value ys (value 0) (λ j h. sym (rw zero-add at (made_from ys n 0 calls.each j (value 0) (omega (arith, calls.long))))) in
      sym (subst (λ (m : ℕ). map value (up_to m) ≡ ys) calls.long places)
