-- Tests: taking a Boolean test apart, and what passed or failed.
use mathlib.Core.Path.{◌≡◌, refl, sym}
use mathlib.Core.Bool.{Bool, true, false, cond, not, ◌&&◌, ◌||◌, false≢true}
use mathlib.Core.Logic.{◌⊎◌, inl, inr}

-- true is not false
pub never : {A : Type 0} → true ≡ false → A
never e = absurd (false≢true (sym e))

-- both sides of a test that passed
pub and_left : (a b : Bool) → (a && b) ≡ true → a ≡ true
and_left true b e = refl
and_left false b e = never (sym e)

pub and_right : (a b : Bool) → (a && b) ≡ true → b ≡ true
and_right true b e = e
and_right false b e = never (sym e)

pub and_intro : (a b : Bool) → a ≡ true → b ≡ true → (a && b) ≡ true
and_intro true b p q = q
and_intro false b p q = never (sym p)

-- a failed side fails the whole
pub and_false_left : (a b : Bool) → a ≡ false → (a && b) ≡ false
and_false_left true b e = never e
and_false_left false b e = refl

pub and_false_right : (a b : Bool) → b ≡ false → (a && b) ≡ false
and_false_right true b e = e
and_false_right false b e = refl

-- an alternative that passed
pub or_cases : (a b : Bool) → (a || b) ≡ true → (a ≡ true) ⊎ (b ≡ true)
or_cases true b e = inl refl
or_cases false b e = inr e

pub or_left : (a b : Bool) → a ≡ true → (a || b) ≡ true
or_left true b e = refl
or_left false b e = never (sym e)

pub or_right : (a b : Bool) → b ≡ true → (a || b) ≡ true
or_right true b e = refl
or_right false b e = e

pub or_false_left : (a b : Bool) → (a || b) ≡ false → a ≡ false
or_false_left true b e = never e
or_false_left false b e = refl

pub or_false_right : (a b : Bool) → (a || b) ≡ false → b ≡ false
or_false_right true b e = never e
or_false_right false b e = e

pub or_false_intro : (a b : Bool) → a ≡ false → b ≡ false → (a || b) ≡ false
or_false_intro true b p q = never p
or_false_intro false b p q = q

-- a negation
pub not-true : (a : Bool) → not a ≡ true → a ≡ false
not-true true e = never (sym e)
not-true false e = refl

pub not-false : (a : Bool) → not a ≡ false → a ≡ true
not-false true e = refl
not-false false e = never e

pub to_not_true : (a : Bool) → a ≡ false → not a ≡ true
to_not_true true e = never e
to_not_true false e = refl

pub to_not_false : (a : Bool) → a ≡ true → not a ≡ false
to_not_false true e = refl
to_not_false false e = never (sym e)

-- a test passes or fails
pub either : (a : Bool) → (a ≡ true) ⊎ (a ≡ false)
either true = inl refl
either false = inr refl

-- two tests that pass together are one
pub same_test : (a b : Bool) → (a ≡ true → b ≡ true) → (b ≡ true → a ≡ true) → a ≡ b
same_test true true f g = refl
same_test true false f g = sym (f refl)
same_test false true f g = g refl
same_test false false f g = refl

-- the choice that a test makes
pub cond_true : {A : Type 0} (a : Bool) (x y : A) → a ≡ true → cond a x y ≡ x
cond_true true x y e = refl
cond_true false x y e = never (sym e)

pub cond_false : {A : Type 0} (a : Bool) (x y : A) → a ≡ false → cond a x y ≡ y
cond_false true x y e = never e
cond_false false x y e = refl

-- a case for each way a test can go
pub by_test : {A : Type 0} (a : Bool) → (a ≡ true → A) → (a ≡ false → A) → A
by_test true f g = f refl
by_test false f g = g refl

-- an alternative that fails adds nothing
pub or_neutral : (a b : Bool) → b ≡ false → (a || b) ≡ a
or_neutral true b e = refl
or_neutral false b e = e

-- tests regrouped, and a test that always passes left out
pub or_assoc : (a b c : Bool) → ((a || b) || c) ≡ (a || (b || c))
or_assoc true b c = refl
or_assoc false b c = refl

pub and_assoc : (a b c : Bool) → ((a && b) && c) ≡ (a && (b && c))
and_assoc true b c = refl
and_assoc false b c = refl

pub and_swap : (a b c : Bool) → (a && (b && c)) ≡ (b && (a && c))
and_swap true b c = refl
and_swap false true c = refl
and_swap false false c = refl

pub and_neutral : (a : Bool) → (a && true) ≡ a
and_neutral true = refl
and_neutral false = refl
