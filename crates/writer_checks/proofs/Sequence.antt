-- Checks one after the other: the first that refuses is the answer, and what passed in sequence passed each.
use Rattle.std.proofs.Common.{◌≡◌, refl, Ok, Err}
use Rattle.model.specs.Answer.{Answer, refused, accepted, ◌>>◌}
use Rattle.card.specs.declared.Refusal.{Refusal}
use Rattle.writer_checks.specs.Checking.{checked_says}
use Prim.Native.Nat.{ℕ}
use native.Mathlib.Omega.{arith}

-- checks in sequence may be grouped either way
pub then_assoc : (x y z : Answer (Unit {0})) → x >> (y >> z) ≡ x >> y >> z
unfolding ◌>>◌
then_assoc (refused n) y z = refl
then_assoc (accepted done) y z = refl

-- a check by the code, and the rest after it
pub then_refused : (r : Refusal) {first : Answer (Unit {0})} (rest : Answer (Unit {0})) → checked_says (Err r) ≡ first → checked_says (Err r) ≡ first >> rest
unfolding checked_says ◌>>◌
then_refused r rest says = rw (← says)

pub then_passed : (done : Unit {0}) {first answer rest : Answer (Unit {0})} → checked_says (Ok done) ≡ first → answer ≡ rest → answer ≡ first >> rest
unfolding checked_says ◌>>◌
then_passed done says e = rw (← says) e

-- what passed in sequence: the first, and the rest
pub then_left : (x y : Answer (Unit {0})) → x >> y ≡ accepted tt → x ≡ accepted tt
unfolding ◌>>◌
then_left (refused n) y e = e
then_left (accepted done) y e = refl

pub then_right : (x y : Answer (Unit {0})) → x >> y ≡ accepted tt → y ≡ accepted tt
unfolding ◌>>◌
then_right (refused n) y e = let z : ◌≡◌ {A = ℕ} 0 1 = cc in absurd (omega arith)
then_right (accepted done) y e = e
