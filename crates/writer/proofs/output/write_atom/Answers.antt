-- The bytes of an atom are the first of its four bytes.
use Rattle.std.proofs.Common.{◌≡◌, ℕ, zero, suc, ◌+◌, ◌≤◌, min, List, [], ◌∷◌, take, get_or, refl, sym, ◌∙◌, ap, arith}
use Rattle.std.proofs.Math.Seq.{take-nil}
use Rattle.model.specs.Writer.{atom_bytes}
use Rattle.card.specs.declared.Atom.{Atom}
use Rattle.card.specs.Represents.{atom_of}
use Rattle.writer.specs.Bytes.{atom_room, WritesAt}
use Rattle.writer.proofs.WriteLaws.{writes_within}
use Rattle.writer.proofs.output.write_atom.Goals as goal

first_of_four : (k p f s t : ℕ) → p ∷ take k (f ∷ s ∷ t ∷ []) ≡ take (1 + min k 3) (p ∷ f ∷ s ∷ t ∷ [])
first_of_four zero p f s t = refl
first_of_four (suc zero) p f s t = refl
first_of_four (suc (suc zero)) p f s t = refl
first_of_four (suc (suc (suc k))) p f s t =
    let three : min (suc (suc (suc k))) 3 ≡ 3 = omega arith in
    rw (three, take-nil k)

bytes_are : (arities : List ℕ) (a : Atom) (n : ℕ) → n ≡ min (get_or arities a.predicate 0) 3
    → take (1 + n) (a.predicate ∷ a.first ∷ a.second ∷ a.third ∷ []) ≡ atom_bytes (atom_of arities a)
unfolding atom_bytes atom_of
bytes_are arities a n e = rw e (sym (first_of_four (get_or arities a.predicate 0) a.predicate a.first a.second a.third))

-- so many of them, written
atom_written : (arities : List ℕ) (a : Atom) (n : ℕ) {at next : ℕ} {x y : List ℕ} → n ≡ min (get_or arities a.predicate 0) 3 → n ≤ 3
    → WritesAt (1 + n) at (take (1 + n) (a.predicate ∷ a.first ∷ a.second ∷ a.third ∷ [])) x y next
    → WritesAt atom_room at (atom_bytes (atom_of arities a)) x y next
atom_written arities a n {at} {next} {x} {y} e h w = writes_within (1 + n) atom_room at _ x y next (rw (bytes_are arities a n e) at w) (omega arith)

pub returns-in-0 : goal.returns-in-0
returns-in-0 c =
    atom_written c.args.arities.now c.args.a 0 (ap (λ (k : ℕ). min k 3) (sym c.in-0.is ∙ c.arity.ensures)) (omega arith) c.write_bytes.ensures

pub returns-in-1 : goal.returns-in-1
returns-in-1 c =
    atom_written c.args.arities.now c.args.a 1 (ap (λ (k : ℕ). min k 3) (sym c.in-1.is ∙ c.arity.ensures)) (omega arith)
    c.write_bytes-in-1.ensures

pub returns-in-2 : goal.returns-in-2
returns-in-2 c =
    atom_written c.args.arities.now c.args.a 2 (ap (λ (k : ℕ). min k 3) (sym c.in-2.is ∙ c.arity.ensures)) (omega arith)
    c.write_bytes-in-2.ensures

pub returns-in_default : goal.returns-in_default
returns-in_default c =
    atom_written c.args.arities.now c.args.a 3 (omega (arith, c.in_default, c.arity.ensures)) (omega arith)
    c.write_bytes-in_default.ensures
