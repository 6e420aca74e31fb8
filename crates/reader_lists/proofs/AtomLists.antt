-- A list of a schema: absent, refused at its count, or read from the part of the card after its count.
use Prim.Native.Nat.{ℕ, ◌+◌, ◌-◌, ◌≤◌}
use native.Mathlib.Omega.{arith}
use Rattle.std.proofs.Common.{Ok}
use mathlib.Core.Bool.{Bool, true, false}
use mathlib.Core.List.{List, []}
use mathlib.Core.Option.{Option, none}
use mathlib.Core.Path.{◌≡◌, refl, ap, ◌∙◌, sym, subst, subst⁻¹}
use lib.ListN.{length, take, drop, length-drop}
use lib.Seq.{take_all, drop-drop}
use Rattle.model.specs.Answer.{Answer, refused, accepted}
use Rattle.model.specs.Card as model
use Rattle.card.specs.declared.AtomList.{AtomList}
use Rattle.card.specs.Represents.{entries, atoms_of, atoms_for}
use Rattle.reader_bytes.specs.declared.Cursor.{Cursor}
use Rattle.reader_bytes.specs.Reads.{Read, Reads}
use Rattle.reader_bytes.proofs.Answers.{goes, halts}
use Rattle.reader_bytes.proofs.Reading.{accepts}

module _ (present : Bool) (read : Option model.Atom → model.Reader model.Atom) (s : List ℕ) where
  -- its bit does not stand
  pub list_absent : present ≡ false → model.list present read s ≡ accepted ([], s)
  unfolding model.list
  list_absent e = ap (λ p. model.list p read s) e

  -- its bit stands, and its count is refused
  pub list_uncounted : {k : ℕ} → present ≡ true → model.byte_that (model.between 1 8) 6 s ≡ refused k → model.list present read s ≡ refused k
  unfolding model.list
  list_uncounted p e = ap (λ p. model.list p read s) p ∙ halts _ e

  -- its bit stands, and its count is read: as many atoms follow
  pub list_counted : {n m : ℕ} {s₁ : List ℕ} → present ≡ true → model.byte_that (model.between 1 8) 6 s ≡ accepted (n, s₁) → m ≡ n
      → model.list present read s ≡ model.many read none m s₁
  unfolding model.list
  list_counted {s₁ = s₁} p e same = ap (λ p. model.list p read s) p ∙ goes _ e ∙ ap (λ n. model.many read none n s₁) (sym same)

-- the part of the card from a place on is what is left to read there
part_left : (card : List ℕ) (at : ℕ) → take (length card - at) (drop at card) ≡ drop at card
part_left card at = take_all (length card - at) (drop at card) (rw (length-drop at card) (omega arith))

module _ {A B : Type 0} {value : B → List A} {keep : List A → B} (card : List ℕ) (at : ℕ) where
  -- what is read in the part is read in what is left
  pub read_left : (read : Option A → model.Reader A) (n : ℕ) {r : Read B}
      → Reads value keep (take (length card - at) (drop at card)) (model.many read none n (take (length card - at) (drop at card))) r
      → Reads value keep (drop at card) (model.many read none n (drop at card)) r
  read_left read n {r} w = subst (λ part. Reads value keep part (model.many read none n part) r) (part_left card at) w

  -- .. and on the card, that much further on
  pub read_on_card : {answer : Answer (List A × List ℕ)} {items : B} {c : Cursor} → at ≤ length card → Reads value keep (drop at card) answer (Ok (items, c))
      → Reads value keep card answer (Ok (items, record { at = at + c.at }))
  read_on_card {items = items} {c} starts r =
      let end : c.at ≤ length card - at = subst (λ n. c.at ≤ n) (length-drop at card) r.within in
      accepts (r.says ∙ ap (λ s. accepted (value items, s)) (drop-drop c.at at card)) (omega arith) r.keeps

-- no list: nothing is read, and nothing is kept
pub no_list : (arities : List ℕ) {card : List ℕ} {answer : Answer (List model.Atom × List ℕ)} {c : Cursor} {list : AtomList} → list ≡ atoms_for []
    → answer ≡ accepted ([], drop c.at card) → c.at ≤ length card
    → Reads (atoms_of arities) atoms_for card answer (Ok (list, c))
unfolding atoms_of atoms_for entries
no_list arities {card} {answer} {c} k e within =
    subst⁻¹ (λ l. Reads (atoms_of arities) atoms_for card answer (Ok (l, c))) k (accepts e within refl)
