-- A schema's lists, one after the other, and the schema that they make.
use Prim.Native.Nat.{ℕ, ◌≤◌}
use native.Mathlib.Omega.{arith}
use Rattle.std.proofs.Common.{Ok}
use mathlib.Core.Bool.{Bool, true, false}
use mathlib.Core.List.{List, []}
use mathlib.Core.Option.{Option, none}
use mathlib.Core.Path.{◌≡◌, refl, ap, ◌∙◌, sym, subst⁻¹}
use lib.ListN.{length}
use Rattle.model.specs.Answer.{Answer, refused, accepted}
use Rattle.model.specs.Card as model
use Rattle.card.specs.declared.AtomList.{AtomList}
use Rattle.card.specs.declared.Schema.{Schema}
use Rattle.card.specs.Represents.{refusal_number, entries, atoms_of, atoms_for, schema_of, schema_for}
use Rattle.reader_bytes.specs.declared.Cursor.{Cursor}
use Rattle.card.specs.declared.ListField.{ListField}
use Rattle.card.specs.declared.ListField.TheVariants.{Preconditions, Deletes, Adds}
use Rattle.card.specs.Fields.{field_test}
use Rattle.reader_bytes.specs.Reads.{Reads}
use Rattle.reader_atoms.specs.Atoms.{field_atom, AtomsKept}
use Rattle.model.proofs.Answers.{one_value}
use Rattle.reader_bytes.proofs.Answers.{goes, halts, differ, between_held}
use Rattle.reader_atoms.proofs.Many.{many_count}
use Rattle.reader_lists.proofs.AtomLists.{list_absent, list_uncounted, list_counted}

-- a list of a schema has at most 8 atoms
list_few : (present : Bool) (read : Option model.Atom → model.Reader model.Atom) (s : List ℕ) {xs : List model.Atom} {rest : List ℕ}
    → model.list present read s ≡ accepted (xs, rest) → length xs ≤ 8
list_few false read s {xs} e =
    let none_read : xs ≡ [] = sym (ap (λ v. v.0) (one_value (sym (list_absent false read s refl) ∙ e))) in
    rw none_read (omega arith)
list_few true read s {xs} {rest} e = counted (model.byte_that (model.between 1 8) 6 s) refl
  where
    counted : (r : Answer (ℕ × List ℕ)) → model.byte_that (model.between 1 8) 6 s ≡ r → length xs ≤ 8
    counted (refused k) f = absurd (differ (sym (list_uncounted true read s refl f) ∙ e))
    counted (accepted (n, s₁)) f =
        let count : length xs ≡ n = many_count read none n s₁ (sym (list_counted true read s refl f refl) ∙ e) in
        let few : n ≤ 8 = (between_held 1 8 6 s f).1 in
        omega arith

-- a list that was read, and the empty one, are kept as lists are
pub list_kept : (arities : List ℕ) (present : Bool) (read : Option model.Atom → model.Reader model.Atom) (s : List ℕ)
    {card : List ℕ} {l : AtomList} {c : Cursor}
    → Reads (atoms_of arities) atoms_for card (model.list present read s) (Ok (l, c)) → AtomsKept arities l
unfolding atoms_for
list_kept arities present read s {l = l} r =
    let few : length (atoms_of arities l) ≤ 8 = list_few present read s r.says in
    let count : l.count ≡ length (atoms_of arities l) = ap (λ l. l.count) r.keeps in
    record { few = omega arith; kept = r.keeps }

pub no_list_kept : (arities : List ℕ) {l : AtomList} → l ≡ atoms_for [] → AtomsKept arities l
unfolding atoms_for atoms_of entries
no_list_kept arities e = subst⁻¹ (λ l. AtomsKept arities l) e (record { few = omega arith; kept = refl })

-- what the lists of a schema are read by: its map of bits, its number of parameters, and the bytes from the first list on;
-- the preconditions are read with no list before them
pub record ListsRead : Type 0 where
  pub arities : List ℕ
  pub bits : ℕ
  pub parameters : ℕ
  pub none_yet : List model.Atom
  pub bytes : List ℕ

module _ (r : ListsRead) where
  -- an atom of a list, and the answer
  abbrev atom_of_lem : ListField → List model.Atom → Option model.Atom → model.Reader model.Atom
  atom_of_lem = field_atom r.arities r.parameters

  abbrev answer : Answer (model.Schema × List ℕ)
  answer = model.schema_lists r.arities r.bits r.parameters r.bytes

  -- the preconditions are refused
  pub preconditions_refused : {k : ℕ} → model.list (model.bit 1 r.bits) (atom_of_lem Preconditions r.none_yet) r.bytes ≡ refused k → answer ≡ refused k
  unfolding model.schema_lists field_atom field_test refusal_number
  preconditions_refused e = halts _ e

  module _ {preconditions : List model.Atom} {s₁ : List ℕ}
      (e : model.list (model.bit 1 r.bits) (atom_of_lem Preconditions r.none_yet) r.bytes ≡ accepted (preconditions, s₁)) where
    -- the deletes are refused
    pub deletes_refused : {k : ℕ} → model.list (model.bit 2 r.bits) (atom_of_lem Deletes preconditions) s₁ ≡ refused k → answer ≡ refused k
    unfolding model.schema_lists field_atom field_test refusal_number
    deletes_refused f = goes _ e ∙ halts _ f

    module _ {deletes : List model.Atom} {s₂ : List ℕ}
        (f : model.list (model.bit 2 r.bits) (atom_of_lem Deletes preconditions) s₁ ≡ accepted (deletes, s₂)) where
      -- the adds are refused
      pub adds_refused : {k : ℕ} → model.list (model.bit 3 r.bits) (atom_of_lem Adds preconditions) s₂ ≡ refused k → answer ≡ refused k
      unfolding model.schema_lists field_atom field_test refusal_number
      adds_refused g = goes _ e ∙ goes _ f ∙ halts _ g

      -- all three are read
      pub lists_read : {adds : List model.Atom} {s₃ : List ℕ}
          → model.list (model.bit 3 r.bits) (atom_of_lem Adds preconditions) s₂ ≡ accepted (adds, s₃)
          → answer ≡ accepted (record { parameters = r.parameters; preconditions = preconditions; deletes = deletes; adds = adds }, s₃)
      unfolding model.schema_lists field_atom field_test refusal_number
      lists_read g = goes _ e ∙ goes _ f ∙ goes _ g

-- a schema is kept as its lists are
pub schema_kept : (arities : List ℕ) (parameters : ℕ) {preconditions deletes adds : AtomList}
    → preconditions ≡ atoms_for (atoms_of arities preconditions)
    → deletes ≡ atoms_for (atoms_of arities deletes) → adds ≡ atoms_for (atoms_of arities adds)
    → ◌≡◌ {A = Schema} (record { parameters = parameters; preconditions = preconditions; deletes = deletes; adds = adds })
    (schema_for (schema_of arities (record { parameters = parameters; preconditions = preconditions; deletes = deletes; adds = adds })))
unfolding schema_for schema_of
schema_kept arities parameters p d a = λ i. record { parameters = parameters; preconditions = p i; deletes = d i; adds = a i }
