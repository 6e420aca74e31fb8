-- The checks at a whole atom: its place on its list, and what its own list asks.
use Prim.Native.Nat.{ℕ}
use native.Mathlib.Omega.{arith}
use mathlib.Core.Bool.{true, false, not}
use mathlib.Core.List.{List, map}
use mathlib.Core.Option.{Option}
use mathlib.Core.Path.{◌≡◌, refl, ap, ◌∙◌, sym}
use lib.ListN.{length, length-map}
use Rattle.laws.proofs.Padded.{length_padded}
use Rattle.laws.specs.Lists.{padded}
use Rattle.model.specs.Answer.{Answer, refused, accepted}
use Rattle.model.specs.Card as model
use Rattle.card.specs.declared.Atom.{Atom}
use Rattle.card.specs.declared.AtomList.{AtomList}
use Rattle.card.specs.Represents.{refusal_number, atom_of, atom_for, atoms_of, atoms_for, entries, blank_atom}
use Rattle.std.proofs.Common.{Option as Maybe, None, Some}
use Rattle.card.specs.declared.ListField.{ListField}
use Rattle.card.specs.declared.ListField.TheVariants.{Preconditions, Deletes, Adds}
use Rattle.card.specs.Fields.{field_test, field_refusal}
use Rattle.reader_atoms.specs.Atoms.{previous_of, previous_for, above_bytes, has_bytes, AtomsKept, PreviousKept}
use Rattle.reader_atoms.specs.Atoms.{belongs_bytes, field_atom}
use Rattle.card.proofs.Entries.{entries_kept}
use Rattle.model.proofs.Answers.{need_both}
use Rattle.reader_bytes.proofs.Answers.{goes, halts, fails}
use Rattle.reader_atoms.proofs.Orders.{Kept, below_bytes, has_bytes_lem}

module _ (arities : List ℕ) (a : Atom) (ka : Kept arities a) where
  -- the atom before it is below: so are its bytes
  pub above_bytes_lem : (previous : Maybe Atom) → PreviousKept arities previous
      → model.above (previous_of arities previous) (atom_of arities a) ≡ above_bytes previous a
  unfolding model.above previous_of previous_for
  above_bytes_lem None k = refl
  above_bytes_lem (Some b) k = let kb : Kept arities b = cc in below_bytes arities b a kb ka

module _ {arities : List ℕ} {l : AtomList} (k : AtomsKept arities l) where
  listed : List Atom
  listed = map atom_for (atoms_of arities l)

  listed_count : length listed ≡ l.count
  unfolding listed atoms_for
  listed_count = length-map (atoms_of arities l) atom_for ∙ sym (ap (λ l. l.count) k.kept)

  listed_first : l.atoms ≡ padded 8 blank_atom listed
  unfolding listed atoms_for
  listed_first = ap (λ l. l.atoms) k.kept

  -- the atoms of a list as read are kept as atoms are
  pub list_exact :
      entries l.count blank_atom l.atoms ≡ map atom_for (map (atom_of arities) (entries l.count blank_atom l.atoms))
  unfolding listed atoms_of
  list_exact = ap (entries l.count blank_atom) listed_first ∙ entries_kept 8 l.count blank_atom listed listed_count

  pub list_long : length l.atoms ≡ 8
  list_long = ap length listed_first ∙ length_padded 8 blank_atom listed (omega (arith, listed_count, k.few))

-- the check of its own list, by the bytes
pub belongs_bytes_lem : (arities : List ℕ) (a : Atom) (field : ListField) (l : AtomList) → Kept arities a → AtomsKept arities l
    → field_test field (atoms_of arities l) (atom_of arities a) ≡ belongs_bytes field l a
unfolding field_test atoms_of has_bytes
belongs_bytes_lem arities a Preconditions l ka k = refl
belongs_bytes_lem arities a Deletes l ka k = has_bytes_lem arities a _ ka (list_exact k)
belongs_bytes_lem arities a Adds l ka k = ap not (has_bytes_lem arities a _ ka (list_exact k))

-- what an atom of a schema's list is read by: the schema's own list before it, the atom before it, and the bytes from it on
pub record FieldRead : Type 0 where
  pub arities : List ℕ
  pub parameters : ℕ
  pub field : ListField
  pub preconditions : List model.Atom
  pub previous : Option model.Atom
  pub bytes : List ℕ

module _ (r : FieldRead) where
  -- the atom as such, and the answer
  abbrev bare : Answer (model.Atom × List ℕ)
  bare = model.atom r.arities r.parameters 7 r.bytes

  abbrev answer : Answer (model.Atom × List ℕ)
  answer = field_atom r.arities r.parameters r.field r.preconditions r.previous r.bytes

  -- the atom is refused
  pub field_ends : {k : ℕ} → bare ≡ refused k → answer ≡ refused k
  unfolding field_atom model.schema_atom
  field_ends e = halts _ e

  module _ {a : model.Atom} {s₁ : List ℕ} (e : bare ≡ accepted (a, s₁)) where
    -- 8: it is not above the one before
    pub field_unordered : model.above r.previous a ≡ false → answer ≡ refused 8
    unfolding field_atom model.schema_atom
    field_unordered o = goes _ e ∙ fails _ _ o

    -- 9, 10: its own list's check fails
    pub field_strange : model.above r.previous a ≡ true → field_test r.field r.preconditions a ≡ false
        → answer ≡ refused (refusal_number (field_refusal r.field))
    unfolding field_atom model.schema_atom
    field_strange o t = goes _ e ∙ need_both _ _ o ∙ fails _ _ t

    pub field_passes : model.above r.previous a ≡ true → field_test r.field r.preconditions a ≡ true → answer ≡ accepted (a, s₁)
    unfolding field_atom model.schema_atom
    field_passes o t = goes _ e ∙ need_both _ _ o ∙ need_both _ _ t

module _ (arities : List ℕ) (objects : ℕ) (previous : Option model.Atom) (s : List ℕ) where
  -- the fact is refused
  pub fact_ends : {k : ℕ} → model.atom arities objects 12 s ≡ refused k → model.fact arities objects previous s ≡ refused k
  unfolding model.fact
  fact_ends e = halts _ e

  module _ {a : model.Atom} {s₁ : List ℕ} (e : model.atom arities objects 12 s ≡ accepted (a, s₁)) where
    -- 13: it is not above the one before
    pub fact_unordered : model.above previous a ≡ false → model.fact arities objects previous s ≡ refused 13
    unfolding model.fact
    fact_unordered o = goes _ e ∙ fails _ _ o

    pub fact_passes : model.above previous a ≡ true → model.fact arities objects previous s ≡ accepted (a, s₁)
    unfolding model.fact
    fact_passes o = goes _ e ∙ need_both _ _ o
