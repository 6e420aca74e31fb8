-- What the reads of lists answer.
use Rattle.std.specs.Prelude.{ℕ, Bool, List, drop}
use Rattle.std.proofs.Math.Option.{none}
use Rattle.model.specs.Answer.{Answer}
use Rattle.model.specs.Card as model
use Rattle.card.specs.declared.AtomList.{AtomList}
use Rattle.card.specs.declared.ArityList.{ArityList}
use Rattle.card.specs.declared.FactList.{FactList}
use Rattle.card.specs.Represents.{atoms_of, atoms_for, arities_of, arities_for, facts_of, facts_for}
use Rattle.card.specs.declared.ListField.{ListField}
use Rattle.reader_bytes.specs.Reads.{Read, Reads}
use Rattle.reader_atoms.specs.Atoms.{field_atom}

-- the code's whole answer where a list is due
abbrev pub AtomsReads : List ℕ → List ℕ → Answer (List model.Atom × List ℕ) → Read AtomList → Type 0
AtomsReads arities card answer r = Reads (atoms_of arities) atoms_for card answer r

abbrev pub AritiesReads : List ℕ → Answer (List ℕ × List ℕ) → Read ArityList → Type 0
AritiesReads card answer r = Reads arities_of arities_for card answer r

abbrev pub FactsReads : List ℕ → List ℕ → Answer (List model.Atom × List ℕ) → Read FactList → Type 0
FactsReads arities card answer r = Reads (facts_of arities) facts_for card answer r

-- What the functions promise: the code's whole answer in a part of the card, or at a place on it.
abbrev pub AtomsReadIn : List ℕ → ℕ → ListField → AtomList → ℕ → List ℕ → Read AtomList → Type 0
AtomsReadIn arities parameters field preconditions count part r =
    AtomsReads arities part (model.many (field_atom arities parameters field (atoms_of arities preconditions)) none count part) r

abbrev pub ListReadAt : List ℕ → ℕ → ListField → AtomList → Bool → List ℕ → ℕ → Read AtomList → Type 0
ListReadAt arities parameters field preconditions present card at r =
    let read = field_atom arities parameters field (atoms_of arities preconditions) in
    AtomsReads arities card (model.list present read (drop at card)) r

abbrev pub AritiesReadAt : ℕ → List ℕ → ℕ → Read ArityList → Type 0
AritiesReadAt count card at r =
    AritiesReads card (model.many (λ previous. model.byte_that (model.between 1 3) 2) none count (drop at card)) r

abbrev pub FactsReadAt : List ℕ → ℕ → ℕ → List ℕ → ℕ → Read FactList → Type 0
FactsReadAt arities objects count card at r = FactsReads arities card (model.many (model.fact arities objects) none count (drop at card)) r
