-- What the code's atoms and the reads of them stand for.
use Rattle.std.specs.Prelude.{Option as Maybe, None, Some, ℕ, ◌≤◌, Bool, true, not, List, [], ◌∷◌, ◌≡◌, ltb, take, drop, ◌+◌, ◌*◌}
use Rattle.std.proofs.Math.Option.{Option, none, some}
use Rattle.laws.specs.Lists.{any, same, before}
use Rattle.model.specs.Answer.{Answer}
use Rattle.model.specs.Card as model
use Rattle.card.specs.declared.Atom.{Atom}
use Rattle.card.specs.declared.AtomList.{AtomList}
use Rattle.card.specs.declared.ListField.{ListField}
use Rattle.card.specs.declared.ListField.TheVariants.{Preconditions, Deletes, Adds}
use Rattle.card.specs.declared.Refusal.{Refusal}
use Rattle.card.specs.Fields.{field_test, field_refusal}
use Rattle.card.specs.Represents.{entries, atom_of, atom_for, atoms_of, atoms_for, blank_atom, refusal_number}
use Rattle.reader_bytes.specs.Reads.{Read, Reads}

-- the code's whole answer where an atom is due
abbrev pub AtomReads : List ℕ → List ℕ → Answer (model.Atom × List ℕ) → Read Atom → Type 0
AtomReads arities card answer r = Reads (atom_of arities) atom_for card answer r

-- the arguments' bytes of an atom of that arity
unfoldable pub argument_bytes : ℕ → ℕ → ℕ → model.Reader (List ℕ)
argument_bytes arity bound number = model.many (λ previous. model.byte_that (λ x. ltb x bound) number) none arity

abbrev pub argument_places : Atom → List ℕ
argument_places a = a.first ∷ a.second ∷ a.third ∷ []

unfoldable pub arguments_of : ℕ → Atom → List ℕ
arguments_of arity a = take arity (argument_places a)

unfoldable pub with_arguments : ℕ → List ℕ → Atom
with_arguments predicate arguments = atom_for (record { predicate = predicate; arguments = arguments })

-- the code's whole answer where the arguments of an atom are due
abbrev pub ArgumentsRead : ℕ → ℕ → List ℕ → Answer (List ℕ × List ℕ) → Read Atom → Type 0
ArgumentsRead predicate arity card answer r = Reads (arguments_of arity) (with_arguments predicate) card answer r

-- the four bytes of an atom
abbrev pub bytes_of : Atom → List ℕ
bytes_of a = a.predicate ∷ argument_places a

-- the same as one number, the first of them highest
unfoldable pub number_of : Atom → ℕ
number_of a = a.predicate * 16777216 + a.first * 65536 + a.second * 256 + a.third

-- an atom with the same bytes is on the list
unfoldable pub has_bytes : AtomList → Atom → Bool
has_bytes l a = any (λ b. same (bytes_of a) (bytes_of b)) (entries l.count blank_atom l.atoms)

-- the atom before it, if there is one
unfoldable pub previous_of : List ℕ → Maybe Atom → Option model.Atom
previous_of arities None = none
previous_of arities (Some a) = some (atom_of arities a)

unfoldable pub previous_for : Option model.Atom → Maybe Atom
previous_for none = None
previous_for (some a) = Some (atom_for a)

-- the atom stands above the one before it, by their bytes
abbrev pub above_bytes : Maybe Atom → Atom → Bool
above_bytes None a = true
above_bytes (Some b) a = before (bytes_of b) (bytes_of a)

-- the test of each list, by bytes
abbrev pub belongs_bytes : ListField → AtomList → Atom → Bool
belongs_bytes Preconditions preconditions a = true
belongs_bytes Deletes preconditions a = has_bytes preconditions a
belongs_bytes Adds preconditions a = not (has_bytes preconditions a)

-- an atom of that list
unfoldable pub field_atom : List ℕ → ℕ → ListField → List model.Atom → Option model.Atom → model.Reader model.Atom
field_atom arities parameters field preconditions previous =
    model.schema_atom arities parameters (field_test field preconditions) (refusal_number (field_refusal field)) previous

-- a list and a previous atom as the reader keeps them: places past an arity or a count hold blanks
pub record AtomsKept (arities : List ℕ) (l : AtomList) : Type 0 where
  pub few : l.count ≤ 8
  pub kept : l ≡ atoms_for (atoms_of arities l)

abbrev pub PreviousKept : List ℕ → Maybe Atom → Type 0
PreviousKept arities previous = previous ≡ previous_for (previous_of arities previous)

-- What the functions promise: the code's whole answer at a place on the card.
abbrev pub ArgumentsReadAt : ℕ → ℕ → ℕ → Refusal → List ℕ → ℕ → Read Atom → Type 0
ArgumentsReadAt predicate arity bound refusal card at r =
    ArgumentsRead predicate arity card (argument_bytes arity bound (refusal_number refusal) (drop at card)) r

abbrev pub AtomReadAt : List ℕ → ℕ → Refusal → List ℕ → ℕ → Read Atom → Type 0
AtomReadAt arities bound refusal card at r = AtomReads arities card (model.atom arities bound (refusal_number refusal) (drop at card)) r

abbrev pub SchemaAtomReadAt : List ℕ → ℕ → ListField → AtomList → Maybe Atom → List ℕ → ℕ → Read Atom → Type 0
SchemaAtomReadAt arities parameters field preconditions previous card at r =
    let read = field_atom arities parameters field (atoms_of arities preconditions) (previous_of arities previous) in
    AtomReads arities card (read (drop at card)) r

abbrev pub FactReadAt : List ℕ → ℕ → Maybe Atom → List ℕ → ℕ → Read Atom → Type 0
FactReadAt arities objects previous card at r =
    AtomReads arities card (model.fact arities objects (previous_of arities previous) (drop at card)) r
