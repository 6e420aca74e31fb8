-- Ground facts as the code keeps them: their numbers, filled up with 0, and their count.
use Rattle.std.specs.Prelude.{ℕ, ◌≤◌, ◌≡◌, Bool, true, cond, not, List, map, leb, ltb, length}
use Rattle.laws.specs.Lists.{all, count, member, padded}
use Rattle.model.specs.Card.{Atom, in_range}
use Rattle.model.specs.Writer.{known}
use Rattle.model.specs.Strips.{filler, ground}
use Rattle.card.specs.Represents.{atoms_of, facts_of}
use Rattle.card.specs.declared.AtomList.{AtomList}
use Rattle.card.specs.declared.FactList.{FactList}
use Rattle.state.specs.Rows.{fact_number, numbers_in}
use Rattle.actions.specs.declared.Facts.{Facts}

-- the byte at place k of a row: what stands there up to the arity, filler after it
unfoldable pub place_byte : ℕ → ℕ → ℕ → ℕ
place_byte arity k byte = cond (leb k arity) byte filler

unfoldable pub facts_kept : List Atom → Facts
facts_kept facts = record { count = length facts; numbers = padded 8 0 (map fact_number facts) }

-- the fact that an atom becomes with an action's objects is among the first n rows of a buffer
unfoldable pub holds_in : ℕ → List ℕ → List ℕ → Atom → Bool
holds_in n buffer objects a = member (fact_number (ground objects a)) (numbers_in n buffer)

-- how many of the facts that atoms become are not
unfoldable pub missing_in : ℕ → List ℕ → List ℕ → List Atom → ℕ
missing_in n buffer objects atoms = count (λ a. not (holds_in n buffer objects a)) atoms

-- A list of a schema's atoms as the code keeps it, with an object for each parameter.
pub record Bound (arities objects : List ℕ) (l : AtomList) : Type 0 where
  pub right : in_range arities ≡ true
  pub few : l.count ≤ 8
  pub size : length l.atoms ≡ 8
  pub atoms_known : all (known arities (length objects)) (atoms_of arities l) ≡ true

-- A list of a task's facts as the code keeps it, and room for their numbers.
pub record FactsRight (arities : List ℕ) (l : FactList) (numbers : List ℕ) : Type 0 where
  pub right : in_range arities ≡ true
  pub few : l.count ≤ 512
  pub size : length l.facts ≡ 512
  pub predicates_known : all (λ f. ltb f.predicate (length arities)) (facts_of arities l) ≡ true
  pub room : l.count ≤ length numbers
