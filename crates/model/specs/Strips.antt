-- Document 01, "Pressing": states, the initial state (document 01: opening state), and applying an action (document 01: a press).
use Rattle.std.specs.Prelude.{ℕ, zero, suc, ◌-◌, ◌*◌, Bool, true, cond, not, ◌&&◌, leb, ltb, eqb, length, get_or, take, drop, replicate}
use mathlib.Core.List.{List, [], ◌∷◌, ◌++◌, map, flat_map, foldl}
use Rattle.std.proofs.Math.Option.{Option, none, some}
use Rattle.laws.specs.Lists.{all, keep, distinct}
use Rattle.model.specs.Answer.{Answer, accepted, ◌>>◌, need}
use Rattle.model.specs.Card.{Atom, Schema, Task, below, same_atom, has, above}
use Rattle.model.specs.Writer.{known}

-- Sizes of document 01.
abbrev pub state_bytes : ℕ
state_bytes = 4096

abbrev pub most_facts : ℕ
most_facts = 1024

abbrev pub filler : ℕ
filler = 255

-- A state is a set of facts, kept as a list in strictly ascending order.
abbrev pub State : Type 0
State = List Atom

-- a fact's four bytes: predicate, objects, filler for missing arguments
unfoldable pub fact_bytes : Atom → List ℕ
fact_bytes f = f.predicate ∷ f.arguments ++ replicate (3 - length f.arguments) filler

-- the fact that four bytes stand for: as many objects as the arity says
unfoldable pub fact_at : List ℕ → List ℕ → Atom
fact_at arities row = record { predicate = get_or row 0 0; arguments = take (get_or arities (get_or row 0 0) 0) (drop 1 row) }

-- the first n facts of a buffer
unfoldable pub facts_in : List ℕ → ℕ → List ℕ → State
facts_in arities zero buffer = []
facts_in arities (suc n) buffer = fact_at arities (take 4 buffer) ∷ facts_in arities n (drop 4 buffer)

-- four bytes are right: known predicate and objects, and filler after them
unfoldable pub row_right : List ℕ → ℕ → List ℕ → Bool
row_right arities objects row =
    known arities objects (fact_at arities row) && all (eqb filler) (drop (suc (get_or arities (get_or row 0 0) 0)) row)

unfoldable pub rows_right : List ℕ → ℕ → ℕ → List ℕ → Bool
rows_right arities objects zero buffer = true
rows_right arities objects (suc n) buffer = row_right arities objects (take 4 buffer) && rows_right arities objects n (drop 4 buffer)

-- each fact stands above the one before
unfoldable pub ascending : Option Atom → State → Bool
ascending previous [] = true
ascending previous (f ∷ fs) = above previous f && ascending (some f) fs

-- 15: the buffer and the count hold a state of a task with these arities and this number of objects
unfoldable pub well_formed : List ℕ → ℕ → List ℕ → ℕ → Bool
well_formed arities objects buffer count =
    leb state_bytes (length buffer) && leb count most_facts && rows_right arities objects count buffer
    && ascending none (facts_in arities count buffer)

-- a buffer with a state written to it: the facts, then 0 up to byte 4,096; the bytes beyond are unchanged
unfoldable pub written : State → List ℕ → List ℕ
written state buffer =
    flat_map fact_bytes state ++ replicate (state_bytes - 4 * length state) 0 ++ drop state_bytes buffer

-- An action: the number of a schema, and an object for each parameter.
pub record Action : Type 0 where
  pub schema : ℕ
  pub objects : List ℕ

-- an atom of a schema with an action's objects in place of its parameters
unfoldable pub ground : List ℕ → Atom → Atom
ground objects a = record { predicate = a.predicate; arguments = map (λ k. get_or objects k 0) a.arguments }

-- the state allows the schema with these objects: every precondition is in it
unfoldable pub applicable : Schema → List ℕ → State → Bool
applicable schema objects state = all (has state) (map (ground objects) schema.preconditions)

-- the fact put into its place; nothing changes if it is there
unfoldable pub put : Atom → State → State
put f [] = f ∷ []
put f (g ∷ gs) = let later = put f gs in cond (same_atom f g) (g ∷ gs) (cond (below f g) (f ∷ g ∷ gs) (g ∷ later))

-- the facts taken out, and those put in
unfoldable pub taken_out : Schema → List ℕ → List Atom
taken_out schema objects = map (ground objects) schema.deletes

unfoldable pub put_in : Schema → List ℕ → List Atom
put_in schema objects = map (ground objects) schema.adds

-- remove the deletes, then put in the adds
unfoldable pub successor : Schema → List ℕ → State → State
successor schema objects state =
    foldl (λ s f. put f s) (keep (λ f. not (has (taken_out schema objects) f)) state) (put_in schema objects)

-- the schema of this number; the default is met only past the last one
unfoldable pub schema_at : Task → ℕ → Schema
schema_at t n = get_or t.schemas n (record { parameters = 0; preconditions = []; deletes = []; adds = [] })

-- 17 and 18: an object for each parameter, each of them known, all different
unfoldable pub check_objects : ℕ → Schema → List ℕ → Answer (Unit {0})
check_objects known schema objects = do
  need (eqb (length objects) schema.parameters && all (λ o. ltb o known) objects) 17
  need (distinct objects) 18

-- 16 to 18: the action names a schema of the task, and its objects are right
unfoldable pub check_action : Task → Action → Answer (Unit {0})
check_action t action = do
  need (ltb action.schema (length t.schemas)) 16
  check_objects t.objects (schema_at t action.schema) action.objects

-- 20: a state has at most 1,024 facts
unfoldable pub limited : State → Answer State
limited state = do
  need (leb (length state) most_facts) 20
  accepted state

-- a schema with these objects on a state: 19, then the next state, or 20
unfoldable pub progress : Schema → List ℕ → State → Answer State
progress schema objects state = do
  need (applicable schema objects state) 19
  limited (successor schema objects state)

-- an action on a state: 16 to 18, then 19 and 20, or the next state
unfoldable pub apply : Task → Action → State → Answer State
apply t action state = do
  check_action t action
  progress (schema_at t action.schema) action.objects state

-- opens every definition of this module, for what is proved by computation
unfoldable pub strips_opens : Unit {0}
unfolding
    fact_bytes fact_at facts_in row_right rows_right ascending well_formed written ground applicable put taken_out put_in successor
    schema_at check_objects check_action limited progress apply
strips_opens = tt
