-- The card writer: which tables a card can carry, checked in card order, and the bytes of the card. Document 01, "Refusals in checking order".
use Rattle.std.specs.Prelude.{ℕ, ◌+◌, ◌/◌, ◌%◌, Bool, true, cond, not, ◌&&◌, leb, ltb, eqb, length, get_or}
use mathlib.Core.List.{List, [], ◌∷◌, ◌++◌, flat_map}
use Rattle.std.proofs.Math.Option.{Option, none, some}
use Rattle.laws.specs.Lists.{all}
use Rattle.model.specs.Answer.{Answer, accepted, ◌>>◌, need}
use Rattle.model.specs.Card.{Atom, Schema, Task, above, between, in_range, has}

-- every item passes its check; each check is told the item before it
unfoldable pub each : {A : Type 0} → (Option A → A → Answer (Unit {0})) → Option A → List A → Answer (Unit {0})
each check previous [] = accepted tt
each check previous (x ∷ xs) = do
  check previous x
  each check (some x) xs

-- the predicate is known, has as many arguments as its arity says, and each is below `bound`
unfoldable pub known : List ℕ → ℕ → Atom → Bool
known arities bound a =
    ltb a.predicate (length arities) && eqb (length a.arguments) (get_or arities a.predicate 0)
    && all (λ x. ltb x bound) a.arguments

unfoldable pub check_schema_atom : List ℕ → ℕ → (Atom → Bool) → ℕ → Option Atom → Atom → Answer (Unit {0})
check_schema_atom arities parameters test number previous a = do
  need (known arities parameters a) 7
  need (above previous a) 8
  need (test a) number

-- 6: a list of over 8
unfoldable pub check_list : (Option Atom → Atom → Answer (Unit {0})) → List Atom → Answer (Unit {0})
check_list check atoms = do
  need (leb (length atoms) 8) 6
  each check none atoms

-- 5: a role count outside 1 to 6
unfoldable pub check_schema : List ℕ → Schema → Answer (Unit {0})
check_schema arities s = do
  need (between 1 6 s.parameters) 5
  check_list (check_schema_atom arities s.parameters (λ a. true) 8) s.preconditions
  check_list (check_schema_atom arities s.parameters (has s.preconditions) 9) s.deletes
  check_list (check_schema_atom arities s.parameters (λ a. not (has s.preconditions a)) 10) s.adds

unfoldable pub check_fact : List ℕ → ℕ → Option Atom → Atom → Answer (Unit {0})
check_fact arities objects previous f = do
  need (known arities objects f) 12
  need (above previous f) 13

-- 2: 1 to 20 predicates, each of an arity of 1 to 3
unfoldable pub check_predicates : List ℕ → Answer (Unit {0})
check_predicates arities = do
  need (between 1 20 (length arities)) 2
  need (in_range arities) 2

-- 4: at most 32 schemas; then each of them
unfoldable pub check_schemas : List ℕ → List Schema → Answer (Unit {0})
check_schemas arities schemas = do
  need (leb (length schemas) 32) 4
  each (λ previous. check_schema arities) none schemas

-- 11: at most 512 facts; then each of them
unfoldable pub check_facts : List ℕ → ℕ → List Atom → Answer (Unit {0})
check_facts arities objects facts = do
  need (leb (length facts) 512) 11
  each (check_fact arities objects) none facts

-- a table that a card can carry, or the refusal that card order meets first: predicates, objects (3), schemas, facts
unfoldable pub check_task : Task → Answer (Unit {0})
check_task t = do
  check_predicates t.arities
  need (between 1 64 t.objects) 3
  check_schemas t.arities t.schemas
  check_facts t.arities t.objects t.facts

unfoldable pub atom_bytes : Atom → List ℕ
atom_bytes a = a.predicate ∷ a.arguments

-- an empty list is absent; another is its count byte and its atoms
unfoldable pub list_bytes : List Atom → List ℕ
list_bytes [] = []
list_bytes (a ∷ rest) = length (a ∷ rest) ∷ flat_map atom_bytes (a ∷ rest)

-- one role is absent
unfoldable pub role_bytes : ℕ → List ℕ
role_bytes n = cond (eqb n 1) [] (n ∷ [])

-- the value of a bit that stands if the field has bytes
unfoldable pub bit_for : ℕ → List ℕ → ℕ
bit_for value [] = 0
bit_for value (b ∷ field) = value

-- the map, then the fields in bit order
unfoldable pub schema_bytes : Schema → List ℕ
schema_bytes s =
    let roles = role_bytes s.parameters in
    let preconditions = list_bytes s.preconditions in
    let deletes = list_bytes s.deletes in
    let adds = list_bytes s.adds in
    (bit_for 1 roles + bit_for 2 preconditions + bit_for 4 deletes + bit_for 8 adds)
    ∷ (roles ++ preconditions ++ deletes ++ adds)

-- the card of a table
unfoldable pub task_bytes : Task → List ℕ
task_bytes t =
    length t.arities ∷ t.arities
    ++ (t.objects ∷ length t.schemas ∷ flat_map schema_bytes t.schemas)
    ++ (length t.facts / 256 ∷ length t.facts % 256 ∷ flat_map atom_bytes t.facts)

-- opens every definition of this module, for what is proved by computation
unfoldable pub writer_opens : Unit {0}
unfolding
    each known check_schema_atom check_list check_schema check_fact check_predicates check_schemas check_facts check_task atom_bytes list_bytes role_bytes
    bit_for schema_bytes task_bytes
writer_opens = tt
