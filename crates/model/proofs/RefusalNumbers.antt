-- The numbers by which the parts of a call are refused: a card by 1 to 14, then a state and an action on it by 15 to 20.
use Prim.Native.Nat.{ℕ, zero, suc, ◌*◌, ◌+◌}
use native.Mathlib.Omega.{arith}
use mathlib.Core.Path.{◌≡◌, refl}
use mathlib.Core.Bool.{Bool, true, false, not, ◌&&◌}
use mathlib.Core.Option.{Option, none, some}
use mathlib.Core.List.{List, [], ◌∷◌}
use lib.Dec.{leb, ltb}
use lib.ListN.{get_or}
use Rattle.model.specs.Answer.{Answer, accepted, ◌>>=◌, ◌>>◌, need}
use Rattle.model.specs.Card.{Reader, Atom, Task, has, above, between, byte, byte_that, many, atom, schema_atom, list, role_count, bit, schema_lists}
use Rattle.model.specs.Card.{schema, fact, fact_count, predicates, schemas, facts, is_end, decode}
use Rattle.model.specs.Strips.{Action, check_objects, check_action, limited, progress, apply}
use Rattle.model.specs.Calls.{next_state}
use Rattle.model.proofs.Answers.{RefusedWithin, one_number_lem, need_within, both_within, need_both_within, accepted_within, then_within}

-- ---- a card: 1 to 14

-- a reader that is refused by these alone, whatever it reads
abbrev CardReader : {A : Type 0} → Reader A → Type 0
CardReader read = (s : List ℕ) → RefusedWithin 1 14 (read s)

-- parts in sequence; a check; the end
then_card : {A B : Type 0} {x : Answer A} {next : A → Answer B} → RefusedWithin 1 14 x → ((a : A) → RefusedWithin 1 14 (next a))
    → RefusedWithin 1 14 (x >>= next)
then_card {x = x} {next = next} first later = then_within 1 14 x next first later

need_card : {A : Type 0} (test : Bool) (number : ℕ) {y : Answer A} → (leb 1 number && leb number 14) ≡ true → RefusedWithin 1 14 y
    → RefusedWithin 1 14 (need test number >> y)
need_card test number {y} h later = need_both_within 1 14 test number y h later

read_card : {A : Type 0} {a : A} → RefusedWithin 1 14 (accepted a)
read_card = accepted_within 1 14

byte_within : CardReader byte
unfolding byte
byte_within [] n e = let same : 1 ≡ n = one_number_lem e in (omega arith, omega arith)
byte_within (b ∷ rest) n e = read_card n e

byte_that_within : (test : ℕ → Bool) (number : ℕ) → (leb 1 number && leb number 14) ≡ true → CardReader (byte_that test number)
unfolding byte_that
byte_that_within test number h s = then_card (byte_within s) (λ (b, s₁). need_card (test b) number h read_card)

many_within : {A : Type 0} (read : Option A → Reader A) → ((previous : Option A) → CardReader (read previous))
    → (previous : Option A) (n : ℕ) → CardReader (many read previous n)
unfolding many
many_within read each previous zero s = read_card
many_within read each previous (suc n) s =
    then_card (each previous s) (λ (x, s₁). then_card (many_within read each (some x) n s₁) (λ (xs, s₂). read_card))

atom_within : (arities : List ℕ) (bound number : ℕ) → (leb 1 number && leb number 14) ≡ true → CardReader (atom arities bound number)
unfolding atom
atom_within arities bound number h s =
    then_card (byte_that_within _ number h s) (λ (p, s₁).
    then_card (many_within _ (λ previous. byte_that_within _ number h) none (get_or arities p 0) s₁) (λ (arguments, s₂). read_card))

schema_atom_within : (arities : List ℕ) (parameters : ℕ) (test : Atom → Bool) (number : ℕ) → (leb 1 number && leb number 14) ≡ true
    → (previous : Option Atom) → CardReader (schema_atom arities parameters test number previous)
unfolding schema_atom
schema_atom_within arities parameters test number h previous s =
    then_card (atom_within arities parameters 7 refl s) (λ (a, s₁).
    need_card (above previous a) 8 refl (need_card (test a) number h read_card))

list_within : (present : Bool) (read : Option Atom → Reader Atom) → ((previous : Option Atom) → CardReader (read previous))
    → CardReader (list present read)
unfolding list
list_within false read each s = read_card
list_within true read each s = then_card (byte_that_within (between 1 8) 6 refl s) (λ (n, s₁). many_within read each none n s₁)

role_count_within : (present : Bool) → CardReader (role_count present)
unfolding role_count
role_count_within false s = read_card
role_count_within true s = byte_that_within (between 2 6) 5 refl s

schema_lists_within : (arities : List ℕ) (bits parameters : ℕ) → CardReader (schema_lists arities bits parameters)
unfolding schema_lists
schema_lists_within arities bits parameters s =
    then_card (list_within (bit 1 bits) _ (schema_atom_within arities parameters (λ a. true) 8 refl) s) (λ (preconditions, s₁).
    then_card (list_within (bit 2 bits) _ (schema_atom_within arities parameters (has preconditions) 9 refl) s₁) (λ (deletes, s₂).
    then_card (list_within (bit 3 bits) _ (schema_atom_within arities parameters (λ a. not (has preconditions a)) 10 refl) s₂) (λ (adds, s₃). read_card)))

schema_within : (arities : List ℕ) → CardReader (schema arities)
unfolding schema
schema_within arities s =
    then_card (byte_that_within (λ b. ltb b 16) 5 refl s) (λ (bits, s₁).
    then_card (role_count_within (bit 0 bits) s₁) (λ (parameters, s₂). schema_lists_within arities bits parameters s₂))

fact_within : (arities : List ℕ) (objects : ℕ) (previous : Option Atom) → CardReader (fact arities objects previous)
unfolding fact
fact_within arities objects previous s =
    then_card (atom_within arities objects 12 refl s) (λ (f, s₁). need_card (above previous f) 13 refl read_card)

fact_count_within : CardReader fact_count
unfolding fact_count
fact_count_within s =
    then_card (byte_within s) (λ (high, s₁).
    then_card (byte_within s₁) (λ (low, s₂). need_card (leb (high * 256 + low) 512) 11 refl read_card))

predicates_within : CardReader predicates
unfolding predicates
predicates_within s =
    then_card (byte_that_within (between 1 20) 2 refl s) (λ (count, s₁).
    many_within _ (λ previous. byte_that_within (between 1 3) 2 refl) none count s₁)

schemas_within : (arities : List ℕ) → CardReader (schemas arities)
unfolding schemas
schemas_within arities s =
    then_card (byte_that_within (λ n. leb n 32) 4 refl s) (λ (count, s₁). many_within _ (λ previous. schema_within arities) none count s₁)

facts_within : (arities : List ℕ) (objects : ℕ) → CardReader (facts arities objects)
unfolding facts
facts_within arities objects s =
    then_card (fact_count_within s) (λ (count, s₁). many_within _ (fact_within arities objects) none count s₁)

pub decode_within : (card : List ℕ) → RefusedWithin 1 14 (decode card)
unfolding decode
decode_within card =
    then_card (predicates_within card) (λ (arities, s₁).
    then_card (byte_that_within (between 1 64) 3 refl s₁) (λ (objects, s₂).
    then_card (schemas_within arities s₂) (λ (schemas, s₃).
    then_card (facts_within arities objects s₃) (λ (facts, s₄). need_card (is_end s₄) 14 refl read_card))))

-- ---- a state, and an action on it: 15 to 20

pub next_state_within : (t : Task) (buffer : List ℕ) (count : ℕ) (a : Action) → RefusedWithin 15 20 (next_state t buffer count a)
unfolding next_state apply check_action check_objects progress limited
next_state_within t buffer count a =
    need_both_within 15 20 _ 15 _ refl
    (both_within 15 20 (check_action t a) _
    (need_both_within 15 20 _ 16 _ refl (need_both_within 15 20 _ 17 _ refl (need_within 15 20 _ 18 refl)))
    (need_both_within 15 20 _ 19 _ refl (need_both_within 15 20 _ 20 _ refl (accepted_within 15 20))))
