-- Document 01, "The card" and "Refusals in checking order", 1 to 14: what bytes are a card, and which task it describes.
use Rattle.std.specs.Prelude.{ℕ, zero, suc, ◌+◌, ◌*◌, ◌/◌, ◌%◌, ◌^◌, Bool, true, false, not, ◌&&◌, ◌||◌, List, [], ◌∷◌, leb, ltb, eqb, length, get_or}
use Rattle.std.proofs.Math.Option.{Option, none, some}
use Rattle.laws.specs.Lists.{any, all, same, before}
use Rattle.model.specs.Answer.{Answer, refused, accepted, ◌>>=◌, ◌>>◌, need}

-- A predicate with its arguments: parameters (document 01: roles) in a schema, objects in a fact.
pub record Atom : Type 0 where
  pub predicate : ℕ
  pub arguments : List ℕ

-- An action schema (document 01: a press rule).
pub record Schema : Type 0 where
  pub parameters : ℕ
  pub preconditions : List Atom
  pub deletes : List Atom
  pub adds : List Atom

-- A planning task (document 01: a table). Predicates are given by their arities.
pub record Task : Type 0 where
  pub arities : List ℕ
  pub objects : ℕ
  pub schemas : List Schema
  pub facts : List Atom

-- the order of a list: by predicate, then arguments in order
unfoldable pub below : Atom → Atom → Bool
below a b =
    ltb a.predicate b.predicate || (eqb a.predicate b.predicate && before a.arguments b.arguments)

unfoldable pub same_atom : Atom → Atom → Bool
same_atom a b = eqb a.predicate b.predicate && same a.arguments b.arguments

-- the atom is on the list
unfoldable pub has : List Atom → Atom → Bool
has atoms a = any (same_atom a) atoms

-- the atom stands above the one before it, if there is one
unfoldable pub above : Option Atom → Atom → Bool
above none a = true
above (some b) a = below b a

-- low ≤ n ≤ high
unfoldable pub between : ℕ → ℕ → ℕ → Bool
between low high n = leb low n && leb n high

-- every arity is 1 to 3
unfoldable pub in_range : List ℕ → Bool
in_range arities = all (between 1 3) arities

-- A reader takes the bytes still to be read; it answers a value with the bytes after it, or a refusal.
abbrev pub Reader : Type 0 → Type 0
Reader A = List ℕ → Answer (A × List ℕ)

-- 1: the card ends where a byte is due
unfoldable pub byte : Reader ℕ
byte [] = refused 1
byte (b ∷ rest) = accepted (b, rest)

-- a byte that has to pass a test, refused by the number given
unfoldable pub byte_that : (ℕ → Bool) → ℕ → Reader ℕ
byte_that test number s = do
  (b, s₁) ← byte s
  need (test b) number
  accepted (b, s₁)

-- n items in sequence; each reader is told the item before it
unfoldable pub many : {A : Type 0} → (Option A → Reader A) → Option A → ℕ → Reader (List A)
many read previous zero s = accepted ([], s)
many read previous (suc n) s = do
  (x, s₁) ← read previous s
  (xs, s₂) ← many read (some x) n s₁
  accepted (x ∷ xs, s₂)

-- a predicate byte and one byte per argument, below `bound`; the number refuses an unknown one (7, 12)
unfoldable pub atom : List ℕ → ℕ → ℕ → Reader Atom
atom arities bound number s = do
  (p, s₁) ← byte_that (λ p. ltb p (length arities)) number s
  (arguments, s₂) ← many (λ previous. byte_that (λ x. ltb x bound) number) none (get_or arities p 0) s₁
  accepted (record { predicate = p; arguments = arguments }, s₂)

-- an atom of a schema: 7 at each byte, then 8, then the check of its own list (9, 10) at the whole atom
unfoldable pub schema_atom : List ℕ → ℕ → (Atom → Bool) → ℕ → Option Atom → Reader Atom
schema_atom arities parameters test number previous s = do
  (a, s₁) ← atom arities parameters 7 s
  need (above previous a) 8
  need (test a) number
  accepted (a, s₁)

-- a list of atoms: absent means empty; its count byte is 1 to 8 (6), and its atoms follow
unfoldable pub list : Bool → (Option Atom → Reader Atom) → Reader (List Atom)
list false read s = accepted ([], s)
list true read s = do
  (n, s₁) ← byte_that (between 1 8) 6 s
  many read none n s₁

-- the role count: absent means 1; the byte, when present, is 2 to 6 (5)
unfoldable pub role_count : Bool → Reader ℕ
role_count false s = accepted (1, s)
role_count true s = byte_that (between 2 6) 5 s

-- bit i of a byte stands
unfoldable pub bit : ℕ → ℕ → Bool
bit i b = eqb (b / 2 ^ i % 2) 1

-- the three lists of a schema, each where its bit stands.
-- 9: a deleted atom is no precondition. 10: an added atom is a precondition
unfoldable pub schema_lists : List ℕ → ℕ → ℕ → Reader Schema
schema_lists arities bits parameters s = do
  (preconditions, s₁) ← list (bit 1 bits) (schema_atom arities parameters (λ a. true) 8) s
  (deletes, s₂) ← list (bit 2 bits) (schema_atom arities parameters (has preconditions) 9) s₁
  (adds, s₃) ← list (bit 3 bits) (schema_atom arities parameters (λ a. not (has preconditions a)) 10) s₂
  accepted (record { parameters = parameters; preconditions = preconditions; deletes = deletes; adds = adds }, s₃)

-- a bit map whose bits 4 to 7 are 0 (5), then only the fields whose bit stands, in bit order
unfoldable pub schema : List ℕ → Reader Schema
schema arities s = do
  (bits, s₁) ← byte_that (λ b. ltb b 16) 5 s
  (parameters, s₂) ← role_count (bit 0 bits) s₁
  schema_lists arities bits parameters s₂

-- a fact: 12 at each byte, 13 at the whole fact
unfoldable pub fact : List ℕ → ℕ → Option Atom → Reader Atom
fact arities objects previous s = do
  (f, s₁) ← atom arities objects 12 s
  need (above previous f) 13
  accepted (f, s₁)

-- the fact count, one field of two bytes, high first (11)
unfoldable pub fact_count : Reader ℕ
fact_count s = do
  (high, s₁) ← byte s
  (low, s₂) ← byte s₁
  need (leb (high * 256 + low) 512) 11
  accepted (high * 256 + low, s₂)

-- the predicates: their count, 1 to 20, then one arity byte each, 1 to 3 (2)
unfoldable pub predicates : Reader (List ℕ)
predicates s = do
  (count, s₁) ← byte_that (between 1 20) 2 s
  many (λ previous. byte_that (between 1 3) 2) none count s₁

-- the schemas: their count, 0 to 32 (4), then each of them
unfoldable pub schemas : List ℕ → Reader (List Schema)
schemas arities s = do
  (count, s₁) ← byte_that (λ n. leb n 32) 4 s
  many (λ previous. schema arities) none count s₁

-- the facts: their count, then each of them
unfoldable pub facts : List ℕ → ℕ → Reader (List Atom)
facts arities objects s = do
  (count, s₁) ← fact_count s
  many (fact arities objects) none count s₁

unfoldable pub is_end : List ℕ → Bool
is_end [] = true
is_end (b ∷ rest) = false

-- the task that a run of bytes describes, or the refusal that reading meets first: predicates, objects (3), schemas, facts, and no byte more (14)
unfoldable pub decode : List ℕ → Answer Task
decode card = do
  (arities, s₁) ← predicates card
  (objects, s₂) ← byte_that (between 1 64) 3 s₁
  (schemas, s₃) ← schemas arities s₂
  (facts, s₄) ← facts arities objects s₃
  need (is_end s₄) 14
  accepted (record { arities = arities; objects = objects; schemas = schemas; facts = facts })

-- opens every definition of this module, for what is proved by computation
unfoldable pub card_opens : Unit {0}
unfolding
    below same_atom has above between in_range byte byte_that many atom schema_atom list role_count bit schema_lists schema fact fact_count predicates schemas
    facts is_end decode
card_opens = tt
