-- Document 01, "The bench card": K1 to K11 as questions with their answers, and further ones where K1 to K11 leave a trap open. That every
-- entry holds is `vectors_hold` of proofs/Vectors.antt, where each entry has a theorem of its own besides.
use Rattle.std.specs.Prelude.{ℕ, zero, suc, ◌+◌, ◌-◌, ◌*◌, length, take, drop, replicate, set}
use Prim.Native.Char.{code}
use Prim.Native.String as text
use Prim.Native.String.{String}
use mathlib.Core.List.{List, [], ◌∷◌, ◌++◌, map, flat_map}
use Rattle.std.proofs.Math.Option.{Option, none, some}
use Rattle.laws.specs.Lists.{from, up_to}
use Rattle.model.specs.Answer.{Answer, refused, accepted}
use Rattle.model.specs.Card.{Atom, Task, decode}
use Rattle.model.specs.Strips.{Action, state_bytes, fact_bytes, facts_in}
use Rattle.model.specs.Analysis.{Analysis, analysis}
use Rattle.model.specs.Text.{kind_letter}
use Rattle.model.specs.Calls.{Call, Standing, encode, initial, press, pressed, section, program, history, state_of, counted}
use Rattle.model.specs.Open.{bindings, open_after, next_open, one_by_one}
use Rattle.model.specs.Preview.{Preview, Asked, ask, commit}
use Rattle.model.specs.Histories.{Event, asking, committing, happened, mixed}

-- the bytes of a text in ASCII
unfoldable pub ascii : String → List ℕ
ascii text.[] = []
ascii (text.◌∷◌ c rest) = code c ∷ ascii rest

-- lines of text as bytes, each with its end
unfoldable pub lines : List String → List ℕ
lines texts = flat_map (λ line. ascii line ++ (10 ∷ [])) texts

-- A question about the definitions. A buffer that is lent to a call has 7 in every byte.
pub data Question : Type 0 where
  prints : List ℕ → Question  -- what the program prints on a card
  plays : List ℕ → List Action → Question  -- the answers of presses from the initial state, and the facts that then stand
  clears : List ℕ → List Action → Question  -- four bytes past the last fact after such presses, and those around byte 4,096
  extends : List ℕ → ℕ → Question  -- a space's kind letter and the number of its conditions
  reads : List ℕ → Question  -- whether a card is accepted
  lists : List ℕ → ℕ → ℕ → Question  -- the listing call: a card, a section's number, the size of the buffer lent
  writes : Task → ℕ → Question  -- the card writer: a table, the size of the buffer lent
  shows : List ℕ → List (List ℕ) → ℕ → Question  -- the open actions one by one: a card, a state's facts of four bytes each, how often is asked
  asks : List ℕ → List (List ℕ) → List (Option Action) → Question  -- the call for the next open action, after each of these: a card, such a state
  foresees : List ℕ → List (List ℕ) → List Action → Question  -- asking what each of these would do: a card, such a state
  commits : List ℕ → List (List ℕ) → List Preview → Question  -- committing each of these on one state: a card, such a state
  mixes : List ℕ → List Event → Question  -- the facts that stand after these calls from the initial state

-- 1 and a value, or 0 and the number of a refusal
unfoldable pub said : Answer ℕ → List ℕ
said (accepted value) = 1 ∷ value ∷ []
said (refused number) = 0 ∷ number ∷ []

-- what a call on a buffer answers, and the first bytes of the buffer: those written and two more, or four after a refusal
unfoldable pub front_shown : Answer ℕ → List ℕ → List ℕ
front_shown (accepted length) buffer = take (length + 2) buffer
front_shown (refused number) buffer = take 4 buffer

unfoldable pub call_reply : Call → List (List ℕ)
call_reply call = said call.answer ∷ front_shown call.answer call.buffer ∷ []

unfoldable pub playing : List ℕ → Task → List Action → Standing → List (List ℕ)
playing card t [] standing = map fact_bytes (state_of t standing)
playing card t (a ∷ actions) standing =
    said (press card standing.buffer standing.count a).answer ∷ playing card t actions (pressed card standing a)

-- a buffer of this size before a call writes it
unfoldable pub fresh : ℕ → List ℕ
fresh size = replicate size 7

-- the opening call, on a buffer with four bytes more than are asked for
unfoldable pub at_opening : List ℕ → Standing
at_opening card =
    let call = initial card (fresh (state_bytes + 4)) in
    record { buffer = call.buffer; count = counted 0 call.answer }

unfoldable pub cleared : Standing → List (List ℕ)
cleared standing = take 4 (drop (4 * standing.count) standing.buffer) ∷ drop 4092 standing.buffer ∷ []

unfoldable pub extension : List Analysis → ℕ → List ℕ
extension [] n = []
extension (a ∷ analyses) zero = kind_letter a.kind ∷ length a.conditions ∷ []
extension (a ∷ analyses) (suc n) = extension analyses n

-- a buffer that holds a state's facts, of four bytes each
unfoldable pub holding : List (List ℕ) → List ℕ
holding rows = let facts = flat_map (λ row. row) rows in facts ++ fresh (state_bytes - length facts)

-- the schema of an action, then its objects
unfoldable pub action_numbers : Action → List ℕ
action_numbers a = a.schema ∷ a.objects

-- 1 and the next open action, 1 alone at the end, or 0 and the number of a refusal
unfoldable pub said_next : Answer (Option Action) → List ℕ
said_next (accepted (some a)) = 1 ∷ action_numbers a
said_next (accepted none) = 1 ∷ []
said_next (refused number) = 0 ∷ number ∷ []

-- 1 and the count, then how many facts go, these, how many come, and these; or 0 and the number of a refusal
unfoldable pub said_asked : Answer Asked → List (List ℕ)
said_asked (accepted asked) =
    let p = asked.foreseen in
    (1 ∷ asked.count ∷ []) ∷ (length p.gone ∷ []) ∷ p.gone ++ ((length p.come ∷ []) ∷ p.come)
said_asked (refused number) = (0 ∷ number ∷ []) ∷ []

-- what committing answers, and the facts that then stand
unfoldable pub committing_reply : List ℕ → Task → Standing → Preview → List (List ℕ)
committing_reply card t standing p =
    said (commit card standing.buffer standing.count p).answer ∷ map fact_bytes (state_of t (happened card standing (committing p)))

unfoldable pub reply : Question → Answer Task → List (List ℕ)
reply (prints card) answer = program card ∷ []
reply (plays card actions) (accepted t) = playing card t actions (at_opening card)
reply (plays card actions) (refused n) = (0 ∷ n ∷ []) ∷ []
reply (clears card actions) answer = cleared (history card actions (at_opening card))
reply (extends card n) (accepted t) = extension (analysis t) n ∷ []
reply (extends card n) (refused number) = (0 ∷ number ∷ []) ∷ []
reply (reads card) (accepted t) = (1 ∷ []) ∷ []
reply (reads card) (refused number) = (0 ∷ number ∷ []) ∷ []
reply (lists card number size) answer = call_reply (section card number (fresh size))
reply (writes t size) answer = call_reply (encode t (fresh size))
reply (shows card rows n) (accepted t) = map action_numbers (one_by_one (open_after t (facts_in t.arities (length rows) (holding rows))) n none)
reply (shows card rows n) (refused number) = (0 ∷ number ∷ []) ∷ []
reply (asks card rows given) answer = map (λ a. said_next (next_open card (holding rows) (length rows) a)) given
reply (foresees card rows actions) answer = flat_map (λ a. said_asked (ask card (holding rows) (length rows) a)) actions
reply (commits card rows previews) (accepted t) =
    flat_map (committing_reply card t (record { buffer = holding rows; count = length rows })) previews
reply (commits card rows previews) (refused number) = (0 ∷ number ∷ []) ∷ []
reply (mixes card events) (accepted t) = map fact_bytes (state_of t (mixed card events (at_opening card)))
reply (mixes card events) (refused number) = (0 ∷ number ∷ []) ∷ []

unfoldable pub card_of : Question → List ℕ
card_of (prints card) = card
card_of (plays card actions) = card
card_of (clears card actions) = card
card_of (extends card n) = card
card_of (reads card) = card
card_of (lists card number size) = card
card_of (writes t size) = []
card_of (shows card rows n) = card
card_of (asks card rows given) = card
card_of (foresees card rows actions) = card
card_of (commits card rows previews) = card
card_of (mixes card events) = card

-- what the definitions answer
unfoldable pub answer : Question → List (List ℕ)
answer q = reply q (decode (card_of q))

-- the bench card: idle/1, armed/1, holds/2, sample/1
unfoldable pub k1 : List ℕ
k1 =
    0x04 ∷ 0x01 ∷ 0x01 ∷ 0x02 ∷ 0x01 ∷ 0x04 ∷ 0x02 ∷ 0x0E ∷ 0x01 ∷ 0x00 ∷ 0x00 ∷ 0x01 ∷ 0x00 ∷ 0x00 ∷ 0x01 ∷ 0x01 ∷ 0x00
    ∷ 0x0F ∷ 0x03 ∷ 0x03 ∷ 0x01 ∷ 0x00 ∷ 0x02 ∷ 0x00 ∷ 0x01 ∷ 0x03 ∷ 0x02 ∷ 0x02 ∷ 0x01 ∷ 0x00 ∷ 0x02 ∷ 0x00 ∷ 0x01
    ∷ 0x02 ∷ 0x00 ∷ 0x00 ∷ 0x02 ∷ 0x00 ∷ 0x02 ∷ 0x00 ∷ 0x06 ∷ 0x00 ∷ 0x00 ∷ 0x00 ∷ 0x01 ∷ 0x02 ∷ 0x00 ∷ 0x02 ∷ 0x02
    ∷ 0x01 ∷ 0x02 ∷ 0x03 ∷ 0x02 ∷ 0x03 ∷ 0x03 ∷ []

-- a/1, b/1; a rule takes a(X) and adds b(X); a(0), b(0)
unfoldable pub k4 : List ℕ
k4 = 2 ∷ 1 ∷ 1 ∷ 1 ∷ 1 ∷ 0x0E ∷ 1 ∷ 0 ∷ 0 ∷ 1 ∷ 0 ∷ 0 ∷ 1 ∷ 1 ∷ 0 ∷ 0 ∷ 2 ∷ 0 ∷ 0 ∷ 1 ∷ 0 ∷ []

-- on/1, off/1, touched/1; off gives on and touched, on gives off and touched; off(0)
unfoldable pub k5 : List ℕ
k5 =
    3 ∷ 1 ∷ 1 ∷ 1 ∷ 1 ∷ 2 ∷ 0x0E ∷ 1 ∷ 1 ∷ 0 ∷ 1 ∷ 1 ∷ 0 ∷ 2 ∷ 0 ∷ 0 ∷ 2 ∷ 0 ∷ 0x0E ∷ 1 ∷ 0 ∷ 0 ∷ 1 ∷ 0 ∷ 0 ∷ 2 ∷ 1 ∷ 0
    ∷ 2 ∷ 0 ∷ 0 ∷ 1 ∷ 1 ∷ 0 ∷ []

-- p/2, q/2; a rule takes p(X,Y) and adds q(X,Y); so many objects, and these facts
unfoldable pub moving : ℕ → List (List ℕ) → List ℕ
moving objects facts =
    2 ∷ 2 ∷ 2 ∷ objects ∷ 1 ∷ 0x0F ∷ 2 ∷ 1 ∷ 0 ∷ 0 ∷ 1 ∷ 1 ∷ 0 ∷ 0 ∷ 1 ∷ 1 ∷ 1 ∷ 0 ∷ 1 ∷ 0 ∷ length facts
    ∷ flat_map (λ fact. fact) facts

-- p(0,1) to p(0,n)
unfoldable pub k6 : ℕ → List ℕ
k6 n = moving (suc n) (map (λ i. 0 ∷ 0 ∷ suc i ∷ []) (up_to n))

-- two objects that start apart: ten facts p(0,_), and m facts p(1,_) with n facts q(1,_)
unfoldable pub starts : ℕ → ℕ → List ℕ
starts m n =
    moving
    12
    (map (λ i. 0 ∷ 0 ∷ i ∷ []) (from 2 10) ++ map (λ i. 0 ∷ 1 ∷ i ∷ []) (from 2 m) ++ map (λ i. 1 ∷ 1 ∷ i ∷ []) (from 2 n))

-- p/3; a rule takes p(X,Y,Z) and adds p(X,Z,Y); p(0,1,2)
unfoldable pub turning : List ℕ
turning =
    1 ∷ 3 ∷ 3 ∷ 1 ∷ 0x0F ∷ 3 ∷ 1 ∷ 0 ∷ 0 ∷ 1 ∷ 2 ∷ 1 ∷ 0 ∷ 0 ∷ 1 ∷ 2 ∷ 1 ∷ 0 ∷ 0 ∷ 2 ∷ 1 ∷ 0 ∷ 1 ∷ 0 ∷ 0 ∷ 1 ∷ 2 ∷ []

-- p/1, no rule; p(0) to p(10)
unfoldable pub eleven : List ℕ
eleven = 1 ∷ 1 ∷ 11 ∷ 0 ∷ 0 ∷ 11 ∷ flat_map (λ i. 0 ∷ i ∷ []) (up_to 11)

-- K4's rule, one object, no fact
unfoldable pub bare : List ℕ
bare = 2 ∷ 1 ∷ 1 ∷ 1 ∷ 1 ∷ 0x0E ∷ 1 ∷ 0 ∷ 0 ∷ 1 ∷ 0 ∷ 0 ∷ 1 ∷ 1 ∷ 0 ∷ 0 ∷ 0 ∷ []

-- p/1, q/1, r/1; a rule adds q(X) where p(X) stands, and one r(X) where q(X) stands; p(0)
unfoldable pub growing : List ℕ
growing = 3 ∷ 1 ∷ 1 ∷ 1 ∷ 1 ∷ 2 ∷ 0x0A ∷ 1 ∷ 0 ∷ 0 ∷ 1 ∷ 1 ∷ 0 ∷ 0x0A ∷ 1 ∷ 1 ∷ 0 ∷ 1 ∷ 2 ∷ 0 ∷ 0 ∷ 1 ∷ 0 ∷ 0 ∷ []

-- a list of atoms of these predicates, of role 0 each
unfoldable pub of_role0 : List ℕ → List ℕ
of_role0 predicates = length predicates ∷ flat_map (λ p. p ∷ 0 ∷ []) predicates

-- a schema with one role that takes these predicates, of arity 1, and adds those
unfoldable pub trade : List ℕ → List ℕ → List ℕ
trade taken added = 0x0E ∷ of_role0 taken ++ of_role0 taken ++ of_role0 added

-- the card of these arities, with so many objects, these schemas and these facts
unfoldable pub card_with : List ℕ → ℕ → List (List ℕ) → List (List ℕ) → List ℕ
card_with arities objects schemas facts =
    length arities ∷ arities
    ++ (objects ∷ length schemas ∷ flat_map (λ schema. schema) schemas ++ (0 ∷ length facts ∷ flat_map (λ fact. fact) facts))

-- K5's rules with another object: off(0), touched(1)
unfoldable pub touching : List ℕ
touching =
    card_with (1 ∷ 1 ∷ 1 ∷ []) 2 (trade (1 ∷ []) (0 ∷ 2 ∷ []) ∷ trade (0 ∷ []) (1 ∷ 2 ∷ []) ∷ []) ((1 ∷ 0 ∷ []) ∷ (2 ∷ 1 ∷ []) ∷ [])

-- K5's rules, and sealed/1, broken/1: a rule takes sealed(X) and broken(X) and adds on(X); off(0), sealed(0)
unfoldable pub sealing : List ℕ
sealing =
    card_with (1 ∷ 1 ∷ 1 ∷ 1 ∷ 1 ∷ []) 1
    (trade (1 ∷ []) (0 ∷ 2 ∷ []) ∷ trade (0 ∷ []) (1 ∷ 2 ∷ []) ∷ trade (3 ∷ 4 ∷ []) (0 ∷ []) ∷ [])
    ((1 ∷ 0 ∷ []) ∷ (3 ∷ 0 ∷ []) ∷ [])

-- a/1, b/1, c/1; a gives c, c gives a and b; a(0), c(0)
unfoldable pub surpassing : List ℕ
surpassing =
    card_with (1 ∷ 1 ∷ 1 ∷ []) 1 (trade (0 ∷ []) (2 ∷ []) ∷ trade (2 ∷ []) (0 ∷ 1 ∷ []) ∷ []) ((0 ∷ 0 ∷ []) ∷ (2 ∷ 0 ∷ []) ∷ [])

-- a/1, b/1, c/1, d/1; a gives b, b gives c, c gives b and d; a(0), d(1)
unfoldable pub returning : List ℕ
returning =
    card_with (1 ∷ 1 ∷ 1 ∷ 1 ∷ []) 2
    (trade (0 ∷ []) (1 ∷ []) ∷ trade (1 ∷ []) (2 ∷ []) ∷ trade (2 ∷ []) (1 ∷ 3 ∷ []) ∷ [])
    ((0 ∷ 0 ∷ []) ∷ (3 ∷ 1 ∷ []) ∷ [])

-- a/1, b/1, c/1, d/1; b gives a and c, c gives b, c gives b and d; b(0)
unfoldable pub wearing : List ℕ
wearing =
    card_with (1 ∷ 1 ∷ 1 ∷ 1 ∷ []) 1
    (trade (1 ∷ []) (0 ∷ 2 ∷ []) ∷ trade (2 ∷ []) (1 ∷ []) ∷ trade (2 ∷ []) (1 ∷ 3 ∷ []) ∷ [])
    ((1 ∷ 0 ∷ []) ∷ [])

-- a/1, b/1, c/1, d/1; a gives b and d, b gives a and what is named here, and one more rule; a(0)
unfoldable pub swinging : List ℕ → List ℕ → List ℕ
swinging more rule =
    card_with (1 ∷ 1 ∷ 1 ∷ 1 ∷ []) 1 (trade (0 ∷ []) (1 ∷ 3 ∷ []) ∷ trade (1 ∷ []) (0 ∷ more) ∷ rule ∷ []) ((0 ∷ 0 ∷ []) ∷ [])

-- p/2, q/2: the schema with roles X, Y, Z, W that takes p(X,Y) and adds q(X,Y), q(X,Z) and q(X,W), and the one with roles X, Y, Z that
-- takes q(X,Y) and q(X,Z) and adds p(X,Y) and p(X,Z)
unfoldable pub tripling : List (List ℕ)
tripling =
    (0x0F ∷ 4 ∷ 1 ∷ 0 ∷ 0 ∷ 1 ∷ 1 ∷ 0 ∷ 0 ∷ 1 ∷ 3 ∷ 1 ∷ 0 ∷ 1 ∷ 1 ∷ 0 ∷ 2 ∷ 1 ∷ 0 ∷ 3 ∷ [])
    ∷ (0x0F ∷ 3 ∷ 2 ∷ 1 ∷ 0 ∷ 1 ∷ 1 ∷ 0 ∷ 2 ∷ 2 ∷ 1 ∷ 0 ∷ 1 ∷ 1 ∷ 0 ∷ 2 ∷ 2 ∷ 0 ∷ 0 ∷ 1 ∷ 0 ∷ 0 ∷ 2 ∷ [])
    ∷ []

-- r/1, s/1 besides, and a rule that takes p(X,Y) and r(X) and adds q(X,Y) and s(X); p(0,1)
unfoldable pub tripling_more : List ℕ
tripling_more =
    card_with (2 ∷ 2 ∷ 1 ∷ 1 ∷ []) 2
    (tripling ++ ((0x0F ∷ 2 ∷ 2 ∷ 0 ∷ 0 ∷ 1 ∷ 2 ∷ 0 ∷ 2 ∷ 0 ∷ 0 ∷ 1 ∷ 2 ∷ 0 ∷ 2 ∷ 1 ∷ 0 ∷ 1 ∷ 3 ∷ 0 ∷ []) ∷ []))
    ((0 ∷ 0 ∷ 1 ∷ []) ∷ [])

-- p/2, q/2, off/1, on/1, touched/1; off gives on and touched, on gives off, and a rule takes p(X,Y) and adds q(X,Y) and touched(X);
-- p(0,1) to p(0,8), off(0)
unfoldable pub moving8 : List ℕ
moving8 =
    card_with (2 ∷ 2 ∷ 1 ∷ 1 ∷ 1 ∷ []) 9
    (trade (2 ∷ []) (3 ∷ 4 ∷ []) ∷ trade (3 ∷ []) (2 ∷ [])
    ∷ (0x0F ∷ 2 ∷ 1 ∷ 0 ∷ 0 ∷ 1 ∷ 1 ∷ 0 ∷ 0 ∷ 1 ∷ 2 ∷ 1 ∷ 0 ∷ 1 ∷ 4 ∷ 0 ∷ []) ∷ [])
    (map (λ i. 0 ∷ 0 ∷ i ∷ []) (from 1 8) ++ ((2 ∷ 0 ∷ []) ∷ []))

unfoldable pub act : ℕ → List ℕ → Action
act schema objects = record { schema = schema; objects = objects }

unfoldable pub unary : ℕ → ℕ → Atom
unary predicate argument = record { predicate = predicate; arguments = argument ∷ [] }

-- the table of K4 with these lists in its schema
unfoldable pub table_with : List Atom → List Atom → List Atom → Task
table_with preconditions deletes adds =
    record {
      arities = 1 ∷ 1 ∷ [];
      objects = 1;
      schemas = record { parameters = 1; preconditions = preconditions; deletes = deletes; adds = adds } ∷ [];
      facts = unary 0 0 ∷ unary 1 0 ∷ [];
    }

-- A question and the answer that document 01 gives, or document 02.
pub record Entry : Type 0 where
  pub question : Question
  pub expected : List (List ℕ)

-- K1: the whole listing
unfoldable pub bench_card : Entry
bench_card =
    record {
      question = prints k1;
      expected =
          lines
          ("S 0 P : 0 1 : 0 1"
          ∷ "T : 1 0"
          ∷ "T : 0 1"
          ∷ "D 0"
          ∷ "D 1"
          ∷ "X 0 1"
          ∷ "S 1 P : 2 : 0 1"
          ∷ "T : 1"
          ∷ "M 2 1"
          ∷ "D 0"
          ∷ "S 2 A : 3 : 2 3"
          ∷ "S 3 S : 4 : 2 3"
          ∷ "F 2 2"
          ∷ "C 2 2"
          ∷ "C 3 2"
          ∷ "R 0 0 : 0 1"
          ∷ "R 1 0 : 0 1"
          ∷ "R 1 1 : 2 3"
          ∷ "R 1 2 : 2 3"
          ∷ [])
          ∷ [];
    }

-- K2: schema 1 on 0 2 3 first, and on 0 2 2
unfoldable pub presses_refused : Entry
presses_refused =
    record {
      question = plays k1 (act 1 (0 ∷ 2 ∷ 3 ∷ []) ∷ act 1 (0 ∷ 2 ∷ 2 ∷ []) ∷ []);
      expected =
          (0 ∷ 19 ∷ []) ∷ (0 ∷ 18 ∷ [])
          ∷ (0 ∷ 0 ∷ 255 ∷ 255 ∷ []) ∷ (0 ∷ 1 ∷ 255 ∷ 255 ∷ []) ∷ (2 ∷ 0 ∷ 2 ∷ 255 ∷ []) ∷ (2 ∷ 1 ∷ 2 ∷ 255 ∷ [])
          ∷ (3 ∷ 2 ∷ 255 ∷ 255 ∷ []) ∷ (3 ∷ 3 ∷ 255 ∷ 255 ∷ []) ∷ [];
    }

-- K3: schema 0 on 0, then 1 on 0 2 3: idle(0), holds(0,3) stand
unfoldable pub presses_made : Entry
presses_made =
    record {
      question = plays k1 (act 0 (0 ∷ []) ∷ act 1 (0 ∷ 2 ∷ 3 ∷ []) ∷ []);
      expected =
          (1 ∷ 6 ∷ []) ∷ (1 ∷ 6 ∷ [])
          ∷ (0 ∷ 0 ∷ 255 ∷ 255 ∷ []) ∷ (0 ∷ 1 ∷ 255 ∷ 255 ∷ []) ∷ (2 ∷ 0 ∷ 3 ∷ 255 ∷ []) ∷ (2 ∷ 1 ∷ 2 ∷ 255 ∷ [])
          ∷ (3 ∷ 2 ∷ 255 ∷ 255 ∷ []) ∷ (3 ∷ 3 ∷ 255 ∷ 255 ∷ []) ∷ [];
    }

-- K4: conditions 1 1, 0 2, 0 1; D 2; E 2 0, E 2 1
unfoldable pub swallowed_add : Entry
swallowed_add =
    record {
      question = prints k4;
      expected =
          lines
          ("S 0 P : 0 1 : 0"
          ∷ "T : 1 1"
          ∷ "T : 0 2"
          ∷ "T : 0 1"
          ∷ "D 2"
          ∷ "E 2 0"
          ∷ "E 2 1"
          ∷ "C 0 1"
          ∷ "R 0 0 : 0"
          ∷ [])
          ∷ [];
    }

-- K5: M
unfoldable pub mixed_space : Entry
mixed_space = record { question = extends k5 0; expected = (77 ∷ 0 ∷ []) ∷ [] }

-- document 02, No. 5. K5: the whole listing
unfoldable pub rescued_switch : Entry
rescued_switch =
    record {
      question = prints k5;
      expected =
          lines
          ("S 0 M : 0 1 2 : 0"
          ∷ "S 0 H : 0 1 : 0"
          ∷ "T : 0 1"
          ∷ "T : 1 0"
          ∷ "D 0"
          ∷ "D 1"
          ∷ "X 0 1"
          ∷ "R 0 0 : 0"
          ∷ "R 1 0 : 0"
          ∷ [])
          ∷ [];
    }

-- an object that opens with touched alone is no member of what is left, though it is one for the roles
unfoldable pub member_left_out : Entry
member_left_out =
    record {
      question = prints touching;
      expected =
          lines
          ("S 0 M : 0 1 2 : 0 1"
          ∷ "S 0 H : 0 1 : 0"
          ∷ "T : 0 1"
          ∷ "T : 1 0"
          ∷ "D 0"
          ∷ "D 1"
          ∷ "X 0 1"
          ∷ "R 0 0 : 0 1"
          ∷ "R 1 0 : 0 1"
          ∷ [])
          ∷ [];
    }

-- all conditions of what is left have sealed once and broken never, but totals come from P alone
unfoldable pub no_total_rescued : Entry
no_total_rescued =
    record {
      question = prints sealing;
      expected =
          lines
          ("S 0 M : 0 1 2 3 4 : 0"
          ∷ "S 0 H : 0 1 3 4 : 0"
          ∷ "T : 0 1 1 0"
          ∷ "T : 1 0 1 0"
          ∷ "D 0"
          ∷ "D 1"
          ∷ "X 0 1"
          ∷ "C 3 1"
          ∷ "C 4 0"
          ∷ "R 0 0 : 0"
          ∷ "R 1 0 : 0"
          ∷ "R 2 0 : 0"
          ∷ [])
          ∷ [];
    }

-- 1 1 1 contains 1 0 1, 0 0 1 and 1 1 0, in this order on its list: property 1 is dropped
unfoldable pub first_contained : Entry
first_contained =
    record {
      question = prints surpassing;
      expected =
          lines
          ("S 0 M : 0 1 2 : 0"
          ∷ "S 0 H : 0 2 : 0"
          ∷ "T : 1 1"
          ∷ "T : 0 2"
          ∷ "T : 0 1"
          ∷ "T : 2 0"
          ∷ "T : 1 0"
          ∷ "D 2"
          ∷ "D 4"
          ∷ "E 2 0"
          ∷ "E 2 1"
          ∷ "E 4 0"
          ∷ "E 4 3"
          ∷ "R 0 0 : 0"
          ∷ "R 1 0 : 0"
          ∷ [])
          ∷ [];
    }

-- 0 1 0 1 contains the start 0 0 0 1 of the other object, but it is 0 1 0 0 on its own list that counts: property 3 is dropped
unfoldable pub own_list_alone : Entry
own_list_alone =
    record {
      question = prints returning;
      expected =
          lines
          ("S 0 M : 0 1 2 3 : 0 1"
          ∷ "S 0 H : 0 1 2 : 0"
          ∷ "T : 1 0 0"
          ∷ "T : 0 1 0"
          ∷ "T : 0 0 1"
          ∷ "D 0"
          ∷ "D 1"
          ∷ "D 2"
          ∷ "X 0 1"
          ∷ "X 0 2"
          ∷ "X 1 2"
          ∷ "C 0 1"
          ∷ "R 0 0 : 0 1"
          ∷ "R 1 0 : 0 1"
          ∷ "R 2 0 : 0 1"
          ∷ [])
          ∷ [];
    }

-- what is left without property 0 is mixed again, by property 3, which is then at another place
unfoldable pub rescued_twice : Entry
rescued_twice =
    record {
      question = prints wearing;
      expected =
          lines
          ("S 0 M : 0 1 2 3 : 0"
          ∷ "S 0 H : 1 2 : 0"
          ∷ "T : 1 0"
          ∷ "T : 0 1"
          ∷ "D 0"
          ∷ "D 1"
          ∷ "X 0 1"
          ∷ "R 0 0 : 0"
          ∷ "R 1 0 : 0"
          ∷ "R 2 0 : 0"
          ∷ [])
          ∷ [];
    }

-- properties 2 and 3 are dropped, and with them the last rule, which has nothing left
unfoldable pub rule_emptied : Entry
rule_emptied =
    record {
      question = prints (swinging (2 ∷ []) (trade (3 ∷ []) (2 ∷ [])));
      expected =
          lines
          ("S 0 M : 0 1 2 3 : 0"
          ∷ "S 0 H : 0 1 : 0"
          ∷ "T : 1 0"
          ∷ "T : 0 1"
          ∷ "D 0"
          ∷ "D 1"
          ∷ "X 0 1"
          ∷ "R 0 0 : 0"
          ∷ "R 1 0 : 0"
          ∷ "R 2 0 : 0"
          ∷ [])
          ∷ [];
    }

-- property 3 is dropped, and the last rule has a finish but no start left: no rescue
unfoldable pub start_emptied : Entry
start_emptied =
    record {
      question = prints (swinging [] (trade (3 ∷ []) (2 ∷ [])));
      expected =
          lines
          ("S 0 M : 0 1 2 3 : 0"
          ∷ "R 0 0 : 0"
          ∷ "R 1 0 : 0"
          ∷ "R 2 0 : 0"
          ∷ [])
          ∷ [];
    }

-- the same with a start but no finish left
unfoldable pub finish_emptied : Entry
finish_emptied =
    record {
      question = prints (swinging [] (trade (2 ∷ []) (3 ∷ [])));
      expected =
          lines
          ("S 0 M : 0 1 2 3 : 0"
          ∷ "C 2 0"
          ∷ "R 0 0 : 0"
          ∷ "R 1 0 : 0"
          ∷ "R 2 0 : 0"
          ∷ [])
          ∷ [];
    }

-- 2 1 contains 1 0, and both properties are dropped: no rescue
unfoldable pub no_property_left : Entry
no_property_left =
    record {
      question = prints (card_with (2 ∷ 2 ∷ []) 1 tripling ((0 ∷ 0 ∷ 0 ∷ []) ∷ []));
      expected =
          lines
          ("S 0 M : 0 2 : 0"
          ∷ "S 1 A : 1 3 : 0"
          ∷ "R 0 0 : 0"
          ∷ "R 0 1 : 0"
          ∷ "R 0 2 : 0"
          ∷ "R 0 3 : 0"
          ∷ "R 1 0 : 0"
          ∷ "R 1 1 : 0"
          ∷ "R 1 2 : 0"
          ∷ [])
          ∷ [];
    }

-- properties 0 and 2 are dropped, and the one member has nothing of what is left: the S line alone
unfoldable pub no_member_left : Entry
no_member_left =
    record {
      question = prints tripling_more;
      expected =
          lines
          ("S 0 M : 0 2 4 5 : 0"
          ∷ "S 0 H : 4 5 :"
          ∷ "S 1 A : 1 3 : 0 1"
          ∷ "C 2 0"
          ∷ "R 0 0 : 0"
          ∷ "R 0 1 : 0 1"
          ∷ "R 0 2 : 0 1"
          ∷ "R 0 3 : 0 1"
          ∷ "R 1 0 : 0"
          ∷ "R 1 1 : 0 1"
          ∷ "R 1 2 : 0 1"
          ∷ "R 2 0 : 0"
          ∷ "R 2 1 : 0 1"
          ∷ [])
          ∷ [];
    }

-- what is left without touched is wide: no rescue
unfoldable pub rescue_wide : Entry
rescue_wide =
    record {
      question = prints moving8;
      expected =
          lines
          ("S 0 M : 0 2 4 5 6 : 0"
          ∷ "S 1 P : 1 3 : 1 2 3 4 5 6 7 8"
          ∷ "T : 1 0"
          ∷ "T : 0 1"
          ∷ "M 1 1"
          ∷ "M 3 1"
          ∷ "D 0"
          ∷ "D 1"
          ∷ "X 0 1"
          ∷ "C 0 8"
          ∷ "R 0 0 : 0"
          ∷ "R 1 0 : 0"
          ∷ "R 2 0 : 0"
          ∷ "R 2 1 : 1 2 3 4 5 6 7 8"
          ∷ [])
          ∷ [];
    }

-- K6: the space of property 0 is P with 56 conditions
unfoldable pub conditions_56 : Entry
conditions_56 = record { question = extends (k6 10) 0; expected = (80 ∷ 56 ∷ []) ∷ [] }

-- K7: W
unfoldable pub wide_space : Entry
wide_space = record { question = extends (k6 11) 0; expected = (87 ∷ 0 ∷ []) ∷ [] }

-- K8: no bytes
unfoldable pub no_bytes : Entry
no_bytes = record { question = reads []; expected = (0 ∷ 1 ∷ []) ∷ [] }

-- K9: K1 and a byte
unfoldable pub byte_more : Entry
byte_more = record { question = reads (k1 ++ (0 ∷ [])); expected = (0 ∷ 14 ∷ []) ∷ [] }

-- K10: 65 objects; 64 is in range
unfoldable pub objects_65 : Entry
objects_65 = record { question = reads (set k1 5 65); expected = (0 ∷ 3 ∷ []) ∷ [] }

unfoldable pub objects_64 : Entry
objects_64 = record { question = reads (set k1 5 64); expected = (1 ∷ []) ∷ [] }

-- K11: schema 1's role count byte 1 or 7
unfoldable pub roles_1 : Entry
roles_1 = record { question = reads (set k1 18 1); expected = (0 ∷ 5 ∷ []) ∷ [] }

unfoldable pub roles_7 : Entry
roles_7 = record { question = reads (set k1 18 7); expected = (0 ∷ 5 ∷ []) ∷ [] }

-- p(0,1), p(0,2), p(3,1): the condition 1 1 of the first start strictly contains the second start 1 0, and the space is P all the same
unfoldable pub two_starts : Entry
two_starts =
    record {
      question = prints (moving 4 ((0 ∷ 0 ∷ 1 ∷ []) ∷ (0 ∷ 0 ∷ 2 ∷ []) ∷ (0 ∷ 3 ∷ 1 ∷ []) ∷ []));
      expected =
          lines
          ("S 0 P : 0 2 : 0 3"
          ∷ "T : 2 0"
          ∷ "T : 1 1"
          ∷ "T : 0 2"
          ∷ "T : 0 1"
          ∷ "T : 1 0"
          ∷ "M 0 2"
          ∷ "M 2 2"
          ∷ "D 3"
          ∷ "D 4"
          ∷ "E 3 1"
          ∷ "E 3 2"
          ∷ "E 4 0"
          ∷ "E 4 1"
          ∷ "S 1 P : 1 3 : 1 2"
          ∷ "T : 2 0"
          ∷ "T : 1 1"
          ∷ "T : 0 2"
          ∷ "T : 0 1"
          ∷ "T : 1 0"
          ∷ "M 1 2"
          ∷ "M 3 2"
          ∷ "D 3"
          ∷ "D 4"
          ∷ "E 3 1"
          ∷ "E 3 2"
          ∷ "E 4 0"
          ∷ "E 4 1"
          ∷ "C 0 3"
          ∷ "R 0 0 : 0 3"
          ∷ "R 0 1 : 1 2"
          ∷ [])
          ∷ [];
    }

-- p(0,1), p(0,2), p(0,3): a section with X and E lines, in which 0 2 is around 0 1 and within 0 3
unfoldable pub nested_chain : Entry
nested_chain =
    record {
      question = prints (k6 3);
      expected =
          lines
          ("S 0 P : 0 2 : 0"
          ∷ "T : 3 0"
          ∷ "T : 2 1"
          ∷ "T : 1 2"
          ∷ "T : 1 1"
          ∷ "T : 0 3"
          ∷ "T : 0 2"
          ∷ "T : 0 1"
          ∷ "M 0 3"
          ∷ "M 2 3"
          ∷ "D 0"
          ∷ "D 6"
          ∷ "X 0 6"
          ∷ "E 3 1"
          ∷ "E 3 2"
          ∷ "E 5 2"
          ∷ "E 5 4"
          ∷ "E 6 1"
          ∷ "E 6 2"
          ∷ "E 6 3"
          ∷ "E 6 4"
          ∷ "E 6 5"
          ∷ "S 1 P : 1 3 : 1 2 3"
          ∷ "T : 1 0"
          ∷ "T : 0 1"
          ∷ "M 1 1"
          ∷ "M 3 1"
          ∷ "D 0"
          ∷ "D 1"
          ∷ "X 0 1"
          ∷ "C 0 3"
          ∷ "R 0 0 : 0"
          ∷ "R 0 1 : 1 2 3"
          ∷ [])
          ∷ [];
    }

-- an attribute space whose member comes in with the second round
unfoldable pub two_rounds : Entry
two_rounds =
    record {
      question = prints growing;
      expected =
          lines
          ("S 0 S : 0 : 0"
          ∷ "S 1 A : 1 : 0"
          ∷ "S 2 A : 2 : 0"
          ∷ "C 0 1"
          ∷ "R 0 0 : 0"
          ∷ "R 1 0 : 0"
          ∷ [])
          ∷ [];
    }

-- an M line of arity 3; property 0 is taken and given back
unfoldable pub three_arguments : Entry
three_arguments =
    record {
      question = prints turning;
      expected =
          lines
          ("S 0 P : 0 : 0"
          ∷ "T : 1"
          ∷ "M 0 1"
          ∷ "D 0"
          ∷ "S 1 P : 1 2 : 1 2"
          ∷ "T : 1 0"
          ∷ "T : 0 1"
          ∷ "M 1 1"
          ∷ "M 2 1"
          ∷ "D 0"
          ∷ "D 1"
          ∷ "X 0 1"
          ∷ "F 0 1"
          ∷ "C 0 1"
          ∷ "R 0 0 : 0"
          ∷ "R 0 1 : 1 2"
          ∷ "R 0 2 : 1 2"
          ∷ [])
          ∷ [];
    }

-- numbers of two digits
unfoldable pub two_digits : Entry
two_digits =
    record { question = prints eleven; expected = lines ("S 0 S : 0 : 0 1 2 3 4 5 6 7 8 9 10" ∷ "C 0 11" ∷ []) ∷ [] }

-- an empty list leaves nothing after its colon
unfoldable pub empty_lists : Entry
empty_lists = record { question = prints bare; expected = lines ("S 0 P : 0 1 :" ∷ "C 0 0" ∷ "R 0 0 :" ∷ []) ∷ [] }

-- 64 conditions from two starts; one more makes the space wide
unfoldable pub conditions_64 : Entry
conditions_64 = record { question = extends (starts 7 4) 0; expected = (80 ∷ 64 ∷ []) ∷ [] }

unfoldable pub condition_65 : Entry
condition_65 = record { question = extends (starts 8 3) 0; expected = (87 ∷ 0 ∷ []) ∷ [] }

-- the listing call on K1: section 1, written from byte 0
unfoldable pub section_written : Entry
section_written =
    record {
      question = lists k1 1 65536;
      expected = (1 ∷ 32 ∷ []) ∷ (lines ("S 1 P : 2 : 0 1" ∷ "T : 1" ∷ "M 2 1" ∷ "D 0" ∷ []) ++ (7 ∷ 7 ∷ [])) ∷ [];
    }

-- sections 0 to 3 are the spaces, 4 is the closing one, and 5 is past the last; a refusal changes no byte
unfoldable pub section_past : Entry
section_past = record { question = lists k1 5 65536; expected = (0 ∷ 22 ∷ []) ∷ (7 ∷ 7 ∷ 7 ∷ 7 ∷ []) ∷ [] }

-- 21 before 22, and the card's refusal before both
unfoldable pub short_first : Entry
short_first = record { question = lists k1 5 65535; expected = (0 ∷ 21 ∷ []) ∷ (7 ∷ 7 ∷ 7 ∷ 7 ∷ []) ∷ [] }

unfoldable pub card_first : Entry
card_first = record { question = lists (set k1 5 65) 5 4; expected = (0 ∷ 3 ∷ []) ∷ (7 ∷ 7 ∷ 7 ∷ 7 ∷ []) ∷ [] }

-- after schema 0 on 0 there is 0 from the last fact to byte 4,096, and what is beyond stays
unfoldable pub zeros_after : Entry
zeros_after =
    record {
      question = clears k1 (act 0 (0 ∷ []) ∷ []);
      expected = (0 ∷ 0 ∷ 0 ∷ 0 ∷ []) ∷ (0 ∷ 0 ∷ 0 ∷ 0 ∷ 7 ∷ 7 ∷ 7 ∷ 7 ∷ []) ∷ [];
    }

-- the table of K4 is written as K4, and with a short buffer refused by 21
unfoldable pub table_written : Entry
table_written =
    record {
      question = writes (table_with (unary 0 0 ∷ []) (unary 0 0 ∷ []) (unary 1 0 ∷ [])) 65536;
      expected = (1 ∷ 21 ∷ []) ∷ (k4 ++ (7 ∷ 7 ∷ [])) ∷ [];
    }

unfoldable pub table_short : Entry
table_short =
    record {
      question = writes (table_with (unary 0 0 ∷ []) (unary 0 0 ∷ []) (unary 1 0 ∷ [])) 65535;
      expected = (0 ∷ 21 ∷ []) ∷ (7 ∷ 7 ∷ 7 ∷ 7 ∷ []) ∷ [];
    }

-- the writer checks in card order: an unknown precondition (7) before the nine deletes (6), and both before the buffer (21)
unfoldable pub atoms_first : Entry
atoms_first =
    record {
      question = writes (table_with (unary 2 0 ∷ []) (replicate 9 (unary 0 0)) []) 4;
      expected = (0 ∷ 7 ∷ []) ∷ (7 ∷ 7 ∷ 7 ∷ 7 ∷ []) ∷ [];
    }

-- a list of nine (6) before its atoms
unfoldable pub list_of_9 : Entry
list_of_9 =
    record {
      question = writes (table_with (replicate 9 (unary 2 0)) [] []) 4;
      expected = (0 ∷ 6 ∷ []) ∷ (7 ∷ 7 ∷ 7 ∷ 7 ∷ []) ∷ [];
    }

-- K1 after schema 0 on 0, four bytes a fact: idle(1), armed(0), holds(0,2), holds(1,3), sample(2), sample(3)
unfoldable pub armed : List (List ℕ)
armed =
    (0 ∷ 1 ∷ 255 ∷ 255 ∷ []) ∷ (1 ∷ 0 ∷ 255 ∷ 255 ∷ []) ∷ (2 ∷ 0 ∷ 2 ∷ 255 ∷ []) ∷ (2 ∷ 1 ∷ 3 ∷ 255 ∷ [])
    ∷ (3 ∷ 2 ∷ 255 ∷ 255 ∷ []) ∷ (3 ∷ 3 ∷ 255 ∷ 255 ∷ []) ∷ []

-- there, schema 0 on 1 and schema 1 on 0 2 3 are open, and nothing more comes however often one asks
unfoldable pub two_open : Entry
two_open = record { question = shows k1 armed 9; expected = (0 ∷ 1 ∷ []) ∷ (1 ∷ 0 ∷ 2 ∷ 3 ∷ []) ∷ [] }

-- the given action need not be open: schema 0 on 0 is not, nor is schema 1 on 0 1 2. After the last open one comes the end
unfoldable pub after_closed : Entry
after_closed =
    record {
      question =
          asks k1 armed
          (none ∷ some (act 0 (0 ∷ [])) ∷ some (act 0 (1 ∷ [])) ∷ some (act 1 (0 ∷ 1 ∷ 2 ∷ [])) ∷ some (act 1 (0 ∷ 2 ∷ 3 ∷ [])) ∷ []);
      expected = (1 ∷ 0 ∷ 1 ∷ []) ∷ (1 ∷ 0 ∷ 1 ∷ []) ∷ (1 ∷ 1 ∷ 0 ∷ 2 ∷ 3 ∷ []) ∷ (1 ∷ 1 ∷ 0 ∷ 2 ∷ 3 ∷ []) ∷ (1 ∷ []) ∷ [];
    }

-- but 16 to 18 refuse it as at a press
unfoldable pub given_refused : Entry
given_refused =
    record {
      question =
          asks k1 armed
          (some (act 2 (0 ∷ [])) ∷ some (act 1 (0 ∷ 2 ∷ [])) ∷ some (act 0 (4 ∷ [])) ∷ some (act 1 (0 ∷ 2 ∷ 2 ∷ [])) ∷ []);
      expected = (0 ∷ 16 ∷ []) ∷ (0 ∷ 17 ∷ []) ∷ (0 ∷ 17 ∷ []) ∷ (0 ∷ 18 ∷ []) ∷ [];
    }

-- a state that is not well formed, sample(3) before idle(1), is refused before the given action, and with none given
unfoldable pub state_first : Entry
state_first =
    record {
      question = asks k1 ((3 ∷ 3 ∷ 255 ∷ 255 ∷ []) ∷ (0 ∷ 1 ∷ 255 ∷ 255 ∷ []) ∷ []) (some (act 2 (0 ∷ [])) ∷ none ∷ []);
      expected = (0 ∷ 15 ∷ []) ∷ (0 ∷ 15 ∷ []) ∷ [];
    }

-- sixteen predicates of arity 3 and q/1, four objects; a rule adds q(X), and one takes p(X,X,X) of the first predicate and adds q(X)
unfoldable pub crowding : List ℕ
crowding =
    17 ∷ replicate 16 3 ++ (1 ∷ 4 ∷ 2 ∷ 0x08 ∷ 1 ∷ 16 ∷ 0 ∷ 0x0E ∷ 1 ∷ 0 ∷ 0 ∷ 0 ∷ 0 ∷ 1 ∷ 0 ∷ 0 ∷ 0 ∷ 0 ∷ 1 ∷ 16 ∷ 0 ∷ 0 ∷ 0 ∷ [])

-- a state of 1,024 facts: all those of arity 3
unfoldable pub crowd : List (List ℕ)
crowd = flat_map (λ p. map (λ objects. p ∷ objects) (bindings 4 3)) (up_to 16)

-- there, the first rule is closed by 20 and the second is open
unfoldable pub no_room : Entry
no_room =
    record {
      question = shows crowding crowd 9;
      expected = (1 ∷ 0 ∷ []) ∷ (1 ∷ 1 ∷ []) ∷ (1 ∷ 2 ∷ []) ∷ (1 ∷ 3 ∷ []) ∷ [];
    }

-- p/1, q/1; a rule takes p(X) and p(Y) and adds q(X) and q(Y); p(0), p(1)
unfoldable pub pairing : List ℕ
pairing = 2 ∷ 1 ∷ 1 ∷ 2 ∷ 1 ∷ 0x0F ∷ 2 ∷ 2 ∷ 0 ∷ 0 ∷ 0 ∷ 1 ∷ 2 ∷ 0 ∷ 0 ∷ 0 ∷ 1 ∷ 2 ∷ 1 ∷ 0 ∷ 1 ∷ 1 ∷ 0 ∷ 2 ∷ 0 ∷ 0 ∷ 0 ∷ 1 ∷ []

-- with 1 for X and 0 for Y, the facts go and come in the state's order, not in the order of the rule's atoms
unfoldable pub in_state_order : Entry
in_state_order =
    record {
      question = foresees pairing ((0 ∷ 0 ∷ 255 ∷ 255 ∷ []) ∷ (0 ∷ 1 ∷ 255 ∷ 255 ∷ []) ∷ []) (act 0 (1 ∷ 0 ∷ []) ∷ []);
      expected =
          (1 ∷ 2 ∷ [])
          ∷ (2 ∷ []) ∷ (0 ∷ 0 ∷ 255 ∷ 255 ∷ []) ∷ (0 ∷ 1 ∷ 255 ∷ 255 ∷ [])
          ∷ (2 ∷ []) ∷ (1 ∷ 0 ∷ 255 ∷ 255 ∷ []) ∷ (1 ∷ 1 ∷ 255 ∷ 255 ∷ []) ∷ [];
    }

-- K4: b(0) is in the state, so a(0) goes, and nothing comes
unfoldable pub nothing_comes : Entry
nothing_comes =
    record {
      question = foresees k4 ((0 ∷ 0 ∷ 255 ∷ 255 ∷ []) ∷ (1 ∷ 0 ∷ 255 ∷ 255 ∷ []) ∷ []) (act 0 (0 ∷ []) ∷ []);
      expected = (1 ∷ 1 ∷ []) ∷ (1 ∷ []) ∷ (0 ∷ 0 ∷ 255 ∷ 255 ∷ []) ∷ (0 ∷ []) ∷ [];
    }

-- K1 where schema 0 on 1 and schema 1 on 0 2 3 are open: both asked on the same state
unfoldable pub both_asked : Entry
both_asked =
    record {
      question = foresees k1 armed (act 0 (1 ∷ []) ∷ act 1 (0 ∷ 2 ∷ 3 ∷ []) ∷ []);
      expected =
          (1 ∷ 6 ∷ []) ∷ (1 ∷ []) ∷ (0 ∷ 1 ∷ 255 ∷ 255 ∷ []) ∷ (1 ∷ []) ∷ (1 ∷ 1 ∷ 255 ∷ 255 ∷ [])
          ∷ (1 ∷ 6 ∷ [])
          ∷ (2 ∷ []) ∷ (1 ∷ 0 ∷ 255 ∷ 255 ∷ []) ∷ (2 ∷ 0 ∷ 2 ∷ 255 ∷ [])
          ∷ (2 ∷ []) ∷ (0 ∷ 0 ∷ 255 ∷ 255 ∷ []) ∷ (2 ∷ 0 ∷ 3 ∷ 255 ∷ []) ∷ [];
    }

-- asking is refused as a press is: by 15, by 16 to 19, and by 20
unfoldable pub malformed_asked : Entry
malformed_asked =
    record {
      question = foresees k1 ((3 ∷ 3 ∷ 255 ∷ 255 ∷ []) ∷ (0 ∷ 1 ∷ 255 ∷ 255 ∷ []) ∷ []) (act 2 (0 ∷ []) ∷ act 0 (1 ∷ []) ∷ []);
      expected = (0 ∷ 15 ∷ []) ∷ (0 ∷ 15 ∷ []) ∷ [];
    }

unfoldable pub asking_refused : Entry
asking_refused =
    record {
      question =
          foresees k1 armed
          (act 2 (0 ∷ []) ∷ act 1 (0 ∷ 2 ∷ []) ∷ act 0 (4 ∷ []) ∷ act 1 (0 ∷ 2 ∷ 2 ∷ []) ∷ act 0 (0 ∷ []) ∷ act 1 (1 ∷ 3 ∷ 2 ∷ []) ∷ []);
      expected = (0 ∷ 16 ∷ []) ∷ (0 ∷ 17 ∷ []) ∷ (0 ∷ 17 ∷ []) ∷ (0 ∷ 18 ∷ []) ∷ (0 ∷ 19 ∷ []) ∷ (0 ∷ 19 ∷ []) ∷ [];
    }

unfoldable pub no_room_asked : Entry
no_room_asked =
    record {
      question = foresees crowding crowd (act 0 (2 ∷ []) ∷ []);
      expected = (0 ∷ 20 ∷ []) ∷ [];
    }

unfoldable pub foreseeing : Action → List (List ℕ) → List (List ℕ) → Preview
foreseeing a gone come = record { action = a; gone = gone; come = come }

-- K1's schema 1 on 0 2 3, with these facts going and coming
unfoldable pub loading : List (List ℕ) → List (List ℕ) → Preview
loading gone come = foreseeing (act 1 (0 ∷ 2 ∷ 3 ∷ [])) gone come

-- those that really go and come on the state above
unfoldable pub unloaded : List (List ℕ)
unloaded = (1 ∷ 0 ∷ 255 ∷ 255 ∷ []) ∷ (2 ∷ 0 ∷ 2 ∷ 255 ∷ []) ∷ []

unfoldable pub loaded : List (List ℕ)
loaded = (0 ∷ 0 ∷ 255 ∷ 255 ∷ []) ∷ (2 ∷ 0 ∷ 3 ∷ 255 ∷ []) ∷ []

-- the lists are still so, and the press is made
unfoldable pub still_so : Entry
still_so =
    record {
      question = commits k1 armed (loading unloaded loaded ∷ []);
      expected =
          (1 ∷ 6 ∷ [])
          ∷ (0 ∷ 0 ∷ 255 ∷ 255 ∷ []) ∷ (0 ∷ 1 ∷ 255 ∷ 255 ∷ []) ∷ (2 ∷ 0 ∷ 3 ∷ 255 ∷ []) ∷ (2 ∷ 1 ∷ 3 ∷ 255 ∷ [])
          ∷ (3 ∷ 2 ∷ 255 ∷ 255 ∷ []) ∷ (3 ∷ 3 ∷ 255 ∷ 255 ∷ []) ∷ [];
    }

-- refused by 23, and the state above as it was
unfoldable pub outdated : List (List ℕ)
outdated = (0 ∷ 23 ∷ []) ∷ armed

-- another fact comes
unfoldable pub coming_differs : Entry
coming_differs =
    record {
      question = commits k1 armed (loading unloaded ((0 ∷ 0 ∷ 255 ∷ 255 ∷ []) ∷ (2 ∷ 0 ∷ 2 ∷ 255 ∷ []) ∷ []) ∷ []);
      expected = outdated;
    }

-- another fact goes
unfoldable pub going_differs : Entry
going_differs =
    record {
      question = commits k1 armed (loading ((1 ∷ 0 ∷ 255 ∷ 255 ∷ []) ∷ (2 ∷ 1 ∷ 3 ∷ 255 ∷ []) ∷ []) loaded ∷ []);
      expected = outdated;
    }

-- the same facts with a filler of 0; in another order
unfoldable pub filler_differs : Entry
filler_differs =
    record {
      question = commits k1 armed (loading unloaded ((0 ∷ 0 ∷ 255 ∷ 0 ∷ []) ∷ (2 ∷ 0 ∷ 3 ∷ 255 ∷ []) ∷ []) ∷ []);
      expected = outdated;
    }

unfoldable pub order_differs : Entry
order_differs =
    record {
      question = commits k1 armed (loading ((2 ∷ 0 ∷ 2 ∷ 255 ∷ []) ∷ (1 ∷ 0 ∷ 255 ∷ 255 ∷ []) ∷ []) loaded ∷ []);
      expected = outdated;
    }

-- too many, one of them twice; too few
unfoldable pub row_repeated : Entry
row_repeated = record { question = commits k1 armed (loading unloaded (loaded ++ ((2 ∷ 0 ∷ 3 ∷ 255 ∷ []) ∷ [])) ∷ []); expected = outdated }

unfoldable pub rows_missing : Entry
rows_missing = record { question = commits k1 armed (loading (take 1 unloaded) loaded ∷ loading [] loaded ∷ []); expected = outdated ++ outdated }

-- 16 to 19 before 23: then nothing is compared
unfoldable pub checks_first : Entry
checks_first =
    record {
      question =
          commits k1 armed
          (map (λ a. foreseeing a unloaded loaded) (act 2 (0 ∷ []) ∷ act 1 (0 ∷ 2 ∷ []) ∷ act 1 (0 ∷ 2 ∷ 2 ∷ []) ∷ act 0 (0 ∷ []) ∷ []));
      expected = flat_map (λ number. (0 ∷ number ∷ []) ∷ armed) (16 ∷ 17 ∷ 18 ∷ 19 ∷ []);
    }

-- 20 before 23: there is no room for q(2), and a fact is handed in as going where none goes
unfoldable pub room_first : Entry
room_first =
    record {
      question = commits crowding crowd (foreseeing (act 0 (2 ∷ [])) ((0 ∷ 0 ∷ 0 ∷ 0 ∷ []) ∷ []) [] ∷ []);
      expected = (0 ∷ 20 ∷ []) ∷ crowd;
    }

-- a history: q(0) is committed, then r(0) is asked for, which answers 3, and the state still has 2 facts
unfoldable pub committed_and_asked : Entry
committed_and_asked =
    record {
      question = mixes growing (committing (foreseeing (act 0 (0 ∷ [])) [] ((1 ∷ 0 ∷ 255 ∷ 255 ∷ []) ∷ [])) ∷ asking (act 1 (0 ∷ [])) ∷ []);
      expected = (0 ∷ 0 ∷ 255 ∷ 255 ∷ []) ∷ (1 ∷ 0 ∷ 255 ∷ 255 ∷ []) ∷ [];
    }

unfoldable pub table : List Entry
table =
    bench_card ∷ presses_refused ∷ presses_made ∷ swallowed_add ∷ mixed_space ∷ conditions_56 ∷ wide_space ∷ no_bytes ∷ byte_more ∷ objects_65
    ∷ objects_64 ∷ roles_1 ∷ roles_7 ∷ two_starts ∷ nested_chain ∷ two_rounds ∷ three_arguments ∷ two_digits ∷ empty_lists ∷ conditions_64
    ∷ condition_65 ∷ section_written ∷ section_past ∷ short_first ∷ card_first ∷ zeros_after ∷ table_written ∷ table_short ∷ atoms_first ∷ list_of_9
    ∷ two_open ∷ after_closed ∷ given_refused ∷ state_first ∷ no_room
    ∷ in_state_order ∷ nothing_comes ∷ both_asked ∷ malformed_asked ∷ asking_refused ∷ no_room_asked
    ∷ still_so ∷ coming_differs ∷ going_differs ∷ filler_differs ∷ order_differs ∷ row_repeated ∷ rows_missing ∷ checks_first ∷ room_first
    ∷ committed_and_asked
    ∷ rescued_switch ∷ member_left_out ∷ no_total_rescued ∷ first_contained ∷ own_list_alone ∷ rescued_twice ∷ rule_emptied
    ∷ start_emptied ∷ finish_emptied ∷ no_property_left ∷ no_member_left ∷ rescue_wide ∷ []

-- opens every definition of this module but the table, for what is proved by computation
unfoldable pub vectors_open : Unit {0}
unfolding
    ascii lines said front_shown call_reply playing fresh at_opening cleared extension holding action_numbers said_next said_asked committing_reply
    reply card_of answer
    k1 k4 k5 moving k6 starts turning eleven bare growing act unary table_with
    bench_card presses_refused presses_made swallowed_add mixed_space conditions_56 wide_space no_bytes byte_more
    objects_65 objects_64 roles_1 roles_7 two_starts nested_chain two_rounds three_arguments two_digits empty_lists conditions_64 condition_65 section_written
    section_past short_first card_first zeros_after table_written table_short atoms_first list_of_9
    armed two_open after_closed given_refused state_first crowding crowd no_room
    pairing in_state_order nothing_comes both_asked malformed_asked asking_refused no_room_asked
    foreseeing loading unloaded loaded still_so outdated coming_differs going_differs filler_differs order_differs row_repeated rows_missing
    checks_first room_first committed_and_asked
    of_role0 trade card_with touching sealing surpassing returning wearing swinging tripling tripling_more moving8
    rescued_switch member_left_out no_total_rescued first_contained own_list_alone rescued_twice rule_emptied
    start_emptied finish_emptied no_property_left no_member_left rescue_wide
vectors_open = tt
