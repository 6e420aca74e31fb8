-- Histories of calls: what an accepted call did, and how a claim about states follows every history.
use Prim.Native.Nat.{ℕ, ◌≤◌}
use native.Mathlib.Omega.{arith}
use mathlib.Core.Path.{◌≡◌, refl, sym, ap, ◌∙◌, subst}
use mathlib.Core.Bool.{Bool, true, false}
use mathlib.Core.Logic.{◌⊎◌, inl, inr, ⊎_elim}
use mathlib.Core.Option.{none}
use mathlib.Core.List.{List, [], ◌∷◌, foldl}
use lib.Dec.{leb}
use lib.ListN.{length}
use borrow.Author.Tests.{leb-true}
use Rattle.laws.proofs.Counting.{NoRepeat}
use Rattle.model.specs.Answer.{Answer, refused, accepted, ◌>>=◌, ◌>>◌, need}
use Rattle.model.specs.Card.{Task, decode}
use Rattle.model.specs.Writer.{check_task}
use Rattle.model.specs.Strips.{State, Action, facts_in, ascending, well_formed, written}
use Rattle.model.specs.Strips.{successor, schema_at, limited, progress, apply}
use Rattle.model.specs.Calls.{Call, Standing, finish, store, initial_of, initial, next_state, press_of, press, counted, pressed, history, state_of}
use Rattle.model.specs.Truth.{Allowed}
use Rattle.model.proofs.Valid.{Valid}
use Rattle.model.proofs.Order.{ascending_no_repeat}
use Rattle.model.proofs.Answers.{not_accepted, first_passed, then_passed, need_passed, need_then}
use Rattle.model.proofs.Checked.{checked}
use Rattle.model.proofs.States.{initial_valid, initial_few, successor_valid}
use Rattle.model.proofs.Buffer.{well_formed_lem, well_formed_valid, stored_facts, stored_well_formed}

-- what an accepted action is: allowed, with a next state of at most 1,024 facts
pub record Applied (t : Task) (a : Action) (s next : State) : Type 0 where
  pub was_allowed : Allowed t s a
  pub is_successor : next ≡ successor (schema_at t a.schema) a.objects s
  pub few_next : length next ≤ 1024

pub applied : (t : Task) (a : Action) (s next : State) → apply t a s ≡ accepted next → Applied t a s next
unfolding apply progress limited
applied t a s next e₁ =
    let e₂ = then_passed _ _ next e₁ in
    let e₃ = need_then _ 19 _ next e₂ in
    let reached : successor (schema_at t a.schema) a.objects s ≡ next = accepted_eq (need_then _ 20 _ next e₃) in
    record {
      was_allowed = record { named = first_passed _ _ next e₁; holds = need_passed _ 19 _ next e₂ };
      is_successor = sym reached;
      few_next = subst (λ (r : State). length r ≤ 1024) reached (leb-true _ 1024 (need_passed _ 20 _ next e₃));
    }
  where
    accepted_eq : {x y : State} → accepted x ≡ accepted y → x ≡ y
    accepted_eq h = cc

-- What a next state is: the buffer was well formed, and the action was applied to its state.
pub record Reached (t : Task) (buffer : List ℕ) (count : ℕ) (a : Action) (next : State) : Type 0 where
  pub was_well_formed : well_formed t.arities t.objects buffer count ≡ true
  pub was_applied : Applied t a (facts_in t.arities count buffer) next

pub next_reached :
    (t : Task) (buffer : List ℕ) (count : ℕ) (a : Action) {next : State} → next_state t buffer count a ≡ accepted next
    → Reached t buffer count a next
unfolding next_state
next_reached t buffer count a {next} e =
    record { was_well_formed = need_passed _ 15 _ next e; was_applied = applied t a _ next (need_then _ 15 _ next e) }

-- What an accepted opening call did: the buffer was large enough, it holds the task's facts, and the count is theirs.
pub record Opened (t : Task) (buffer : List ℕ) (n : ℕ) (call : Call) : Type 0 where
  pub large : 4096 ≤ length buffer
  pub all_counted : n ≡ length t.facts
  pub facts_stored : call.buffer ≡ written t.facts buffer

-- A refused call: it answers a number and leaves the buffer.
pub record Refused (buffer : List ℕ) (call : Call) : Type 0 where
  pub number : ℕ
  pub answered : call.answer ≡ refused number
  pub left : call.buffer ≡ buffer

-- What an accepted press call did: the buffer was well formed, the action was applied to its state, and the next state was stored.
pub record Pressed (t : Task) (buffer : List ℕ) (count : ℕ) (a : Action) (call : Call) : Type 0 where
  pub next : State
  pub was_well_formed : well_formed t.arities t.objects buffer count ≡ true
  pub was_applied : Applied t a (facts_in t.arities count buffer) next
  pub next_counted : call.answer ≡ accepted (length next)
  pub next_stored : call.buffer ≡ written next buffer

pressed_reached : {t : Task} {buffer : List ℕ} {count : ℕ} {a : Action} {call : Call} → (r : Pressed t buffer count a call)
    → Reached t buffer count a r.next
pressed_reached r = record { was_well_formed = r.was_well_formed; was_applied = r.was_applied }

module _ (card : List ℕ) (t : Task) (decoded : decode card ≡ accepted t) where
  pub opened : (buffer : List ℕ) (n : ℕ) → (initial card buffer).answer ≡ accepted n → Opened t buffer n (initial card buffer)
  unfolding initial initial_of ◌>>=◌
  opened buffer n e = rw decoded (go (leb 4096 (length buffer)) refl (rw decoded at e))
    where
      go : (b : Bool) → leb 4096 (length buffer) ≡ b
          → (finish buffer (need b 15 >> accepted (store t.facts buffer))).answer ≡ accepted n
          → Opened t buffer n (finish buffer (need b 15 >> accepted (store t.facts buffer)))
      go true h k = unfold finish need ◌>>◌ store in record { large = leb-true _ _ h; all_counted = (cc); facts_stored = refl }
      go false h k = not_accepted 15 n (unfold finish need ◌>>◌ in k)

  -- a press call is refused, or it applied its action
  pub press_cases :
      (buffer : List ℕ) (count : ℕ) (a : Action)
      → Refused buffer (press card buffer count a) ⊎ Pressed t buffer count a (press card buffer count a)
  unfolding press press_of ◌>>=◌
  press_cases buffer count a = rw decoded (go (next_state t buffer count a) refl)
    where
      outcome : Answer State → Call
      outcome answer = finish buffer (answer >>= (λ next. accepted (store next buffer)))

      go : (answer : Answer State) → next_state t buffer count a ≡ answer
          → Refused buffer (outcome answer) ⊎ Pressed t buffer count a (outcome answer)
      go (refused n) e = unfold finish in inl (record { number = n; answered = refl; left = refl })
      go (accepted next) e =
          unfold finish store in
          let reached = next_reached t buffer count a e in
          inr (record {
            next = next;
            was_well_formed = reached.was_well_formed;
            was_applied = reached.was_applied;
            next_counted = refl;
            next_stored = refl;
          })

-- ---- steps of a history

-- A step that does something: an action was applied to the state of a well-formed buffer, and the next state was stored.
pub record Advanced (t : Task) (before after : Standing) : Type 0 where
  pub action : Action
  pub next : State
  pub was_reached : Reached t before.buffer before.count action next
  pub stands_after : after ≡ record { buffer = written next before.buffer; count = length next }

-- a step changes nothing, or it does what an accepted press does
abbrev pub Step : Task → Standing → Standing → Type 0
Step t before after = (after ≡ before) ⊎ Advanced t before after

-- a call that is refused, or that applied an action, is a step: the buffer that it leaves stands after it, with the count that it answers
pub call_step :
    (t : Task) (standing : Standing) (a : Action) (call : Call)
    → Refused standing.buffer call ⊎ Pressed t standing.buffer standing.count a call
    → Step t standing (record { buffer = call.buffer; count = counted standing.count call.answer })
unfolding counted
call_step t standing a call (inl r) = inl (λ i. record { buffer = r.left i; count = counted standing.count (r.answered i) })
call_step t standing a call (inr r) =
    inr (record {
      action = a;
      next = r.next;
      was_reached = pressed_reached r;
      stands_after = λ i. record { buffer = r.next_stored i; count = counted standing.count (r.next_counted i) };
    })

pub press_step :
    (card : List ℕ) (t : Task) → decode card ≡ accepted t → (standing : Standing) (a : Action) → Step t standing (pressed card standing a)
unfolding pressed
press_step card t decoded standing a =
    call_step t standing a (press card standing.buffer standing.count a) (press_cases card t decoded standing.buffer standing.count a)

-- The events of a kind of history, of any type, each of which is a step. A history may carry more along than buffer and count, which
-- `standing` reads off it.
pub record Events (t : Task) (S E : Type 0) : Type 0 where
  pub standing : S → Standing
  pub happens : S → E → S
  pub each_steps : (x : S) (e : E) → Step t (standing x) (standing (happens x e))

-- presses alone
abbrev pub presses : (card : List ℕ) (t : Task) → decode card ≡ accepted t → Events t Standing Action
presses card t decoded = record { standing = λ standing. standing; happens = pressed card; each_steps = press_step card t decoded }

-- ---- from histories to states

-- A claim that the task's facts meet, and that every allowed action keeps.
pub record Inductive (t : Task) (Q : State → Type 0) : Type 0 where
  pub initially : Q t.facts
  pub kept : (s : State) (a : Action) → Valid t s → Q s → Allowed t s a → Q (successor (schema_at t a.schema) a.objects s)

module _ (t : Task) (ok : check_task t ≡ accepted tt) where
  -- the next state is one of the task
  reached_valid : {buffer : List ℕ} {count : ℕ} {a : Action} {next : State} → Reached t buffer count a next → Valid t next
  reached_valid {buffer} {count} {a} r =
      subst (Valid t) (sym r.was_applied.is_successor)
      (successor_valid t ok (facts_in t.arities count buffer) a (well_formed_valid t buffer count r.was_well_formed)
      r.was_applied.was_allowed.named)

  module _ {Q : State → Type 0} (claim : Inductive t Q) where
    -- what stands after each step: a well-formed buffer, whose state meets the claim
    record Kept (standing : Standing) : Type 0 where
      well : well_formed t.arities t.objects standing.buffer standing.count ≡ true
      meets : Q (state_of t standing)

    -- a state that was stored stands
    stored_kept :
        (s : State) (buffer : List ℕ) → Valid t s → length s ≤ 1024 → 4096 ≤ length buffer → Q s
        → Kept (record { buffer = written s buffer; count = length s })
    unfolding state_of
    stored_kept s buffer v few large q =
        record {
          well = stored_well_formed t (checked t ok) s buffer v few large;
          meets = subst Q (sym (stored_facts t (checked t ok) s buffer v)) q;
        }

    -- the opening call makes it so
    opened_kept : (card : List ℕ) → decode card ≡ accepted t → (buffer : List ℕ) (n : ℕ) → (initial card buffer).answer ≡ accepted n
        → Kept (record { buffer = (initial card buffer).buffer; count = n })
    opened_kept card decoded buffer n e =
        let o = opened card t decoded buffer n e in
        let same : ◌≡◌ {A = Standing} (record { buffer = (initial card buffer).buffer; count = n })
        (record { buffer = written t.facts buffer; count = length t.facts }) =
        λ i. record { buffer = o.facts_stored i; count = o.all_counted i } in
        let few = initial_few t ok in
        subst Kept (sym same) (stored_kept t.facts buffer (initial_valid t ok) (omega arith) o.large claim.initially)

    -- a step keeps it
    step_kept : {before after : Standing} → Step t before after → Kept before → Kept after
    unfolding state_of
    step_kept (inl same) k = subst Kept (sym same) k
    step_kept {before} (inr r) k = subst Kept (sym r.stands_after) (go r.action r.next r.was_reached)
      where
        go : (a : Action) (next : State) → Reached t before.buffer before.count a next
            → Kept (record { buffer = written next before.buffer; count = length next })
        go a next reached =
            stored_kept next before.buffer (reached_valid reached) reached.was_applied.few_next
            (well_formed_lem t.arities t.objects before.buffer before.count k.well).room
            (subst Q (sym reached.was_applied.is_successor)
            (claim.kept (state_of t before) a (well_formed_valid t before.buffer before.count k.well) k.meets
            reached.was_applied.was_allowed))

    -- and so does a list of events
    events_kept : {S E : Type 0} (kind : Events t S E) (events : List E) (x : S) → Kept (kind.standing x)
        → Kept (kind.standing (foldl kind.happens x events))
    events_kept kind [] x k = k
    events_kept kind (e ∷ events) x k = events_kept kind events (kind.happens x e) (step_kept (kind.each_steps x e) k)

-- The one induction over histories. From what stands after the opening call on, a claim that the task's facts meet, and that every allowed
-- action keeps, is true of the state after every list of events, of whatever kind, and that state is one of the task.
pub event_induction :
    (card buffer : List ℕ) (t : Task) (n : ℕ) → decode card ≡ accepted t → check_task t ≡ accepted tt
    → (initial card buffer).answer ≡ accepted n → {Q : State → Type 0} → Inductive t Q
    → {S E : Type 0} (kind : Events t S E) (start : S) → kind.standing start ≡ record { buffer = (initial card buffer).buffer; count = n }
    → (events : List E)
    → Q (state_of t (kind.standing (foldl kind.happens start events)))
    × Valid t (state_of t (kind.standing (foldl kind.happens start events)))
unfolding state_of
event_induction card buffer t n decoded ok e claim kind start at_opening_lem events =
    let first = subst (Kept t ok claim) (sym at_opening_lem) (opened_kept t ok claim card decoded buffer n e) in
    let after = events_kept t ok claim kind events start first in
    (after.meets, well_formed_valid t _ _ after.well)

-- a claim that the task's facts meet, and that every allowed action keeps, is true of the state after every history,
-- and that state is one of the task
pub history_induction :
    (card buffer : List ℕ) (t : Task) (n : ℕ) → decode card ≡ accepted t → check_task t ≡ accepted tt
    → (initial card buffer).answer ≡ accepted n → (Q : State → Type 0) → Q t.facts
    → ((s : State) (a : Action) → Valid t s → Q s → Allowed t s a → Q (successor (schema_at t a.schema) a.objects s))
    → (actions : List Action)
    → Q (state_of t (history card actions (record { buffer = (initial card buffer).buffer; count = n })))
    × Valid t (state_of t (history card actions (record { buffer = (initial card buffer).buffer; count = n })))
unfolding history
history_induction card buffer t n decoded ok e Q q kept actions =
    event_induction card buffer t n decoded ok e (record { initially = q; kept = kept }) (presses card t decoded) _ refl actions

-- the facts of a state are ascending, and none stands twice
pub record Ascends (s : State) : Type 0 where
  pub in_order : ascending none s ≡ true
  pub none_repeated : NoRepeat s

pub valid_ascends : (t : Task) (s : State) → Valid t s → Ascends s
valid_ascends t s v = record { in_order = v.in_order; none_repeated = ascending_no_repeat none s v.in_order }

-- after the opening call and any list of press calls, the facts of the state in the buffer are distinct and ascending
pub states_ascend :
    (card buffer : List ℕ) (t : Task) (n : ℕ) → decode card ≡ accepted t → check_task t ≡ accepted tt
    → (initial card buffer).answer ≡ accepted n → (actions : List Action)
    → Ascends (state_of t (history card actions (record { buffer = (initial card buffer).buffer; count = n })))
states_ascend card buffer t n decoded ok e actions =
    valid_ascends t _ (history_induction card buffer t n decoded ok e (λ s. Unit {0}) tt (λ s a v q l. tt) actions).1

-- so they are after every accepted press call, whatever was done before it
pub press_ascends :
    (card buffer : List ℕ) (t : Task) (count n : ℕ) (a : Action) → decode card ≡ accepted t → check_task t ≡ accepted tt
    → (press card buffer count a).answer ≡ accepted n → Ascends (facts_in t.arities n (press card buffer count a).buffer)
press_ascends card buffer t count n a decoded ok e =
    ⊎_elim (λ r. not_accepted r.number n (sym r.answered ∙ e))
    (λ r. valid_ascends t _ (subst (Valid t) (sym (stands r)) (valid r)))
    (press_cases card t decoded buffer count a)
  where
    valid : (r : Pressed t buffer count a (press card buffer count a)) → Valid t r.next
    valid r = reached_valid t ok (pressed_reached r)

    stands : (r : Pressed t buffer count a (press card buffer count a))
        → facts_in t.arities n (press card buffer count a).buffer ≡ r.next
    stands r =
        let counted : accepted n ≡ accepted (length r.next) = sym e ∙ r.next_counted in
        let same : n ≡ length r.next = cc in
        ap (λ (k : ℕ). facts_in t.arities k (press card buffer count a).buffer) same
        ∙ ap (facts_in t.arities (length r.next)) r.next_stored
        ∙ stored_facts t (checked t ok) r.next buffer (valid r)
