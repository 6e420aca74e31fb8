-- The calls of asking and committing beside the press call.
--
-- ask_as_press: asking answers the count that the press would answer, or is refused by the same number.
-- ask_then_commit_lem: asking and committing straight after one another equal the press, in the answer and in every byte.
-- commit_cases: a commit is the press of the action that its preview carries; or that press is accepted, asking for it gives other lists,
-- and the commit is refused by 23 with nothing changed.
-- commit_exact, outdated_exact: a commit is accepted exactly if asking for its action is, and gives the lists that were handed in; it is
-- refused by 23 exactly if asking for its action is accepted, and gives other lists.
use Prim.Native.Nat.{ℕ}
use native.Mathlib.Omega.{arith}
use mathlib.Core.Path.{◌≡◌, refl, sym, ap, ap₂, ◌∙◌, subst}
use mathlib.Core.Bool.{Bool, true, false, cond}
use mathlib.Core.Logic.{◌↔◌}
use mathlib.Core.List.{List, [], ◌∷◌}
use lib.ListN.{length}
use Rattle.laws.specs.Lists.{same}
use Rattle.laws.proofs.Tests.{never, and_left, and_right, and_intro, cond_true, cond_false, by_test}
use Rattle.laws.proofs.Lists.{same_eq, same_refl}
use Rattle.model.specs.Answer.{Answer, refused, accepted, ◌>>=◌, ◌>>◌, need}
use Rattle.model.specs.Card.{Task, decode}
use Rattle.model.specs.Strips.{State, Action, facts_in, schema_at}
use Rattle.model.specs.Calls.{Call, finish, store, next_state, press_of, press}
use Rattle.model.specs.Preview.{Preview, preview, Asked, ask_of, ask, same_rows, agree, commit_of, commit, committed, ask_then_commit}
use Rattle.model.proofs.Answers.{accepted_not_refused, one_value, one_number_lem, by_answer, then_inv, then_accepted, then_refused}
use Rattle.model.proofs.Answers.{RefusedWithin, accepted_within, then_within}
use Rattle.model.proofs.RefusalNumbers.{decode_within, next_state_within}
use Rattle.model.proofs.Refusals.{refusals_keep}

-- ---- two lists of rows, compared

rows_eq : (xs ys : List (List ℕ)) → same_rows xs ys ≡ true → xs ≡ ys
unfolding same_rows
rows_eq [] [] e = refl
rows_eq [] (y ∷ ys) e = never (sym e)
rows_eq (x ∷ xs) [] e = never (sym e)
rows_eq (x ∷ xs) (y ∷ ys) e =
    ap₂ (λ (z : List ℕ) (zs : List (List ℕ)). z ∷ zs) (same_eq x y (and_left (same x y) (same_rows xs ys) e))
    (rows_eq xs ys (and_right (same x y) (same_rows xs ys) e))

rows_refl : (xs : List (List ℕ)) → same_rows xs xs ≡ true
unfolding same_rows
rows_refl [] = refl
rows_refl (x ∷ xs) = and_intro (same x x) (same_rows xs xs) (same_refl x) (rows_refl xs)

-- Two previews with the same lists, in content, order and number.
pub record SameLists (p q : Preview) : Type 0 where
  pub same_gone : p.gone ≡ q.gone
  pub same_come : p.come ≡ q.come

-- this is what 23 tests
pub agree_same : (p q : Preview) → (agree p q ≡ true) ↔ SameLists p q
unfolding agree
agree_same p q = (
  λ e. record {
    same_gone = rows_eq p.gone q.gone (and_left (same_rows p.gone q.gone) (same_rows p.come q.come) e);
    same_come = rows_eq p.come q.come (and_right (same_rows p.gone q.gone) (same_rows p.come q.come) e);
  },
  λ alike.
      and_intro (same_rows p.gone q.gone) (same_rows p.come q.come)
      (ap (same_rows p.gone) (sym alike.same_gone) ∙ rows_refl p.gone)
      (ap (same_rows p.come) (sym alike.same_come) ∙ rows_refl p.come),
)

-- ---- asking

-- asking answers as the press does
pub ask_as_press : (card buffer : List ℕ) (count : ℕ) (a : Action)
    → (ask card buffer count a >>= (λ asked. accepted asked.count)) ≡ (press card buffer count a).answer
unfolding ask ask_of press press_of finish store ◌>>=◌
ask_as_press card buffer count a = read (decode card)
  where
    reached : (t : Task) (x : Answer State)
        → ((x >>= (λ next. accepted (record {
          count = length next;
          foreseen = preview (schema_at t a.schema) a (facts_in t.arities count buffer);
        }))) >>= (λ (asked : Asked). accepted asked.count))
        ≡ (finish buffer (x >>= (λ next. accepted (store next buffer)))).answer
    reached t (refused n) = refl
    reached t (accepted next) = refl

    read : (x : Answer Task)
        → ((x >>= (λ t. ask_of t buffer count a)) >>= (λ asked. accepted asked.count))
        ≡ (finish buffer (x >>= (λ t. press_of t buffer count a))).answer
    read (refused n) = refl
    read (accepted t) = reached t (next_state t buffer count a)

module _ (card buffer : List ℕ) (count : ℕ) where
  -- where asking is refused, the press is, by the same number, and changes nothing
  pub press_refused : (a : Action) {n : ℕ} → ask card buffer count a ≡ refused n
      → press card buffer count a ≡ record { answer = refused n; buffer = buffer }
  press_refused a {n} e = λ i. record { answer = answered i; buffer = refusals_keep.pressing card buffer count a n answered i }
    where
      answered : (press card buffer count a).answer ≡ refused n
      answered = sym (ask_as_press card buffer count a) ∙ then_refused _ e

  -- where asking is accepted, the press is, with the same count, and the preview carries the action
  pub press_accepted : (a : Action) {asked : Asked} → ask card buffer count a ≡ accepted asked
      → (press card buffer count a).answer ≡ accepted asked.count
  press_accepted a e = sym (ask_as_press card buffer count a) ∙ then_accepted _ e

  pub asked_action : (a : Action) {asked : Asked} → ask card buffer count a ≡ accepted asked → asked.foreseen.action ≡ a
  unfolding ask ask_of preview
  asked_action a e =
      then_inv (decode card) _ e λ t p q. then_inv (next_state t buffer count a) _ q λ next r same.
      ap (λ (asked : Asked). asked.foreseen.action) (sym (one_value same))

-- asking is refused by 1 to 20
pub ask_within : (card buffer : List ℕ) (count : ℕ) (a : Action) → RefusedWithin 1 20 (ask card buffer count a)
unfolding ask ask_of
ask_within card buffer count a =
    then_within 1 20 (decode card) _ (λ n e. let h = decode_within card n e in (h.0, omega arith)) (λ t.
    then_within 1 20 (next_state t buffer count a) _ (λ n e. let h = next_state_within t buffer count a n e in (omega arith, h.1)) (λ next.
    accepted_within 1 20))

-- ---- committing

-- a call that is refused by 23
abbrev pub refused_by23 : List ℕ → Call
refused_by23 buffer = record { answer = refused 23; buffer = buffer }

-- what a commit does, by what asking for its action answers and what pressing it does
by_asking : List ℕ → Preview → Call → Answer Asked → Call
by_asking buffer p call (refused n) = call
by_asking buffer p call (accepted asked) = cond (agree p asked.foreseen) call (refused_by23 buffer)

commit_by_asking : (card buffer : List ℕ) (count : ℕ) (p : Preview)
    → commit card buffer count p ≡ by_asking buffer p (press card buffer count p.action) (ask card buffer count p.action)
unfolding commit commit_of ask ask_of press press_of finish by_asking ◌>>=◌ ◌>>◌ need
commit_by_asking card buffer count p = read (decode card)
  where
    foreseen : Task → Preview
    foreseen t = preview (schema_at t p.action.schema) p.action (facts_in t.arities count buffer)

    compared : (b : Bool) (call : Call) → finish buffer (need b 23 >> accepted call) ≡ cond b call (refused_by23 buffer)
    compared true call = refl
    compared false call = refl

    reached : (t : Task) (x : Answer State)
        → finish buffer (x >>= (λ next. need (agree p (foreseen t)) 23 >> accepted (store next buffer)))
        ≡ by_asking buffer p (finish buffer (x >>= (λ next. accepted (store next buffer))))
        (x >>= (λ next. accepted (record { count = length next; foreseen = foreseen t })))
    reached t (refused n) = refl
    reached t (accepted next) = compared (agree p (foreseen t)) (store next buffer)

    read : (x : Answer Task)
        → finish buffer (x >>= (λ t. commit_of t buffer count p))
        ≡ by_asking buffer p (finish buffer (x >>= (λ t. press_of t buffer count p.action))) (x >>= (λ t. ask_of t buffer count p.action))
    read (refused n) = refl
    read (accepted t) = reached t (next_state t buffer count p.action)

module _ (card buffer : List ℕ) (count : ℕ) (p : Preview) where
  -- The preview is current: its lists are those that asking for its action gives.
  pub record Current : Type 0 where
    pub asked : Asked
    pub asking : ask card buffer count p.action ≡ accepted asked
    pub lists_same : SameLists p asked.foreseen

  -- The preview is outdated: its action is accepted, and its lists are other ones.
  pub record Outdated : Type 0 where
    pub asked : Asked
    pub asking : ask card buffer count p.action ≡ accepted asked
    pub lists_differ : SameLists p asked.foreseen → ⊥

  -- What a commit does: a refused action is refused by the number of its press, and then nothing is compared.
  pub data CommitCase : Type 0 where
    as_refused : {n : ℕ} → ask card buffer count p.action ≡ refused n
        → commit card buffer count p ≡ press card buffer count p.action → CommitCase
    as_pressed : Current → commit card buffer count p ≡ press card buffer count p.action → CommitCase
    as_outdated : Outdated → commit card buffer count p ≡ refused_by23 buffer → CommitCase

  pub commit_cases : CommitCase
  unfolding by_asking
  commit_cases =
      by_answer (ask card buffer count p.action)
      (λ asked e. by_test (agree p asked.foreseen)
      (λ alike.
      as_pressed (record { asked = asked; asking = e; lists_same = (agree_same p asked.foreseen).0 alike })
      (is e ∙ cond_true _ _ _ alike))
      (λ differ.
      as_outdated (record { asked = asked; asking = e; lists_differ = λ same. never (sym ((agree_same p asked.foreseen).1 same) ∙ differ) })
      (is e ∙ cond_false _ _ _ differ)))
      (λ n e. as_refused e (is e))
    where
      is : {x : Answer Asked} → ask card buffer count p.action ≡ x
          → commit card buffer count p ≡ by_asking buffer p (press card buffer count p.action) x
      is e = commit_by_asking card buffer count p ∙ ap (by_asking buffer p (press card buffer count p.action)) e

  -- a commit of a current preview is the press
  pub commit_pressed : Current → commit card buffer count p ≡ press card buffer count p.action
  unfolding by_asking
  commit_pressed current =
      commit_by_asking card buffer count p
      ∙ ap (by_asking buffer p (press card buffer count p.action)) current.asking
      ∙ cond_true _ _ _ ((agree_same p current.asked.foreseen).1 current.lists_same)

  -- only such a commit is accepted
  pub commit_exact : ((n : ℕ) × ((commit card buffer count p).answer ≡ accepted n)) ↔ Current
  commit_exact = (
    λ (n, e). go n e commit_cases,
    λ current. (current.asked.count, ap (λ (c : Call). c.answer) (commit_pressed current) ∙ press_accepted card buffer count p.action current.asking),
  )
    where
      go : (n : ℕ) → (commit card buffer count p).answer ≡ accepted n → CommitCase → Current
      go n e (as_refused refusal is) =
          accepted_not_refused (sym e ∙ ap (λ (c : Call). c.answer) (is ∙ press_refused card buffer count p.action refusal))
      go n e (as_pressed current is) = current
      go n e (as_outdated outdated is) = accepted_not_refused (sym e ∙ ap (λ (c : Call). c.answer) is)

  -- only a commit of an outdated preview is refused by 23
  pub outdated_exact : ((commit card buffer count p).answer ≡ refused 23) ↔ Outdated
  outdated_exact = (λ e. go e commit_cases, λ outdated. at outdated commit_cases)
    where
      pressed : {n : ℕ} → (commit card buffer count p).answer ≡ refused n → commit card buffer count p ≡ press card buffer count p.action
          → (press card buffer count p.action).answer ≡ refused n
      pressed e is = sym (ap (λ (c : Call). c.answer) is) ∙ e

      go : (commit card buffer count p).answer ≡ refused 23 → CommitCase → Outdated
      go e (as_refused {n} refusal is) =
          let few = ask_within card buffer count p.action n refusal in
          let by : n ≡ 23 = one_number_lem (sym (ap (λ (c : Call). c.answer) (press_refused card buffer count p.action refusal)) ∙ pressed e is) in
          absurd (omega arith)
      go e (as_pressed current is) =
          accepted_not_refused (sym (press_accepted card buffer count p.action current.asking) ∙ pressed e is)
      go e (as_outdated outdated is) = outdated

      at : Outdated → CommitCase → (commit card buffer count p).answer ≡ refused 23
      at outdated (as_refused refusal is) = accepted_not_refused (sym outdated.asking ∙ refusal)
      at outdated (as_pressed current is) =
          absurd (outdated.lists_differ (subst (λ (asked : Asked). SameLists p asked.foreseen)
          (one_value (sym current.asking ∙ outdated.asking)) current.lists_same))
      at outdated (as_outdated other is) = ap (λ (c : Call). c.answer) is

-- asking and committing straight after one another
pub ask_then_commit_lem : (card buffer : List ℕ) (count : ℕ) (a : Action) → ask_then_commit card buffer count a ≡ press card buffer count a
unfolding ask_then_commit committed
ask_then_commit_lem card buffer count a =
    by_answer (ask card buffer count a)
    (λ asked e.
    let carried = asked_action card buffer count a e in
    ap (committed card buffer count) e
    ∙ commit_pressed card buffer count asked.foreseen (record {
      asked = asked;
      asking = ap (ask card buffer count) carried ∙ e;
      lists_same = record { same_gone = refl; same_come = refl };
    })
    ∙ ap (press card buffer count) carried)
    (λ n e. ap (committed card buffer count) e ∙ sym (press_refused card buffer count a e))
