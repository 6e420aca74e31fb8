-- The calls for open actions. A given action is refused as at a press by 1 to 18; and asking by calls, from none and then each time after
-- the action answered before, shows the whole list and then the end, since no action that was answered is refused.
use Prim.Native.Nat.{ℕ, zero, suc, ◌≤◌}
use native.Mathlib.Omega.{arith}
use mathlib.Core.Path.{◌≡◌, refl, sym, ap, ◌∙◌}
use mathlib.Core.Bool.{true}
use mathlib.Core.Logic.{◌↔◌}
use mathlib.Core.Option.{Option, none, some}
use mathlib.Core.List.{List, ◌∷◌}
use lib.ListN.{length}
use Rattle.laws.proofs.Tests.{by_test}
use Rattle.model.specs.Answer.{Answer, refused, accepted, ◌>>=◌, ◌>>◌, need}
use Rattle.model.specs.Card.{Task, decode}
use Rattle.model.specs.Strips.{State, Action, facts_in, well_formed, schema_at, check_action, limited, progress, apply}
use Rattle.model.specs.Calls.{Call, finish, store, next_state, press_of, press}
use Rattle.model.specs.Open.{is_open, open_actions, open_after, check_given, next_open_of, next_open, and_then, one_by_one}
use Rattle.model.proofs.Answers.{accepted_not_refused, accepted_value, one_number_lem, by_answer, first_passed, then_accepted, then_refused}
use Rattle.model.proofs.Answers.{need_both, need_refused, both_accepted, both_refused, RefusedWithin, need_within, need_both_within, both_within}
use Rattle.model.proofs.OpenActions.{stored, press_stores, answered_next, shows_all}

-- ---- refusals of the given action

-- 19 and 20 are all that can refuse once 16 to 18 have passed
progress_within : (t : Task) (a : Action) (s : State) → RefusedWithin 19 20 (progress (schema_at t a.schema) a.objects s)
unfolding progress limited
progress_within t a s =
    need_both_within 19 20 _ 19 _ refl (both_within 19 20 (need _ 20) (accepted _) (need_within 19 20 _ 20 refl) (λ n e. accepted_not_refused e))

-- two answers that are refused by the same numbers up to 18
abbrev pub RefusedAlike : {A B : Type 0} → Answer A → Answer B → Type 0
RefusedAlike x y = (n : ℕ) → n ≤ 18 → (x ≡ refused n) ↔ (y ≡ refused n)

alike_by : {A B : Type 0} {x u : Answer A} {y v : Answer B} → x ≡ u → y ≡ v → RefusedAlike u v → RefusedAlike x y
alike_by p q alike n h = (λ e. q ∙ (alike n h).0 (sym p ∙ e), λ e. p ∙ (alike n h).1 (sym q ∙ e))

both_by : {A B : Type 0} {x : Answer A} {y : Answer B} {m : ℕ} → x ≡ refused m → y ≡ refused m → RefusedAlike x y
both_by p q n h = (λ e. q ∙ ap refused (one_number_lem (sym p ∙ e)), λ e. p ∙ ap refused (one_number_lem (sym q ∙ e)))

-- the checks of a given action, and those of a press: both refuse, or the one accepts and the other is refused by 19 or 20 at most
checks_alike : (buffer : List ℕ) (check : Answer (Unit {0})) (next : Option Action) (x : Answer State) → RefusedWithin 19 20 x
    → RefusedAlike (check >> accepted next) (stored buffer (check >> x)).answer
unfolding stored finish ◌>>◌ ◌>>=◌ store
checks_alike buffer (refused m) next x within n h = both_by refl refl n h
checks_alike buffer (accepted u) next (refused m) within n h =
    (λ e. accepted_not_refused e, λ e. absurd (let r = within m refl in let same : m ≡ n = one_number_lem e in omega arith))
checks_alike buffer (accepted u) next (accepted state) within n h = (λ e. accepted_not_refused e, λ e. accepted_not_refused e)

module _ (card buffer : List ℕ) (count : ℕ) (a : Action) where
  -- a given action is refused by 1 to 18 exactly as a press of it is
  pub refused_as_press : RefusedAlike (next_open card buffer count (some a)) (press card buffer count a).answer
  unfolding next_open next_open_of press press_of next_state check_given finish apply
  refused_as_press = by_answer (decode card)
      (λ t decoded. by_test (well_formed t.arities t.objects buffer count)
      (λ well.
      alike_by (then_accepted _ decoded ∙ need_both 15 _ well) (ap (λ (c : Call). c.answer) (press_stores card buffer count t decoded well a))
      (checks_alike buffer (check_action t a) _ _ (progress_within t a (facts_in t.arities count buffer))))
      (λ malformed.
      both_by (then_accepted _ decoded ∙ both_refused _ (need_refused 15 malformed))
      (ap (λ (x : Answer Call). (finish buffer x).answer) (then_accepted _ decoded ∙ then_refused _ (both_refused _ (need_refused 15 malformed))))))
      (λ m e. both_by (then_refused _ e) (ap (λ (x : Answer Call). (finish buffer x).answer) (then_refused _ e)))

-- ---- a chain of calls

-- the action that a call answers; none at the end, or where it is refused
unfoldable pub answered : Answer (Option Action) → Option Action
answered (refused n) = none
answered (accepted found) = found

-- two ways of asking that agree wherever the chain comes show the same
shows_alike : (ask other : Option Action → Option Action) (Reached : Option Action → Type 0)
    → ((given : Option Action) → Reached given → ask given ≡ other given)
    → ((given : Option Action) (a : Action) → Reached given → other given ≡ some a → Reached (some a))
    → (n : ℕ) (given : Option Action) → Reached given → one_by_one ask n given ≡ one_by_one other n given
unfolding one_by_one and_then
shows_alike ask other Reached same on zero given reached = refl
shows_alike ask other Reached same on (suc n) given reached =
    ap (λ (found : Option Action). and_then found (λ a. one_by_one ask n (some a))) (same given reached)
    ∙ go (other given) refl (shows_alike ask other Reached same on n)
  where
    go : (found : Option Action) → other given ≡ found
        → ((g : Option Action) → Reached g → one_by_one ask n g ≡ one_by_one other n g)
        → and_then found (λ a. one_by_one ask n (some a)) ≡ and_then found (λ a. one_by_one other n (some a))
    go none e later = refl
    go (some a) e later = ap (λ (l : List Action). a ∷ l) (later (some a) (on given a reached e))

module _ (card buffer : List ℕ) (count : ℕ) (t : Task) (decoded : decode card ≡ accepted t)
    (well : well_formed t.arities t.objects buffer count ≡ true) where
  -- where the given action passes its checks, the call answers the next open one
  pub call_answers : (given : Option Action) → check_given t given ≡ accepted tt
      → next_open card buffer count given ≡ accepted (open_after t (facts_in t.arities count buffer) given)
  unfolding next_open next_open_of
  call_answers given checked = then_accepted _ decoded ∙ need_both 15 _ well ∙ both_accepted _ checked

  -- an action that was answered passes them
  pub answered_checked : (given : Option Action) (a : Action) → open_after t (facts_in t.arities count buffer) given ≡ some a
      → check_given t (some a) ≡ accepted tt
  unfolding check_given is_open apply
  answered_checked given a e =
      let (next, passed) = accepted_value _ (answered_next t (facts_in t.arities count buffer) given a e).open_now in
      first_passed _ _ next passed

  -- asking by calls, from none and then each time after the action answered before, shows the whole list, and nothing more beyond the end
  pub calls_show_all : (n : ℕ) → length (open_actions t (facts_in t.arities count buffer)) ≤ n
      → one_by_one (λ given. answered (next_open card buffer count given)) n none ≡ open_actions t (facts_in t.arities count buffer)
  unfolding answered check_given
  calls_show_all n h =
      shows_alike (λ given. answered (next_open card buffer count given)) (open_after t (facts_in t.arities count buffer))
      (λ given. check_given t given ≡ accepted tt)
      (λ given checked. ap answered (call_answers given checked))
      (λ given a checked e. answered_checked given a e)
      n none refl
      ∙ shows_all t (facts_in t.arities count buffer) n h
