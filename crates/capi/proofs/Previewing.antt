-- Asking and committing in C: changes written as bytes and read off them, and what is answered is what the definitions answer.
use Prim.Native.Nat.{ℕ, ◌+◌, ◌-◌, ◌≤◌, ◌<◌}
use native.Mathlib.Numerals.{add-one}
use native.Mathlib.Omega.{arith}
use mathlib.Core.Path.{◌≡◌, refl, sym, ap, ◌∙◌, subst}
use mathlib.Core.List.{List, [], ◌∷◌, ◌++◌, append_assoc, append-nil}
use lib.ListN.{length, get_or, set, take, drop, length-append, length-drop, length-map}
use lib.ListN.{drop_of_length-le}
use Rattle.std.specs.Prelude.{Result, Ok, Err, IfOk}
use borrow.Rule.Slice.PartMut.{put_mid, Post-is}
use lib.Seq.{take_all, take_at, drop_at, get_or_at, append_snoc, take-suc-set, drop-set-lt, length-take-le}
use Rattle.model.specs.Answer.{Answer, refused, accepted, ◌>>=◌}
use Rattle.model.specs.Card.{Schema, decode}
use Rattle.model.specs.Strips.{State, Action, fact_bytes, facts_in, well_formed}
use Rattle.model.specs.Calls.{Call, next_state}
use Rattle.model.specs.Preview.{Preview, Asked, going, coming, preview, ask_of, ask, commit}
use Rattle.model.proofs.Answers.{then_inv, need_both_inv, one_value}
use Rattle.model.proofs.Buffer.{well_formed_lem}
use Rattle.model.proofs.Checked.{checked, checked_action, schema_at_right}
use Rattle.model.proofs.History.{applied}
use Rattle.model.proofs.PreviewCalls.{ask_as_press, commit_exact, commit_pressed}
use Rattle.model.proofs.PreviewLists.{few_going, few_coming}
use Rattle.model.proofs.RoundTrip.{decode_checks}
use Rattle.strips.specs.Answers.{applied_says}
use Rattle.strips.specs.declared.PressRefusal.{PressRefusal}
use Rattle.previews.specs.Represents.{rows_for, preview_of, changes_for}
use Rattle.previews.specs.Answers.{previewed_says, committed_says, Asks, Commits}
use Rattle.previews.specs.declared.Rows.{Rows}
use Rattle.previews.specs.declared.Changes.{Changes}
use Rattle.previews.specs.declared.Foreseen.{Foreseen}
use Rattle.previews.specs.declared.CommitRefusal.{CommitRefusal}
use Rattle.capi.specs.Numbers.{Small}
use Rattle.capi.specs.Previewing.{rows_shown, changes_shown, rows_held, changes_held, asked_count, asked_shown, foreseen_count, shown_beside, SmallChanges}
use Rattle.capi.proofs.Sizes.{press_small}

-- ---- changes as bytes, front to back

-- a run takes the place of a part of the same length
run_put : (bytes run : List ℕ) (a e : ℕ) {part : List ℕ} → a ≤ e → part ≡ run → put_mid a (e - a) bytes part ≡ take a bytes ++ run ++ drop e bytes
run_put bytes run a e h is =
    ap (λ (l : List ℕ). put_mid a (e - a) bytes l) is
    ∙ ap (λ (l : List ℕ). take a bytes ++ (run ++ l)) (Post-is a e bytes h) ∙ sym (append_assoc (take a bytes) run (drop e bytes))

-- a number and a run behind it, in the place of as many bytes
module _ (bytes run : List ℕ) (at n : ℕ) (room : at + 33 ≤ length bytes) (size : length run ≡ 32) where
  pub rows_put : {part : List ℕ} → part ≡ run
      → put_mid (at + 1) (at + 33 - (at + 1)) (set bytes at n) part ≡ take at bytes ++ (n ∷ run) ++ drop (at + 33) bytes
  rows_put is =
      run_put (set bytes at n) run (at + 1) (at + 33) (omega arith) is
      ∙ ap (λ (l : List ℕ). l ++ run ++ drop (at + 33) (set bytes at n))
      (ap (λ (k : ℕ). take k (set bytes at n)) (add-one at) ∙ take-suc-set bytes at n (omega arith))
      ∙ ap (λ (l : List ℕ). take at bytes ++ (n ∷ []) ++ run ++ l) (drop-set-lt (at + 33) bytes at n (omega arith))
      ∙ ap (λ (l : List ℕ). l ++ drop (at + 33) bytes) (append_assoc (take at bytes) (n ∷ []) run)

  pub put_long : length (take at bytes ++ (n ∷ run) ++ drop (at + 33) bytes) ≡ length bytes
  put_long =
      let a = length-append (take at bytes ++ (n ∷ run)) (drop (at + 33) bytes) in
      let b = length-append (take at bytes) (n ∷ run) in
      let c = length-take-le at bytes (omega arith) in
      let d = length-drop (at + 33) bytes in
      omega arith

pub rows_long : (bytes : List ℕ) (rows : Rows) (at : ℕ) {next : List ℕ} → at + 33 ≤ length bytes → length rows.rows ≡ 32
    → next ≡ take at bytes ++ rows_shown rows ++ drop (at + 33) bytes → length next ≡ length bytes
unfolding rows_shown
rows_long bytes rows at room size is = ap length is ∙ put_long bytes rows.rows at rows.count room size

-- the parts of changes, written one after the other, take the place of all bytes
module _ (rest objects gone come : List ℕ) (s n : ℕ) (whole : length rest ≡ 72) (six : length objects ≡ 6) (p : length gone ≡ 33) where
  abbrev front : List ℕ
  front = s ∷ n ∷ objects

  abbrev second : List ℕ
  second = front ++ drop 6 rest

  abbrev third : List ℕ
  third = front ++ gone ++ drop 41 second

  eight : length front ≡ 8
  eight = omega arith

  front_gone : length (front ++ gone) ≡ 41
  front_gone = let size = length-append front gone in omega arith

  none_left : drop 74 third ≡ []
  none_left = drop_of_length-le third {i = 74}
      (let a = length-append (front ++ gone) (drop 41 second) in
      let b = length-drop 41 second in
      let c = length-append front (drop 6 rest) in
      let d = length-drop 6 rest in
      let e = front_gone in
      omega arith)

  parts_put : take 41 (take 8 second ++ gone ++ drop 41 second) ++ come ++ drop 74 (take 8 second ++ gone ++ drop 41 second) ≡ front ++ gone ++ come
  parts_put =
      ap (λ (l : List ℕ). take 41 (l ++ gone ++ drop 41 second) ++ come ++ drop 74 (l ++ gone ++ drop 41 second)) (take_at front (drop 6 rest) 8 eight)
      ∙ ap (λ (l : List ℕ). l ++ come ++ drop 74 third) (take_at (front ++ gone) (drop 41 second) 41 front_gone)
      ∙ ap (λ (l : List ℕ). front ++ gone ++ come ++ l) none_left
      ∙ append-nil (front ++ gone ++ come)

pub changes_put : (bytes : List ℕ) (c : Changes) {part second third last : List ℕ} → length bytes ≡ 74 → length c.objects ≡ 6
    → length c.gone.rows ≡ 32 → part ≡ c.objects → second ≡ put_mid 2 6 (set (set bytes 0 c.schema) 1 c.object_count) part
    → third ≡ take 8 second ++ rows_shown c.gone ++ drop 41 second → last ≡ take 41 third ++ rows_shown c.come ++ drop 74 third
    → last ≡ changes_shown c
unfolding changes_shown rows_shown
changes_put [] c whole six p e₁ e₂ e₃ e₄ = absurd (omega arith)
changes_put (x ∷ []) c whole six p e₁ e₂ e₃ e₄ = absurd (omega arith)
changes_put (x ∷ y ∷ rest) c whole six p e₁ e₂ e₃ e₄ =
    let second_is = e₂ ∙ run_put (c.schema ∷ c.object_count ∷ rest) c.objects 2 8 (omega arith) e₁ in
    let third_is = e₃ ∙ ap (λ (l : List ℕ). take 8 l ++ rows_shown c.gone ++ drop 41 l) second_is in
    e₄ ∙ ap (λ (l : List ℕ). take 41 l ++ rows_shown c.come ++ drop 74 l) third_is
    ∙ parts_put rest c.objects (rows_shown c.gone) (rows_shown c.come) c.schema c.object_count (omega arith) six (omega arith)

-- ---- changes read off the bytes that show them

-- a byte behind a front of known length, and a run behind that
module _ (front : List ℕ) (x : ℕ) (rest : List ℕ) (n : ℕ) (e : length front ≡ n) where
  byte_at_lem : get_or (front ++ (x ∷ rest)) n 0 ≡ x
  byte_at_lem = get_or_at front x rest 0 n e

  behind : drop (n + 1) (front ++ (x ∷ rest)) ≡ rest
  behind =
      ap (drop (n + 1)) (sym (append_snoc front x rest))
      ∙ drop_at (front ++ (x ∷ [])) rest (n + 1) (length-append front (x ∷ []) ∙ ap (λ (k : ℕ). k + 1) e)

-- changes that are shown are read back, so that what was asked in C is what is committed
pub shown_held : (c : Changes) → length c.objects ≡ 6 → length c.gone.rows ≡ 32 → length c.come.rows ≡ 32 → changes_held (changes_shown c) ≡ c
unfolding changes_held changes_shown rows_held rows_shown
shown_held c p q r =
    let come_on = c.come.count ∷ c.come.rows in
    let front : List ℕ = c.objects ++ (c.gone.count ∷ c.gone.rows) in
    let joined = append_assoc c.objects (c.gone.count ∷ c.gone.rows) come_on in
    let long : length front ≡ 39 = (let size = length-append c.objects (c.gone.count ∷ c.gone.rows) in omega arith) in
    λ i. record {
      schema = c.schema;
      object_count = c.object_count;
      objects = (ap (take 6) joined ∙ take_at c.objects ((c.gone.count ∷ c.gone.rows) ++ come_on) 6 p) i;
      gone = record {
        count = (ap (λ (l : List ℕ). get_or l 6 0) joined ∙ byte_at_lem c.objects c.gone.count (c.gone.rows ++ come_on) 6 p) i;
        rows =
            (ap (λ (l : List ℕ). take 32 (drop 7 l)) joined
            ∙ ap (take 32) (behind c.objects c.gone.count (c.gone.rows ++ come_on) 6 p) ∙ take_at c.gone.rows come_on 32 q) i;
      };
      come = record {
        count = byte_at_lem front c.come.count c.come.rows 39 long i;
        rows = (ap (take 32) (behind front c.come.count c.come.rows 39 long) ∙ take_all 32 c.come.rows (omega arith)) i;
      };
    }

-- ---- the numbers of changes fit a byte

-- an answer that is accepted is of an action of the card, on a state that allows it
small_foreseen : (card buffer : List ℕ) (count : ℕ) (a : Action) {asked : Asked} → ask card buffer count a ≡ accepted asked
    → SmallChanges (changes_for asked.foreseen)
unfolding ask ask_of next_state
small_foreseen card buffer count a {asked} e =
    then_inv (decode card) _ e (λ t decoded e₁.
    then_inv (next_state t buffer count a) _ e₁ (λ next reached e₂.
    need_both_inv (well_formed t.arities t.objects buffer count) 15 _ reached (λ well e₃.
    let s = facts_in t.arities count buffer in
    let right = checked t (decode_checks card t decoded) in
    let done = applied t a s next e₃ in
    let action = checked_action t a done.was_allowed.named in
    let schema = schema_at_right t right a.schema action.schema_known in
    let formed = well_formed_lem t.arities t.objects buffer count well in
    subst (λ (x : Asked). SmallChanges (changes_for x.foreseen)) (one_value e₂)
    (small_preview _ a s (let few = right.few_schemas in let known = action.schema_known in omega arith)
    (let each = action.one_for_each in let few = schema.few_parameters in omega arith)
    (few_going schema a.objects s formed.in_order action.one_for_each action.all_different done.was_allowed.holds)
    (few_coming schema a.objects s formed.in_order action.one_for_each action.all_different done.was_allowed.holds)))))
  where
    small_preview : (schema : Schema) (a : Action) (s : State) → a.schema < 256 → length a.objects ≤ 6
        → length (going schema a.objects s) ≤ 8 → length (coming schema a.objects s) ≤ 8 → SmallChanges (changes_for (preview schema a s))
    small_preview schema a s p q g c =
        unfold changes_for preview rows_for in
        record {
          schema_small = p;
          objects_small = omega arith;
          gone_small = let n = length-map (going schema a.objects s) fact_bytes in omega arith;
          come_small = let n = length-map (coming schema a.objects s) fact_bytes in omega arith;
        }

pub changes_small : (card buffer : List ℕ) (count : ℕ) (a : Action) {r : Result Foreseen PressRefusal} → Asks (ask card buffer count a) r
    → IfOk r (λ f. SmallChanges f.changes)
changes_small card buffer count a {r = Err e} asks = tt
changes_small card buffer count a {r = Ok f} asks =
    unfold previewed_says applied_says ◌>>=◌ in
    subst SmallChanges (sym asks.whole) (small_foreseen card buffer count a (sym asks.answers))

-- ---- what is answered and written

-- the count, or the refusal, is the action's
pub number_asked : {answer : Answer Asked} {r : Result Foreseen PressRefusal} → Asks answer r → foreseen_count r ≡ asked_count answer
number_asked {r = Ok f} asks = unfold foreseen_count previewed_says applied_says asked_count ◌>>=◌ in ap asked_count asks.answers
number_asked {r = Err e} asks = unfold foreseen_count previewed_says applied_says asked_count ◌>>=◌ in ap asked_count asks.answers

pub bytes_asked : {answer : Answer Asked} {r : Result Foreseen PressRefusal} → Asks answer r → (bytes : List ℕ)
    → shown_beside r bytes ≡ asked_shown answer bytes
bytes_asked {r = Ok f} asks bytes =
    unfold shown_beside previewed_says applied_says asked_shown ◌>>=◌ in
    ap changes_shown asks.whole ∙ ap (λ (x : Answer Asked). asked_shown x bytes) asks.answers
bytes_asked {r = Err e} asks bytes =
    unfold shown_beside previewed_says applied_says asked_shown ◌>>=◌ in ap (λ (x : Answer Asked). asked_shown x bytes) asks.answers

-- a commit answers what its press does, so that what it answers is small
commit_small : (card buffer : List ℕ) (count : ℕ) (p : Preview) → Small (commit card buffer count p).answer
commit_small card buffer count p = record {
  within = λ n e.
      let current = (commit_exact card buffer count p).0 (n, e) in
      (press_small card buffer count p.action).within n (sym (ap (λ (c : Call). c.answer) (commit_pressed card buffer count p current)) ∙ e);
}

pub commits_small : (card buffer : List ℕ) (count : ℕ) (p : Preview) {after : List ℕ} {r : Result ℕ CommitRefusal}
    → Commits (commit card buffer count p) after r → Small (committed_says r)
commits_small card buffer count p commits = subst Small (sym commits.answer) (commit_small card buffer count p)

-- and so is what asking answers
pub asks_small : (card buffer : List ℕ) (count : ℕ) (a : Action) {r : Result Foreseen PressRefusal} → Asks (ask card buffer count a) r
    → Small (foreseen_count r)
asks_small card buffer count a asks =
    subst Small (sym (number_asked asks ∙ count_pressed (ask card buffer count a) ∙ ask_as_press card buffer count a)) (press_small card buffer count a)
  where
    count_pressed : (x : Answer Asked) → asked_count x ≡ (x >>= (λ asked. accepted asked.count))
    count_pressed (accepted asked) = unfold asked_count ◌>>=◌ in refl
    count_pressed (refused n) = unfold asked_count ◌>>=◌ in refl

-- changes that are the same are committed alike
pub given_so : (card buffer : List ℕ) (count : ℕ) {given changes : Changes} {after : List ℕ} {r : Result ℕ CommitRefusal} → given ≡ changes
    → Commits (commit card buffer count (preview_of given)) after r → Commits (commit card buffer count (preview_of changes)) after r
given_so card buffer count {after = after} {r = r} is commits =
    subst (λ (c : Changes). Commits (commit card buffer count (preview_of c)) after r) is commits
