-- A refused call changes no byte that is lent to it, whichever call it is and whatever number refuses it.
use Prim.Native.Nat.{ℕ}
use mathlib.Core.Path.{◌≡◌, refl, sym, ◌∙◌}
use mathlib.Core.Bool.{Bool, true, false}
use mathlib.Core.List.{List}
use Rattle.model.specs.Answer.{Answer, refused, accepted, ◌>>=◌, ◌>>◌, need}
use Rattle.model.specs.Card.{Task}
use Rattle.model.specs.Strips.{Action}
use Rattle.model.specs.Calls.{Call, finish, output, store, encode, initial_of, initial, press_of, press, section}
use Rattle.model.specs.Preview.{Preview, commit_of, commit}
use Rattle.model.proofs.Answers.{accepted_not_refused}

-- a call leaves its buffer as it was, where it is refused
abbrev Keeps : List ℕ → Call → Type 0
Keeps before call = (n : ℕ) → call.answer ≡ refused n → call.buffer ≡ before

-- Parts in sequence whose last one accepts: what is refused on the way keeps the buffer.
data Ends (before : List ℕ) : Answer Call → Type 0 where
  refuses : (n : ℕ) → Ends before (refused n)
  accepts : {call : Call} {value : ℕ} → call.answer ≡ accepted value → Ends before (accepted call)

module _ {before : List ℕ} where
  finished : {x : Answer Call} → Ends before x → Keeps before (finish before x)
  unfolding finish
  finished (refuses n) m e = refl
  finished (accepts answered) m e = accepted_not_refused (sym answered ∙ e)

  after_need : (test : Bool) (number : ℕ) {x : Answer Call} → Ends before x → Ends before (need test number >> x)
  unfolding need ◌>>◌
  after_need true number ends = ends
  after_need false number ends = refuses number

  after_check : (check : Answer (Unit {0})) {x : Answer Call} → Ends before x → Ends before (check >> x)
  unfolding ◌>>◌
  after_check (refused n) ends = refuses n
  after_check (accepted u) ends = ends

  after_part : {A : Type 0} (part : Answer A) {next : A → Answer Call} → ((a : A) → Ends before (next a)) → Ends before (part >>= next)
  unfolding ◌>>=◌
  after_part (refused n) ends = refuses n
  after_part (accepted a) ends = ends a

-- What a refused call leaves, call by call.
pub record RefusalsKeep : Type 0 where
  pub writer : (t : Task) (out : List ℕ) → Keeps out (encode t out)
  pub opening : (card buffer : List ℕ) → Keeps buffer (initial card buffer)
  pub pressing : (card buffer : List ℕ) (count : ℕ) (a : Action) → Keeps buffer (press card buffer count a)
  pub committing : (card buffer : List ℕ) (count : ℕ) (p : Preview) → Keeps buffer (commit card buffer count p)
  pub listing : (card : List ℕ) (number : ℕ) (out : List ℕ) → Keeps out (section card number out)

pub refusals_keep : RefusalsKeep
unfolding encode initial_of initial press_of press commit_of commit section output store
refusals_keep = record {
  writer = λ t out. finished (after_check _ (after_need _ 21 (accepts refl)));
  opening = λ card buffer. finished (after_part _ (λ t. after_need _ 15 (accepts refl)));
  pressing = λ card buffer count a. finished (after_part _ (λ t. after_part _ (λ next. accepts refl)));
  committing = λ card buffer count p. finished (after_part _ (λ t. after_part _ (λ next. after_need _ 23 (accepts refl))));
  listing = λ card number out. finished (after_part _ (λ t. after_need _ 21 (after_need _ 22 (accepts refl))));
}
