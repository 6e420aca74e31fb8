-- The numbers of a state take the place of those in the buffer, unless they are too many.
use Prim.Native.Nat.{ℕ, ◌≤◌, ◌<◌}
use mathlib.Core.Path.{◌≡◌, refl, ap, ◌∙◌}
use mathlib.Core.Bool.{Bool, true, false}
use mathlib.Core.List.{List}
use lib.Dec.{leb}
use lib.ListN.{length}
use Rattle.std.specs.Prelude.{Ok, Err}
use borrow.Author.Tests.{le-leb, lt-leb}
use Rattle.model.specs.Answer.{accepted, ◌>>=◌, ◌>>◌, need}
use Rattle.model.specs.Strips.{State, most_facts, written, limited}
use Rattle.model.specs.Calls.{Call, finish, store}
use Rattle.state.specs.Rows.{stored}
use Rattle.strips.specs.Answers.{press_number, applied_says, Matches}
use Rattle.strips.specs.Steps.{storing, storing_numbers}
use Rattle.strips.specs.declared.PressRefusal.TheVariants.{StateFull}

module _ (numbers buffer : List ℕ) where
  pub too_many : 1024 < length numbers → Matches (storing_numbers buffer numbers) buffer (Err StateFull)
  unfolding storing_numbers need ◌>>◌ ◌>>=◌ finish applied_says press_number
  too_many h = rw (lt-leb (length numbers) 1024 h) (record { answer = refl; buffer = refl })

  pub not_too_many : {after : List ℕ} → length numbers ≤ 1024 → after ≡ stored numbers buffer
      → Matches (storing_numbers buffer numbers) after (Ok (length numbers))
  unfolding storing_numbers need ◌>>◌ ◌>>=◌ finish applied_says press_number
  not_too_many h e = rw (le-leb (length numbers) 1024 h) (record { answer = refl; buffer = e })

  -- the numbers are stored where the facts that they stand for are
  module _ (next : State) (counted : length numbers ≡ length next) (same : stored numbers buffer ≡ written next buffer) where
    abbrev kept : Call
    kept = record { answer = accepted (length numbers); buffer = stored numbers buffer }

    decided : (few : Bool) → finish buffer (need few 20 >> accepted kept) ≡ finish buffer ((need few 20 >> accepted next) >>= (λ s. accepted (store s buffer)))
    unfolding need ◌>>◌ ◌>>=◌ finish store
    decided true = rw (counted, same)
    decided false = refl

    pub replaced_by_facts : storing_numbers buffer numbers ≡ storing buffer (limited next)
    unfolding storing_numbers storing limited
    replaced_by_facts =
        ap (λ (n : ℕ). finish buffer (need (leb n most_facts) 20 >> accepted kept)) counted ∙ decided (leb (length next) most_facts)
