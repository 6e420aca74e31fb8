-- Demand 3 on the listing call, down to its bytes: what an accepted call wrote is the text of one section of the card's listing and of no other
-- lines, and everything on those lines is true after every list of calls that press, ask or commit on the card. And the calls for all sections together write
-- what the program prints.
use Prim.Native.Nat.{ℕ, suc, ◌≤◌}
use mathlib.Core.Path.{◌≡◌, refl, sym, ap, ◌∙◌, subst}
use mathlib.Core.List.{List, [], ◌++◌, flat_map}
use lib.ListN.{length, get_or, take, drop}
use lib.Seq.{take_at, drop_at}
use Rattle.std.specs.Prelude.{Result}
use Rattle.laws.specs.Lists.{up_to}
use Rattle.laws.proofs.Lists.{mem_get_d}
use Rattle.model.specs.Answer.{accepted}
use Rattle.model.specs.Card as model
use Rattle.model.specs.Spaces.{spaces}
use Rattle.model.specs.Lines.{Line, sections}
use Rattle.model.specs.Text.{text}
use Rattle.model.specs.Calls.{output_bytes, initial, program, Standing, state_of}
use Rattle.model.specs.Histories.{Event}
use Rattle.model.specs.Truth.{◌is_section_of◌, Holds}
use Rattle.model.proofs.TextLines.{text_determines}
use Rattle.model.proofs.SectionCalls.{written, section_calls, accepted_section}
use Rattle.strips.specs.Answers.{applied_says, Matches}
use Rattle.strips.specs.declared.PressRefusal.{PressRefusal}
use Rattle.listing.specs.Answers.{listed_says, Lists}
use Rattle.listing.specs.declared.ListingRefusal.{ListingRefusal}
use Rattle.promises.proofs.Histories.{Calls, calls_keep_the_listing}

-- What an accepted listing call, which answered n, wrote of a card.
pub record Wrote (card : List ℕ) (number n : ℕ) (before after : List ℕ) : Type 0 where
  -- the card is accepted, and these are the lines of the section asked for
  pub task : model.Task
  pub decoded : model.decode card ≡ accepted task
  pub lines : List Line
  pub numbered : lines ≡ get_or (sections task) number []
  pub listed : lines is_section_of task
  -- the first n bytes are their text, and the others are as they were
  pub bytes : take n after ≡ text lines
  pub others : drop n after ≡ drop n before
  -- and no other lines have that text
  pub alone : (lines' : List Line) → take n after ≡ text lines' → lines' ≡ lines

pub one_section : (card before after : List ℕ) (number n : ℕ) (r : Result ℕ ListingRefusal) → Lists card number before after r → listed_says r ≡ accepted n
    → Wrote card number n before after
one_section card before after number n r lists e =
    let l = accepted_section card number before n (sym lists.answer ∙ e) in
    let lines = get_or (sections l.task) number [] in
    let whole : after ≡ text lines ++ drop n before = lists.buffer ∙ l.buffer in
    let front : take n after ≡ text lines = ap (take n) whole ∙ take_at (text lines) (drop n before) n l.length_said in
    record {
      task = l.task;
      decoded = l.decoded;
      lines = lines;
      numbered = refl;
      listed = mem_get_d (sections l.task) number [] l.known;
      bytes = front;
      others = ap (drop n) whole ∙ drop_at (text lines) (drop n before) n l.length_said;
      alone = λ lines' same. text_determines lines' lines (sym same ∙ front);
    }

-- whatever lines the bytes are the text of: they are a section of the card's listing, and what is listed is true of the state after any calls
pub bytes_are_true : (card before after : List ℕ) (number n : ℕ) (r : Result ℕ ListingRefusal) → Lists card number before after r → listed_says r ≡ accepted n
    → (buffer opened : List ℕ) (count : ℕ) (o : Result ℕ PressRefusal) → Matches (initial card buffer) opened o → applied_says o ≡ accepted count
    → (events : List Event) (standing : Standing) → Calls card (record { buffer = opened; count = count }) events standing
    → (lines : List Line) → take n after ≡ text lines
    → (t : model.Task) × (model.decode card ≡ accepted t) × (lines is_section_of t) × Holds t (state_of t standing)
bytes_are_true card before after number n r lists e buffer opened count o opens said events standing calls lines same =
    let w = one_section card before after number n r lists e in (
      w.task,
      w.decoded,
      subst (λ (ls : List Line). ls is_section_of w.task) (sym (w.alone lines same)) w.listed,
      calls_keep_the_listing card buffer opened w.task count o events standing w.decoded opens said calls,
    )

-- the calls for sections 0 to n of a card with n spaces, each with a buffer of its own, write what the program prints
pub calls_print : (card : List ℕ) (t : model.Task) → model.decode card ≡ accepted t → (before after : ℕ → List ℕ) (r : ℕ → Result ℕ ListingRefusal)
    → ((i : ℕ) → output_bytes ≤ length (before i)) → ((i : ℕ) → Lists card i (before i) (after i) (r i))
    → flat_map (λ i. written (record { answer = listed_says (r i); buffer = after i })) (up_to (suc (length (spaces t)))) ≡ program card
calls_print card t decoded before after r long lists =
    (λ j. flat_map (λ i. written (record { answer = (lists i).answer j; buffer = (lists i).buffer j })) (up_to (suc (length (spaces t)))))
    ∙ (section_calls card t decoded).joined before long
