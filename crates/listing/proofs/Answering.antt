-- The answers of the listing call are those of document 01.
use Prim.Native.Nat.{ℕ, ◌≤◌, ◌<◌}
use Rattle.std.specs.Prelude.{Result, Ok, Err}
use native.Mathlib.Omega.{arith}
use mathlib.Core.Path.{◌≡◌, sym, ap, ◌∙◌}
use mathlib.Core.List.{List, []}
use lib.Dec.{leb, ltb}
use lib.ListN.{length, get_or}
use borrow.Author.Tests.{le-leb, lt-leb, lt-ltb, le-ltb}
use Rattle.model.specs.Answer.{Answer, accepted, ◌>>=◌, ◌>>◌, need}
use Rattle.model.specs.Card as model
use Rattle.model.specs.Lines.{sections}
use Rattle.model.specs.Text.{text}
use Rattle.model.specs.Calls.{Call, output_bytes, finish, output, section}
use Rattle.card.specs.declared.Decoded.{Decoded}
use Rattle.card.specs.declared.Refusal.{Refusal}
use Rattle.card.specs.declared.Verdict.TheVariants.{Accepted, Refused}
use Rattle.card.specs.Represents.{Decodes, task_of}
use Rattle.card.proofs.Deciding.{refuses, accepts}
use Rattle.spaces.specs.declared.Spaces.{Spaces}
use Rattle.spaces.specs.SpaceTable.{SpacesOf}
use Rattle.text.specs.Written.{Writes}
use Rattle.prepared.proofs.SectionsOf.{section_count}
use Rattle.listing.specs.declared.ListingRefusal.{ListingRefusal}
use Rattle.listing.specs.declared.ListingRefusal.TheVariants.{Card, OutputShort, SectionUnknown}
use Rattle.listing.specs.Answers.{listing_number, listed_says, Lists}
use Rattle.listing.specs.Sections.{section_of, TaskLists}

-- ---- the answers for a task

module _ (t : model.Task) (number : ℕ) (out : List ℕ) where
  pub list_short : length out < output_bytes → TaskLists t number out out (Err OutputShort)
  unfolding section_of finish listed_says listing_number ◌>>◌ need
  list_short h = record { answer = rw (lt-leb output_bytes (length out) h); buffer = rw (lt-leb output_bytes (length out) h) }

  module _ (s : Spaces) (are : SpacesOf t s) (h : output_bytes ≤ length out) where
    pub list_unknown : s.count < number → TaskLists t number out out (Err SectionUnknown)
    unfolding section_of finish listed_says listing_number ◌>>◌ need
    list_unknown k =
        let past : length (sections t) ≤ number = omega (arith, section_count t, are.count) in
        record {
          answer = rw (le-leb output_bytes (length out) h, le-ltb number (length (sections t)) past);
          buffer = rw (le-leb output_bytes (length out) h, le-ltb number (length (sections t)) past);
        }

    pub list_written : number ≤ s.count → (after : List ℕ) (n : ℕ) → Writes (text (get_or (sections t) number [])) out after n
        → TaskLists t number out after (Ok n)
    unfolding section_of finish output listed_says ◌>>◌ need
    list_written k after n w =
        let known : number < length (sections t) = omega (arith, section_count t, are.count) in
        record {
          answer = rw (le-leb output_bytes (length out) h, lt-ltb number (length (sections t)) known) (ap accepted w.count);
          buffer = rw (le-leb output_bytes (length out) h, lt-ltb number (length (sections t)) known) w.buffer;
        }

-- ---- the answers for a card

-- what follows the card reader
abbrev lists_with : ℕ → List ℕ → Answer model.Task → Call
lists_with number out answer =
    finish out
    (answer >>= (λ t. need (leb output_bytes (length out)) 21 >> (need (ltb number (length (sections t))) 22
    >> accepted (output (text (get_or (sections t) number [])) out))))

module _ (card : List ℕ) (d : Decoded) (decodes : Decodes card d) where
  -- a refused card
  module _ (r : Refusal) (verdict : d.verdict ≡ Refused r) where
    pub card_refused : (number : ℕ) (out : List ℕ) → Lists card number out out (Err (Card r))
    unfolding section ◌>>=◌ finish listed_says listing_number
    card_refused number out = record {
      answer = sym (ap (λ (a : Answer model.Task). (lists_with number out a).answer) (refuses card d decodes r verdict));
      buffer = sym (ap (λ (a : Answer model.Task). (lists_with number out a).buffer) (refuses card d decodes r verdict));
    }

  -- an accepted card
  module _ (verdict : d.verdict ≡ Accepted) where
    -- and listed
    pub card_listed : (number : ℕ) (out after : List ℕ) (r : Result ℕ ListingRefusal)
        → TaskLists (task_of d.task) number out after r → Lists card number out after r
    unfolding section ◌>>=◌ section_of
    card_listed number out after r l = record {
      answer = l.answer ∙ sym (ap (λ (a : Answer model.Task). (lists_with number out a).answer) (accepts card d decodes verdict));
      buffer = l.buffer ∙ sym (ap (λ (a : Answer model.Task). (lists_with number out a).buffer) (accepts card d decodes verdict));
    }
