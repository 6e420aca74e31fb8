-- The listing call for the task of an accepted card.
use Rattle.std.specs.Prelude.{ℕ, ◌≡◌, List, [], leb, ltb, length, get_or, Result}
use Rattle.model.specs.Answer.{accepted, ◌>>◌, need}
use Rattle.model.specs.Card.{Task}
use Rattle.model.specs.Lines.{sections}
use Rattle.model.specs.Text.{text}
use Rattle.model.specs.Calls.{Call, output_bytes, finish, output}
use Rattle.listing.specs.declared.ListingRefusal.{ListingRefusal}
use Rattle.listing.specs.Answers.{listed_says}

-- 21, 22
unfoldable pub section_of : Task → ℕ → List ℕ → Call
section_of t number out =
    finish out (do
      need (leb output_bytes (length out)) 21
      need (ltb number (length (sections t))) 22
      accepted (output (text (get_or (sections t) number [])) out))

-- its answer, and the output buffer as it leaves it
pub record TaskLists (t : Task) (number : ℕ) (before after : List ℕ) (r : Result ℕ ListingRefusal) : Type 0 where
  pub answer : listed_says r ≡ (section_of t number before).answer
  pub buffer : after ≡ (section_of t number before).buffer
