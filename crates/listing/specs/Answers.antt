-- What the answers of the listing call say: document 01's number or value for each case.
use Rattle.std.specs.Prelude.{ℕ, ◌≡◌, List, Result, Ok, Err}
use Rattle.model.specs.Answer.{Answer, refused, accepted}
use Rattle.model.specs.Calls.{section}
use Rattle.card.specs.Represents.{refusal_number}
use Rattle.listing.specs.declared.ListingRefusal.{ListingRefusal}
use Rattle.listing.specs.declared.ListingRefusal.TheVariants.{Card, OutputShort, SectionUnknown}

unfoldable pub listing_number : ListingRefusal → ℕ
listing_number (Card r) = refusal_number r
listing_number OutputShort = 21
listing_number SectionUnknown = 22

unfoldable pub listed_says : Result ℕ ListingRefusal → Answer ℕ
listed_says (Ok n) = accepted n
listed_says (Err r) = refused (listing_number r)

-- the listing call: its answer, and the output buffer as it leaves it
pub record Lists (card : List ℕ) (number : ℕ) (before after : List ℕ) (r : Result ℕ ListingRefusal) : Type 0 where
  pub answer : listed_says r ≡ (section card number before).answer
  pub buffer : after ≡ (section card number before).buffer
