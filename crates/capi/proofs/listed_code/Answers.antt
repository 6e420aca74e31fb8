-- A length is answered as it is, and each refusal as minus its number.
use Rattle.std.proofs.Common.{ap, ◌∙◌, Err}
use Rattle.listing.specs.declared.ListingRefusal.{ListingRefusal}
use Rattle.listing.specs.Answers.{listing_number, listed_says}
use Rattle.capi.specs.Numbers.{signed}
use Rattle.capi.proofs.Codes.{value_fits, value_code, refusal_code, same_code}
use Rattle.capi.proofs.listed_code.Goals as goal

pub overflow_cast-result : goal.overflow_cast-result
unfolding listed_says
overflow_cast-result c = value_fits _ _ c.requires (ap listed_says c.in-Ok.is)

pub returns-in-Ok : goal.returns-in-Ok
unfolding listed_says
returns-in-Ok c = value_code _ _ c.requires (ap listed_says c.in-Ok.is)

pub returns-in-Err-Card : goal.returns-in-Err-Card
unfolding listed_says listing_number
returns-in-Err-Card c =
    same_code c.refusal_code.result c.refusal_code.type_inv c.refusal_code.ensures
    (ap listed_says (c.in-Err-Card.is ∙ ap (λ (r : ListingRefusal). Err r) (rw c.in-Err-Card.is at c.in-Err-Card.field-0-is)))

pub returns-in-Err-OutputShort : goal.returns-in-Err-OutputShort
unfolding signed listed_says listing_number
returns-in-Err-OutputShort c =
    refusal_code _ 21
    (ap listed_says
    (c.in-Err-OutputShort.is ∙ ap (λ (r : ListingRefusal). Err r) (rw c.in-Err-OutputShort.is at c.in-Err-OutputShort.field-0-is)))

pub returns-in-Err-SectionUnknown : goal.returns-in-Err-SectionUnknown
unfolding signed listed_says listing_number
returns-in-Err-SectionUnknown c =
    refusal_code _ 22
    (ap listed_says
    (c.in-Err-SectionUnknown.is ∙ ap (λ (r : ListingRefusal). Err r) (rw c.in-Err-SectionUnknown.is at c.in-Err-SectionUnknown.field-0-is)))
