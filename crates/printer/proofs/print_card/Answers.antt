-- A refused card's line is printed, and an accepted card's listing.
use Rattle.std.proofs.Common.{sym, ◌∙◌, Err, Ok}
use Rattle.card.proofs.Deciding.{represented, refuses, accepts}
use Rattle.printer.proofs.Answered.{refused_prints, accepted_prints}
use Rattle.printer.proofs.Delivered.{if_ok, given_printed, ended_printed}
use Rattle.printer.proofs.print_card.Goals as goal

pub print_listing-requires : goal.print_listing-requires
print_listing-requires g c = represented _ c.decode-decoded.result c.decode-decoded.ensures c.in-Accepted.is

pub returns-then-not-written-clause-leaves : goal.returns-then-not-written-clause-leaves
returns-then-not-written-clause-leaves g c =
    refused_prints _ c.decode-decoded.result c.decode-decoded.ensures _ (Err (record { sections = 0 })) _ c.in-Refused.is

pub returns-else-not-written-clause-leaves : goal.returns-else-not-written-clause-leaves
returns-else-not-written-clause-leaves g c =
    refused_prints _ c.decode-decoded.result c.decode-decoded.ensures _ (Ok tt) _ c.in-Refused.is

pub returns-else-not-written-clause-delivered : goal.returns-else-not-written-clause-delivered
returns-else-not-written-clause-delivered g c =
    given_printed _ _ c.args.card.now (c.text.ensures ∙ c.refused_line-line.ensures.text)
    (refuses _ c.decode-decoded.result c.decode-decoded.ensures c.in-Refused.refusal c.in-Refused.is)
    (if_ok c.write_all.result c.write_all.ensures.bytes (sym c.is_ok-written.ensures.value ∙ c.if-not-written.false))

pub returns-in-Accepted-clause-leaves : goal.returns-in-Accepted-clause-leaves
returns-in-Accepted-clause-leaves g c =
    accepted_prints _ c.decode-decoded.result c.decode-decoded.ensures _ c.print_listing.result c.in-Accepted.is
    c.print_listing.ensures.out_after

pub returns-in-Accepted-clause-delivered : goal.returns-in-Accepted-clause-delivered
returns-in-Accepted-clause-delivered g c =
    ended_printed c.print_listing.result _ _ c.args.card.now (accepts _ c.decode-decoded.result c.decode-decoded.ensures c.in-Accepted.is)
    c.print_listing.ensures.delivered
