-- The arities are read one after the other.
use Rattle.std.proofs.Common.{refl}
use Rattle.card.specs.Represents.{refusal_number}
use Rattle.reader_bytes.proofs.Reading.{hands_on}
use Rattle.reader_lists.proofs.Plain.{plain_starts, plain_goes_on, plain_stops}
use Rattle.reader_lists.proofs.Blanks.{blank_arities, arities_filled}
use Rattle.reader_lists.proofs.arities.Goals as goal

pub loop-i-init : goal.loop-i-init
loop-i-init c = plain_starts c.requires.0 c.requires.1 refl (blank_arities c.no_arities-list.ensures)

pub returns-in_err-arity : goal.returns-in_err-arity
unfolding refusal_number
returns-in_err-arity c =
    hands_on _ _ c.from_residual.ensures.1 (plain_stops c.loop-i.invariant c.loop-i-test.true c.in_err-arity.ensures.says)

pub loop-i-preserved : goal.loop-i-preserved
unfolding refusal_number
loop-i-preserved c =
    let r = c.in_ok-arity.ensures in
    plain_goes_on c.loop-i.invariant c.loop-i-test.true r.says r.within refl

pub returns : goal.returns
returns c = arities_filled c.loop-i.invariant.within c.loop-i-test.false _ c.loop-i.invariant.filling
