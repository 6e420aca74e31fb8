-- Nobody is entered at first, then those before this turn and this one, at last condition i with itself.
use Rattle.laws.proofs.Bags.{contains_refl}
use Rattle.conditions.proofs.Entering.{partly_start, own_first, other_first, partly_all}
use Rattle.conditions.proofs.minimal.compare_earlier.Goals as goal

pub loop-k-init : goal.loop-k-init
loop-k-init c =
    let h = c.requires in (partly_start h.has_rows.1 h.all_entered.containing, partly_start h.has_rows.1 h.all_entered.contained)

pub loop-k-preserved : goal.loop-k-preserved
loop-k-preserved c =
    let l = c.loop-k in
    let k = c.loop-k-test.true in
    (own_first l.invariant.0 k c.compare_pair.ensures.containing, other_first l.invariant.1 k c.compare_pair.ensures.contained)

pub returns : goal.returns
returns c =
    let l = c.loop-k in
    let all = c.loop-k-test.false in
    record {
      containing = partly_all l.invariant.0 all (contains_refl _) c.enter.ensures.0;
      contained = partly_all l.invariant.1 all (contains_refl _) c.enter.ensures.1;
    }
