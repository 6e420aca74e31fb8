use Rattle.std.proofs.Common.{ℕ, refl, ◌∙◌}
use Rattle.std.proofs.Math.ListN.{length-replicate}
use Rattle.prepared.proofs.Analysing.{found_of}
use Rattle.listing.proofs.Totalling.{analysable_again, entered_none, entered_next, entered_all}
use Rattle.listing.proofs.fixed_totals.Goals as goal

pub loop-number-init : goal.loop-number-init
loop-number-init c = record {
  entered = entered_none _ _ _ _;
  long = length-replicate {A = ℕ} 60 0;
  kept = record { starts_kept = refl; finishes_kept = refl; conditions_kept = refl };
}

pub analyse_space-found-requires : goal.analyse_space-found-requires
analyse_space-found-requires c =
    let known = c.loop-number-test.true in
    analysable_again (c.requires c.loop-number.number known) c.loop-number.invariant.kept known

pub enter_space-requires : goal.enter_space-requires
enter_space-requires c =
    let known = c.loop-number-test.true in
    let h = analysable_again (c.requires c.loop-number.number known) c.loop-number.invariant.kept known in
    record {
      some_found = record { task = h.task; of = found_of h c.analyse_space-found.ensures c.analyse_space-found.auto.conditions };
      fixed_len = c.loop-number.invariant.long;
    }

pub loop-number-preserved : goal.loop-number-preserved
loop-number-preserved c =
    let known = c.loop-number-test.true in
    let inv = c.loop-number.invariant in
    let h = analysable_again (c.requires c.loop-number.number known) inv.kept known in
    let kept = c.analyse_space-found.auto in
    record {
      entered = entered_next h c.analyse_space-found.ensures kept.conditions _ c.enter_space.ensures inv.entered;
      long = c.enter_space.auto.fixed ∙ inv.long;
      kept = record {
        starts_kept = kept.starts ∙ inv.kept.starts_kept;
        finishes_kept = kept.finishes ∙ inv.kept.finishes_kept;
        conditions_kept = kept.conditions ∙ inv.kept.conditions_kept;
      };
    }

pub returns : goal.returns
returns c = entered_all c.loop-number-test.false c.loop-number.invariant.entered
