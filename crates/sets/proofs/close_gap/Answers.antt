use Rattle.std.proofs.Common.{ℕ, ◌-◌, List, ap, ◌∙◌}
use lib.ListN.{set}
use Rattle.sets.proofs.Shifting.{gap_closes}
use Rattle.sets.proofs.close_gap.Goals as goal

pub returns : goal.returns
returns c =
    let moved = c.copy_within.ensures.after in
    ap (λ (l : List ℕ). set l (c.args.count - 1) 0) moved ∙ gap_closes c.args.at c.args.count c.args.numbers.now c.requires.0 c.requires.1
