use Rattle.std.proofs.Common.{ℕ, List, ap, ◌∙◌}
use lib.ListN.{set}
use Rattle.sets.proofs.Shifting.{room_opens}
use Rattle.sets.proofs.make_room.Goals as goal

pub returns : goal.returns
returns c =
    ap (λ (l : List ℕ). set l c.args.at c.args.n) c.copy_within.ensures.after
    ∙ room_opens c.args.at c.args.count c.args.n c.args.numbers.now c.requires.0 c.requires.1
