use Rattle.std.proofs.Common.{ℕ, List, ◌++◌, take, drop, replicate, ap, ◌∙◌, arith, rules}
use borrow.Rule.Slice.PartMut.{mid_len}
use Rattle.state.proofs.Writing.{part_put}
use Rattle.state.proofs.clear.Goals as goal

pub returns : goal.returns
returns c =
    let at = c.args.at in
    let was = c.args.state.now in
    part_put at 4096 was _ (omega arith)
    ∙ ap (λ (l : List ℕ). take at was ++ l ++ drop 4096 was)
    (c.fill.ensures.after (λ y e. search rules) ∙ ap (λ (n : ℕ). replicate n 0) (mid_len at 4096 was (omega arith)))
