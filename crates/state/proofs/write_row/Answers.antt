use Rattle.std.proofs.Common.{ℕ, ◌+◌, ◌*◌, List, ◌++◌, take, drop, ap, ◌∙◌, arith}
use Rattle.state.proofs.RowBytes.{be_bytes}
use Rattle.state.proofs.Writing.{part_put}
use Rattle.state.proofs.write_row.Goals as goal

pub returns : goal.returns
returns c =
    let at = 4 * c.args.i in
    let was = c.args.state.now in
    part_put at (at + 4) was _ (omega arith)
    ∙ ap (λ (l : List ℕ). take at was ++ l ++ drop (at + 4) was)
    (c.copy_from_slice.ensures.after ∙ c.to_be_bytes.ensures ∙ be_bytes c.args.n c.ranges.n.fits)
