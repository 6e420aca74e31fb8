use Rattle.std.proofs.Common.{take, ap, ◌∙◌, arith}
use Rattle.state.proofs.Chunks.{first_rows}
use Rattle.state.proofs.rows.Goals as goal

pub returns : goal.returns
returns c = ap (take c.args.count) c.as_chunks.ensures.front ∙ first_rows _ _ c.args.state.now (omega arith)
