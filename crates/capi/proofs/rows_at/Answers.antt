-- The number, and the 32 bytes behind it.
use Rattle.std.proofs.Common.{◌≡◌, ◌+◌, ◌-◌, ℕ, get_or, take, drop, ap, ◌∙◌, arith, rules}
use Rattle.capi.specs.Previewing.{rows_held}
use Rattle.capi.proofs.rows_at.Goals as goal

pub returns : goal.returns
unfolding rows_held
returns c =
    let size : c.args.at + 33 - (c.args.at + 1) ≡ 32 = omega arith in
    let number : c.from-count.result ≡ get_or c.args.bytes.now c.args.at 0 = search rules in
    λ i. record {
      count = number i;
      rows = (c.copy_from_slice.ensures.after ∙ ap (λ (k : ℕ). take k (drop (c.args.at + 1) c.args.bytes.now)) size) i;
    }
