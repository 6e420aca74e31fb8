-- The digit at a place.
use Rattle.std.proofs.Common.{ℕ, ◌/◌, ◌^◌, eqb, ap}
use lib.Bits.{and_mask}
use Rattle.masks.specs.Sets.{is_member}
use Rattle.masks.proofs.is_member.Goals as goal

pub returns : goal.returns
unfolding is_member
returns c = ap (λ (n : ℕ). eqb n 1) (and_mask (c.args.mask / 2 ^ c.args.o) 1)
