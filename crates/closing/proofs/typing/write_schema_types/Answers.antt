-- A parameter more, and its line.
use Rattle.std.proofs.Common.{ℕ, ap}
use Rattle.model.specs.Lines.{types}
use Rattle.masks.specs.Sets.{members_of}
use Rattle.text.proofs.Writing.{remains_as, start, next_fits, next, finish}
use Rattle.closing.specs.Typing.{typed_lines}
use Rattle.closing.proofs.LineLoops.{each_start, each_next, each_end}
use Rattle.closing.proofs.typing.write_schema_types.Goals as goal

pub loop-k-init : goal.loop-k-init
unfolding typed_lines
loop-k-init c = remains_as (each_start _ _) (start c.requires.room)

pub write_types-at-requires : goal.write_types-at-requires
write_types-at-requires c =
    next_fits c.loop-k.invariant
    (each_next _ _ c.loop-k.k c.loop-k-test.true (ap (λ (m : ℕ). types c.args.n c.loop-k.k (members_of m)) c.enabled-those.ensures))

pub loop-k-preserved : goal.loop-k-preserved
loop-k-preserved c =
    next c.loop-k.invariant
    (each_next _ _ c.loop-k.k c.loop-k-test.true (ap (λ (m : ℕ). types c.args.n c.loop-k.k (members_of m)) c.enabled-those.ensures))
    c.write_types-at.ensures

pub returns : goal.returns
returns c = finish c.loop-k.invariant (each_end _ _ _ c.loop-k-test.false)
