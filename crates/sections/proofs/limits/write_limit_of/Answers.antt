-- No line, or the line of the largest count.
use Rattle.std.proofs.Common.{◌∙◌}
use Rattle.sections.proofs.LimitLines.{narrow_written, wide_room, wide_written}
use Rattle.sections.proofs.limits.write_limit_of.Goals as goal

pub returns-then-arity-lt2 : goal.returns-then-arity-lt2
returns-then-arity-lt2 c = narrow_written _ _ _ c.if-arity-lt2.true _

pub write_limit-requires : goal.write_limit-requires
write_limit-requires c =
    wide_room _ _ _ c.if-arity-lt2.false (c.from-most.ensures ∙ c.largest_in.ensures) c.requires.2

pub returns : goal.returns
returns c =
    wide_written _ _ _ c.if-arity-lt2.false (c.from-most.ensures ∙ c.largest_in.ensures) c.write_limit.ensures
