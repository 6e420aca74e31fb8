-- What is left to check is the answer.
use Rattle.std.proofs.Common.{◌≡◌, drop, map}
use Rattle.std.proofs.Math.Option.{none}
use Rattle.model.specs.Writer.{each, check_schema}
use Rattle.card.specs.Represents.{schema_of}
use Rattle.writer_checks.proofs.checking.check_schemas.Given as goal

abbrev pub invariant-loop-s : goal.invariant-loop-s
invariant-loop-s l =
    each (λ before. check_schema l.arities) none (drop l.s-index (map (schema_of l.arities) l.s-items))
    ≡ each (λ before. check_schema l.arities) none (map (schema_of l.arities) l.s-items)
