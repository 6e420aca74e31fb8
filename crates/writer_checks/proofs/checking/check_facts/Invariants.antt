-- What is left to check is the answer.
use Rattle.std.proofs.Common.{◌≡◌, drop, map}
use Rattle.std.proofs.Math.Option.{none}
use Rattle.model.specs.Writer.{each, check_fact}
use Rattle.card.specs.Represents.{atom_of}
use Rattle.writer_checks.specs.Checking.{previous}
use Rattle.writer_checks.proofs.checking.check_facts.Given as goal

abbrev pub invariant-loop-f : goal.invariant-loop-f
invariant-loop-f l =
    each (check_fact l.arities l.objects) (previous l.arities l.before) (drop l.f-index (map (atom_of l.arities) l.f-items))
    ≡ each (check_fact l.arities l.objects) none (map (atom_of l.arities) l.f-items)
