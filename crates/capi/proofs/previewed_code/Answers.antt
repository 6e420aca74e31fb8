-- The changes are written beside a count alone.
use Rattle.std.proofs.Common.{Result, ap, sym, ◌∙◌}
use Rattle.model.specs.Answer.{◌>>=◌}
use Rattle.previews.specs.declared.Foreseen.{Foreseen}
use Rattle.strips.specs.Answers.{applied_says}
use Rattle.strips.specs.declared.PressRefusal.{PressRefusal}
use Rattle.capi.specs.Previewing.{foreseen_count, shown_beside}
use Rattle.capi.proofs.Codes.{value_fits, value_code, same_code}
use Rattle.capi.proofs.previewed_code.Goals as goal

pub overflow_cast-result : goal.overflow_cast-result
unfolding foreseen_count applied_says ◌>>=◌
overflow_cast-result c = value_fits _ _ c.requires.0 (ap foreseen_count c.in-Ok.is)

pub returns-in-Ok-clause-value : goal.returns-in-Ok-clause-value
unfolding foreseen_count applied_says ◌>>=◌
returns-in-Ok-clause-value c = value_code _ _ c.requires.0 (ap foreseen_count c.in-Ok.is)

pub returns-in-Ok-clause-changes_after : goal.returns-in-Ok-clause-changes_after
unfolding shown_beside
returns-in-Ok-clause-changes_after c =
    c.write_changes.ensures ∙ sym (ap (λ (r : Result Foreseen PressRefusal). shown_beside r c.args.changes.now) c.in-Ok.is)

pub returns-in-Err-clause-value : goal.returns-in-Err-clause-value
unfolding foreseen_count applied_says ◌>>=◌
returns-in-Err-clause-value c =
    same_code c.press_refusal_code.result c.press_refusal_code.type_inv c.press_refusal_code.ensures (ap foreseen_count c.in-Err.is)

pub returns-in-Err-clause-changes_after : goal.returns-in-Err-clause-changes_after
unfolding shown_beside
returns-in-Err-clause-changes_after c = sym (ap (λ (r : Result Foreseen PressRefusal). shown_beside r c.args.changes.now) c.in-Err.is)
