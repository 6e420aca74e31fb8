-- What is entered, answer by answer.
use mathlib.Core.Path.{refl, ap, ◌∙◌}
use Rattle.conditions.specs.Minimal.{entered_at}
use Rattle.conditions.proofs.Containing.{pair_equal, pair_within, pair_around, pair_apart}
use Rattle.conditions.proofs.minimal.compare_pair.Goals as goal

pub returns-in-Equal : goal.returns-in-Equal
returns-in-Equal c =
    pair_equal _ _ c.compare.ensures c.in-Equal.is
    (c.enter-in-Equal.ensures.0 ∙ ap (entered_at _ _) c.enter.ensures.0)
    (c.enter-in-Equal.ensures.1 ∙ ap (entered_at _ _) c.enter.ensures.1)

pub returns-in-Within : goal.returns-in-Within
returns-in-Within c = pair_within _ _ c.compare.ensures c.in-Within.is c.enter-in-Within.ensures.0 c.enter-in-Within.ensures.1

pub returns-in-Around : goal.returns-in-Around
returns-in-Around c = pair_around _ _ c.compare.ensures c.in-Around.is c.enter-in-Around.ensures.0 c.enter-in-Around.ensures.1

pub returns-in-Apart : goal.returns-in-Apart
returns-in-Apart c = pair_apart _ _ c.compare.ensures c.in-Apart.is refl refl
