-- A start or nothing changed brings nobody in; otherwise spaces gain.
use Rattle.std.specs.Prelude.{Option, None, Some, is_none, is_some}
use mathlib.Core.Path.{◌≡◌, refl, sym, ap, ◌∙◌}
use mathlib.Core.Bool.{Bool, true, not}
use mathlib.Core.List.{foldl}
use Rattle.std.proofs.Common.{ℕ}
use Rattle.properties.specs.Tables.{bag_at}
use Rattle.spaces.specs.Steps.{changed_by, join_at}
use Rattle.spaces.proofs.Gaining.{gain_started, gain_still, gain_some}
use Rattle.spaces.proofs.members.gain.Goals as goal
use Rattle.spaces.proofs.members.gain.Goals.{then-has_start-via-then-has_start, then-has_start-via-else-has_start+then-is_none}

-- a test by the other test
none_is : {A : Type 0} (o : Option A) {test : Bool} → is_some o ≡ not test → test ≡ true → is_none o ≡ true
none_is None e f = refl
none_is (Some a) e f = cc

pub returns-then-has_start : goal.returns-then-has_start
returns-then-has_start c =
    let a = c.args in
    elim c.then-has_start.branch [
      | then-has_start-via-then-has_start w ↦
          gain_started a.groups.now a.objects a.before.now a.members.now (bag_at a.size a.preconditions.now a.row) _ _
          (sym c.has_start.ensures ∙ w.if-has_start.true)
      | then-has_start-via-else-has_start+then-is_none w ↦
          gain_still a.groups.now a.objects a.before.now a.members.now (bag_at a.size a.preconditions.now a.row) _ _
          (sym c.has_start.ensures ∙ w.if-has_start.false)
          (sym (ap is_none w.first_changed.ensures) ∙ none_is _ w.is_none.ensures w.if-is_none.true)
    ]

pub returns : goal.returns
returns c =
    let a = c.args in
    let p = bag_at a.size a.preconditions.now a.row in
    let d = bag_at a.size a.deletes.now a.row in
    let adds = bag_at a.size a.adds.now a.row in
    c.join_changed.ensures
    ∙ ap (λ (m : ℕ). foldl (join_at a.groups.now m) a.members.now (changed_by d adds)) c.enabled-those.ensures
    ∙ gain_some a.groups.now a.objects a.before.now a.members.now p d adds (sym c.has_start.ensures ∙ c.if-has_start.false)
