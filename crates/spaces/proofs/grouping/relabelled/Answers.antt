-- A label that is replaced, and one that stays.
use Rattle.std.proofs.Common.{ℕ, ◌≡◌, ◌<◌, length, arith, rules}
use Rattle.std.proofs.lemmas.List.{set-get_or}
use mathlib.Core.Path.{refl, ap, ◌∙◌}
use Rattle.laws.proofs.Walks.{changed, changed_all}
use Rattle.spaces.proofs.Uniting.{replaced, replaced_here, replaced_elsewhere}
use Rattle.spaces.proofs.grouping.relabelled.Goals as goal
use Rattle.spaces.proofs.grouping.relabelled.Goals.{then-label-from, else-label-from}

pub loop-label-init : goal.loop-label-init
unfolding changed
loop-label-init c = refl

pub loop-label-preserved : goal.loop-label-preserved
loop-label-preserved c =
    let a = c.args in
    let i : ℕ = c.loop-label.label-index in
    let size : length a.groups ≡ 60 = search rules in
    let here : i < length a.groups = omega arith in
    elim c.if-label-from.branch [
      | then-label-from w ↦ w.label-items-is ∙ replaced_here a.from a.to a.groups c.loop-label.label-items i here c.loop-label.invariant w.if-label-from.true
      | else-label-from w ↦
          w.label-items-is
          ∙ set-get_or c.loop-label.label-items i 0
          ∙ replaced_elsewhere a.from a.to a.groups c.loop-label.label-items i here c.loop-label.invariant w.if-label-from.false
    ]

pub returns : goal.returns
returns c =
    let groups = c.args.groups in
    let size : length groups ≡ 60 = search rules in
    let last : c.loop-label.label-index ≡ length groups = omega arith in
    c.loop-label.invariant
    ∙ ap (λ (n : ℕ). changed (replaced c.args.from c.args.to) n groups) last
    ∙ changed_all (replaced c.args.from c.args.to) groups
