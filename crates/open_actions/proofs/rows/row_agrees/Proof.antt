-- Each test fails only where no row can show the atom.
use mathlib.Core.Path.{sym, ap, ◌∙◌}
use Prim.Native.Nat.{ℕ}
use native.Mathlib.Omega.{arith}
use lib.ListN.{get_or}
use borrow.Author.Rules.{rules}
use Rattle.open_actions.proofs.rows.row_agrees.Statement.{statement}
use Rattle.open_actions.proofs.rows.row_agrees.Tie as tie

mul_at : tie.Need-overflow_mul-at
mul_at c = search rules

shared-slice-read-if1 : tie.Need-bounds-state-at
shared-slice-read-if1 c = search rules

returns : tie.Need-returns-then-state-at
returns c = λ y shows agrees. absurd (c.if-state-at.true shows.predicate)

add-first : tie.Need-overflow_add-first
add-first c = search rules

shared-slice-read-first : tie.Need-bounds-state-at-2
shared-slice-read-first c = search rules

add-second : tie.Need-overflow_add-second
add-second c = search rules

shared-slice-read-second : tie.Need-bounds-state-at-3
shared-slice-read-second c = search rules

add-third : tie.Need-overflow_add-third
add-third c = search rules

shared-slice-read-third : tie.Need-bounds-state-at-4
shared-slice-read-third c = search rules

place-agrees-requires : tie.Need-place_agrees-requires
place-agrees-requires c κs =
    let pre = c.requires.1 in
    (λ h. pre.first, pre.few)

returns-2 : tie.Need-returns-then-not-place_agrees
returns-2 c = λ y shows agrees. sym (c.if-not-place_agrees.true) ∙ c.place_agrees.ensures (λ h m. shows.first h ∙ agrees.same _ m)

place-agrees-requires-2 : tie.Need-place_agrees-requires-2
place-agrees-requires-2 c κs = search rules

returns-3 : tie.Need-returns-then-not-place_agrees-2
returns-3 c = λ y shows agrees. sym (c.if-not-place_agrees-2.true) ∙ c.place_agrees-2.ensures (λ h m. shows.second h ∙ agrees.same _ m)

place-agrees-requires-3 : tie.Need-place_agrees-requires-3
place-agrees-requires-3 c κs = search rules

returns-4 : tie.Need-returns-then-not-place_agrees-3
returns-4 c = λ y shows agrees. sym (c.if-not-place_agrees-3.true) ∙ c.place_agrees-3.ensures (λ h m. shows.third h ∙ agrees.same _ m)

repeat-agrees-requires : tie.Need-repeat_agrees-requires
repeat-agrees-requires c κs = search rules

returns-5 : tie.Need-returns-then-not-repeat_agrees
returns-5 c = λ y shows agrees. sym (c.if-not-repeat_agrees.true)
    ∙ c.repeat_agrees.ensures (λ h e. shows.first (omega arith) ∙ ap (λ (p : ℕ). get_or y p 0) e ∙ sym (shows.second h))

repeat-agrees-requires-2 : tie.Need-repeat_agrees-requires-2
repeat-agrees-requires-2 c κs = search rules

returns-6 : tie.Need-returns-then-not-repeat_agrees-2
returns-6 c = λ y shows agrees. sym (c.if-not-repeat_agrees-2.true)
    ∙ c.repeat_agrees-2.ensures (λ h e. shows.first (omega arith) ∙ ap (λ (p : ℕ). get_or y p 0) e ∙ sym (shows.third h))

repeat-agrees-requires-3 : tie.Need-repeat_agrees-requires-3
repeat-agrees-requires-3 c κs = search rules

returns-7 : tie.Need-returns
returns-7 c = λ y shows agrees. c.repeat_agrees-3.ensures (λ h e. shows.second (omega arith) ∙ ap (λ (p : ℕ). get_or y p 0) e ∙ sym (shows.third h))

pub row_agrees_spec : {M : Type 1} → statement M
row_agrees_spec =
    tie.close
    (tie.spec mul_at shared-slice-read-if1 returns add-first shared-slice-read-first add-second shared-slice-read-second add-third
    shared-slice-read-third place-agrees-requires returns-2 place-agrees-requires-2 returns-3 place-agrees-requires-3 returns-4 repeat-agrees-requires
    returns-5 repeat-agrees-requires-2 returns-6 repeat-agrees-requires-3 returns-7)
