-- There is room for the section, which is written in two parts.
use Rattle.std.proofs.Common.{ℕ, ◌≡◌, ◌≤◌, ◌<◌, List, length, get_or, arith}
use Rattle.model.specs.Analysis.{analysis}
use Rattle.model.specs.Lines.{closing_lines}
use Rattle.model.specs.Text.{text}
use Rattle.model.proofs.RuleCount.{properties_few}
use Rattle.card.specs.declared.Task.{Task}
use Rattle.card.specs.Represents.{task_of, Represented}
use Rattle.card.proofs.Counts.{right}
use Rattle.text.specs.Room.{Room}
use Rattle.text.proofs.Writing.{first_fits, second_fits, both}
use Rattle.closing.specs.Fixed.{fixed_table}
use Rattle.closing.proofs.Sizes.{closing_fits, closing_parts}
use Rattle.closing.proofs.write_closing.Goals as goal

-- there is room for the section
room : (task : Task) → Represented task (task_of task) → (fixed : List ℕ) → fixed ≡ fixed_table (task_of task)
    → ((i : ℕ) → get_or fixed i 0 < 4294967296) → (out : List ℕ) → 65536 ≤ length out
    → Room (text (closing_lines (task_of task) (analysis (task_of task)))) out
room task r fixed table small out h =
    closing_fits (task_of task) (right task r) fixed table (properties_few (task_of task) r.checked) (λ i. omega (arith, small i)) out h

pub write_front-front-requires-clause-room : goal.write_front-front-requires-clause-room
write_front-front-requires-clause-room c =
    let a = c.args in
    let roomy = room a.task c.requires.represented a.fixed.now c.requires.fixed_value (λ i. omega (arith, c.type_inv.fixed i)) a.out.now c.requires.in_bounds in
    first_fits (closing_parts _) roomy

pub write_type_lines-types-requires-clause-room : goal.write_type_lines-types-requires-clause-room
write_type_lines-types-requires-clause-room c =
    let a = c.args in
    let roomy = room a.task c.requires.represented a.fixed.now c.requires.fixed_value (λ i. omega (arith, c.type_inv.fixed i)) a.out.now c.requires.in_bounds in
    second_fits (closing_parts _) roomy c.write_front-front.ensures

pub returns : goal.returns
returns c =
    let a = c.args in
    let roomy = room a.task c.requires.represented a.fixed.now c.requires.fixed_value (λ i. omega (arith, c.type_inv.fixed i)) a.out.now c.requires.in_bounds in
    both (closing_parts _) roomy c.write_front-front.ensures c.write_type_lines-types.ensures
