-- What was found of the space gives its section, whose text is within the buffer, and its totals.
use Rattle.std.proofs.Common.{arith, sym, ◌∙◌}
use Rattle.std.proofs.Math.Nat.{sub-zero}
use Rattle.prepared.proofs.Analysing.{found_of, section_ready}
use Rattle.prepared.proofs.Within.{written_within}
use Rattle.printer.proofs.Turns.{space_printed, space_delivered}
use Rattle.printer.proofs.Delivered.{if_ok}
use Rattle.printer.proofs.printing.print_space.Goals as goal

pub enter_space-requires-clause-some_found : goal.enter_space-requires-clause-some_found
enter_space-requires-clause-some_found g c =
    let found = c.analyse_space-found in
    record { task = c.requires.space_ready.task; of = found_of c.requires.space_ready found.ensures found.auto.conditions }

pub write_space_section-length-requires-clause-section_ready : goal.write_space_section-length-requires-clause-section_ready
write_space_section-length-requires-clause-section_ready g c =
    let found = c.analyse_space-found in
    section_ready c.requires.space_ready found.ensures found.auto.conditions found.auto.starts found.auto.finishes

pub slice_bounds-write_all-end : goal.slice_bounds-write_all-end
slice_bounds-write_all-end g c =
    let found = c.analyse_space-found in
    let ready = section_ready c.requires.space_ready found.ensures found.auto.conditions found.auto.starts found.auto.finishes in
    let within = written_within (c.write_space_section-length.ensures ready.task ready.found) in
    omega arith

pub returns-clause-printed : goal.returns-clause-printed
returns-clause-printed g c =
    let found = c.analyse_space-found in
    space_printed c.requires.space_ready found.ensures found.auto.conditions c.enter_space.ensures c.write_space_section-length.ensures

pub returns-clause-delivered : goal.returns-clause-delivered
returns-clause-delivered g c =
    let found = c.analyse_space-found in
    space_delivered c.requires.space_ready found.ensures found.auto.conditions c.write_space_section-length.ensures _ _ _
    (λ ended.
    rw (sub-zero c.write_space_section-length.result) at (if_ok c.write_all.result c.write_all.ensures.bytes (sym c.is_ok.ensures.value ∙ ended)))
