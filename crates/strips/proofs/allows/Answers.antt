-- The preconditions are looked for, then the adds where there may be too many of them.
use Rattle.std.proofs.Common.{sym, ◌∙◌, arith}
use borrow.Author.Tests.{le-leb}
use Rattle.strips.proofs.Applying.{state_formed, rows_ascend, preconditions_bound, adds_bound, test_says, missing_closes, adds_fit, missing_decides}
use Rattle.strips.proofs.allows.Goals as goal

pub all_hold-requires : goal.all_hold-requires
all_hold-requires c = (preconditions_bound c.requires, rows_ascend c.requires.state)

pub returns-then-not-all_hold : goal.returns-then-not-all_hold
returns-then-not-all_hold c = missing_closes c.requires (sym (test_says c.requires c.all_hold.ensures) ∙ c.if-not-all_hold.true)

pub overflow_add-room : goal.overflow_add-room
overflow_add-room c = let few = c.requires.schema_kept.deletes.few in omega arith

pub overflow_sub-room : goal.overflow_sub-room
overflow_sub-room c = let few = (state_formed c.requires.state).count_fits in omega arith

pub missing_facts-requires : goal.missing_facts-requires
missing_facts-requires c = (adds_bound c.requires, rows_ascend c.requires.state)

pub returns-then-schema-room : goal.returns-then-schema-room
returns-then-schema-room c =
    le-leb _ _ c.if-schema-room.true
    ∙ adds_fit c.requires (sym (test_says c.requires c.all_hold.ensures) ∙ c.if-not-all_hold.false) c.if-schema-room.true

pub returns-else-schema-room : goal.returns-else-schema-room
returns-else-schema-room c =
    missing_decides c.requires (sym (test_says c.requires c.all_hold.ensures) ∙ c.if-not-all_hold.false) c.missing_facts.ensures
