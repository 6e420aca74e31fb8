-- The levels from the last one down, each with the given objects below it.
use Rattle.open_actions.specs.Bindings.{query_in}
use Rattle.open_actions.specs.Notes.{KeepsNotes}
use Rattle.open_actions.proofs.Levels.{Resuming}
use Rattle.open_actions.proofs.query.Query.next_binding.Given as goal

abbrev pub invariant-loop-level : goal.invariant-loop-level
invariant-loop-level l = record {
  resuming : Resuming (query_in l.self) l.initial.objects l.objects l.level;
  notes_kept : KeepsNotes (query_in l.self) l.initial.notes l.notes;
}
