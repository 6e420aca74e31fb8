-- The levels from the last one down to 2, each searched with no parameter bound.
use Rattle.open_actions.specs.Bindings.{query_in, Full}
use Rattle.open_actions.specs.Notes.{KeepsNotes}
use Rattle.open_actions.proofs.query.Query.last_parameters_fit.Given as goal

abbrev pub invariant-loop-first : goal.invariant-loop-first
invariant-loop-first l = record {
  full : Full (query_in l.self) l.objects;
  notes_kept : KeepsNotes (query_in l.self) l.initial.notes l.notes;
}
