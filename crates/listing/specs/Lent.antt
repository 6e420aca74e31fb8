-- What is asked of tables that all spaces of a task are analysed with.
use Rattle.std.specs.Prelude.{ℕ, ◌<◌, List}
use Rattle.prepared.specs.declared.Prepared.{Prepared}
use Rattle.prepared.specs.Found.{SpaceReady}

-- every space of a prepared task can be analysed with the tables lent for it
abbrev pub AllAnalysable : Prepared → List ℕ → List ℕ → List ℕ → List ℕ → List ℕ → List ℕ → Type 0
AllAnalysable p deletes adds counts starts finishes conditions =
    (number : ℕ) → number < p.spaces.count → SpaceReady number p deletes adds counts starts finishes conditions
