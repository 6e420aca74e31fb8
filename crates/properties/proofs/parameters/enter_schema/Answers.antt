-- The rows of each list stand in the part of its table from the place on.
use Rattle.card.specs.Represents.{schema_of}
use Rattle.properties.proofs.ParameterRows.{rows_put}
use Rattle.properties.proofs.parameters.enter_schema.Goals as goal

pub returns : goal.returns
unfolding schema_of
returns c =
    record {
      preconditions_are = rows_put _ _ _ c.enter_list.ensures;
      deletes_are = rows_put _ _ _ c.enter_list-2.ensures;
      adds_are = rows_put _ _ _ c.enter_list-3.ensures;
    }
