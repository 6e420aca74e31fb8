-- What the writer leaves is followed by what is not lent.
use Rattle.tables.proofs.Fronts.{front_encoded}
use Rattle.tables.proofs.write_to_front.Goals as goal

pub returns : goal.returns
returns c = front_encoded c.encode.ensures
