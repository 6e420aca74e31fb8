-- Its pieces are the header.
use Rattle.writer.proofs.CardBytes.{whole_header}
use Rattle.writer.proofs.output.write_header.Goals as goal

pub returns : goal.returns
returns c = search whole_header
