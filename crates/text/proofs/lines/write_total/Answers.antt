use Rattle.model.specs.Text.{line_text, items}
use Rattle.text.proofs.lines.write_total.Goals as goal

pub write_pair-requires : goal.write_pair-requires
unfolding line_text items
write_pair-requires c = c.requires

pub returns : goal.returns
unfolding line_text items
returns c = c.write_pair.ensures
