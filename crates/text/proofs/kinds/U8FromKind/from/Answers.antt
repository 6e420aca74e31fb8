-- A letter for each kind.
use Rattle.model.specs.Text.{kind_letter}
use Rattle.text.specs.Kinds.{kind_says}
use Rattle.text.proofs.kinds.U8FromKind.from.Goals as goal

pub returns-in-Static : goal.returns-in-Static
unfolding kind_letter kind_says
returns-in-Static c = rw c.in-Static.is

pub returns-in-Attribute : goal.returns-in-Attribute
unfolding kind_letter kind_says
returns-in-Attribute c = rw c.in-Attribute.is

pub returns-in-Property : goal.returns-in-Property
unfolding kind_letter kind_says
returns-in-Property c = rw c.in-Property.is

pub returns-in-Mixed : goal.returns-in-Mixed
unfolding kind_letter kind_says
returns-in-Mixed c = rw c.in-Mixed.is

pub returns-in-Wide : goal.returns-in-Wide
unfolding kind_letter kind_says
returns-in-Wide c = rw c.in-Wide.is

pub returns-in-Rescued : goal.returns-in-Rescued
unfolding kind_letter kind_says
returns-in-Rescued c = rw c.in-Rescued.is
