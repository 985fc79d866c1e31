-- Each arm's text is, by computation, the meaning of its refusal. One answer for each: a tactic on the function that unfolds both definitions, and with a lemma that
-- puts one variant for another, was tried and leaves all fourteen open. Assumes nothing.
use Rattle.meaning.specs.Meaning.{bytes, meaning}
use Rattle.meaning.proofs.meaning.Goals as goal

pub returns-in-Overlong-clause-text : goal.returns-in-Overlong-clause-text
unfolding bytes meaning
returns-in-Overlong-clause-text c = rw c.in-Overlong.is

pub returns-in-Layout-clause-text : goal.returns-in-Layout-clause-text
unfolding bytes meaning
returns-in-Layout-clause-text c = rw c.in-Layout.is

pub returns-in-Crowd-clause-text : goal.returns-in-Crowd-clause-text
unfolding bytes meaning
returns-in-Crowd-clause-text c = rw c.in-Crowd.is

pub returns-in-Length-clause-text : goal.returns-in-Length-clause-text
unfolding bytes meaning
returns-in-Length-clause-text c = rw c.in-Length.is

pub returns-in-Overhang-clause-text : goal.returns-in-Overhang-clause-text
unfolding bytes meaning
returns-in-Overhang-clause-text c = rw c.in-Overhang.is

pub returns-in-Crossing-clause-text : goal.returns-in-Crossing-clause-text
unfolding bytes meaning
returns-in-Crossing-clause-text c = rw c.in-Crossing.is

pub returns-in-Narrow-clause-text : goal.returns-in-Narrow-clause-text
unfolding bytes meaning
returns-in-Narrow-clause-text c = rw c.in-Narrow.is

pub returns-in-ShortSpace-clause-text : goal.returns-in-ShortSpace-clause-text
unfolding bytes meaning
returns-in-ShortSpace-clause-text c = rw c.in-ShortSpace.is

pub returns-in-Broad-clause-text : goal.returns-in-Broad-clause-text
unfolding bytes meaning
returns-in-Broad-clause-text c = rw c.in-Broad.is

pub returns-in-Unmet-clause-text : goal.returns-in-Unmet-clause-text
unfolding bytes meaning
returns-in-Unmet-clause-text c = rw c.in-Unmet.is

pub returns-in-Count-clause-text : goal.returns-in-Count-clause-text
unfolding bytes meaning
returns-in-Count-clause-text c = rw c.in-Count.is

pub returns-in-IllFormed-clause-text : goal.returns-in-IllFormed-clause-text
unfolding bytes meaning
returns-in-IllFormed-clause-text c = rw c.in-IllFormed.is

pub returns-in-Empty-clause-text : goal.returns-in-Empty-clause-text
unfolding bytes meaning
returns-in-Empty-clause-text c = rw c.in-Empty.is

pub returns-in-Inverted-clause-text : goal.returns-in-Inverted-clause-text
unfolding bytes meaning
returns-in-Inverted-clause-text c = rw c.in-Inverted.is
