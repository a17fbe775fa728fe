-- What stands from the place on.
use mathlib.Core.Path.{ap, ◌∙◌}
use Rattle.entries.specs.Reading.{entry_in}
use Rattle.entries.proofs.Reading.{entry_there}
use Rattle.entries.proofs.entry_at.Goals as goal

pub returns : goal.returns
returns c = let a = c.args in c.entry_in.ensures ∙ ap (entry_in a.at) c.rest.ensures ∙ entry_there a.image.now a.at
