-- Padded with 0, the bytes read the same.
use Rattle.format.specs.Format.{client_of}
use Rattle.format.proofs.Reading.{client_agrees, padded_agrees}
use mathlib.Core.Path.{ap, ◌∙◌}
use Rattle.clients.proofs.client_of.Goals as goal

pub returns : goal.returns
returns c = c.client_in.ensures ∙ ap client_of c.bytes_at.ensures ∙ client_agrees _ _ (padded_agrees 8 c.args.s.now)
