-- The row that a request leaves is made of its records.
use Rattle.picks.specs.Pick.{pick}
use Rattle.server.proofs.Accepting.{called_of, row_left}
use mathlib.Core.Path.{ap, ◌∙◌}
use Rattle.server.proofs.handle_request.Goals as goal

pub returns : goal.returns
unfolding pick
returns c =
    let a = c.args in
    ap called_of (c.request_on-outcome.ensures ∙ row_left a.client a.clock a.request.now a.image.now a.answer.now a.t a.area.now)
