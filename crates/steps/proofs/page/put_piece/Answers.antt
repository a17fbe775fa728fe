-- Without a size there is no object.
use borrow.Author.Tests.{eq-eqb}
use Rattle.picks.specs.Pick.{pick}
use Rattle.show.specs.Text.{letters}
use Rattle.show.proofs.Laid.{then}
use Rattle.steps.specs.Steps.{piece_text}
use Rattle.steps.proofs.page.put_piece.Goals as goal

pub returns-then-r-eq0 : goal.returns-then-r-eq0
unfolding letters pick piece_text
returns-then-r-eq0 c = rw (eq-eqb _ _ c.if-r-eq0.true) (then _ _ _ c.put-at.ensures c.put.ensures)
