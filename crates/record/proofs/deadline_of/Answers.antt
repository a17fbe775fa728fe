-- By its flag.
use mathlib.Core.Path.{refl, ap}
use Rattle.std.specs.Prelude.{Some}
use borrow.Author.Tests.{eq-eqb, ne_eqb}
use Rattle.picks.proofs.Picks.{pick_t, pick_f}
use Rattle.record.proofs.deadline_of.Goals as goal

pub returns-then-s-eq1 : goal.returns-then-s-eq1
returns-then-s-eq1 c = pick_t _ _ _ _ (eq-eqb _ _ c.if-s-eq1.true) (ap Some c.number_at.ensures)

pub returns-else-s-eq1 : goal.returns-else-s-eq1
returns-else-s-eq1 c = pick_f _ _ _ _ (ne_eqb _ _ c.if-s-eq1.false) refl
