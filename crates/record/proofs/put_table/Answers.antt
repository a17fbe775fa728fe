-- Another length, or the table's bytes.
use mathlib.Core.Path.{refl}
use borrow.Author.Tests.{eq-eqb, ne_eqb}
use Rattle.picks.proofs.Picks.{pick_t, pick_f}
use Rattle.record.proofs.put_table.Goals as goal

pub returns-then-out-eq320 : goal.returns-then-out-eq320
returns-then-out-eq320 c = pick_t _ _ _ _ (eq-eqb _ _ c.if-out-eq320.true) c.lay_table.ensures

pub returns-else-out-eq320 : goal.returns-else-out-eq320
returns-else-out-eq320 c = pick_f _ _ _ _ (ne_eqb _ _ c.if-out-eq320.false) refl
