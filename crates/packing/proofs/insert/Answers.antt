-- Places between, and the records moved up; or none.
use mathlib.Core.Path.{refl, ap, ◌∙◌}
use borrow.Author.Tests.{leb-true, ltb-true}
use Rattle.picks.proofs.Picks.{pick_t, pick_f}
use Rattle.picks.proofs.Keep.{of_both}
use Rattle.format.specs.Format.{table_bytes, table_of}
use Rattle.format.proofs.Ranges.{length_table_of}
use Rattle.packing.proofs.Rows.{inserted}
use native.Mathlib.Omega.{arith}
use Rattle.packing.proofs.insert.Goals as goal

pub returns-then-at-n : goal.returns-then-at-n
returns-then-at-n c =
    let a = c.args in
    let t = table_of a.t.now in
    let p = of_both _ _ c.if-at-n.true in
    let l = ltb-true _ _ p.1 in
    rw (c.store_record.ensures, c.shift.ensures, c.tidy.ensures)
    (inserted a.at a.n a.c t (leb-true _ _ p.0) (omega (arith, length_table_of a.t.now, l)) ∙ ap table_bytes (pick_t _ _ _ _ c.if-at-n.true refl))

pub returns-else-at-n : goal.returns-else-at-n
returns-else-at-n c = c.tidy.ensures ∙ ap table_bytes (pick_f _ _ _ _ c.if-at-n.false refl)
