-- A place past the end, and the records moved down.
use mathlib.Core.Path.{ap, sym, ◌∙◌}
use Rattle.table.proofs.Release.{dropped_out}
use Rattle.format.specs.Format.{table_bytes, table_of}
use Rattle.format.proofs.Ranges.{length_table_of}
use Rattle.packing.proofs.Rows.{dropped}
use native.Mathlib.Omega.{arith}
use Rattle.packing.proofs.drop_at.Goals as goal

pub returns-then-i-ge8 : goal.returns-then-i-ge8
returns-then-i-ge8 c =
    let a = c.args in
    c.tidy.ensures ∙ ap table_bytes (sym (dropped_out (table_of a.t.now) a.i (omega (arith, length_table_of a.t.now, c.if-i-ge8.true))))

pub returns : goal.returns
returns c =
    let a = c.args in
    rw (c.store_record.ensures, c.fresh.ensures, c.shift.ensures, c.tidy-2.ensures)
    (dropped a.i a.t.now c.if-i-ge8.false)
