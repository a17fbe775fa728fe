-- A record in its place, or past the end.
use Rattle.format.specs.Format.{table_of}
use Rattle.packing.proofs.Rows.{placed_any}
use Rattle.packing.proofs.replace.Goals as goal

pub returns : goal.returns
returns c =
    let a = c.args in
    rw (c.store_record.ensures, c.tidy.ensures) (placed_any a.i a.c (table_of a.t.now))
