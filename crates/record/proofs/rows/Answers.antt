-- The library's cuts of 40.
use Rattle.record.proofs.Parts.{rows_cut}
use Rattle.record.proofs.rows.Goals as goal

pub returns : goal.returns
returns c = let same = rw c.unwrap.ensures at c.as_array.ensures.cases in rw (same.same, c.as_chunks.ensures.front, c.told-t) (rows_cut 8 0 c.args.t.now)
