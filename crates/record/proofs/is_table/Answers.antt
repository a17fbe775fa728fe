-- Another length, or a test of every row.
use Rattle.std.proofs.Common.{rules, tests, ◌∙◌, ne_eqb}
use Rattle.std.proofs.lemmas.Iterator.{YieldsList-from_slice}
use Rattle.std.proofs.lemmas.Iterator.Search.{all_from_yields_List}
use Rattle.picks.proofs.Keep.{all_every}
use Rattle.format.specs.Format.{rows, is_record, is_table}
use Rattle.record.proofs.is_table.Goals as goal

pub returns-in-Some : goal.returns-in-Some
unfolding is_table
returns-in-Some c =
    let w = c.in-Some.ensures.cases in
    let t = c.in-Some.t.now in
    all_from_yields_List is_record _ _ c.all.result c.all.ensures.ran (YieldsList-from_slice (rows 8 0 t) (c.iter.ensures.rest ∙ c.rows.ensures)) (λ x b q k. search (rules, tests)) ∙ all_every is_record (rows 8 0 t) ∙ rw (w.same, w.long)

pub returns-in-None : goal.returns-in-None
unfolding is_table
returns-in-None c = rw (ne_eqb _ _ c.in-None.ensures.cases)
