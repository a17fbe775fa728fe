-- A test of every record and the next, and of the last.
use Rattle.std.proofs.Common.{rules}
use Rattle.std.proofs.lemmas.List.Sorted.{answers_always}
use Rattle.records.proofs.Searches.{both_follow, order_by_rows}
use Rattle.records.proofs.is_ordered.Goals as goal

pub returns : goal.returns
returns g c =
    let value = g.R.Record.value in
    let rows = c.args.rows.now in
    rw (c.is_used.ensures, c.is_fresh.ensures) (order_by_rows value rows _ (g.met.R.Record.laws rows) c.index-rows-7.result _ c.type_inv.rows (c.is_sorted_by.ensures.cases (both_follow value) (answers_always _ _ _ (λ f a r q k. search rules))))
