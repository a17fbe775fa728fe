-- Eight fresh records.
use Rattle.std.proofs.Common.{rules}
use Rattle.std.proofs.lemmas.List.FromFn.{fill_by_all}
use Rattle.protocol.specs.ConnectionTable.{fresh, empty_table}
use Rattle.record.proofs.empty_table.Goals as goal

pub returns : goal.returns
unfolding empty_table
returns c =
    let made = c.from_fn.ensures.items in
    fill_by_all fresh c.from_fn.result 8 (fresh 0) made.long (λ k h. let called = made.at k (fresh 0) h in search rules)
