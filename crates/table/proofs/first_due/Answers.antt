-- The search of any number of records, of eight.
use Rattle.protocol.specs.ConnectionTable.{is_due, chosen}
use Rattle.row.proofs.Walk.{told_in}
use borrow.Author.Rules.{rules}
use Rattle.table.proofs.first_due.Goals as goal

pub returns : goal.returns
unfolding chosen
returns c =
    let h = told_in (is_due c.args.clock) c.args.t _ (search rules) c.due_place.ensures in
    record { place = h.0; inside = h.1 }
