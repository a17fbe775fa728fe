-- The first record that is due.
use Rattle.protocol.specs.ConnectionTable.{is_due, chosen}
use Rattle.row.proofs.Walk.{searched}
use Rattle.std.proofs.lemmas.Iterator.{YieldsList-from_slice}
use borrow.Author.Rules.{rules}
use Rattle.row.proofs.due_place.Goals as goal

pub returns : goal.returns
unfolding chosen
returns c =
    let found = searched (is_due c.args.clock) c.args.rows.now _ _ c.position.ensures.ran (YieldsList-from_slice c.args.rows.now c.iter.ensures.rest) (λ x b q k. search rules) in
    search (rules, found)
