-- A search that tells no place has none in the row.
use lib.ListN.{length}
use mathlib.Core.Path.{◌≡◌}
use Rattle.table.proofs.Walk.{none_left, told_past}
use Rattle.row.proofs.Walk.{told_at}
use Rattle.picks.specs.Pick.{first}
use Rattle.protocol.specs.ConnectionTable.{is_unused, holds, place_of}
use borrow.Author.Rules.{rules}
use Rattle.table.proofs.is_full.Goals as goal

pub returns : goal.returns
unfolding place_of
returns c =
    let a = c.args in
    let l : length a.t ≡ 8 = search rules in
    let p = told_at (holds a.client) a.t _ l c.place_of.ensures in
    let n = told_at is_unused a.t _ l c.unused_place.ensures in
    let own = told_past _ (first (holds a.client) a.t) _ (search (rules, p)) (search (rules, p)) c.is_none.ensures in
    let free = told_past _ (first is_unused a.t) _ (search (rules, n)) (search (rules, n)) c.is_none-2.ensures in
    rw (own, free, none_left is_unused a.t, l)
