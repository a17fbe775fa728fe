-- The client's place is not behind the first unused record, and both are in the row.
use Rattle.table.proofs.Moves.{seat_told, joined_made, joined_full}
use Rattle.picks.proofs.Picks.{pick_t}
use Rattle.picks.proofs.Keep.{both}
use borrow.Author.Tests.{le-leb, lt-ltb}
use Rattle.protocol.specs.ConnectionTable.{is_unused}
use Rattle.connection.specs.Among.{is_behind}
use Rattle.row.specs.Row.{seat_place}
use Rattle.row.proofs.Walk.{told_at}
use Rattle.table.specs.Row.{unused_place}
use lib.ListN.{length}
use mathlib.Core.Path.{◌≡◌, refl, sym, ◌∙◌}
use borrow.Author.Rules.{rules}
use native.Mathlib.Omega.{arith}
use Rattle.table.proofs.joined.Goals as goal

pub returns-in_default : goal.returns-in_default
unfolding unused_place
returns-in_default c =
    let a = c.args in
    let l : length a.t ≡ 8 = search rules in
    let n = told_at is_unused a.t _ l c.in_default.ensures in
    joined_full a.client a.t (omega (arith, n.0))

pub returns : goal.returns
unfolding unused_place seat_place
returns c =
    let a = c.args in
    let l : length a.t ≡ 8 = search rules in
    let n = told_at is_unused a.t _ l c.in-Some.ensures in
    let h = seat_told a.client a.t c.seat_place.result _ _ c.unwrap_or-at.ensures (told_at (is_behind a.client) a.t _ l c.seat_place.ensures).0 n.0 n.1 in
    joined_made a.client a.t _ _ _ _ _ (omega (arith, n.1)) n.0 h.0 c.joining-c.ensures (c.inserted.ensures ∙ sym (pick_t _ _ _ _ (both (le-leb _ _ h.1) (lt-ltb _ _ n.1)) refl))
