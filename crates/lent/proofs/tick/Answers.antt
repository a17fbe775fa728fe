-- A table of another length is refused, and all is left; else the tick looks at the record that the search found.
use Rattle.std.proofs.Common.{ne_eqb, ◌≡◌, ◌∙◌, rules}
use Rattle.protocol.specs.Coding.{refused}
use Rattle.protocol.specs.ConnectionTable.{chosen}
use Rattle.protocol.specs.Tick.{told_ticked}
use Rattle.row.specs.Row.{place_in}
use Rattle.server.proofs.Calls.{tick_at_chosen}
use Rattle.lent.proofs.OtherLength.{tick_refused}
use Rattle.lent.proofs.Search.{place_found}
use Rattle.lent.proofs.tick.Goals as goal

pub returns-in_err-row : goal.returns-in_err-row
returns-in_err-row c =
    let e = c.in_err-row.ensures.refused in
    let t : told_ticked c.from_residual.result ≡ refused 1 = let r = c.from_residual.ensures in search rules in
    rw t (tick_refused _ _ _ _ _ (ne_eqb _ _ e.0))

pub returns : goal.returns
returns c =
    let found : place_in c.due_place-due.result ≡ chosen c.args.table.now c.args.clock = rw c.due_place-due.ensures (place_found c.args.clock c.args.table.now c.in_ok-row.ensures.long) in
    rw c.copy_from_slice.ensures.after (c.tick_at-called.ensures ∙ (rw c.in_ok-row.ensures.loaded (tick_at_chosen _ _ _ _ _ _ (search (rules, found)))))
