-- Its number, or past the end.
use Rattle.protocol.specs.declared.Connection.{Connection}
use Rattle.protocol.specs.ConnectionTable.{fresh}
use Rattle.records.proofs.Searches.{record_in, record_past}
use borrow.Author.Tests.{ltb-true, ltb-false}
use mathlib.Core.Path.{sym, ap, ◌∙◌}
use Prim.Native.Nat.{ℕ}
use Rattle.records.proofs.area_at.Goals as goal

abbrev area : Connection → ℕ
area r = r.area

pub returns-in-Some : goal.returns-in-Some
returns-in-Some g c =
    let value = g.R.Record.value in
    let rows = c.args.rows.now in
    let found = c.in-Some.ensures.lookup in
    c.area.ensures ∙ ap (λ r. area (value r)) found.1 ∙ sym (ap area (record_in value rows _ (g.met.R.Record.laws rows) c.args.i (fresh 0) _ (ltb-true _ _ (sym found.0))))

pub returns-in-None : goal.returns-in-None
returns-in-None g c =
    let rows = c.args.rows.now in
    sym (ap area (record_past g.R.Record.value rows _ (g.met.R.Record.laws rows) c.args.i (fresh 0) (ltb-false _ _ (sym c.in-None.ensures.lookup.0))))
