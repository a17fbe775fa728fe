-- The place that the search along the eight tells.
use mathlib.Core.Path.{ap, ◌∙◌}
use borrow.Author.Rules.{rules}
use Rattle.std.specs.Prelude.{position}
use Rattle.protocol.specs.ConnectionTable.{is_unused}
use Rattle.table.specs.Row.{unused_place}
use Rattle.row.proofs.Walk.{told_at}
use Rattle.forms.proofs.Table.unused_place.Goals as goal

pub returns : goal.returns
unfolding unused_place
returns g c =
    let h = told_at is_unused (g.Self.Table.rows c.args.self.now) _ c.rows.ensures.eight (c.unused_place.ensures ∙ ap (position is_unused) c.rows.ensures.value) in
    record { place = search (rules, h); inside = search (rules, h) }
