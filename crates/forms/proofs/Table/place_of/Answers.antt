-- The place that the search along the eight tells.
use mathlib.Core.Path.{ap, ◌∙◌}
use borrow.Author.Rules.{rules}
use Rattle.std.specs.Prelude.{position}
use Rattle.protocol.specs.ConnectionTable.{holds, place_of}
use Rattle.row.proofs.Walk.{told_at}
use Rattle.forms.proofs.Table.place_of.Goals as goal

pub returns : goal.returns
unfolding place_of
returns g c =
    let h = told_at (holds c.args.client) (g.Self.Table.rows c.args.self.now) _ c.rows.ensures.eight (c.place_of.ensures ∙ ap (position (holds c.args.client)) c.rows.ensures.value) in
    record { place = search (rules, h); inside = search (rules, h) }
