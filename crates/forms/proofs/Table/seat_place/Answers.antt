-- The place that the search along the eight tells.
use mathlib.Core.Path.{ap, ◌∙◌}
use borrow.Author.Rules.{rules}
use Rattle.std.specs.Prelude.{position}
use Rattle.connection.specs.Among.{is_behind}
use Rattle.row.specs.Row.{seat_place}
use Rattle.row.proofs.Walk.{told_at}
use Rattle.forms.proofs.Table.seat_place.Goals as goal

pub returns : goal.returns
unfolding seat_place
returns g c =
    let h = told_at (is_behind c.args.client) (g.Self.Table.rows c.args.self.now) _ c.rows.ensures.eight (c.seat_place.ensures ∙ ap (position (is_behind c.args.client)) c.rows.ensures.value) in
    record { place = search (rules, h); inside = search (rules, h) }
