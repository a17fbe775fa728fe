-- The first record that the client's belongs before.
use Rattle.std.proofs.Common.{rules, tests}
use Rattle.std.proofs.lemmas.Iterator.{YieldsList-from_slice}
use Rattle.std.proofs.lemmas.Iterator.Search.{position_from_yields_List}
use Rattle.connection.specs.Among.{is_behind}
use Rattle.records.proofs.Searches.{place_found}
use Rattle.records.proofs.seat_place.Goals as goal

pub returns : goal.returns
returns g c =
    let value = g.R.Record.value in
    let rows = c.args.rows.now in
    let f = (is_behind c.args.client) in
    place_found value rows _ (g.met.R.Record.laws rows) f c.position.result (position_from_yields_List (λ x. f (value x)) _ _ c.position.result c.position.ensures.ran (YieldsList-from_slice rows c.iter.ensures.rest) (λ x b q k. search (rules, tests)))
