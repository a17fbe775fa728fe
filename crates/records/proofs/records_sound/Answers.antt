-- A test of the used records.
use Rattle.std.proofs.Common.{rules, tests, ap, ◌∙◌}
use Rattle.std.proofs.lemmas.Iterator.{YieldsList-from_slice}
use Rattle.std.proofs.lemmas.Iterator.Search.{YieldsList-from_take_while, all_from_yields_List}
use Rattle.std.specs.Slice.Iter.{iter_rest}
use Rattle.protocol.specs.ConnectionTable.{sound_record}
use Rattle.records.proofs.Searches.{sound_rows}
use Rattle.records.proofs.records_sound.Goals as goal

pub returns : goal.returns
returns g c =
    let value = g.R.Record.value in
    let rows = c.args.rows.now in
    all_from_yields_List (λ x. sound_record (value x)) _ _ _ c.all.ensures.ran (YieldsList-from_take_while _ (λ x. (value x).used) (YieldsList-from_slice rows (ap iter_rest c.take_while.ensures.source ∙ c.iter.ensures.rest)) c.take_while.ensures.closure c.take_while.ensures.done (λ x b q k. search (rules, tests))) (λ x b q k. search (rules, tests)) ∙ sound_rows value rows _ (g.met.R.Record.laws rows) c.requires
