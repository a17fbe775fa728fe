-- A loop that checks each number with those seen so far.
use Rattle.records.proofs.Areas.{unseen, mark}
use Rattle.protocol.specs.ConnectionTable.{areas_once}
use Rattle.picks.specs.Pick.{checks}
use lib.ListN.{length, drop}
use mathlib.Core.Path.{◌≡◌}
use Rattle.records.proofs.areas_once.Given as goal

abbrev pub invariant-loop-r : goal.invariant-loop-r
invariant-loop-r g l =
    let records = g.R.Record.values l.fn.rows in
    (length l.seen ≡ 8) × (areas_once records ≡ checks unseen mark l.seen (drop l.r-index records))
