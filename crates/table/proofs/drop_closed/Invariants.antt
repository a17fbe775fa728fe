-- What was dropped is what is dropped from the whole row, and each turn leaves fewer records to drop.
use Rattle.picks.specs.Pick.{count}
use Rattle.connection.specs.Among.{is_gone}
use Rattle.table.specs.Row.{drops_first}
use lib.ListN.{length}
use mathlib.Core.Path.{◌≡◌}
use Rattle.table.proofs.drop_closed.Given as goal

abbrev pub invariant-loop-i : goal.invariant-loop-i
invariant-loop-i l = (length l.initial.t ≡ 8) × (length l.t ≡ 8) × (drops_first 8 is_gone l.initial.t ≡ drops_first 8 is_gone l.t)

abbrev pub decreases-loop-i : goal.decreases-loop-i
decreases-loop-i l = count is_gone l.t
