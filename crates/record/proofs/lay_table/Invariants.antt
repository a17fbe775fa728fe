-- After i turns the bytes of the first i records stand at the start.
use Rattle.format.specs.Format.{table_bytes}
use Rattle.octets.specs.Octets.{splice}
use mathlib.Core.Path.{◌≡◌}
use lib.ListN.{take}
use Rattle.record.proofs.lay_table.Given as goal

abbrev pub invariant-loop-i : goal.invariant-loop-i
invariant-loop-i l = l.out ≡ splice 0 (table_bytes (take l.i l.c-items)) l.initial.out
