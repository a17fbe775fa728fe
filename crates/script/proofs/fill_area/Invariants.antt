-- After i turns the first i bytes are set.
use Rattle.std.proofs.Common.{◌≡◌, ◌++◌, length, drop}
use Rattle.items.specs.Items.{area_bytes}
use Rattle.script.proofs.fill_area.Given as goal

abbrev pub invariant-loop-i : goal.invariant-loop-i
invariant-loop-i l = (length l.byte-items ≡ 65536) × (l.byte-items ≡ area_bytes l.b l.i ++ drop l.i l.initial.byte-items)
