-- Each byte adds at most 255 to the one sum, and that sum, which stays below 1,110,000, to the other.
use Rattle.std.proofs.Common.{◌+◌, ◌*◌, ◌≤◌}
use Rattle.replay.proofs.transcript.with_block.Given as goal

abbrev pub invariant-loop-byte : goal.invariant-loop-byte
invariant-loop-byte l = (l.bytes ≤ 65520 + 255 * l.byte-index) × (l.sums ≤ 65520 + 1110000 * l.byte-index)
