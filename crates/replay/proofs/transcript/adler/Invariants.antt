-- The sums are remainders after each block.
use Rattle.std.proofs.Common.{◌<◌}
use Rattle.replay.proofs.transcript.adler.Given as goal

abbrev pub invariant-loop-block : goal.invariant-loop-block
invariant-loop-block l = (l.sums.bytes < 65521) × (l.sums.sums < 65521)
