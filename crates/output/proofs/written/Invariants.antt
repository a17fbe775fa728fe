-- What is written so far is in the writer.
use Rattle.std.proofs.Common.{◌≤◌, length, take}
use Rattle.std.specs.Io.KnownBytes.{Appends}
use Rattle.output.proofs.written.Given as goal

abbrev pub invariant-loop : goal.invariant-loop
invariant-loop g l =
    (l.n ≤ length l.bytes) × Appends (g.W.Write.contents l.initial.to) (g.W.Write.contents l.to) (take l.n l.bytes)
