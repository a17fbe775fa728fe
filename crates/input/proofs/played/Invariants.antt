-- The turns so far lead from the start to here, within the buffer.
use Rattle.input.specs.Runs.{at_start, Within}
use Rattle.input.specs.Turns.{run, Turns}
use Rattle.input.proofs.played.Given as goal

abbrev pub invariant-loop : goal.invariant-loop
invariant-loop g l =
    Within l.window g.row.N
    × Turns g.P.Player.IsLong g.P.Player.Plays (run l.initial.player (g.R.Read.remaining l.initial.reader) l.initial.input at_start) (run l.player (g.R.Read.remaining l.reader) l.input l.window)
