-- What was written stands before what waits on.
use Rattle.std.proofs.Common.{rules}
use Rattle.output.proofs.Known.{rest_waits}
use Rattle.output.proofs.Output.write_waiting.Goals as goal

pub returns-clause-kept : goal.returns-clause-kept
returns-clause-kept g c =
    let w = c.written-n in
    rest_waits _ _ _ _ _ _ w.ensures.bound (search rules) c.copy_within.ensures.after w.ensures.bytes
