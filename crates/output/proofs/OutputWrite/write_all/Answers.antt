-- Nothing waits, and the bytes are written behind what was.
use Rattle.std.proofs.Common.{arith}
use Rattle.output.proofs.Known.{passed_on}
use Rattle.output.proofs.OutputWrite.write_all.Goals as goal

pub returns-then-bytes-gt-OUTPUT-clause-bytes : goal.returns-then-bytes-gt-OUTPUT-clause-bytes
returns-then-bytes-gt-OUTPUT-clause-bytes g c =
    let k = c.in_ok-reserve.ensures in
    passed_on _ _ _ _ _ _ _ (omega (arith, k.room)) k.kept c.write_all.ensures.bytes
