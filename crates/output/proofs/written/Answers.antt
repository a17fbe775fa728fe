-- Each write that takes some bytes takes them behind those before.
use Rattle.std.proofs.Common.{refl}
use Rattle.std.proofs.KnownBytes.{Appends-kept}
use Rattle.output.proofs.Known.{front_grown}
use Rattle.output.proofs.written.Goals.{in-Ok, in-Err}
use Rattle.output.proofs.written.Goals as goal

pub loop-preserved : goal.loop-preserved
loop-preserved g c =
    let i = c.loop.invariant in
    elim c.match-write.branch [
      | in-Ok w ↦ rw w.n-is (front_grown _ _ _ _ _ _ _ i.0 refl i.1 w.in-Ok.ensures.bound w.in-Ok.ensures.bytes)
      | in-Err w ↦ rw w.n-is (i.0, Appends-kept _ _ _ _ i.1 w.in-Err.ensures.bytes)
    ]
