-- What was skipped changes no look-up of an index of the range.
use Rattle.std.proofs.Common.{arith}
use Rattle.std.proofs.Math.ListN.{length-take}
use Rattle.dictionary.proofs.Skipping.{skip_far}
use Rattle.dictionary.proofs.Entries.skip.Goals as goal

pub returns : goal.returns
returns c =
    let a = c.args in
    let m = rw c.rest.ensures at c.as_chunks.ensures.front_len in
    let n = length-take c.min-most.result c.as_chunks.result.0.now in
    let e = rw (c.as_chunks.ensures.front, c.rest.ensures) at c.count_far.ensures.first in
    (omega arith, λ h. omega (arith, c.count_far.ensures.within), λ index sub seen l h. skip_far a.self.image.now a.low a.high a.self.n a.from c.min-most.result _ c.count_far.result e (omega arith) (omega arith) (omega arith) index sub seen l h)
