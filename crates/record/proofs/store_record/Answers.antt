-- One of the eight places, or past the end.
use mathlib.Core.Path.{◌≡◌, sym}
use Prim.Native.Nat.{◌*◌}
use lib.ListN.{length}
use Rattle.octets.proofs.Splice.{splice_out}
use Rattle.format.specs.Format.{record_bytes}
use borrow.Author.Rules.{rules}
use native.Mathlib.Omega.{arith}
use Rattle.record.proofs.store_record.Goals as goal

pub returns-else-i-lt8 : goal.returns-else-i-lt8
returns-else-i-lt8 c =
    let a = c.args in
    let l : length a.t.now ≡ 320 = search rules in
    sym (splice_out (40 * a.i) (record_bytes a.c) a.t.now (omega arith))
