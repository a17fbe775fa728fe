-- After i turns the bytes of the first i records stand at the start.
use Rattle.format.specs.Format.{table_bytes}
use Rattle.format.proofs.Writing.{splice_whole, length_table, table_more}
use Rattle.octets.proofs.Splice.{splice_none}
use lib.Seq.{take_all}
use native.Mathlib.Numerals.{add-one}
use mathlib.Core.Path.{◌≡◌, sym}
use lib.ListN.{take}
use native.Mathlib.Omega.{arith}
use Rattle.record.proofs.lay_table.Goals as goal

pub loop-i-init : goal.loop-i-init
unfolding table_bytes
loop-i-init c = sym (splice_none 0 c.args.out.now)

pub loop-i-preserved : goal.loop-i-preserved
loop-i-preserved c =
    let l = c.loop-i in
    let a = c.args in
    rw (c.put_record.ensures, l.invariant, add-one l.i) (table_more a.row l.i _ a.out.now (omega arith))

pub returns : goal.returns
returns c =
    let l = c.loop-i in
    let a = c.args in
    let row = a.row in
    let e : take l.i row ≡ row = take_all l.i row (omega arith) in
    rw (l.invariant, e) (splice_whole (table_bytes row) a.out.now (rw (length_table row) (omega (arith, c.requires))))
