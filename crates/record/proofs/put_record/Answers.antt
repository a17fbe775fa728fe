-- The part that is lent on becomes the record's bytes.
use Rattle.format.specs.Format.{record_bytes}
use Rattle.format.proofs.Writing.{length_record}
use Rattle.octets.proofs.Splice.{store_part}
use mathlib.Core.Path.{◌≡◌}
use Prim.Native.Nat.{◌+◌, ◌-◌}
use native.Mathlib.Omega.{arith}
use Rattle.record.proofs.put_record.Goals as goal

pub returns : goal.returns
returns c =
    let a = c.args in let e : a.at + 40 - a.at ≡ 40 = omega arith in rw (c.lay_record.ensures, e) (store_part a.at 40 (record_bytes a.c) a.out.now (length_record a.c) c.requires)
