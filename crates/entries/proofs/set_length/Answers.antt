-- A place to which ten cannot be added is behind the end of every slice.
use Rattle.std.proofs.Common.{◌+◌, sym, arith}
use Rattle.octets.proofs.Splice.{splice_out}
use Rattle.octets.specs.Octets.{le_bytes}
use Rattle.entries.proofs.set_length.Goals as goal

pub returns-in_default : goal.returns-in_default
returns-in_default c = let a = c.args in sym (splice_out (a.place + 10) (le_bytes 2 a.n) a.image.now (omega arith))
