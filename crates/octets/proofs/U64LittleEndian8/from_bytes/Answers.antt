-- The standard library's number is that of the definition.
use borrow.Author.Rules.{rules}
use native.Mathlib.Omega.{arith}
use Rattle.octets.proofs.Little.{number_of}
use Rattle.octets.proofs.U64LittleEndian8.from_bytes.Goals as goal

pub returns : goal.returns
returns c = omega (arith, number_of 7 c.args.bytes (search rules))
