-- What the definitions cut so that code cannot overflow is what it was for every accepted call: a deadline is clock plus timeout times 1,000, and fits a u64; a download begins behind the Initiate's data.
use Prim.Native.Nat.{ℕ, ◌+◌, ◌*◌, ◌≤◌, ◌<◌, min}
use native.Mathlib.Omega.{arith}
use mathlib.Core.Path.{◌≡◌}
use mathlib.Core.List.{List}
use lib.ListN.{length, length-drop}
use Rattle.octets.specs.Octets.{AllBytes}
use Rattle.protocol.specs.Constants.{CLOCK_MAX, OFFSET_MAX, REQUEST_MAX}
use Rattle.protocol.specs.DictionaryImage.{timeout_of}
use Rattle.protocol.specs.TransferRecord.{deadline_after, data_of}
use Rattle.protocol.proofs.DictionaryImage.{timeout_below}

-- for every accepted clock
pub deadline_accepted : (image : List ℕ) (clock : ℕ) → clock ≤ CLOCK_MAX → deadline_after image clock ≡ clock + timeout_of image * 1000
unfolding deadline_after
deadline_accepted image clock h = omega arith

-- no deadline passes 2^64 − 1
pub deadline_fits : (image : List ℕ) (clock : ℕ) → AllBytes image → deadline_after image clock < 18446744073709551616
unfolding deadline_after CLOCK_MAX
deadline_fits image clock g = omega (arith, timeout_below image g)

-- for every payload that an accepted request can have
pub offset_accepted : (p : List ℕ) → length p ≤ REQUEST_MAX → min (length (data_of p)) OFFSET_MAX ≡ length (data_of p)
unfolding REQUEST_MAX OFFSET_MAX
offset_accepted p h = simp length-drop (omega arith)
