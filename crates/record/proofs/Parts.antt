-- A table's bytes cut into rows of 40, and transfers' parts.
use Prim.Native.Nat.{ℕ, zero, suc, ◌+◌}
use mathlib.Core.Path.{◌≡◌, refl}
use mathlib.Core.List.{List}
use mathlib.Core.Logic.{◌≢◌}
use lib.ListN.{drop, replicate}
use lib.Seq.{drop-drop}
use Rattle.std.specs.Prelude.{Option, None, Some, is_some, unwrap_or}
use Rattle.std.specs.Simd.{first_chunks}
use Rattle.protocol.specs.declared.SdoTransferState.{SdoTransferState}
use Rattle.protocol.specs.declared.SdoServerState.{SdoServerState}
use Rattle.protocol.specs.declared.SdoServerState.TheVariants.{Closed, Opening, Established, SegmentedDownload, SegmentedUpload}
use Rattle.format.specs.Format.{rows, flag, deadline_flag, deadline_time, state_bytes}

pub rows_cut : (n at : ℕ) (s : List ℕ) → first_chunks 40 n (drop at s) ≡ rows n at s
unfolding rows
rows_cut zero at s = refl
rows_cut (suc n) at s = rw (drop-drop 40 at s, rows_cut n (at + 40) s)

-- a deadline's flag and time
pub flag_some : (d : Option ℕ) → flag (is_some d) ≡ deadline_flag d
flag_some None = refl
flag_some (Some n) = refl

pub time_or : (d : Option ℕ) → unwrap_or d 0 ≡ deadline_time d
time_or None = refl
time_or (Some n) = refl

-- a state that is neither upload nor download has no transfer
pub none_written : (s : SdoServerState) → ((t : SdoTransferState) → s ≢ SegmentedDownload t) → ((t : SdoTransferState) → s ≢ SegmentedUpload t) → replicate 26 0 ≡ state_bytes s
unfolding state_bytes
none_written Closed d u = refl
none_written Opening d u = refl
none_written Established d u = refl
none_written (SegmentedDownload t) d u = absurd (d t refl)
none_written (SegmentedUpload t) d u = absurd (u t refl)
