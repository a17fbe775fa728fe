-- The numbers in wire order as the standard library reads them.
use Prim.Native.Nat.{ℕ}
use native.Mathlib.Omega.{arith}
use mathlib.Core.Path.{◌≡◌}
use mathlib.Core.List.{List, [], ◌∷◌}
use lib.ListN.{drop}
use lib.Seq.{get_or-drop}
use Rattle.std.specs.Int.{w16, w32, w64, from_be_bytes, from_le_bytes}
use Rattle.octets.proofs.Little.{sum_bytes}
use Rattle.format.specs.Format.{byte_at, number_at, big}

-- the six bytes of an address behind two zeros
pub mac_be : (s : List ℕ) → from_be_bytes w64 (0 ∷ 0 ∷ byte_at 2 s ∷ byte_at 3 s ∷ byte_at 4 s ∷ byte_at 5 s ∷ byte_at 6 s ∷ byte_at 7 s ∷ []) ≡ big 6 (drop 2 s)
unfolding big
mac_be s = simp get_or-drop (omega arith)

-- the four of another
pub ip_be : (s : List ℕ) → from_be_bytes w32 (byte_at 1 s ∷ byte_at 2 s ∷ byte_at 3 s ∷ byte_at 4 s ∷ []) ≡ big 4 (drop 1 s)
unfolding big
ip_be s = simp get_or-drop (omega arith)

-- and a port, the lowest byte first
pub port_le : (s : List ℕ) → from_le_bytes w16 (byte_at 5 s ∷ byte_at 6 s ∷ []) ≡ number_at 2 5 s
port_le s = simp get_or-drop at (sum_bytes 1 (drop 5 s))
