-- Parts of parts.
use Prim.Native.Nat.{ℕ, zero, suc, ◌+◌, ◌≤◌}
use native.Mathlib.Omega.{arith}
use mathlib.Core.Path.{◌≡◌, refl}
use mathlib.Core.List.{List, [], ◌∷◌}
use lib.ListN.{take, drop}
use lib.Seq.{take-take}

-- a part within the first m
pub part_within : (n k m : ℕ) (r : List ℕ) → k + n ≤ m → take n (drop k (take m r)) ≡ take n (drop k r)
part_within n zero m r h = take-take n m r (omega arith)
part_within n (suc k) zero r h = absurd (omega arith)
part_within n (suc k) (suc m) [] h = refl
part_within n (suc k) (suc m) (x ∷ r) h = part_within n k m r (omega arith)
