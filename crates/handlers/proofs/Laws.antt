-- Lengths of values.
use Prim.Native.Nat.{ℕ, ◌≤◌, min}
use native.Mathlib.Omega.{arith}
use mathlib.Core.List.{List}
use mathlib.Core.Path.{◌≡◌, ap, ◌∙◌}
use lib.ListN.{length, take, length-take}

-- a part is no longer than was asked for
pub part_most : (v : List ℕ) (k : ℕ) (l : List ℕ) → v ≡ take k l → length v ≤ k
part_most v k l e =
    let q : length v ≡ min k (length l) = ap length e ∙ length-take k l in
    omega arith
