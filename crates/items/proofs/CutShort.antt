-- An item that is cut short is longer than what there is of it.
use Prim.Native.Nat.{ℕ, ◌≤◌, ◌<◌}
use native.Mathlib.Omega.{arith}
use mathlib.Core.Bool.{Bool, true, false}
use mathlib.Core.List.{List}
use lib.ListN.{length}
use Rattle.picks.specs.Pick.{pick}
use Rattle.format.specs.Format.{byte_at}
use Rattle.items.specs.Items.{by_kind, length_of}

-- the bytes that tell an item's length, and an item of which not even those are there
abbrev pub head_of : List ℕ → ℕ
head_of s = by_kind (byte_at 0 s) 19 1 1 5 1 1 1 1

le_pick : (b : Bool) (x y x' y' : ℕ) → x ≤ x' → y ≤ y' → pick b x y ≤ pick b x' y'
unfolding pick
le_pick true x y x' y' p q = p
le_pick false x y x' y' p q = q

pub cut_short : (s : List ℕ) → length s < head_of s → length s < length_of s
unfolding length_of by_kind
cut_short s h =
    let e : head_of s ≤ length_of s = le_pick _ _ _ _ _ (omega arith) (le_pick _ _ _ _ _ (omega arith) (le_pick _ _ _ _ _ (omega arith) (le_pick _ _ _ _ _ (omega arith) (le_pick _ _ _ _ _ (omega arith) (le_pick _ _ _ _ _ (omega arith) (le_pick _ _ _ _ _ (omega arith) (omega arith))))))) in
    omega (arith, h, e)
