-- Laws of lists and stores, by their elements.
use Prim.Native.Nat.{ℕ, ◌+◌, ◌≤◌, ◌<◌}
use native.Mathlib.Omega.{arith}
use mathlib.Core.Path.{◌≡◌, refl}
use mathlib.Core.Bool.{Bool, true, false}
use mathlib.Core.List.{List}
use lib.ListN.{length, get_or, take, drop, length-take, length-drop}
use lib.Seq.{get_or-take, get_or-drop, ext_get_or}
use lib.Dec.{ltb}
use borrow.Author.Tests.{ltb-true, ltb-false}
use Rattle.octets.specs.Octets.{splice}
use Rattle.octets.proofs.Splice.{get_d_before, get_d_behind}

-- a byte outside a store is untouched
pub get_d_outside : (k at : ℕ) (ys xs : List ℕ) → (at ≤ k → k < at + length ys → ⊥) → get_or (splice at ys xs) k 0 ≡ get_or xs k 0
get_d_outside k at ys xs h = go (ltb k at) refl
  where
    go : (b : Bool) → ltb k at ≡ b → get_or (splice at ys xs) k 0 ≡ get_or xs k 0
    go true e = get_d_before k at ys xs (ltb-true k at e)
    go false e = let n : ¬ (k < at + length ys) = h (ltb-false k at e) in get_d_behind k at ys xs (omega arith)

-- parts at one place are the same where their elements are
pub same_part : (a n : ℕ) (xs ys : List ℕ) → length xs ≡ length ys → ((k : ℕ) → a ≤ k → k < a + n → get_or xs k 0 ≡ get_or ys k 0) → take n (drop a xs) ≡ take n (drop a ys)
same_part a n xs ys l h = ext_get_or 0 (take n (drop a xs)) (take n (drop a ys)) (simp (length-take, length-drop, l)) at_place
  where
    at_place : (i : ℕ) → i < length (take n (drop a xs)) → get_or (take n (drop a xs)) i 0 ≡ get_or (take n (drop a ys)) i 0
    at_place i b =
        let c : i < n = omega (arith, length-take n (drop a xs)) in
        simp (get_or-take, get_or-drop) (h (a + i) (omega arith) (omega arith))
