-- What keeps every element a byte.
use Prim.Native.Nat.{ℕ, zero, suc, ◌+◌, ◌/◌}
use native.Mathlib.Omega.{arith}
use mathlib.Core.List.{List, [], ◌∷◌, ◌++◌}
use lib.ListN.{length, take, drop}
use lib.Seq.{get_or-drop}
use lib.Dec.{lit<}
use Rattle.octets.specs.Octets.{le_bytes, splice, AllBytes}

-- the rest of bytes
pub bytes_drop : (n : ℕ) (xs : List ℕ) → AllBytes xs → AllBytes (drop n xs)
bytes_drop n xs h i = rw (get_or-drop n xs i 0) (h (n + i))

-- the front of bytes
pub bytes_take : (n : ℕ) (xs : List ℕ) → AllBytes xs → AllBytes (take n xs)
bytes_take zero xs h i = lit< tt
bytes_take (suc n) [] h i = lit< tt
bytes_take (suc n) (x ∷ xs) h zero = h 0
bytes_take (suc n) (x ∷ xs) h (suc i) = bytes_take n xs (λ j. h (suc j)) i

-- bytes behind bytes
pub bytes_append : (a b : List ℕ) → AllBytes a → AllBytes b → AllBytes (a ++ b)
bytes_append [] b h g i = g i
bytes_append (x ∷ a) b h g zero = h 0
bytes_append (x ∷ a) b h g (suc i) = bytes_append a b (λ j. h (suc j)) g i

-- bytes stored in bytes
pub bytes_splice : (at : ℕ) (ys xs : List ℕ) → AllBytes ys → AllBytes xs → AllBytes (splice at ys xs)
unfolding splice
bytes_splice at ys xs g h =
    let f = take at xs in
    let n : ℕ = at + length ys in
    bytes_take (length xs) (f ++ ys ++ drop n xs)
    (bytes_append (f ++ ys) (drop n xs) (bytes_append f ys (bytes_take at xs h) g) (bytes_drop n xs h))

-- the bytes of a number
pub bytes_le_bytes : (n v : ℕ) → AllBytes (le_bytes n v)
unfolding le_bytes
bytes_le_bytes zero v i = lit< tt
bytes_le_bytes (suc n) v zero = omega arith
bytes_le_bytes (suc n) v (suc i) = bytes_le_bytes n (v / 256) i
