-- Bytes in a list: little-endian numbers, and a store that keeps the length.
use Rattle.std.specs.Prelude.{ℕ, zero, suc, ◌+◌, ◌*◌, ◌/◌, ◌%◌, ◌<◌, List, [], ◌∷◌, ◌++◌, length, get_or, take, drop}

-- the number that the bytes stand for, the lowest first
unfoldable pub le : List ℕ → ℕ
le [] = 0
le (x ∷ xs) = x + 256 * le xs

-- the n lowest bytes of a number, the lowest first
unfoldable pub le_bytes : ℕ → ℕ → List ℕ
le_bytes zero v = []
le_bytes (suc n) v = v % 256 ∷ le_bytes n (v / 256)

-- xs with ys in the place of what stood from `at` on; what falls outside is dropped, so that the length stays
unfoldable pub splice : ℕ → List ℕ → List ℕ → List ℕ
splice at ys xs = take (length xs) (take at xs ++ ys ++ drop (at + length ys) xs)

-- every element is a byte
abbrev pub AllBytes : List ℕ → Type 0
AllBytes xs = (i : ℕ) → get_or xs i 0 < 256
