-- Laws of little-endian numbers, over the width.
use Prim.Native.Nat.{ℕ, zero, suc, ◌+◌, ◌*◌, ◌/◌, ◌%◌, ◌^◌, ◌<◌, ◌≤◌}
use native.Mathlib.Omega.{arith}
use native.Mathlib.Nat.{pow-suc, pow-succ', mul_assoc, zero-add, suc-add, mul-pos, div-div-eq-div-mul, div-one, mod-one, mod-eq_of_lt}
use mathlib.Core.Path.{◌≡◌, refl, sym, ap, ◌∙◌}
use mathlib.Core.List.{List, [], ◌∷◌, ◌++◌}
use lib.ListN.{length, take, drop, get_or, replicate}
use lib.Seq.{take-nil, take_all}
use lib.Dec.{lit<}
use lib.Arith.{mod-mul}
use Rattle.std.specs.Int.{byte_worth, bytes_low_first, sum_through}
use Rattle.octets.specs.Octets.{le, le_bytes, splice, AllBytes}
use Rattle.octets.proofs.Splice.{splice_nil, splice_none, splice_cons}

-- one byte more below two numbers is one more below the first
carry : (x p n r : ℕ) → x + 256 * (p + 256 ^ n * r) ≡ x + 256 * p + 256 ^ suc n * r
carry x p n r = omega (arith, mul_assoc 256 (256 ^ n) r, ap (λ (k : ℕ). k * r) (pow-succ' 256 n))

-- a power of 256 is not zero
pub pow_pos : (n : ℕ) → 0 < 256 ^ n
pow_pos zero = lit< tt
pow_pos (suc n) = rw (pow-suc 256 n) (mul-pos (pow_pos n) (lit< tt))

-- the number of two lists, one behind the other
pub le_append : (a b : List ℕ) → le (a ++ b) ≡ le a + 256 ^ length a * le b
unfolding le
le_append [] b = omega arith
le_append (x ∷ a) b = rw (le_append a b) (carry x (le a) (length a) (le b))

-- a number of n + m bytes is one of n and one of m
pub le_split : (n m : ℕ) (xs : List ℕ) → le (take (n + m) xs) ≡ le (take n xs) + 256 ^ n * le (take m (drop n xs))
unfolding le
le_split zero m xs = rw (zero-add m) (omega arith)
le_split (suc n) m [] = simp (suc-add, take-nil) (omega arith)
le_split (suc n) m (x ∷ xs) = rw (suc-add n m, le_split n m xs) (carry x (le (take n xs)) n (le (take m (drop n xs))))

-- the number of one byte is the byte
pub le_byte : (at : ℕ) (xs : List ℕ) → get_or xs at 0 ≡ le (take 1 (drop at xs))
unfolding le
le_byte zero [] = refl
le_byte (suc at) [] = refl
le_byte zero (x ∷ xs) = omega arith
le_byte (suc at) (x ∷ xs) = le_byte at xs

-- a number of n bytes is below 256 ^ n
pub le_bound : (n : ℕ) (xs : List ℕ) → AllBytes xs → le (take n xs) < 256 ^ n
unfolding le
le_bound zero xs h = lit< tt
le_bound (suc n) [] h = pow_pos (suc n)
le_bound (suc n) (x ∷ xs) h = omega (arith, h 0, le_bound n xs (λ i. h (suc i)), pow-succ' 256 n)

-- n bytes of a number stand for its remainder
pub le_le_bytes : (n v : ℕ) → le (le_bytes n v) ≡ v % 256 ^ n
unfolding le le_bytes
le_le_bytes zero v = sym (mod-one v)
le_le_bytes (suc n) v = rw (le_le_bytes n (v / 256), pow-suc 256 n, mod-mul v (pow_pos n) (lit< tt)) (omega arith)

-- and for the number itself where it fits
pub le_le_bytes_below : (n v : ℕ) → v < 256 ^ n → le (le_bytes n v) ≡ v
le_le_bytes_below n v h = le_le_bytes n v ∙ mod-eq_of_lt h

-- the bytes of a list's number are the list
pub le_bytes_le : (n : ℕ) (xs : List ℕ) → length xs ≡ n → AllBytes xs → le_bytes n (le xs) ≡ xs
unfolding le le_bytes
le_bytes_le zero [] e h = refl
le_bytes_le (suc n) [] e h = absurd (omega arith)
le_bytes_le zero (x ∷ xs) e h = absurd (omega arith)
le_bytes_le (suc n) (x ∷ xs) e h =
    let b = h 0 in
    let l : (x + 256 * le xs) % 256 ≡ x = omega arith in
    let r : (x + 256 * le xs) / 256 ≡ le xs = omega arith in
    rw (l, r, le_bytes_le n xs (omega arith) (λ i. h (suc i)))

-- the n lowest bytes are n
pub length_le_bytes : (n v : ℕ) → length (le_bytes n v) ≡ n
unfolding le_bytes
length_le_bytes zero v = refl
length_le_bytes (suc n) v = ap suc (length_le_bytes n (v / 256))

-- the standard library's sum of bytes is their number
pub sum_bytes : (n : ℕ) (xs : List ℕ) → sum_through (λ i. byte_worth i (get_or xs i 0)) n ≡ le (take (suc n) xs)
sum_bytes zero xs = le_byte 0 xs
sum_bytes (suc n) xs =
    let e : suc (suc n) ≡ suc n + 1 = omega arith in
    rw (e, le_split (suc n) 1 xs, sum_bytes n xs, le_byte (suc n) xs) (omega arith)

pub number_of : (n : ℕ) (xs : List ℕ) → length xs ≡ suc n → sum_through (λ i. byte_worth i (get_or xs i 0)) n ≡ le xs
number_of n xs e = sum_bytes n xs ∙ ap le (take_all (suc n) xs (omega arith))

-- and its bytes of a number, from byte i on, are those of the number without the bytes before
bytes_from : (i n v : ℕ) → bytes_low_first i n v ≡ le_bytes n (v / 256 ^ i)
unfolding le_bytes
bytes_from i zero v = refl
bytes_from zero (suc n) v = rw (bytes_from 1 n v, div-one v) refl
bytes_from (suc i) (suc n) v = rw (bytes_from (suc (suc i)) n v, div-div-eq-div-mul v (256 ^ suc i) 256, pow-suc 256 (suc i)) refl

pub low_bytes : (n v : ℕ) → bytes_low_first 0 n v ≡ le_bytes n v
low_bytes n v = bytes_from 0 n v ∙ rw (div-one v)

-- zeros are the number 0
le_zeros : (n : ℕ) → le (replicate n 0) ≡ 0
unfolding le
le_zeros zero = refl
le_zeros (suc n) = rw (le_zeros n) refl

-- bytes that are laid over n zeros
pub laid : (n : ℕ) (xs : List ℕ) → n ≤ length xs → take n xs ≡ splice 0 xs (replicate n 0)
laid zero xs h = sym (splice_nil 0 xs)
laid (suc n) [] h = absurd (omega arith)
laid (suc n) (x ∷ xs) h = rw (splice_cons x 0 xs (replicate n 0)) (ap (λ (l : List ℕ). x ∷ l) (laid n xs (omega arith)))

pub le_laid : (n : ℕ) (xs : List ℕ) → le (splice 0 xs (replicate n 0)) ≡ le (take n xs)
unfolding le
le_laid zero xs = rw (splice_nil 0 xs)
le_laid (suc n) [] = rw (splice_none 0 (replicate (suc n) 0)) (le_zeros (suc n))
le_laid (suc n) (x ∷ xs) = rw (splice_cons x 0 xs (replicate n 0), le_laid n xs)
