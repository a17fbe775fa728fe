-- Bytes in a buffer: its front, the area's filling, the area that a call finds.
use Prim.Native.Nat.{ℕ, zero, suc, ◌+◌, ◌*◌, ◌/◌, ◌%◌, ◌<◌, min}
use native.Mathlib.Omega.{arith}
use native.Mathlib.Numerals.{add-one}
use mathlib.Core.Path.{◌≡◌, refl, ap, ◌∙◌}
use mathlib.Core.List.{List, ◌++◌, append-nil}
use lib.ListN.{length, take, drop, get_or, set, replicate, length-append, length-take, length-replicate, take-append-drop, drop_of_length-le}
use lib.Seq.{append_snoc, drop-append_seam, drop-cons, set_at}
use Rattle.octets.specs.Octets.{splice}
use Rattle.octets.proofs.Splice.{splice_fits}
use Rattle.items.specs.Items.{area_bytes}
use Rattle.script.specs.Playing.{lent_area}

-- what is behind a front that is cut to the buffer's length
pub drop_clamped : (n : ℕ) (xs : List ℕ) → drop (min n (length xs)) xs ≡ drop n xs
drop_clamped n xs = rw (take-append-drop n xs, length-take n xs) at (drop-append_seam (take n xs) (drop n xs))

-- the area's filling: as long as it says, and one byte more
pub length_area_bytes : (b n : ℕ) → length (area_bytes b n) ≡ n
unfolding area_bytes
length_area_bytes b zero = refl
length_area_bytes b (suc n) = rw (length-append, length_area_bytes b n) (add-one n)

pub area_none : (b : ℕ) (xs : List ℕ) → xs ≡ area_bytes b 0 ++ drop 0 xs
unfolding area_bytes
area_none b xs = refl

pub area_more : (b i : ℕ) (xs : List ℕ) → i < length xs → set (area_bytes b i ++ drop i xs) i ((b + 7 * i + i / 256) % 256) ≡ area_bytes b (suc i) ++ drop (suc i) xs
unfolding area_bytes
area_more b i xs h =
    let v = (b + 7 * i + i / 256) % 256 in
    rw (drop-cons xs i 0 h, append_snoc (area_bytes b i) v (drop (suc i) xs)) (set_at (area_bytes b i) (get_or xs i 0) (drop (suc i) xs) v i (length_area_bytes b i))

-- the area that a call finds
pub area_laid : (xs : List ℕ) → length xs ≡ 65600 → splice 65536 (replicate {A = ℕ} 64 0) xs ≡ lent_area xs
unfolding lent_area
area_laid xs h =
    let r : List ℕ = replicate 64 0 in
    let l : length r ≡ 64 = length-replicate {A = ℕ} 64 0 in
    splice_fits 65536 r xs (omega (arith, l)) ∙ ap (λ (ys : List ℕ). take 65536 xs ++ r ++ ys) (drop_of_length-le xs {i = 65536 + length r} (omega (arith, l))) ∙ append-nil (take 65536 xs ++ r)
