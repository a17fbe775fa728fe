-- Laws of `splice`, the store that keeps the length. The first four compute it, and the others follow from those.
use Prim.Native.Nat.{ℕ, zero, suc, ◌+◌, ◌-◌, ◌≤◌, ◌<◌, min}
use native.Mathlib.Omega.{arith}
use native.Mathlib.Nat.{add-zero, zero-add, suc-add, sub-zero, suc-sub-suc, suc-min-suc, min_comm}
use mathlib.Core.Path.{◌≡◌, refl, sym, ap, ◌∙◌}
use mathlib.Core.List.{List, [], ◌∷◌, ◌++◌, append_assoc, append-nil}
use lib.ListN.{length, take, drop, get_or, set, length-append, length-take, length-drop, take-append-drop}
use lib.Seq.{take_all, take-length, take-nil, drop-drop, take-append_seam, length-take-le, get_or-take, get_or-drop, drop_at}
use Rattle.octets.specs.Octets.{splice}

-- nothing is stored in an empty list
pub splice_nil : (at : ℕ) (ys : List ℕ) → splice at ys [] ≡ []
unfolding splice
splice_nil at ys = refl

-- what stands before the place stays
pub splice_suc : (at x : ℕ) (ys xs : List ℕ) → splice (suc at) ys (x ∷ xs) ≡ x ∷ splice at ys xs
unfolding splice
splice_suc at x ys xs = rw (suc-add at (length ys))

-- a store of nothing changes nothing
pub splice_none : (at : ℕ) (xs : List ℕ) → splice at [] xs ≡ xs
unfolding splice
splice_none at xs = rw (add-zero at, append-nil (take at xs), take-append-drop at xs) (take-length xs)

-- the first byte stored is the first of the list
pub splice_cons : (y x : ℕ) (ys xs : List ℕ) → splice 0 (y ∷ ys) (x ∷ xs) ≡ y ∷ splice 0 ys xs
unfolding splice
splice_cons y x ys xs = simp zero-add

-- the length stays
pub length_splice : (at : ℕ) (ys xs : List ℕ) → length (splice at ys xs) ≡ length xs
unfolding splice
length_splice at ys xs = simp (length-take, length-append, length-drop) (omega arith)

-- a store of one byte
pub set_splice : (at v : ℕ) (xs : List ℕ) → set xs at v ≡ splice at (v ∷ []) xs
set_splice at v [] = sym (splice_nil at (v ∷ []))
set_splice zero v (x ∷ xs) = rw (splice_cons v x [] xs, splice_none 0 xs)
set_splice (suc at) v (x ∷ xs) = rw (splice_suc at x (v ∷ []) xs, set_splice at v xs)

-- a store and another behind it are one store
pub splice_splice : (at : ℕ) (a b xs : List ℕ) → splice (at + length a) b (splice at a xs) ≡ splice at (a ++ b) xs
splice_splice at a b [] = simp splice_nil
splice_splice (suc at) a b (x ∷ xs) = simp (splice_suc, suc-add, splice_splice at a b xs)
splice_splice zero [] b (x ∷ xs) = simp splice_none
splice_splice zero (y ∷ a) b (x ∷ xs) = simp (zero-add, splice_cons, splice_suc) (ap (λ (l : List ℕ). y ∷ l) (rw zero-add at (splice_splice zero a b xs)))

-- a store over one that is no longer is that store alone
pub splice_over : (at : ℕ) (a b xs : List ℕ) → length a ≤ length b → splice at b (splice at a xs) ≡ splice at b xs
splice_over at a b [] h = simp splice_nil
splice_over (suc at) a b (x ∷ xs) h = simp (splice_suc, splice_over at a b xs h)
splice_over zero [] b (x ∷ xs) h = simp splice_none
splice_over zero (y ∷ a) [] (x ∷ xs) h = absurd (omega arith)
splice_over zero (y ∷ a) (z ∷ b) (x ∷ xs) h = simp splice_cons (ap (λ (l : List ℕ). z ∷ l) (splice_over zero a b xs (omega arith)))

-- what falls outside is dropped
pub splice_clamped : (at : ℕ) (ys xs : List ℕ) → splice at (take (length xs - at) ys) xs ≡ splice at ys xs
splice_clamped at ys [] = simp splice_nil
splice_clamped (suc at) ys (x ∷ xs) = simp (splice_suc, suc-sub-suc, splice_clamped at ys xs)
splice_clamped zero [] (x ∷ xs) = rw take-nil
splice_clamped zero (y ∷ ys) (x ∷ xs) = simp (sub-zero, splice_cons) (ap (λ (l : List ℕ). y ∷ l) (rw sub-zero at (splice_clamped zero ys xs)))

-- a store behind the end changes nothing
pub splice_out : (at : ℕ) (ys xs : List ℕ) → length xs ≤ at → splice at ys xs ≡ xs
splice_out at ys xs h = let e : length xs - at ≡ 0 = omega arith in sym (splice_clamped at ys xs) ∙ rw e (splice_none at xs)

-- a store that fits, as a cut and a paste
pub splice_fits : (at : ℕ) (ys xs : List ℕ) → at + length ys ≤ length xs → splice at ys xs ≡ take at xs ++ ys ++ drop (at + length ys) xs
unfolding splice
splice_fits at ys xs h = take_all (length xs) _ (simp (length-append, length-take, length-drop) (omega arith))

-- a part that is cut to what there is
pub take_clamped : (n : ℕ) (xs : List ℕ) → take (min n (length xs)) xs ≡ take n xs
take_clamped n xs = rw (take-append-drop n xs, length-take n xs) at (take-append_seam (take n xs) (drop n xs))

-- a store of as much as fits
pub splice_cut : (at n : ℕ) (ys xs : List ℕ) → n ≡ min (length ys) (length xs - at) → splice at (take n ys) xs ≡ splice at ys xs
splice_cut at n ys xs e =
    let f : take n ys ≡ take (length xs - at) ys = rw (e, min_comm (length ys) (length xs - at)) (take_clamped (length xs - at) ys) in
    rw f (splice_clamped at ys xs)

-- a store behind the end is one at the end
pub splice_min : (at : ℕ) (ys xs : List ℕ) → splice (min at (length xs)) ys xs ≡ splice at ys xs
splice_min at ys [] = rw (splice_nil at ys, splice_nil (min at 0) ys)
splice_min zero ys (x ∷ xs) = let e : min 0 (length (x ∷ xs)) ≡ 0 = omega arith in rw e refl
splice_min (suc at) ys (x ∷ xs) = rw (suc-min-suc at (length xs), splice_suc (min at (length xs)) x ys xs, splice_suc at x ys xs, splice_min at ys xs)

-- the front of a list with a store is the front with the same store
pub take_splice : (n at : ℕ) (ys xs : List ℕ) → take n (splice at ys xs) ≡ splice at ys (take n xs)
take_splice zero at ys xs = sym (splice_nil at ys)
take_splice (suc n) at ys [] = simp splice_nil
take_splice (suc n) (suc at) ys (x ∷ xs) = simp (splice_suc, take_splice n at ys xs)
take_splice (suc n) zero [] (x ∷ xs) = simp splice_none
take_splice (suc n) zero (y ∷ ys) (x ∷ xs) = simp (splice_cons, take_splice n zero ys xs)

-- the rest of a list with a store in it is the rest with the same store
pub drop_splice : (n at : ℕ) (ys xs : List ℕ) → drop n (splice (n + at) ys xs) ≡ splice at ys (drop n xs)
drop_splice zero at ys xs = rw zero-add
drop_splice (suc n) at ys [] = simp splice_nil
drop_splice (suc n) at ys (x ∷ xs) = simp (suc-add, splice_suc, drop_splice n at ys xs)

-- the front before a store is untouched
pub take_before : (n at : ℕ) (ys xs : List ℕ) → n ≤ at → take n (splice at ys xs) ≡ take n xs
take_before n at ys xs h = take_splice n at ys xs ∙ splice_out at ys (take n xs) (simp length-take (omega arith))

-- the rest behind a store is untouched
pub drop_behind : (n at : ℕ) (ys xs : List ℕ) → at + length ys ≤ n → drop n (splice at ys xs) ≡ drop n xs
drop_behind n at ys [] h = rw splice_nil
drop_behind n zero [] (x ∷ xs) h = rw splice_none
drop_behind zero zero (y ∷ ys) (x ∷ xs) h = absurd (omega arith)
drop_behind zero (suc at) ys (x ∷ xs) h = absurd (omega arith)
drop_behind (suc n) zero (y ∷ ys) (x ∷ xs) h = rw splice_cons (drop_behind n zero ys xs (omega arith))
drop_behind (suc n) (suc at) ys (x ∷ xs) h = rw splice_suc (drop_behind n at ys xs (omega arith))

-- what was stored is read again
pub part_splice : (at : ℕ) (ys xs : List ℕ) → at + length ys ≤ length xs → take (length ys) (drop at (splice at ys xs)) ≡ ys
part_splice at ys xs h =
    let b = drop (at + length ys) xs in
    rw (splice_fits at ys xs h, append_assoc (take at xs) ys b, drop_at (take at xs) (ys ++ b) at (length-take-le at xs (omega arith)))
    (take-append_seam ys b)

-- a part before a store is untouched
pub part_before : (a k at : ℕ) (ys xs : List ℕ) → a + k ≤ at → take k (drop a (splice at ys xs)) ≡ take k (drop a xs)
part_before a k at ys xs h =
    let e : at ≡ a + (at - a) = omega arith in
    rw (e, drop_splice) (take_before k (at - a) ys (drop a xs) (omega arith))

-- a part behind a store is untouched
pub part_behind : (a k at : ℕ) (ys xs : List ℕ) → at + length ys ≤ a → take k (drop a (splice at ys xs)) ≡ take k (drop a xs)
part_behind a k at ys xs h = rw (drop_behind a at ys xs h)

-- a byte before a store is untouched
pub get_d_before : (i at : ℕ) (ys xs : List ℕ) → i < at → get_or (splice at ys xs) i 0 ≡ get_or xs i 0
get_d_before i at ys xs h = rw (← get_or-take at (splice at ys xs) i 0 h, take_before at at ys xs (omega arith)) (get_or-take at xs i 0 h)

-- a byte behind a store is untouched
pub get_d_behind : (i at : ℕ) (ys xs : List ℕ) → at + length ys ≤ i → get_or (splice at ys xs) i 0 ≡ get_or xs i 0
get_d_behind i at ys xs h =
    let f : (l : List ℕ) → get_or (drop i l) 0 0 ≡ get_or l i 0 = λ l. get_or-drop i l 0 0 ∙ rw add-zero in
    sym (f (splice at ys xs)) ∙ rw (drop_behind i at ys xs h) (f xs)

-- a store behind the first a elements
pub splice_after : (a at : ℕ) (ys xs : List ℕ) → take a xs ++ splice at ys (drop a xs) ≡ splice (a + at) ys xs
splice_after a at ys xs =
    let s = splice (a + at) ys xs in
    rw (← take_before a (a + at) ys xs (omega arith), ← drop_splice a at ys xs) (take-append-drop a s)

-- a store within the part of k from a on, said of the whole
pub splice_part : (a k at : ℕ) (ys xs : List ℕ) → at + length ys ≤ k → take a xs ++ (splice at ys (take k (drop a xs)) ++ drop k (drop a xs)) ≡ splice (a + at) ys xs
splice_part a k at ys xs h =
    let d = drop a xs in
    rw (← take_splice k at ys d, ← drop_behind k at ys d h, take-append-drop k (splice at ys d)) (splice_after a at ys xs)

-- a part of k from a on that is stored as a whole, said of the whole
pub store_part : (a k : ℕ) (zs xs : List ℕ) → length zs ≡ k → a + k ≤ length xs → take a xs ++ (zs ++ drop k (drop a xs)) ≡ splice a zs xs
store_part a k zs xs e h = rw (← e, drop-drop, ← append_assoc) (sym (splice_fits a zs xs (rw e h)))
