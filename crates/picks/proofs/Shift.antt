-- A row of m + 1 elements of which those from a place on are moved up by one, for an element that comes there, or those behind it down by one, for an element that comes last.
use Prim.Native.Nat.{ℕ, suc, ◌+◌, ◌-◌, ◌<◌, ◌≤◌}
use native.Mathlib.Omega.{arith}
use native.Mathlib.Numerals.{add-one}
use mathlib.Core.Path.{◌≡◌, sym, ◌∙◌}
use mathlib.Core.List.{List, [], ◌∷◌, ◌++◌, append_assoc, append-nil}
use lib.ListN.{length, get_or, take, drop, set, drop_of_length-le, length-append, length-drop}
use lib.Seq.{paste, set-append_left, take-set-lt, take-suc-set, length-take-le, take_all, drop-cons, set_at}

module _ {A : Type 0} (t : List A) where
  pub shift_up : (m at : ℕ) (c : A) → length t ≡ suc m → at ≤ m → set (paste t (at + 1) (drop at t) (m - at)) at c ≡ take at t ++ c ∷ take (m - at) (drop at t)
  shift_up m at c l h =
      let p = take (suc at) t in
      let q = take (m - at) (drop at t) in
      let lp : length p ≡ suc at = length-take-le (suc at) t (omega arith) in
      let lpq : at < length (p ++ q) = simp (length-append, lp) (omega arith) in
      let z : drop (suc at + (m - at)) t ≡ [] = drop_of_length-le t {i = suc at + (m - at)} (omega arith) in
      let s : set p at c ≡ take at t ++ (c ∷ []) = sym (take-set-lt (suc at) t at c (omega arith)) ∙ take-suc-set t at c (omega arith) in
      let lpa : at < length p = omega arith in
      rw (add-one at, z, append-nil (p ++ q), set-append_left p q at c lpa, s, append_assoc (take at t) (c ∷ []) q)

  pub shift_down : (m at : ℕ) (c : A) → length t ≡ suc m → at ≤ m → set (paste t at (drop (at + 1) t) (m - at)) m c ≡ take at t ++ drop (suc at) t ++ (c ∷ [])
  shift_down m at c l h =
      let e : at + (m - at) ≡ m = omega arith in
      let f : take (m - at) (drop (suc at) t) ≡ drop (suc at) t = take_all (m - at) (drop (suc at) t) (simp length-drop (omega arith)) in
      let p = take at t ++ drop (suc at) t in
      let lp : length p ≡ m = simp (length-append, length-drop, length-take-le at t (omega arith)) (omega arith) in
      let g : drop m t ≡ get_or t m c ∷ [] = rw (drop-cons t m c (omega arith), drop_of_length-le t {i = suc m} (omega arith)) in
      rw (add-one at, f, e, g) (set_at p (get_or t m c) [] c m lp)
