-- The elements between two places turned up by one, and one put where they stood.
use Prim.Native.Nat.{ℕ, suc, ◌+◌, ◌-◌, ◌<◌, ◌≤◌}
use native.Mathlib.Omega.{arith}
use mathlib.Core.Path.{◌≡◌}
use mathlib.Core.List.{List, [], ◌∷◌, ◌++◌, append_assoc}
use lib.ListN.{length, get_or, take, drop, set, length-drop}
use lib.Seq.{take-suc, take-take, drop-drop, drop_at, set_at, length-take-le}

pub turned_in : {A : Type 0} (t : List A) (at : ℕ) (c : A) (n k : ℕ) → at ≤ n → n < length t → k ≡ n + 1 - at → let m = take k (drop at t) in set (take at t ++ ((drop (length m - 1) m ++ take (length m - 1) m) ++ drop k (drop at t))) at c ≡ take at t ++ (c ∷ take (n - at) (drop at t)) ++ drop (suc n) t
turned_in t at c n k h l e =
    let q = drop at t in
    let j = n - at in
    let lq : j < length q = simp length-drop (omega arith) in
    let ek : k ≡ suc j = omega arith in
    let m : take k q ≡ take j q ++ (get_or q j c ∷ []) = rw ek (take-suc q j c lq) in
    let lm : length (take k q) - 1 ≡ j = rw (length-take-le k q (simp length-drop (omega arith))) (omega arith) in
    let lj : length (take j q) ≡ j = length-take-le j q (omega arith) in
    let d : drop j (take k q) ≡ get_or q j c ∷ [] = rw m (drop_at (take j q) (get_or q j c ∷ []) j lj) in
    let f : take j (take k q) ≡ take j q = take-take j k q (omega arith) in
    let ez : at + k ≡ suc n = omega arith in
    let z : drop k q ≡ drop (suc n) t = rw (← ez) (drop-drop k at t) in
    rw (lm, d, f, z, set_at (take at t) (get_or q j c) (take j q ++ drop (suc n) t) c at (length-take-le at t (omega arith)), append_assoc (take at t) (c ∷ take j q) (drop (suc n) t))
