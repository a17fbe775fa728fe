-- A run plays the bytes that its reads got, one item behind the other: passing an item takes its bytes off the unplayed ones, and a refill puts what it got behind them.
use Rattle.std.proofs.Common.{◌≡◌, ℕ, zero, suc, ◌+◌, ◌-◌, ◌%◌, ◌^◌, ◌<◌, ◌≤◌, true, List, [], ◌∷◌, ◌++◌, length, take, drop, sym, append_assoc, mod-eq_of_lt, arith, length-append, drop-drop, take_at}
use native.Mathlib.Nat.{sub-zero, suc-sub-suc}
use lib.Seq.{take-nil}
use Rattle.picks.specs.Pick.{pick}
use Rattle.input.specs.declared.Window.{Window}
use Rattle.input.specs.Runs.{unplayed_of, behind, Read, refilled_bytes, refilled_window}

-- a part without its first bytes
drop_take : (n m : ℕ) (xs : List ℕ) → drop n (take m xs) ≡ take (m - n) (drop n xs)
drop_take zero m xs = rw (sub-zero m)
drop_take (suc n) zero xs = let e : 0 - suc n ≡ 0 = omega arith in rw e
drop_take (suc n) (suc m) [] = sym (take-nil (suc m - suc n))
drop_take (suc n) (suc m) (x ∷ xs) = rw (suc-sub-suc m n) (drop_take n m xs)

-- an item of n bytes, of those that are unplayed
pub passed_drops : (input : List ℕ) (w : Window) (n : ℕ) → w.start + n ≤ w.end → w.end < 2 ^ 64 → unplayed_of input (behind w n true) ≡ drop n (unplayed_of input w)
unfolding unplayed_of behind pick
passed_drops input w n whole short =
    let start : (w.start + n) % 2 ^ 64 ≡ w.start + n = mod-eq_of_lt (omega (arith, whole, short)) in
    let size : w.end - (w.start + n) ≡ w.end - w.start - n = omega arith in
    rw (start, size, ← drop-drop n w.start input) (sym (drop_take n (w.end - w.start) (drop w.start input)))

-- a refill
pub refill_adds : (f : Read) (input : List ℕ) (w : Window) → unplayed_of (refilled_bytes f input w) (refilled_window f input w) ≡ unplayed_of input w ++ f.got
unfolding unplayed_of refilled_bytes refilled_window
refill_adds f input w =
    let u = unplayed_of input w in
    let g = f.got in
    rw (sub-zero (length u + length g), ← append_assoc u g f.past) (take_at (u ++ g) f.past (length u + length g) (length-append u g))
