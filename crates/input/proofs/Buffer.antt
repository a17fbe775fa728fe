-- Bytes in the input's buffer: a move to the front, and a read behind it.
use Rattle.std.proofs.Common.{◌≡◌, ℕ, ◌+◌, ◌-◌, ◌≤◌, ltb, List, ◌++◌, length, take, drop, sym, ap, ◌∙◌, arith, length-append, length-drop, take-append-drop, length-take, length-take-le, take_at}
use Rattle.octets.proofs.Splice.{take_clamped}
use Rattle.input.specs.declared.Window.{Window}
use Rattle.input.specs.Runs.{unplayed_of, Read, refilled_bytes, refilled_window}

-- what is moved to the front fits, and the read has its place behind it
pub unplayed_fits : (input : List ℕ) (w : Window) → length (unplayed_of input w) ≤ length input - w.start
unfolding unplayed_of
unplayed_fits input w = rw (length-take, length-drop) (omega arith)

pub moved_fits : (n s : ℕ) (xs : List ℕ) → n ≤ length xs - s → n ≤ length (take n (drop s xs) ++ drop n xs)
moved_fits n s xs h = simp (length-append, length-take, length-drop) (omega arith)

pub front_kept : (n : ℕ) (xs ys : List ℕ) → n ≤ length xs → take n (take n xs ++ ys) ≡ take n xs
front_kept n xs ys h = take_at (take n xs) ys n (length-take-le n xs h)

-- a read behind what is moved to the front, and what is known of the bytes that came
pub refill : (C : List ℕ → Type 0) (input moved after : List ℕ) (w r : Window) (n got : ℕ) → n ≡ length (unplayed_of input w) → moved ≡ take n (drop w.start input) ++ drop n input → n + got ≤ length after → take n after ≡ take n moved → r ≡ record { start = 0; end = n + got; at = w.at; going = ltb 0 got } → C (take got (drop n after)) → (f : Read) × (after ≡ refilled_bytes f input w) × (r ≡ refilled_window f input w) × C f.got
unfolding unplayed_of refilled_bytes refilled_window
refill C input moved after w r n got en em fits kept er came =
    let m = w.end - w.start in
    let ys = drop w.start input in
    let front : take n ys ≡ take m ys = rw (en, length-take m ys) (take_clamped m ys) in
    let long : length (take n ys) ≡ n = rw front (sym en) in
    let moves : take n moved ≡ take m ys = rw em (take_at (take n ys) (drop n input) n long) ∙ front in
    let g = take got (drop n after) in
    let lg : length g ≡ got = length-take-le got (drop n after) (rw length-drop (omega arith)) in (
      record { got = g; past = drop got (drop n after) },
      sym (ap (λ (xs : List ℕ). xs ++ (g ++ drop got (drop n after))) (sym moves ∙ sym kept) ∙ ap (λ (xs : List ℕ). take n after ++ xs) (take-append-drop got (drop n after)) ∙ take-append-drop n after),
      rw (lg, ← en) er,
      came,
    )
