-- What the loop over a template has after a turn and at the end, and a digit of a base.
use Prim.Native.Nat.{ℕ, suc, ◌+◌, ◌%◌, ◌<◌, ◌≤◌}
use native.Mathlib.Omega.{arith}
use native.Mathlib.Nat.{mod-lt, mod-eq_of_lt}
use native.Mathlib.Numerals.{add-one}
use mathlib.Core.Path.{◌≡◌, sym}
use mathlib.Core.List.{List}
use lib.ListN.{length, get_or, drop, drop_of_length-le}
use lib.Seq.{drop-cons}
use Rattle.show.specs.Text.{Page, laid}
use Rattle.show.proofs.Laid.{laid_none, laid_laid}
use Rattle.template.specs.Filled.{letter_text, taken, filled}

module _ (p : Page) (words numbers : List ℕ) (i : ℕ) where
  -- the words from a place on, laid behind those before it
  pub filled_more : i < length words
      → laid p (filled (drop i words) numbers) ≡ laid (laid p (letter_text (get_or words i 0) (get_or numbers 0 0))) (filled (drop (i + 1) words) (drop (taken (get_or words i 0)) numbers))
  unfolding filled
  filled_more h =
      let c = get_or words i 0 in
      rw (add-one i, drop-cons words i 0 h) (sym (laid_laid p (letter_text c (get_or numbers 0 0)) (filled (drop (suc i) words) (drop (taken c) numbers))))

  -- no words are left
  pub filled_end : length words ≤ i → laid p (filled (drop i words) numbers) ≡ p
  unfolding filled
  filled_end h = rw (drop_of_length-le words {i = i} h) (sym (laid_none p))

-- a digit in a base up to 16 is one in hex
pub digit_below : (base n : ℕ) → 0 < base → base ≤ 16 → n % base % 16 ≡ n % base
digit_below base n h k = mod-eq_of_lt (omega (arith, mod-lt n {m = base} h))
