-- What std prints of a number is the text that the definitions give it.
use Prim.Native.Nat.{ℕ, zero, suc, ◌+◌, ◌-◌, ◌*◌, ◌/◌, ◌%◌, ◌^◌, ◌≤◌, ◌<◌}
use native.Mathlib.Omega.{arith}
use native.Mathlib.Nat.{pow-suc}
use mathlib.Core.Path.{◌≡◌, refl, sym, ap, ◌∙◌}
use mathlib.Core.Bool.{Bool, true, false}
use mathlib.Core.List.{List, [], ◌∷◌, ◌++◌, append_assoc, append-nil}
use lib.Dec.{ltb}
use lib.ListN.{length, take, replicate}
use lib.Seq.{take_all}
use borrow.Author.Tests.{lt-ltb, le-ltb}
use Rattle.std.specs.Fmt as Fmt
use Rattle.std.specs.Fmt.{digits_onto, sign_text_with, shown_prefix, digit_glyph, padded_integral, format_spec, char_count}
use Rattle.std.proofs.DigitsParse.{digits_onto-nil, digits_onto_last, digits_onto_step}
use Rattle.std.proofs.lemmas.Fmt.{AppendsLastDigit, decimal_from_appends, length-decimal-le}
use Rattle.picks.specs.Pick.{pick}
use Rattle.show.specs.Text.{digits, digit_of, decimal, decimal_text}

-- a number in decimal
appends : AppendsLastDigit decimal
unfolding decimal pick
appends = record {
  one = λ k n h. let e : n % 10 ≡ n = omega arith in rw (lt-ltb n 10 h, e) refl;
  more = λ k n h. rw (le-ltb n 10 h) refl;
}

pub decimal_same : (n : ℕ) → n < 2 ^ 64 → decimal_text n ≡ Fmt.decimal n
decimal_same n h = decimal_from_appends decimal appends 20 n h (length-decimal-le 20 n (omega arith) (omega arith) h)

-- a part that is as long as its text
pub part_whole : (n : ℕ) (xs : List ℕ) → n ≡ length xs → take n xs ≡ xs
part_whole n xs e = take_all n xs (omega arith)

-- a zero more behind zeros
zeros_more : (k : ℕ) → replicate {A = ℕ} k 48 ++ (48 ∷ []) ≡ 48 ∷ replicate {A = ℕ} k 48
zeros_more zero = refl
zeros_more (suc k) = ap (λ z. 48 ∷ z) (zeros_more k)

-- a base of digits, and what is known of it
module _ (upper : Bool) (base : ℕ) (one : base ^ 0 ≡ 1) (high : 0 / base ≡ 0) (low : 0 % base ≡ 0)
    (less : (n m : ℕ) → n < m * base → n / base < m) (glyph : (n : ℕ) → digit_glyph upper (n % base) ≡ digit_of (n % base)) where
  zeros : (k : ℕ) → digits base k 0 ≡ replicate k 48
  unfolding digits pick
  zeros zero = refl
  zeros (suc k) = rw (high, low, zeros k) (zeros_more k)

  -- the digits of a number before others, with zeros in front
  abbrev Onto : ℕ → Type 0
  Onto f = (k n : ℕ) (acc : List ℕ) → suc k ≤ f → n < base ^ suc k
      → digits base (suc k) n ++ acc ≡ replicate (suc k + length acc - length (digits_onto f base upper n acc)) 48 ++ digits_onto f base upper n acc

  -- of a number with more than one digit, by those of the others
  more : (f k m n : ℕ) (acc : List ℕ) → Onto f → suc k ≤ suc f → n < base ^ suc k → n / base ≡ suc m
      → digits base k (n / base) ++ acc ≡ replicate (k + length acc - length (digits_onto f base upper (n / base) acc)) 48 ++ digits_onto f base upper (n / base) acc
  more f zero m n acc onto h l p =
      let b : n < base ^ 0 * base = rw (sym (pow-suc base 0)) l in
      absurd (omega (arith, less n (base ^ 0) b, one, p))
  more f (suc k) m n acc onto h l p =
      let b : n < base ^ suc k * base = rw (sym (pow-suc base (suc k))) l in
      onto k (n / base) acc (omega arith) (less n (base ^ suc k) b)

  by_rest : (f k m n : ℕ) (acc : List ℕ) → Onto f → suc k ≤ suc f → n < base ^ suc k → n / base ≡ m
      → digits base (suc k) n ++ acc ≡ replicate (suc k + length acc - length (digits_onto (suc f) base upper n acc)) 48 ++ digits_onto (suc f) base upper n acc
  unfolding digits
  by_rest f k zero n acc onto h l e =
      let d = digit_of (n % base) in
      let last : digits_onto (suc f) base upper n acc ≡ d ∷ acc = digits_onto_last base upper n acc (suc f) (omega arith) e ∙ ap (λ x. x ∷ acc) (glyph n) in
      let count : suc k + length acc - suc (length acc) ≡ k = omega arith in
      rw (last, count, e, zeros k) (append_assoc (replicate k 48) (d ∷ []) acc)
  by_rest f k (suc m) n acc onto h l e =
      let d = digit_of (n % base) in
      let j : suc f - 1 ≡ f = omega arith in
      let step : digits_onto (suc f) base upper n acc ≡ digits_onto f base upper (n / base) (d ∷ acc) =
      digits_onto_step base upper n acc (suc f) (omega arith) (λ z. absurd (omega (arith, z, e))) ∙ rw (j, glyph n) refl in
      let count : suc k + length acc ≡ k + suc (length acc) = omega arith in
      rw (step, count) (append_assoc (digits base k (n / base)) (d ∷ []) acc ∙ more f k m n (d ∷ acc) onto h l e)

  onto : (f : ℕ) → Onto f
  onto zero k n acc h l = absurd (omega arith)
  onto (suc f) k n acc h l = by_rest f k (n / base) n acc (onto f) h l refl

  -- a number that is filled with zeros to a width
  pub padded : (k n : ℕ) → suc k ≤ 64 → n < base ^ suc k → padded_integral (format_spec 32 0 4 (suc k) (2 ^ 64 - 1)) false [] (Fmt.digits base upper n) ≡ digits base (suc k) n
  unfolding padded_integral char_count
  padded k n h l =
      let s = format_spec 32 0 4 (suc k) (2 ^ 64 - 1) in
      let ds = digits_onto 64 base upper n [] in
      let no_sign : length (sign_text_with s.plus false) ≡ 0 = refl in
      let no_prefix : char_count (shown_prefix s []) ≡ 0 = refl in
      let count : suc k - length ds - 0 - 0 ≡ suc k + 0 - length ds = omega arith in
      rw (sym (digits_onto-nil base upper n), append-nil ds, no_sign, no_prefix, count) (sym (onto 64 k n [] h l) ∙ append-nil (digits base (suc k) n))

glyph_hex : (n : ℕ) → digit_glyph true (n % 16) ≡ digit_of (n % 16)
unfolding pick
glyph_hex n = go (ltb (n % 16) 10) refl
  where
    go : (t : Bool) → ltb (n % 16) 10 ≡ t → digit_glyph true (n % 16) ≡ digit_of (n % 16)
    go true e = rw e refl
    go false e = rw e refl

glyph_ten : (n : ℕ) → digit_glyph false (n % 10) ≡ digit_of (n % 10)
unfolding pick
glyph_ten n = rw (lt-ltb (n % 10) 10 (omega arith)) refl

-- digits in hex, and in decimal
pub hex_padded : (k n : ℕ) → suc k ≤ 64 → n < 16 ^ suc k → padded_integral (format_spec 32 0 4 (suc k) (2 ^ 64 - 1)) false [] (Fmt.digits 16 true n) ≡ digits 16 (suc k) n
hex_padded = padded true 16 refl refl refl (λ n m h. omega arith) glyph_hex

pub ten_padded : (k n : ℕ) → suc k ≤ 64 → n < 10 ^ suc k → padded_integral (format_spec 32 0 4 (suc k) (2 ^ 64 - 1)) false [] (Fmt.decimal n) ≡ digits 10 (suc k) n
ten_padded = padded false 10 refl refl refl (λ n m h. omega arith) glyph_ten

-- the last digits of a number, by those of a remainder
module _ (base k m n : ℕ) where
  cut : n % (base * m) % base ≡ n % base → n % (base * m) / base ≡ n / base % m → digits base k (n / base % m) ≡ digits base k (n / base) → digits base (suc k) (n % (base * m)) ≡ digits base (suc k) n
  unfolding digits
  cut low high more = rw (low, high, more) refl

pub last_six : (n : ℕ) → digits 10 6 (n % 1000000) ≡ digits 10 6 n
unfolding digits
last_six n =
    cut 10 5 100000 n (omega arith) (omega arith)
    (cut 10 4 10000 (n / 10) (omega arith) (omega arith)
    (cut 10 3 1000 (n / 10 / 10) (omega arith) (omega arith)
    (cut 10 2 100 (n / 10 / 10 / 10) (omega arith) (omega arith)
    (cut 10 1 10 (n / 10 / 10 / 10 / 10) (omega arith) (omega arith)
    (cut 10 0 1 (n / 10 / 10 / 10 / 10 / 10) (omega arith) (omega arith) refl)))))

pub last_byte : (n : ℕ) → digits 16 2 (n % 256) ≡ digits 16 2 n
unfolding digits
last_byte n = cut 16 1 16 n (omega arith) (omega arith) (cut 16 0 1 (n / 16) (omega arith) (omega arith) refl)
