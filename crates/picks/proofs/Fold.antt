-- Laws of a loop that checks a list with a state: what the loop has at its head, after a turn, and at its end.
use Prim.Native.Nat.{ℕ, ◌+◌, ◌<◌, ◌≤◌}
use native.Mathlib.Numerals.{add-one}
use mathlib.Core.Path.{◌≡◌, sym, ◌∙◌}
use mathlib.Core.Bool.{Bool, true, false}
use mathlib.Core.List.{List}
use lib.ListN.{length, get_or, drop, drop_of_length-le}
use lib.Seq.{drop-cons}
use Rattle.picks.specs.Pick.{checks}

module _ {S A : Type 0} (ok : S → A → Bool) (next : S → A → S) (xs : List A) (all : Bool) (s : S) (i : ℕ) (inv : all ≡ checks ok next s (drop i xs)) where
  pub checks_more : (d : A) → i < length xs → ok s (get_or xs i d) ≡ true → all ≡ checks ok next (next s (get_or xs i d)) (drop (i + 1) xs)
  unfolding checks
  checks_more d h t = inv ∙ (rw (drop-cons xs i d h, t, add-one i))

  pub checks_not : (d : A) → i < length xs → ok s (get_or xs i d) ≡ false → false ≡ all
  unfolding checks
  checks_not d h t = sym (inv ∙ (rw (drop-cons xs i d h, t)))

  pub checks_end : length xs ≤ i → true ≡ all
  unfolding checks
  checks_end h = sym (inv ∙ (rw (drop_of_length-le xs h)))
