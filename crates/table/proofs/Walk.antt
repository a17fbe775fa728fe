-- Laws of searches and loops over the places of a row.
use Prim.Native.Nat.{ℕ, zero, suc, ◌<◌}
use native.Mathlib.Omega.{arith}
use mathlib.Core.Path.{◌≡◌, refl, sym, ap, ◌∙◌}
use mathlib.Core.Bool.{Bool, true, false, not}
use mathlib.Core.List.{List, [], ◌∷◌}
use lib.ListN.{length, get_or}
use lib.Dec.{ltb, eqb}
use borrow.Author.Tests.{lt-ltb, ne_eqb}
use Rattle.std.specs.Prelude.{Option, Some, None, IfSome, is_some}
use Rattle.picks.specs.Pick.{keep, first}
use Rattle.picks.proofs.Keep.{first_there}
use Rattle.row.specs.Row.{place_in}

-- a place of the row has its element, whatever stands past the end
pub get_d_any : {A : Type 0} (xs : List A) (i : ℕ) (d e : A) → i < length xs → get_or xs i d ≡ get_or xs i e
get_d_any [] i d e h = absurd (omega arith)
get_d_any (x ∷ xs) zero d e h = refl
get_d_any (x ∷ xs) (suc i) d e h = get_d_any xs i d e (omega arith)

-- none passes where the first that does stands past the end
pub none_left : {A : Type 0} (f : A → Bool) (xs : List A) → eqb (length (keep f xs)) 0 ≡ not (ltb (first f xs) (length xs))
none_left f xs = rw (first_there f xs) (go (length (keep f xs)))
  where
    go : (n : ℕ) → eqb n 0 ≡ not (ltb 0 n)
    go zero = refl
    go (suc n) = ne_eqb (suc n) 0 (λ e. absurd (omega arith)) ∙ sym (ap not (lt-ltb 0 (suc n) (omega arith)))

-- whether a search told a place, by the number that the place is
pub told_inside : (r : Option ℕ) (n : ℕ) → place_in r ≡ n → IfSome r (λ i. i < 8) → is_some r ≡ ltb n 8
told_inside None n e h = rw (← e)
told_inside (Some i) n e h = rw (← e, lt-ltb i 8 h)

pub told_past : (r : Option ℕ) (n : ℕ) (b : Bool) → place_in r ≡ n → IfSome r (λ i. i < 8) → is_some r ≡ not b → b ≡ not (ltb n 8)
told_past r n b e h p = turn b (sym (told_inside r n e h) ∙ p)
  where
    turn : {x : Bool} (y : Bool) → x ≡ not y → y ≡ not x
    turn true q = rw q
    turn false q = rw q
