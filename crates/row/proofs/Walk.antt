-- Laws of searches along a row, and of its earliest deadline.
use Prim.Native.Nat.{ℕ, suc, ◌+◌, ◌<◌, ◌≤◌}
use native.Mathlib.Omega.{arith}
use mathlib.Core.Path.{◌≡◌, refl, ◌∙◌}
use mathlib.Core.Bool.{Bool, true, false}
use mathlib.Core.List.{List, [], ◌∷◌}
use lib.ListN.{length}
use denote.Ref.{Bor}
use denote.Param.Members.{Mut}
use lib.Dec.{ltb}
use borrow.Author.Tests.{ltb-true, ltb-false}
use Rattle.std.specs.Prelude.{Option, Some, None, IfSome, cond, min}
use Rattle.std.specs.List.{position, position_or_len, filter_map, cons_option, reduce, FoldsTo}
use Rattle.std.specs.List as L
use Rattle.std.specs.Fn.{Called}
use Rattle.std.specs.Option.{MatchOption}
use Rattle.std.specs.Iterator.{YieldsThen}
use Rattle.std.proofs.lemmas.Iterator.{YieldsList}
use Rattle.std.proofs.lemmas.Iterator.Search.{position_from_yields_List}
use Rattle.std.proofs.lemmas.List.Recursion.{is_position_or_len}
use Rattle.picks.specs.Pick.{pick, first, fold}
use Rattle.picks.proofs.Keep.{by_test, first_le}
use Rattle.protocol.specs.declared.Connection.{Connection}
use Rattle.protocol.specs.ConnectionTable.{earlier, deadline_of, earliest}
use Rattle.row.specs.Row.{place_in, due_in}

-- what std's `position` finds in a list of any length, and in a row of eight
first_position : {A : Type 0} (f : A → Bool) (xs : List A) → first f xs ≡ position_or_len f xs
unfolding first pick
first_position f xs = is_position_or_len (first f) f refl (λ y ys. turn (f y) (first f ys)) xs
  where
    turn : (b : Bool) (n : ℕ) → pick b 0 (suc n) ≡ cond b 0 (1 + n)
    turn true n = refl
    turn false n = omega arith

pub found_in : {A : Type 0} (f : A → Bool) (xs : List A) (r : Option ℕ) → r ≡ position f xs → r ≡ due_in (first f xs) (length xs)
unfolding pick
found_in f xs r e =
    e ∙ (rw (first_position f xs) (choice (ltb (position_or_len f xs) (length xs))))
  where
    choice : (b : Bool) → cond b (Some (position_or_len f xs)) None ≡ pick b (Some (position_or_len f xs)) None
    choice true = refl
    choice false = refl

pub told_in : {A : Type 0} (f : A → Bool) (xs : List A) (r : Option ℕ) → length xs ≡ 8 → r ≡ due_in (first f xs) (length xs) → (place_in r ≡ first f xs) × IfSome r (λ i. i < 8)
unfolding pick
told_in f xs r l e = rw (e, l) (told (first f xs) (rw (← l) (first_le f xs)))
  where
    told : (i : ℕ) → i ≤ 8 → (place_in (due_in i 8) ≡ i) × IfSome (due_in i 8) (λ k. k < 8)
    told i h = by_test (ltb i 8) (λ t. rw t (refl, ltb-true i 8 t)) (λ t. rw t (omega (arith, ltb-false i 8 t, h), tt))

pub told_at : {A : Type 0} (f : A → Bool) (xs : List A) (r : Option ℕ) → length xs ≡ 8 → r ≡ position f xs → (place_in r ≡ first f xs) × IfSome r (λ i. i < 8)
told_at f xs r l e = told_in f xs r l (found_in f xs r e)

-- what `position` finds by a closure that is the test
module _ {S F : Type 0} {steps : S → Option (Bor Connection) → S → Type 0} {g : Mut F (Bor Connection × Unit {0}) Bool} {p : F} {s : S} (f : Connection → Bool) (t : List Connection) (u : S) (r : Option ℕ) (ran : (xs : List (Bor Connection)) × (o : Option (Bor Connection)) × (j : F) × YieldsThen steps s xs o u × FoldsTo (λ p x q. Called g p (x, tt) false q) p xs j × MatchOption o (r ≡ None) (λ x. (r ≡ Some (length xs)) × ((h : F) × Called g j (x, tt) true h))) (rows : YieldsList steps (λ y. y.now) s t) (so : (x : Bor Connection) (b : Bool) (q : F) → Called g p (x, tt) b q → (q ≡ p) × (b ≡ f x.now)) where
  pub searched : r ≡ due_in (first f t) (length t)
  searched = found_in f t r (position_from_yields_List f u p r ran rows so)

  pub searched_eight : length t ≡ 8 → place_in r ≡ first f t
  searched_eight l = (told_in f t r l searched).0

-- the least of the deadlines that are there is the earliest
abbrev sooner : Option ℕ → Connection → Option ℕ
sooner d r = earlier d (deadline_of r)

least_from : (n : ℕ) (t : List Connection) → Some (L.fold min n (filter_map deadline_of t)) ≡ fold sooner (Some n) t
unfolding fold pick
least_from n [] = refl
least_from n (r ∷ rs) = one (deadline_of r) (λ k. least_from k rs)
  where
    least : (m : ℕ) → min n m ≡ pick (ltb m n) m n
    least m = by_test (ltb m n) (λ t. rw t (omega (arith, ltb-true m n t))) (λ t. rw t (omega (arith, ltb-false m n t)))

    one : (d : Option ℕ) → ((k : ℕ) → Some (L.fold min k (filter_map deadline_of rs)) ≡ fold sooner (Some k) rs) → Some (L.fold min n (cons_option d (filter_map deadline_of rs))) ≡ fold sooner (earlier (Some n) d) rs
    one None h = h n
    one (Some m) h = rw (← least m) (h (min n m))

pub least_earliest : (t : List Connection) → reduce min (filter_map deadline_of t) ≡ earliest t
unfolding fold earliest
least_earliest [] = refl
least_earliest (r ∷ rs) = one (deadline_of r) (least_earliest rs)
  where
    one : (d : Option ℕ) → reduce min (filter_map deadline_of rs) ≡ earliest rs → reduce min (cons_option d (filter_map deadline_of rs)) ≡ fold sooner (earlier None d) rs
    one None h = h
    one (Some m) h = least_from m rs
