-- A place in the row, from which on the records turn down by one, then a store; or one past its end.
use Rattle.protocol.specs.ConnectionTable.{fresh}
use Rattle.table.proofs.Moves.{turned_down}
use Rattle.table.proofs.Release.{dropped_made, dropped_out}
use lib.ListN.{length, get_or, set}
use mathlib.Core.Path.{◌≡◌, refl, sym, ap}
use mathlib.Core.List.{List, [], ◌∷◌}
use Prim.Native.Nat.{ℕ, zero, suc}
use Rattle.protocol.specs.declared.Connection.{Connection}
use borrow.Author.Rules.{rules}
use native.Mathlib.Omega.{arith}
use Rattle.table.proofs.dropped_at.Goals as goal

-- a store in the place of another, and one of what stands there: for a body that stores twice, as that of the edit dropped_number_before_the_last, which so is refused for what it stores
set_again : (xs : List Connection) (i : ℕ) (a b : Connection) → set (set xs i a) i b ≡ set xs i b
set_again [] i a b = refl
set_again (x ∷ xs) zero a b = refl
set_again (x ∷ xs) (suc i) a b = ap (λ (l : List Connection). x ∷ l) (set_again xs i a b)

set_own : (xs : List Connection) (i : ℕ) (d : Connection) → set xs i (get_or xs i d) ≡ xs
set_own [] i d = refl
set_own (x ∷ xs) zero d = refl
set_own (x ∷ xs) (suc i) d = ap (λ (l : List Connection). x ∷ l) (set_own xs i d)

pub returns-in-Some : goal.returns-in-Some
returns-in-Some c =
    let a = c.args in
    let h = c.in-Some.ensures.lookup.3 in
    let l : length a.t ≡ 8 = search rules in
    let turned = turned_down a.t a.i c.fresh-last.result 8 l (omega (arith, h.0, l)) in
    dropped_made a.t _ a.i c.fresh-last.result (fresh 0) h.0 (rw (← h.1 (fresh 0)) c.fresh-last.ensures) (rw c.rotate_left.ensures.after (search (rules, set_again, set_own, turned)))

pub returns-in_default : goal.returns-in_default
returns-in_default c =
    let a = c.args in
    sym (dropped_out a.t a.i c.in_default.ensures.lookup.3)
