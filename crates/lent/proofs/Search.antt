-- The search with the index finds the place of the first due record, as `row::due_place` tells it, and a tick that looks there is the tick.
use Prim.Native.Nat.{ℕ, suc, ◌+◌, ◌<◌, ◌≤◌}
use native.Mathlib.Omega.{arith}
use mathlib.Core.Bool.{Bool, true, false, not}
use mathlib.Core.Path.{◌≡◌, refl, sym, ap, ◌∙◌, subst}
use mathlib.Core.List.{List, [], ◌∷◌}
use lib.ListN.{length, get_or, drop, drop_of_length-le}
use lib.Seq.{drop-cons}
use native.Mathlib.Numerals.{add-one}
use lib.Dec.{T, ltb, ltb→lt, nltb→le}
use borrow.Author.Tests.{lt-ltb, le-ltb}
use Rattle.std.specs.Prelude.{Option, Some, None}
use Rattle.picks.specs.Pick.{pick, first}
use Rattle.picks.proofs.Picks.{pick_t}
use Rattle.protocol.specs.declared.Connection.{Connection}
use Rattle.protocol.specs.ConnectionTable.{is_due, chosen}
use Rattle.protocol.specs.Tick.{tick_of}
use Rattle.row.specs.Row.{place_in, due_in}
use Rattle.row.proofs.Walk.{told_in}
use Rattle.server.specs.Left.{tick_at_of}
use Rattle.server.proofs.Calls.{tick_at_chosen}
use Rattle.lent.specs.Lent.{better_of}

-- of b and the records that stand from place i on
unfoldable pub due_from : Option ℕ → ℕ → List Connection → ℕ → Option ℕ
due_from b i [] k = b
due_from b i (c ∷ cs) k = due_from (better_of b c i k) (i + 1) cs k

found : (j i : ℕ) (cs : List Connection) (k : ℕ) → due_from (Some j) i cs k ≡ Some j
unfolding due_from
found j i [] k = refl
found j i (c ∷ cs) k = found j (i + 1) cs k

less_suc : (a b : ℕ) (y : Bool) → ltb a b ≡ y → ltb a b ≡ ltb (suc a) (suc b)
less_suc a b true e = e ∙ sym (lt-ltb (suc a) (suc b) (let l = ltb→lt a b (subst T (sym e) tt) in omega arith))
less_suc a b false e = e ∙ sym (le-ltb (suc a) (suc b) (let l = nltb→le a b (subst (λ (z : Bool). T (not z)) (sym e) tt) in omega arith))

due_next : (i : ℕ) (cs : List Connection) (k : ℕ) (b : Bool) → due_from None (i + 1) cs k ≡ pick (ltb (first (is_due k) cs) (length cs)) (Some (i + 1 + first (is_due k) cs)) None → due_from (pick b (Some i) None) (i + 1) cs k ≡ pick (ltb (pick b 0 (suc (first (is_due k) cs))) (suc (length cs))) (Some (i + pick b 0 (suc (first (is_due k) cs)))) None
unfolding pick
due_next i cs k true e = found i (i + 1) cs k ∙ pick_t (ltb 0 (suc (length cs))) (Some i) (Some (i + 0)) None (lt-ltb 0 (suc (length cs)) (omega arith)) (ap Some (omega arith))
due_next i cs k false e =
    let f = first (is_due k) cs in
    e ∙ ap (λ (n : ℕ). pick (ltb f (length cs)) (Some n) None) (omega arith) ∙ ap (λ (y : Bool). pick y (Some (i + suc f)) None) (less_suc f (length cs) (ltb f (length cs)) refl)

-- the place of the first due record among those from place i on, or none
pub due_from_lem : (i : ℕ) (cs : List Connection) (k : ℕ) → due_from None i cs k ≡ pick (ltb (first (is_due k) cs) (length cs)) (Some (i + first (is_due k) cs)) None
unfolding due_from first pick
due_from_lem i [] k = refl
due_from_lem i (c ∷ cs) k = due_next i cs k (is_due k c) (due_from_lem (i + 1) cs k)

-- the search at its head, after a turn, and at its end
module _ (cs : List Connection) (k : ℕ) (b : Option ℕ) (i : ℕ) (inv : due_from None 0 cs k ≡ due_from b i (drop i cs) k) where
  pub due_more : (d : Connection) → i < length cs → due_from None 0 cs k ≡ due_from (better_of b (get_or cs i d) i k) (i + 1) (drop (i + 1) cs) k
  unfolding due_from
  due_more d h =
      inv ∙ (rw (drop-cons cs i d h) (ap (λ (n : ℕ). due_from (better_of b (get_or cs i d) i k) (i + 1) (drop n cs) k) (sym (add-one i))))

  pub due_end : length cs ≤ i → b ≡ due_from None 0 cs k
  unfolding due_from
  due_end h = sym (inv ∙ (rw (drop_of_length-le cs h)))

-- what `row::due_place` answers
pub due_is : (cs : List Connection) (k : ℕ) → due_from None 0 cs k ≡ due_in (chosen cs k) (length cs)
unfolding chosen
due_is cs k = due_from_lem 0 cs k ∙ ap (λ (n : ℕ). pick (ltb (first (is_due k) cs) (length cs)) (Some n) None) (omega arith)

-- the place that was found in a table of eight is the first due record's
pub place_found : (clock : ℕ) (table : List Connection) → length table ≡ 8 → place_in (due_in (chosen table clock) (length table)) ≡ chosen table clock
unfolding chosen
place_found clock table l = (told_in (is_due clock) table _ l refl).0

-- and a tick that looks there is the tick
pub tick_at_found : (clock : ℕ) (image answer : List ℕ) (table : List Connection) (area : List ℕ) → length table ≡ 8 → tick_at_of (place_in (due_in (chosen table clock) (length table))) clock image answer table area ≡ tick_of clock image answer table area
tick_at_found clock image answer table area l = tick_at_chosen clock image answer table area _ (place_found clock table l)
