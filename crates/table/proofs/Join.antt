-- Where a row's used records come first, the client's record put in by places is `join`.
use Prim.Native.Nat.{ℕ, suc, ◌-◌, ◌<◌}
use native.Mathlib.Omega.{arith}
use mathlib.Core.Path.{◌≡◌, refl, sym, ap, ◌∙◌}
use mathlib.Core.Bool.{Bool, true, false, ◌&&◌, not}
use mathlib.Core.List.{List, [], ◌∷◌, ◌++◌, tail}
use lib.ListN.{length, get_or, take, drop}
use borrow.Author.Tests.{lt-ltb}
use Rattle.picks.specs.Pick.{first, every, keep}
use Rattle.picks.proofs.Picks.{pick_t, pick_f}
use Rattle.picks.proofs.Keep.{by_test, both, every_cons, keep_yes, keep_no, keep_all, keep_none, first_yes, first_no, first_kept, first_there}
use Rattle.protocol.specs.declared.SdoClientInfo.{SdoClientInfo}
use Rattle.protocol.specs.declared.Connection.{Connection}
use Rattle.protocol.specs.ConnectionTable.{before, fresh, is_used, is_unused, used_of, unused_of, joining, insert, join}
use Rattle.connection.specs.Among.{is_behind}
use Rattle.row.specs.Row.{seat_place, put_in}
use Rattle.table.specs.Row.{used_first, unused_place, joined_row}

-- used records first, by the first record
pub used_then : (r : Connection) (rs : List Connection) → r.used ≡ true → used_first (r ∷ rs) ≡ true → used_first rs ≡ true
unfolding used_first
used_then r rs u e = pick_t _ _ _ _ u refl ∙ e

pub unused_then : (r : Connection) (rs : List Connection) → r.used ≡ false → used_first (r ∷ rs) ≡ true → every is_unused (r ∷ rs) ≡ true
unfolding used_first
unused_then r rs u e = every_cons is_unused r rs (ap not u) (pick_f _ _ _ _ u refl ∙ e)

-- the row without its first unused record
without_first : (t : List Connection) → used_first t ≡ true → used_of t ++ tail (unused_of t) ≡ take (first is_unused t) t ++ drop (suc (first is_unused t)) t
unfolding keep first
without_first [] e = refl
without_first (r ∷ rs) e =
    by_test r.used
    (λ u. rw (keep_yes is_used r rs u, keep_no is_unused r rs (ap not u), first_no is_unused r rs (ap not u)) (ap (λ (l : List Connection). r ∷ l) (without_first rs (used_then r rs u e))))
    (λ u. let n = unused_then r rs u e in rw (keep_none is_used (r ∷ rs) n, keep_all is_unused (r ∷ rs) n, first_yes is_unused r rs (ap not u)))

one_less : (a b : ℕ) → suc a - suc b ≡ a - b
one_less a b = omega arith

none_less : (a : ℕ) → a - 0 ≡ a
none_less a = omega arith

insert_by_place : (j : Connection) (t : List Connection) → used_first t ≡ true → insert j (used_of t) ++ tail (unused_of t) ≡ put_in (first (is_behind j.client) t) (first is_unused t) j t
unfolding insert put_in keep first
insert_by_place j [] e = refl
insert_by_place j (r ∷ rs) e =
    by_test r.used
    (λ u. by_test (before r.client j.client) (λ b. later u b (insert_by_place j rs (used_then r rs u e))) (λ b. here u b))
    (λ u. let n = unused_then r rs u e in rw (keep_none is_used (r ∷ rs) n, keep_all is_unused (r ∷ rs) n, first_yes is_unused r rs (ap not u), first_yes (is_behind j.client) r rs (ap (λ (x : Bool). not (x && before r.client j.client)) u)))
  where
    later : r.used ≡ true → before r.client j.client ≡ true → insert j (used_of rs) ++ tail (unused_of rs) ≡ put_in (first (is_behind j.client) rs) (first is_unused rs) j rs → insert j (used_of (r ∷ rs)) ++ tail (unused_of (r ∷ rs)) ≡ put_in (first (is_behind j.client) (r ∷ rs)) (first is_unused (r ∷ rs)) j (r ∷ rs)
    later u b ih =
        rw (keep_yes is_used r rs u, keep_no is_unused r rs (ap not u), first_no is_unused r rs (ap not u), first_no (is_behind j.client) r rs (ap not (both u b)), sym (pick_t _ (r ∷ insert j (used_of rs)) _ (j ∷ r ∷ used_of rs) b refl), one_less (first is_unused rs) (first (is_behind j.client) rs)) (ap (λ (l : List Connection). r ∷ l) ih)

    here : r.used ≡ true → before r.client j.client ≡ false → insert j (used_of (r ∷ rs)) ++ tail (unused_of (r ∷ rs)) ≡ put_in (first (is_behind j.client) (r ∷ rs)) (first is_unused (r ∷ rs)) j (r ∷ rs)
    here u b =
        rw (keep_yes is_used r rs u, keep_no is_unused r rs (ap not u), first_no is_unused r rs (ap not u), first_yes (is_behind j.client) r rs (rw (u, b)), sym (pick_f _ (j ∷ r ∷ used_of rs) (r ∷ insert j (used_of rs)) _ b refl), none_less (suc (first is_unused rs))) (ap (λ (l : List Connection). j ∷ r ∷ l) (without_first rs (used_then r rs u e)))

-- an unknown client that finds an unused record
pub join_by_place : (c : SdoClientInfo) (t : List Connection) → used_first t ≡ true → 0 < length (unused_of t) → join c t ≡ joined_row c t
unfolding join joined_row seat_place unused_place
join_by_place c t e h =
    let n = first is_unused t in
    let j = joining c (get_or t n (fresh 0)).area in
    pick_t _ _ _ _ (first_there is_unused t ∙ lt-ltb 0 (length (unused_of t)) h)
    (rw (← first_kept is_unused t (fresh 0)) (insert_by_place j t e))
