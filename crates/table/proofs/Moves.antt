-- Laws of the turns that move records by one place, and of the places that they go by.
use Prim.Native.Nat.{ℕ, suc, ◌+◌, ◌-◌, ◌<◌, ◌≤◌}
use native.Mathlib.Omega.{arith}
use native.Mathlib.Numerals.{add-one}
use mathlib.Core.Path.{◌≡◌, refl, sym, ap, ◌∙◌}
use mathlib.Core.Bool.{Bool, true, false, ◌&&◌, not}
use mathlib.Core.List.{List, [], ◌∷◌, ◌++◌, append_assoc, append-nil}
use lib.ListN.{length, get_or, take, drop, set, length-append, length-drop, drop_of_length-le}
use lib.Seq.{paste, set-append_left, take-set-lt, take-suc-set, take_all, drop-cons, set_at, length-take-le}
use borrow.Author.Tests.{lt-ltb, le-ltb}
use Rattle.std.specs.Prelude.{Option, None, Some}
use Rattle.std.specs.Option.{unwrap_or}
use Rattle.picks.specs.Pick.{first}
use Rattle.picks.proofs.Picks.{pick_t, pick_f}
use Rattle.picks.proofs.Keep.{by_test, first_yes, first_no}
use Rattle.protocol.specs.declared.SdoClientInfo.{SdoClientInfo}
use Rattle.protocol.specs.declared.Connection.{Connection}
use Rattle.protocol.specs.ConnectionTable.{before, fresh, is_unused, joining}
use Rattle.connection.specs.Among.{is_behind}
use Rattle.row.specs.Row.{place_in, seat_place, put_in}
use Rattle.table.specs.Row.{unused_place, joined_row}
use Rattle.table.proofs.Walk.{get_d_any}

-- the elements from a place up to another moved up by one, and one put where they stood
pub shift_in : {A : Type 0} (t : List A) (at n : ℕ) (c : A) → at ≤ n → n < length t → set (paste t (at + 1) (drop at t) (n - at)) at c ≡ take at t ++ (c ∷ take (n - at) (drop at t)) ++ drop (suc n) t
shift_in t at n c h l =
    let p = take (suc at) t in
    let q = take (n - at) (drop at t) in
    let z = drop (suc n) t in
    let lp : length p ≡ suc at = length-take-le (suc at) t (omega arith) in
    let inside : at < length p = omega arith in
    let inside' : at < length (p ++ q) = simp (length-append, lp) (omega arith) in
    let e : suc at + (n - at) ≡ suc n = omega arith in
    let s : set p at c ≡ take at t ++ (c ∷ []) = sym (take-set-lt (suc at) t at c (omega arith)) ∙ take-suc-set t at c (omega arith) in
    rw (add-one at, e, set-append_left (p ++ q) z at c inside', set-append_left p q at c inside, s, append_assoc (take at t) (c ∷ []) q)

-- the elements from a place on turned down by one, and one put at the end
pub turned_down : {A : Type 0} (t : List A) (at : ℕ) (c : A) (n : ℕ) → length t ≡ n → at < n → let m = take (n - at) (drop at t) in set (take at t ++ ((drop 1 m ++ take 1 m) ++ drop (n - at) (drop at t))) (n - 1) c ≡ take at t ++ drop (suc at) t ++ (c ∷ [])
turned_down t at c n l h =
    let q = drop at t in
    let m : take (n - at) q ≡ q = take_all (n - at) q (simp length-drop (omega arith)) in
    let z : drop (n - at) q ≡ [] = drop_of_length-le q {i = n - at} (simp length-drop (omega arith)) in
    let x : q ≡ get_or t at c ∷ drop (suc at) t = drop-cons t at c (omega arith) in
    let lp : length (take at t ++ drop (suc at) t) ≡ n - 1 = simp (length-append, length-drop, length-take-le at t (omega arith)) (omega arith) in
    rw (m, z, x, append-nil (drop (suc at) t ++ (get_or t at c ∷ [])), ← append_assoc (take at t) (drop (suc at) t) (get_or t at c ∷ [])) (set_at (take at t ++ drop (suc at) t) (get_or t at c) [] c (n - 1) lp)

-- a client's place is not behind the first unused record
pub seat_before : (c : SdoClientInfo) (t : List Connection) → seat_place c t ≤ unused_place t
unfolding seat_place unused_place first
seat_before c [] = omega arith
seat_before c (r ∷ rs) =
    by_test r.used
    (λ u. by_test (is_behind c r)
    (λ b. omega (arith, first_yes (is_behind c) r rs b))
    (λ b. omega (arith, first_no (is_behind c) r rs b, first_no is_unused r rs (ap not u), seat_before c rs)))
    (λ u. omega (arith, first_yes (is_behind c) r rs (unused_behind u)))
  where
    unused_behind : r.used ≡ false → is_behind c r ≡ true
    unused_behind u = ap (λ (b : Bool). not (b && before r.client c)) u

-- the place that the search for it tells, or the first unused one's, is the client's
pub seat_told : (c : SdoClientInfo) (t : List Connection) (r : Option ℕ) (n at : ℕ) → at ≡ unwrap_or r n → place_in r ≡ seat_place c t → n ≡ unused_place t → n < 8 → (at ≡ seat_place c t) × (at ≤ n)
seat_told c t r n at u p e h = let s = told r (rw e (seat_before c t)) p in (u ∙ s, rw (u, s, e) (seat_before c t))
  where
    told : (r : Option ℕ) → seat_place c t ≤ n → place_in r ≡ seat_place c t → unwrap_or r n ≡ seat_place c t
    told None l p = absurd (omega (arith, p, h, l))
    told (Some i) l p = p

-- the client's record put in, and a full row
module _ (c : SdoClientInfo) (t : List Connection) where
  pub joined_made : (r : List Connection) (n at : ℕ) (j d : Connection) → n < length t → n ≡ unused_place t → at ≡ seat_place c t → j ≡ joining c (get_or t n d).area → r ≡ put_in at n j t → r ≡ joined_row c t
  unfolding joined_row
  joined_made r n at j d h en ea ej p =
      pick_t _ _ _ _ (lt-ltb (unused_place t) (length t) (omega (arith, en))) (p ∙ (rw (ej, get_d_any t n d (fresh 0) h, ea, en)))

  pub joined_full : length t ≤ unused_place t → t ≡ joined_row c t
  unfolding joined_row
  joined_full h = pick_f _ _ _ _ (le-ltb (unused_place t) (length t) h) refl
