-- The same for sound rows: what the code's places make of a sound row is `join` and `release`.
use Prim.Native.Nat.{ℕ, zero, suc, ◌<◌, ◌≤◌}
use native.Mathlib.Omega.{arith}
use mathlib.Core.Path.{◌≡◌, refl, sym}
use mathlib.Core.Bool.{Bool, true, false, ◌&&◌, not}
use mathlib.Core.List.{List}
use lib.ListN.{length, get_or, set, length-set}
use lib.Dec.{eqb}
use Rattle.picks.specs.Pick.{pick}
use Rattle.picks.proofs.Keep.{not_both, count_set}
use Rattle.protocol.specs.declared.SdoClientInfo.{SdoClientInfo}
use Rattle.protocol.specs.declared.Connection.{Connection}
use Rattle.protocol.specs.ConnectionTable.{fresh, unused_of, is_closed, sound_table, holds, place_of, is_known, join, release}
use Rattle.protocol.proofs.ConnectionTable.{of_sound, client_once}
use Rattle.connection.specs.Among.{is_gone}
use Rattle.table.specs.Row.{used_first, joined_row, dropped_at, drops_first}
use Rattle.table.proofs.Order.{ordered_used_first}
use Rattle.table.proofs.Join.{join_by_place}
use Rattle.table.proofs.Release.{release_client, release_closed, set_used_first}

above : (n : ℕ) → eqb n 0 ≡ false → 0 < n
above zero e = not_both refl e
above (suc n) e = omega arith

-- a row that is not full for a client has the client's record once it is seated
pub seat_by_place : (c : SdoClientInfo) (t : List Connection) → used_first t ≡ true → (not (is_known c t) && eqb (length (unused_of t)) 0) ≡ false → pick (is_known c t) t (joined_row c t) ≡ pick (is_known c t) t (join c t)
unfolding pick
seat_by_place c t u f = go (is_known c t) f
  where
    go : (k : Bool) → (not k && eqb (length (unused_of t)) 0) ≡ false → pick k t (joined_row c t) ≡ pick k t (join c t)
    go true e = refl
    go false e = sym (join_by_place c t u (above (length (unused_of t)) e))

module _ (t : List Connection) (sound : sound_table t ≡ true) where
  pub sound_used_first : used_first t ≡ true
  sound_used_first = ordered_used_first t (of_sound t sound).0

  pub sound_join : (c : SdoClientInfo) → eqb (length (unused_of t)) 0 ≡ false → join c t ≡ joined_row c t
  sound_join c f = join_by_place c t sound_used_first (above (length (unused_of t)) f)

  pub sound_seat : (c : SdoClientInfo) → (not (is_known c t) && eqb (length (unused_of t)) 0) ≡ false → pick (is_known c t) t (joined_row c t) ≡ pick (is_known c t) t (join c t)
  sound_seat c f = seat_by_place c t sound_used_first f

  pub sound_release : (c : SdoClientInfo) → release (holds c) t ≡ dropped_at (place_of c t) t
  sound_release c = release_client c t sound_used_first (client_once t sound c)

  pub sound_closed : (n : ℕ) → length t ≤ n → release (λ r. r.used && is_closed r.state) t ≡ drops_first n is_gone t
  sound_closed n l = release_closed n t sound_used_first l

-- and for a sound row in which one record was changed, but neither its client nor whether it is used
module _ (t : List Connection) (sound : sound_table t ≡ true) (i : ℕ) (r : Connection) (inside : i < length t) (used : r.used ≡ (get_or t i (fresh 0)).used) where
  pub changed_used_first : used_first (set t i r) ≡ true
  changed_used_first = set_used_first t i r (fresh 0) (sound_used_first t sound) inside used

  pub changed_release : (c : SdoClientInfo) → r.client ≡ (get_or t i (fresh 0)).client → release (holds c) (set t i r) ≡ dropped_at (place_of c (set t i r)) (set t i r)
  changed_release c e =
      let same : holds c r ≡ holds c (get_or t i (fresh 0)) = rw (used, e) in
      release_client c (set t i r) changed_used_first (rw (count_set (holds c) t i r (fresh 0) same) (client_once t sound c))

  pub changed_closed : (n : ℕ) → length t ≤ n → release (λ x. x.used && is_closed x.state) (set t i r) ≡ drops_first n is_gone (set t i r)
  changed_closed n l = release_closed n (set t i r) changed_used_first (rw (length-set t i r) l)
