-- The rows that a call leaves by its client's seat are those that the definitions leave.
use Prim.Native.Nat.{ℕ, suc, ◌+◌, ◌-◌, ◌≤◌, ◌<◌}
use native.Mathlib.Omega.{arith}
use mathlib.Core.Path.{◌≡◌, refl, sym, ap, ◌∙◌}
use mathlib.Core.Bool.{true, false}
use mathlib.Core.List.{List, [], ◌∷◌, ◌++◌, append_assoc}
use lib.ListN.{length, get_or, take, drop, set, length-set}
use lib.Dec.{ltb, eqb}
use lib.Seq.{length-take-le, take_at, drop-append-add, take-add, get_or_at, set_at, take-set-le, drop-set-lt, get_or-set_same}
use borrow.Author.Tests.{lt-ltb, le-leb, ltb-true, ltb-false, ne_eqb}
use Rattle.picks.specs.Pick.{pick, first}
use Rattle.picks.proofs.Picks.{pick_t, pick_f}
use Rattle.picks.proofs.Keep.{by_test, both, first_set, first_kept, first_there}
use Rattle.protocol.specs.declared.SdoClientInfo.{SdoClientInfo}
use Rattle.protocol.specs.declared.Connection.{Connection}
use Rattle.protocol.specs.Constants.{RECORDS}
use Rattle.protocol.specs.ConnectionTable.{fresh, is_unused, unused_of, joining, sound_table, holds, place_of, record_of, is_known, update, release}
use Rattle.protocol.specs.Request.{seated}
use Rattle.protocol.proofs.ConnectionTable.{known_place, known_holds, place_unique, join_own, join_sound, join_length, same_client_refl}
use Rattle.protocol.proofs.Requests.{Accepted, seat_of}
use Rattle.row.specs.Row.{place_in, seat_place, put_in}
use Rattle.table.specs.Row.{unused_place, dropped_at}
use Rattle.table.proofs.Moves.{seat_before, joined_made}
use Rattle.table.proofs.Release.{dropped_in, dropped_made}
use Rattle.table.proofs.Sound.{sound_join, sound_release}
use Rattle.std.specs.Prelude.{Option, Some, None, IfSome}
use Rattle.seats.specs.declared.Place.TheVariants.{Known, Joining}
use Rattle.seats.specs.declared.Seat.{Seat}
use Rattle.seats.specs.Seats.{seat_in, back_row, left_at}

-- a record that was put in
module _ (t : List Connection) (at n : ℕ) (c : Connection) (h : at ≤ n) (l : n < length t) where
  abbrev p : List Connection
  p = take at t

  abbrev w : List Connection
  w = take (n - at) (drop at t) ++ drop (suc n) t

  long_p : length p ≡ at
  long_p = length-take-le at t (omega arith)

  put_in_split : put_in at n c t ≡ p ++ c ∷ w
  unfolding put_in
  put_in_split = append_assoc p (c ∷ take (n - at) (drop at t)) (drop (suc n) t)

  pub put_in_there : (d : Connection) → get_or (put_in at n c t) at d ≡ c
  put_in_there d = ap (λ x. get_or x at d) put_in_split ∙ get_or_at p c w d at long_p

  pub put_in_again : (r : Connection) → set (put_in at n c t) at r ≡ put_in at n r t
  unfolding put_in
  put_in_again r = ap (λ x. set x at r) put_in_split ∙ set_at p c w r at long_p ∙ sym (append_assoc p (r ∷ take (n - at) (drop at t)) (drop (suc n) t))

  -- dropped again, it leaves what dropping the unused record leaves
  pub put_in_dropped : at < length (put_in at n c t) → c.area ≡ (get_or t n (fresh 0)).area → dropped_at at (put_in at n c t) ≡ dropped_at n t
  put_in_dropped inside e =
      let q = put_in at n c t in
      let a : take at q ≡ p = ap (take at) put_in_split ∙ take_at p (c ∷ w) at long_p in
      let s : suc at ≡ length p + 1 = omega (arith, long_p) in
      let b : drop (suc at) q ≡ w = ap (drop (suc at)) put_in_split ∙ ap (λ k. drop k (p ++ c ∷ w)) s ∙ drop-append-add p (c ∷ w) 1 in
      let f : n ≡ at + (n - at) = omega arith in
      let g : p ++ w ≡ take n t ++ drop (suc n) t = sym (append_assoc p (take (n - at) (drop at t)) (drop (suc n) t)) ∙ ap (λ x. x ++ drop (suc n) t) (sym (take-add at (n - at) t) ∙ ap (λ k. take k t) (sym f)) in
      let x = fresh (get_or t n (fresh 0)).area in
      let y : fresh (get_or q at (fresh 0)).area ≡ x = ap (λ r. fresh r.area) (put_in_there (fresh 0)) ∙ ap fresh e in
      dropped_made t (dropped_at at q) n x (fresh 0) l refl (dropped_in q at inside ∙ rw (a, b, y) (ap (λ z. z ++ (x ∷ [])) g))

-- a record that was changed, but not in its area number
dropped_set : (t : List Connection) (i : ℕ) (r : Connection) → i < length t → r.area ≡ (get_or t i (fresh 0)).area → dropped_at i (set t i r) ≡ dropped_at i t
dropped_set t i r l e =
    let q = set t i r in
    let x = fresh (get_or t i (fresh 0)).area in
    let y : fresh (get_or q i (fresh 0)).area ≡ x = ap (λ k. fresh k.area) (get_or-set_same t i r (fresh 0) l) ∙ ap fresh e in
    dropped_made t (dropped_at i q) i x (fresh 0) l refl (dropped_in q i (rw (length-set t i r) l) ∙ rw (take-set-le i t i r (omega arith), drop-set-lt (suc i) t i r (omega arith), y))

-- a place that a search told, where there is one and where there is none
some_at : (o : Option ℕ) (n : ℕ) → place_in o ≡ n → n < 8 → o ≡ Some n
some_at None n e h = absurd (omega arith)
some_at (Some i) n e h = ap Some e

none_at : (o : Option ℕ) → IfSome o (λ i. i < 8) → 8 ≤ place_in o → o ≡ None
none_at None h e = refl
none_at (Some i) h e = absurd (omega arith)

module _ (client : SdoClientInfo) (clock : ℕ) (request image answer : List ℕ) (row : List Connection) (area : List ℕ) (ok : Accepted client clock request image answer row area) (place free : Option ℕ) (ep : place_in place ≡ place_of client row) (inside : IfSome place (λ i. i < 8)) (ef : place_in free ≡ unused_place row) where
  abbrev S : List Connection
  S = seated client clock request image answer row area

  eight : length row ≡ 8
  unfolding RECORDS
  eight = ok.eight

  abbrev n : ℕ
  n = place_in free

  abbrev known : Seat
  known = record { place = Known (place_of client row); own = get_or row (place_of client row) (fresh 0) }

  abbrev joins : Seat
  joins = record { place = Joining (seat_place client row) n; own = joining client (get_or row n (fresh 0)).area }

  -- the client has a record
  module _ (k : is_known client row ≡ true) where
    own_place : place_of client row < length row
    own_place = known_place client row k

    at_own : seat_in client place free row ≡ known
    at_own = ap (λ o. seat_in client o free row) (some_at place (place_of client row) ep (omega (arith, own_place, eight)))

    own_row : row ≡ S
    own_row = pick_t _ _ _ _ k refl

  -- it has none
  module _ (k : is_known client row ≡ false) where
    at_free : seat_in client place free row ≡ joins
    at_free = ap (λ o. seat_in client o free row) (none_at place inside (omega (arith, ltb-false (place_of client row) (length row) k, eight, ep)))

    free_below : n < length row
    unfolding unused_place
    free_below =
        let e : ltb (first is_unused row) (length row) ≡ true = first_there is_unused row ∙ lt-ltb 0 (length (unused_of row)) (ok.seat k) in
        let l : first is_unused row < length row = ltb-true _ _ e in
        let f : n ≡ first is_unused row = ef in
        omega (arith, l, f)

    seat_below : seat_place client row ≤ n
    seat_below = omega (arith, seat_before client row, ef)

    free_number : get_or row n (fresh 0) ≡ get_or (unused_of row) 0 (fresh 0)
    unfolding unused_place
    free_number = ap (λ i. get_or row i (fresh 0)) ef ∙ first_kept is_unused row (fresh 0)

    abbrev j : Connection
    j = joins.own

    joined_row_lem : put_in (seat_place client row) n j row ≡ S
    joined_row_lem =
        joined_made client row _ n (seat_place client row) j (fresh 0) free_below ef refl refl refl ∙ sym (sound_join row ok.table_sound client unused_some) ∙ pick_f _ _ _ _ k refl
      where
        unused_some : eqb (length (unused_of row)) 0 ≡ false
        unused_some = ne_eqb (length (unused_of row)) 0 (λ e. let m = ok.seat k in absurd (omega (arith, m, e)))

    joined_sound : sound_table S ≡ true
    joined_sound = ap sound_table (sym (pick_f _ _ _ _ k refl)) ∙ join_sound client row ok.table_sound k (ok.seat k)

    joined_long : length S ≡ length row
    joined_long = ap length (sym (pick_f _ _ _ _ k refl)) ∙ join_length client row (ok.seat k)

    joined_place : place_of client S ≡ seat_place client row
    joined_place =
        let i = seat_place client row in
        let r : get_or S i (fresh 0) ≡ j = ap (λ t. get_or t i (fresh 0)) (sym joined_row_lem) ∙ put_in_there row i n j seat_below free_below (fresh 0) in
        place_unique client S i joined_sound (omega (arith, joined_long, seat_below, free_below)) (ap (holds client) r ∙ same_client_refl client)

  -- the record is the one that the definitions serve
  pub seat_own : (seat_in client place free row).own ≡ record_of client S
  seat_own =
      by_test (is_known client row)
      (λ k. ap (λ (s : Seat). s.own) (at_own k) ∙ ap (record_of client) (own_row k))
      (λ k. ap (λ (s : Seat). s.own) (at_free k) ∙ ap (λ (r : Connection). joining client r.area) (free_number k) ∙ sym (join_own client row k).1 ∙ ap (record_of client) (pick_f _ _ _ _ k refl))

  -- stored, it stands where the definitions have it
  pub seat_back : (next : Connection) → back_row (seat_in client place free row).place next row ≡ update client next S
  unfolding update pick
  seat_back next =
      by_test (is_known client row)
      (λ k. ap (λ (s : Seat). back_row s.place next row) (at_own k) ∙ ap (λ t. set t (place_of client t) next) (own_row k))
      (λ k.
      let i = seat_place client row in
      ap (λ (s : Seat). back_row s.place next row) (at_free k) ∙ sym (pick_t _ _ _ _ (both (le-leb i n (seat_below k)) (lt-ltb n 8 (omega (arith, free_below k, eight)))) refl) ∙ sym (put_in_again row i n (j k) (seat_below k) (free_below k) next) ∙ ap (λ t. set t i next) (joined_row_lem k) ∙ ap (λ m. set S m next) (sym (joined_place k)))

  -- dropped, it leaves the row without it
  abbrev seats : List Connection → ℕ
  seats t = place_of client t

  place_dropped : dropped_at (left_at (seat_in client place free row).place) row ≡ dropped_at (seats S) S
  place_dropped =
      by_test (is_known client row)
      (λ k. ap (λ (s : Seat). dropped_at (left_at s.place) row) (at_own k) ∙ ap (λ t. dropped_at (seats t) t) (own_row k))
      (λ k.
      let i = seat_place client row in
      let q = put_in i n (j k) row in
      let inside : i < length q = rw (joined_row_lem k, joined_long k) (omega (arith, seat_below k, free_below k)) in
      ap (λ (s : Seat). dropped_at (left_at s.place) row) (at_free k) ∙ sym (put_in_dropped row i n (j k) (seat_below k) (free_below k) inside refl) ∙ ap (dropped_at i) (joined_row_lem k) ∙ ap (λ m. dropped_at m S) (sym (joined_place k)))

  pub seat_dropped : (next : Connection) → next.area ≡ (seat_in client place free row).own.area → holds client next ≡ true → sound_table (update client next S) ≡ true → dropped_at (left_at (seat_in client place free row).place) row ≡ release (holds client) (update client next S)
  unfolding update place_of
  seat_dropped next e hold sound =
      let i = seats S in
      let k = (seat_of client clock request image answer row area ok).known in
      let u = set S i next in
      let number : next.area ≡ (get_or S i (fresh 0)).area = e ∙ ap (λ (r : Connection). r.area) seat_own in
      let same : seats u ≡ i = first_set (holds client) S i next (fresh 0) (hold ∙ sym (known_holds client S k)) in
      place_dropped ∙ sym (dropped_set S i next (known_place client S k) number) ∙ ap (λ m. dropped_at m u) (sym same) ∙ sym (sound_release u sound client)
