-- What an accepted request leaves: soundness, the client's own record and share, and all that other clients have.
use Prim.Native.Nat.{ℕ, zero, suc, ◌≤◌, ◌<◌}
use native.Mathlib.Omega.{arith}
use mathlib.Core.Path.{◌≡◌, refl, sym, ap, ◌∙◌}
use mathlib.Core.Logic.{◌≢◌}
use mathlib.Core.Bool.{Bool, true, false, ◌&&◌, ◌||◌, not}
use mathlib.Core.List.{List}
use lib.ListN.{length, length-take, length-drop}
use lib.Dec.{ltb, eqb}
use borrow.Author.Tests.{ltb-false, eqb-true, not-false}
use Rattle.picks.specs.Pick.{pick}
use Rattle.picks.proofs.Keep.{not_both, by_test}
use Rattle.protocol.specs.declared.SdoClientInfo.{SdoClientInfo}
use Rattle.protocol.specs.declared.Connection.{Connection}
use Rattle.protocol.specs.Constants.{SHARE, RECORDS, AREA, ANSWER_MIN, REQUEST_MAX, CLOCK_MAX}
use Rattle.protocol.specs.DictionaryImage.{sound_image}
use Rattle.protocol.specs.ConnectionRecord.{Served, serve}
use Rattle.protocol.specs.ConnectionTable.{sound_table, sound_record, holds, is_known, record_of, unused_of, same_client, join, update, share_of, with_share}
use Rattle.protocol.specs.Calls.{accept, verdict}
use Rattle.protocol.specs.Request.{request_tests, seated}
use Rattle.protocol.proofs.Calls.{accepted_head}
use Rattle.protocol.proofs.ConnectionTable.{of_holds, holds_by, known_holds, known_sound, known_area, known_areas_distinct, update_sound, update_length, update_own, update_other, join_length, join_sound, join_own, join_other, share_own, share_other, share_length}
use Rattle.protocol.proofs.RecordSound.{image_laws}
use Rattle.protocol.proofs.ServeSound.{Kept, serve_kept}

-- what an accepted request was lent
pub record Accepted (client : SdoClientInfo) (clock : ℕ) (request image answer : List ℕ) (table : List Connection) (area : List ℕ) : Type 0 where
  pub room : ANSWER_MIN ≤ length answer
  pub whole : length area ≡ AREA
  pub eight : length table ≡ RECORDS
  pub image_sound : sound_image image ≡ true
  pub table_sound : sound_table table ≡ true
  pub timely : clock ≤ CLOCK_MAX
  pub some : 4 ≤ length request
  pub most : length request ≤ REQUEST_MAX
  pub seat : is_known client table ≡ false → 0 < length (unused_of table)

-- a disjunction that fails, fails in both parts
pub neither : (a b : Bool) → a || b ≡ false → (a ≡ false) × (b ≡ false)
neither false b e = (refl, e)
neither true b e = not_both refl e

above : (n : ℕ) → eqb n 0 ≡ false → 0 < n
above zero e = not_both refl e
above (suc n) e = omega arith

free : (k : Bool) (n : ℕ) → not k && eqb n 0 ≡ false → k ≡ false → 0 < n
free false n e f = above n e
free true n e f = not_both refl f

module _ (client : SdoClientInfo) (clock : ℕ) (request image answer : List ℕ) (table : List Connection) (area : List ℕ) where
  pub accepted_by : verdict (request_tests client clock request image answer table area) ≡ accept → Accepted client clock request image answer table area
  unfolding request_tests
  accepted_by e =
      let h1 = accepted_head _ _ e in
      let h2 = accepted_head _ _ h1.1 in
      let h3 = accepted_head _ _ h2.1 in
      let h4 = accepted_head _ _ h3.1 in
      let h5 = accepted_head _ _ h4.1 in
      let h6 = accepted_head _ _ h5.1 in
      let h7 = accepted_head _ _ h6.1 in
      let l = neither (ltb (length answer) ANSWER_MIN || not (eqb (length area) AREA)) (not (eqb (length table) RECORDS)) h1.0 in
      let m = neither (ltb (length answer) ANSWER_MIN) (not (eqb (length area) AREA)) l.0 in
      record {
        room = ltb-false _ _ m.0;
        whole = eqb-true _ _ (not-false _ m.1);
        eight = eqb-true _ _ (not-false _ l.1);
        image_sound = not-false _ h2.0;
        table_sound = not-false _ h3.0;
        timely = ltb-false _ _ h4.0;
        some = ltb-false _ _ h5.0;
        most = ltb-false _ _ h6.0;
        seat = free (is_known client table) (length (unused_of table)) h7.0;
      }

-- the client's seat
pub record Seat (client : SdoClientInfo) (table : List Connection) (t : List Connection) : Type 0 where
  pub sound : sound_table t ≡ true
  pub long : length t ≡ length table
  pub known : is_known client t ≡ true
  pub others : (c : SdoClientInfo) → same_client c client ≡ false → (is_known c t ≡ is_known c table) × (record_of c t ≡ record_of c table)

module _ (client : SdoClientInfo) (clock : ℕ) (request image answer : List ℕ) (table : List Connection) (area : List ℕ) (ok : Accepted client clock request image answer table area) where
  -- the client has a record, its own or a fresh one, and nothing else changed
  pub seat_of : Seat client table (seated client clock request image answer table area)
  unfolding pick
  seat_of = by_test (is_known client table) known unknown
    where
      known : is_known client table ≡ true → Seat client table (pick (is_known client table) table (join client table))
      known e = rw e (record { sound = ok.table_sound; long = refl; known = e; others = λ c f. (refl, refl) })

      unknown : is_known client table ≡ false → Seat client table (pick (is_known client table) table (join client table))
      unknown e =
          rw e (record { sound = join_sound client table ok.table_sound e (ok.seat e); long = join_length client table (ok.seat e); known = (join_own client table e).0; others = λ c f. join_other client table c f })

  abbrev pub seat : List Connection
  seat = seated client clock request image answer table area

  abbrev pub own : Connection
  own = record_of client seat

  abbrev pub own_share : List ℕ
  own_share = share_of area own.area

  abbrev pub served : Served
  served = serve own own_share image clock request

  pub own_sound : sound_record own ≡ true
  own_sound = known_sound client seat seat_of.sound seat_of.known

  pub own_below : own.area < RECORDS
  own_below = known_area client seat seat_of.sound seat_of.known

  pub share_long : length own_share ≡ SHARE
  unfolding AREA
  share_long = simp (length-take, length-drop) (omega (arith, own_below, ok.whole))

  pub served_kept : Kept own served
  served_kept = serve_kept own own_share image clock request own_sound share_long (image_laws image ok.image_sound) ok.most

  own_holds : holds client served.connection ≡ true
  own_holds =
      let k = served_kept in
      let w = of_holds client own (known_holds client seat seat_of.known) in
      holds_by client served.connection (k.used ∙ w.0) (k.client ∙ w.1)

  abbrev pub stored : List Connection
  stored = update client served.connection seat

  abbrev pub laid : List ℕ
  laid = with_share area own.area served.share

  pub stored_sound : sound_table stored ≡ true
  stored_sound =
      let k = served_kept in
      update_sound client served.connection seat seat_of.sound seat_of.known k.used k.client k.area k.sound

  pub stored_long : length stored ≡ RECORDS
  stored_long = update_length client served.connection seat ∙ seat_of.long ∙ ok.eight

  pub stored_own : (is_known client stored ≡ true) × (record_of client stored ≡ served.connection)
  stored_own = update_own client served.connection seat seat_of.known own_holds

  -- what other clients have of the table and the area
  pub stored_other : (c : SdoClientInfo) → same_client c client ≡ false → (is_known c stored ≡ is_known c table) × (record_of c stored ≡ record_of c table)
  stored_other c f =
      let u = update_other client c served.connection seat seat_of.known own_holds f in
      let s = seat_of.others c f in
      (u.0 ∙ s.0, u.1 ∙ s.1)

  pub laid_own : share_of laid own.area ≡ served.share
  laid_own = share_own area served.share own.area ok.whole own_below served_kept.share

  pub laid_other : (c : SdoClientInfo) → same_client c client ≡ false → is_known c table ≡ true → share_of laid (record_of c table).area ≡ share_of area (record_of c table).area
  laid_other c f e =
      let s = seat_of.others c f in
      let d : own.area ≢ (record_of c seat).area = known_areas_distinct client seat seat_of.sound seat_of.known c (s.0 ∙ e) f in
      share_other area served.share own.area (record_of c table).area (λ g. d (g ∙ ap (λ (r : Connection). r.area) (sym s.1))) served_kept.share

  pub laid_long : length laid ≡ AREA
  laid_long = share_length area served.share own.area ∙ ok.whole
