-- What an accepted tick leaves: soundness, the answered client's record, and what the others have.
use Prim.Native.Nat.{ℕ, ◌≤◌, ◌<◌}
use native.Mathlib.Omega.{arith}
use mathlib.Core.Path.{◌≡◌, refl, ap, ◌∙◌}
use mathlib.Core.Bool.{true, false, ◌||◌, not}
use mathlib.Core.List.{List}
use lib.ListN.{length, get_or, set, length-take, length-drop, get_or-eq_default}
use lib.Dec.{ltb, eqb}
use borrow.Author.Tests.{ltb-true, ltb-false, lt-ltb, eqb-true, not-false}
use Rattle.picks.proofs.Keep.{by_test, left}
use Rattle.protocol.specs.declared.SdoClientInfo.{SdoClientInfo}
use Rattle.protocol.specs.declared.Connection.{Connection}
use Rattle.protocol.specs.Constants.{RECORDS, AREA, ANSWER_MIN}
use Rattle.protocol.specs.DictionaryImage.{sound_image}
use Rattle.protocol.specs.ConnectionRecord.{Reply}
use Rattle.protocol.specs.ConnectionTable.{sound_table, fresh, holds, is_known, record_of, place_of, same_client, share_of, is_past, transfer_deadline, chosen, ticks, tick_in, tick_record}
use Rattle.protocol.specs.Calls.{accept, verdict}
use Rattle.protocol.specs.Tick.{tick_tests}
use Rattle.protocol.proofs.Calls.{accepted_head}
use Rattle.protocol.proofs.ConnectionTable.{holds_by, area_below, record_sound, unused_fresh, place_unique, set_update, set_sound, update_own, update_other, chosen_due}
use Rattle.protocol.proofs.Requests.{neither}
use Rattle.protocol.proofs.ServeSound.{Steps}
use Rattle.protocol.proofs.TickSound.{Ticks, tick_kept}

pub record TickAccepted (clock : ℕ) (image answer : List ℕ) (table : List Connection) (area : List ℕ) : Type 0 where
  pub room : ANSWER_MIN ≤ length answer
  pub whole : length area ≡ AREA
  pub eight : length table ≡ RECORDS
  pub image_sound : sound_image image ≡ true
  pub table_sound : sound_table table ≡ true

module _ (clock : ℕ) (image answer : List ℕ) (table : List Connection) (area : List ℕ) where
  pub tick_accepted_by : verdict (tick_tests clock image answer table area) ≡ accept → TickAccepted clock image answer table area
  unfolding tick_tests
  tick_accepted_by e =
      let h1 = accepted_head _ _ e in
      let h2 = accepted_head _ _ h1.1 in
      let h3 = accepted_head _ _ h2.1 in
      let l = neither (ltb (length answer) ANSWER_MIN || not (eqb (length area) AREA)) (not (eqb (length table) RECORDS)) h1.0 in
      let m = neither (ltb (length answer) ANSWER_MIN) (not (eqb (length area) AREA)) l.0 in
      record {
        room = ltb-false _ _ m.0;
        whole = eqb-true _ _ (not-false _ m.1);
        eight = eqb-true _ _ (not-false _ l.1);
        image_sound = not-false _ h2.0;
        table_sound = not-false _ h3.0;
      }

-- the record at any place
module _ (clock : ℕ) (image answer : List ℕ) (table : List Connection) (area : List ℕ) (ok : TickAccepted clock image answer table area) (i : ℕ) where
  abbrev pub lying : Connection
  lying = get_or table i (fresh 0)

  abbrev pub lying_share : List ℕ
  lying_share = share_of area lying.area

  -- a record that nobody uses is not answered
  fresh_idle : (n : ℕ) → lying ≡ fresh n → (r' : Connection) (y : Reply) → tick_record lying lying_share image clock ≡ ticks r' y → ⊥
  unfolding tick_record tick_in
  fresh_idle n d r' y e = let z : ◌≡◌ {A = ℕ} 0 1 = cc (rw d at e) in omega arith

  -- the record of a tick that answers is in the table, used and sound
  pub answered_there : (r' : Connection) (y : Reply) → tick_record lying lying_share image clock ≡ ticks r' y → i < length table
  answered_there r' y e =
      by_test (ltb i (length table)) (λ f. ltb-true _ _ f) (λ f. absurd (fresh_idle 0 (get_or-eq_default table (fresh 0) (ltb-false _ _ f)) r' y e))

  module _ (inside : i < length table) where
    pub answered_used : (r' : Connection) (y : Reply) → tick_record lying lying_share image clock ≡ ticks r' y → lying.used ≡ true
    answered_used r' y e =
        by_test lying.used (λ u. u) (λ u. absurd (fresh_idle lying.area (unused_fresh table ok.table_sound i inside u) r' y e))

    pub lying_kept : Ticks lying (tick_record lying lying_share image clock)
    unfolding AREA
    lying_kept =
        tick_kept lying lying_share image clock (record_sound table ok.table_sound i inside)
        (simp (length-take, length-drop) (omega (arith, area_below table ok.table_sound i inside, ok.whole)))

    -- the table with the record that the tick left
    pub set_lying : lying.used ≡ true → (r' : Connection) → Steps lying r' → sound_table (set table i r') ≡ true
    set_lying u r' s = set_sound table i r' ok.table_sound inside u (s.used ∙ u) s.client s.area s.sound

-- the first due record
module _ (clock : ℕ) (image answer : List ℕ) (table : List Connection) (area : List ℕ) (ok : TickAccepted clock image answer table area) where
  abbrev pub place : ℕ
  place = chosen table clock

  abbrev pub due : Connection
  due = get_or table place (fresh 0)

  abbrev pub due_share : List ℕ
  due_share = share_of area due.area

  pub due_there : (r' : Connection) (y : Reply) → tick_record due due_share image clock ≡ ticks r' y → place < length table
  due_there = answered_there clock image answer table area ok place

  module _ (inside : place < length table) where
    due_used : due.used ≡ true
    due_used = left due.used (is_past clock (transfer_deadline due.state)) (chosen_due table clock inside)

    due_holds : holds due.client due ≡ true
    due_holds = holds_by due.client due due_used refl

    due_place_lem : place_of due.client table ≡ place
    due_place_lem = place_unique due.client table place ok.table_sound inside due_holds

    pub due_known : (is_known due.client table ≡ true) × (record_of due.client table ≡ due)
    due_known = (rw due_place_lem (lt-ltb place (length table) inside), ap (λ i. get_or table i (fresh 0)) due_place_lem)

    pub due_kept : Ticks due (tick_record due due_share image clock)
    due_kept = lying_kept clock image answer table area ok place inside

    pub set_known : (r' : Connection) → Steps due r' → sound_table (set table place r') ≡ true
    set_known = set_lying clock image answer table area ok place inside due_used

    pub set_own : (r' : Connection) → Steps due r' → (is_known due.client (set table place r') ≡ true) × (record_of due.client (set table place r') ≡ r')
    set_own r' s =
        rw (set_update due.client table place r' ok.table_sound inside due_holds)
        (update_own due.client r' table due_known.0 (holds_by due.client r' (s.used ∙ due_used) s.client))

    pub set_other : (r' : Connection) → Steps due r' → (c : SdoClientInfo) → same_client c due.client ≡ false → (is_known c (set table place r') ≡ is_known c table) × (record_of c (set table place r') ≡ record_of c table)
    set_other r' s c f =
        rw (set_update due.client table place r' ok.table_sound inside due_holds)
        (update_other due.client c r' table due_known.0 (holds_by due.client r' (s.used ∙ due_used) s.client) f)
