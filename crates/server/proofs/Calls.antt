-- A request and a tick that passed the tests, and the query: what the code's parts give together.
use Prim.Native.Nat.{ℕ, ◌+◌, ◌*◌, ◌≤◌, ◌<◌}
use native.Mathlib.Omega.{arith}
use mathlib.Core.Bool.{Bool, true, false, not, ◌&&◌}
use mathlib.Core.Path.{◌≡◌, refl, sym, ap, ◌∙◌}
use mathlib.Core.List.{List}
use lib.ListN.{length, get_or, set}
use lib.Dec.{eqb}
use borrow.Author.Tests.{ne_eqb}
use Rattle.picks.specs.Pick.{pick}
use Rattle.protocol.specs.declared.SdoClientInfo.{SdoClientInfo}
use Rattle.protocol.specs.declared.Connection.{Connection}
use Rattle.std.specs.Prelude.{Ok}
use Rattle.protocol.specs.Constants.{SHARE, RECORDS, AREA}
use Rattle.protocol.specs.Coding.{Answer, refused}
use Rattle.protocol.specs.ConnectionRecord.{Reply, Served, serve}
use Rattle.protocol.specs.ConnectionTable.{fresh, sound_table, record_of, update, share_of, with_share, chosen, earliest, Ticking, ticks, tick_record}
use Rattle.protocol.specs.Calls.{Verdict, refuse, accept, verdict, To, Called}
use Rattle.protocol.specs.Request.{seated, answer_with, request_served, accepted}
use Rattle.protocol.specs.Tick.{tick_tests, tick_told, tick_at, ticked, on_tick_verdict, tick_of}
use Rattle.protocol.specs.DeadlineQuery.{told_next_action, query_tests, query_of}
use Rattle.server.specs.Left.{on_tick_at, tick_at_of}
use Rattle.protocol.proofs.Requests.{Accepted, own_below, stored_sound}
use Rattle.protocol.proofs.Ticks.{TickAccepted, answered_there, answered_used, lying_kept, set_lying}

-- calls that agree in all that they return and leave
pub same_called : {A : Type 0} {r r' : Answer A} {a a' : List ℕ} {t t' : List Connection} {b b' : List ℕ} (image : List ℕ) → r ≡ r' → a ≡ a' → t ≡ t' → b ≡ b' → ◌≡◌ {A = Called A} (record { returned = r; answer = a; table = t; area = b; image = image }) (record { returned = r'; answer = a'; table = t'; area = b'; image = image })
same_called image e f g h = rw (e, f, g, h)

-- a client without a record has a seat
pub free_seat : (k : Bool) (n : ℕ) → (k ≡ false → 0 < n) → (not k && eqb n 0) ≡ false
free_seat true n f = refl
free_seat false n f = ne_eqb n 0 (λ e. let h = f refl in omega arith)

module _ (client : SdoClientInfo) (clock : ℕ) (request image answer : List ℕ) (table : List Connection) (area : List ℕ) where
  abbrev pub served_on : Connection → Served
  served_on c = serve c (share_of area c.area) image clock request

  -- what is left, by the row, the record's area number and what serving it gave
  abbrev pub over : List Connection → ℕ → Served → Called To
  over row n s =
      answer_with client clock request image answer table area (update client s.connection row) (with_share area n s.share) s s.said

  module _ (row : List Connection) (c : Connection) (e : row ≡ seated client clock request image answer table area) (f : c ≡ record_of client row) where
    pub share_inside : Accepted client clock request image answer table area → SHARE * c.area + SHARE ≤ length area
    unfolding AREA RECORDS SHARE
    share_inside ok =
        let n : c.area ≡ (record_of client (seated client clock request image answer table area)).area = ap (λ k. k.area) f ∙ ap (λ t. (record_of client t).area) e in
        let b = own_below client clock request image answer table area ok in
        let w = ok.whole in
        omega arith

    module _ (s : Served) (g : served_on c ≡ s) where
      pub accepted_is : over row c.area s ≡ accepted client clock request image answer table area
      unfolding accepted request_served
      accepted_is =
          ap (over row c.area) (sym g) ∙ ap (λ k. over row k.area (served_on k)) f ∙ ap (λ t. over t (record_of client t).area (served_on (record_of client t))) e

      pub stored_is : Accepted client clock request image answer table area → sound_table (update client s.connection row) ≡ true
      stored_is ok =
          ap (λ z. sound_table (update client z.connection row)) (sym g) ∙ ap (λ k. sound_table (update client (served_on k).connection row)) f ∙ ap (λ t. sound_table (update client (served_on (record_of client t)).connection t)) e ∙ stored_sound client clock request image answer table area ok

module _ (clock : ℕ) (image answer : List ℕ) (table : List Connection) (area : List ℕ) where
  abbrev pub ticked_on : Connection → Ticking
  ticked_on c = tick_record c (share_of area c.area) image clock

  module _ (i : ℕ) (c : Connection) (f : c ≡ get_or table i (fresh 0)) where
    pub ticked_is : (x : Ticking) → ticked_on c ≡ x → tick_told clock image answer table area i c x ≡ tick_at clock image answer table area i
    ticked_is x g =
        ap (tick_told clock image answer table area i c) (sym g) ∙ ap (λ k. tick_told clock image answer table area i k (ticked_on k)) f

    pub tick_stored : TickAccepted clock image answer table area → (next : Connection) (reply : Reply) → ticked_on c ≡ ticks next reply → sound_table (set table i next) ≡ true
    tick_stored ok next reply g =
        let h = sym (ap ticked_on f) ∙ g in
        let inside = answered_there clock image answer table area ok i next reply h in
        let used = answered_used clock image answer table area ok i inside next reply h in
        set_lying clock image answer table area ok i inside used next ((lying_kept clock image answer table area ok i inside).kept next reply h).0

  -- a tick that looks at the first due record is the tick
  by_verdict : (v : Verdict) → on_tick_at (chosen table clock) clock image answer table area v ≡ on_tick_verdict clock image answer table area v
  unfolding on_tick_verdict ticked
  by_verdict (refuse x) = refl
  by_verdict accept = refl

  pub tick_at_chosen : (i : ℕ) → i ≡ chosen table clock → tick_at_of i clock image answer table area ≡ tick_of clock image answer table area
  unfolding tick_at_of tick_of
  tick_at_chosen i e = ap (λ j. on_tick_at j clock image answer table area (verdict (tick_tests clock image answer table area))) e ∙ by_verdict (verdict (tick_tests clock image answer table area))

-- the deadline query of a row of eight
pub query_sound : (t : List Connection) → length t ≡ 8 → sound_table t ≡ true → told_next_action (Ok (earliest t)) ≡ query_of t
unfolding query_of query_tests verdict pick RECORDS
query_sound t e s = rw (e, s) refl

pub query_unsound : (t : List Connection) → length t ≡ 8 → sound_table t ≡ false → refused 3 ≡ query_of t
unfolding query_of query_tests verdict pick RECORDS
query_unsound t e s = rw (e, s)
