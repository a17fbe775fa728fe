-- Request, tick and query keep a sound table sound, whatever they are lent: so no call of a series is refused with 3.
use Prim.Native.Nat.{ℕ, ◌≤◌, ◌<◌}
use native.Mathlib.Omega.{arith}
use mathlib.Core.Path.{◌≡◌, refl, sym, ap, ◌∙◌}
use mathlib.Core.Bool.{Bool, true, ◌||◌, not}
use mathlib.Core.List.{List, [], ◌∷◌}
use lib.ListN.{length}
use lib.Dec.{eqb, lit<}
use borrow.Author.Tests.{le-ltb, not-true}
use Rattle.picks.specs.Pick.{pick}
use Rattle.picks.proofs.Picks.{pick_elim}
use Rattle.picks.proofs.Keep.{not_both}
use Rattle.protocol.specs.declared.Refusal.{Refusal}
use Rattle.protocol.specs.declared.Refusal.TheVariants as N
use Rattle.protocol.specs.declared.SequenceLayerHeader.{SequenceLayerHeader}
use Rattle.protocol.specs.declared.SdoClientInfo.{SdoClientInfo}
use Rattle.protocol.specs.declared.Connection.{Connection}
use Rattle.protocol.specs.Coding.{Answer, refused, value, refusal_number}
use Rattle.protocol.specs.SequenceHeader.{receive_mark, send_mark, decode_header}
use Rattle.protocol.specs.ConnectionRecord.{Reply, Served, Before, resends, goes_on, before_step, Stepped, stepped, misfit, sequence_step, is_opening, answered, empty_frame, after_step, on_step, on_before, on_header, serve}
use Rattle.protocol.specs.ConnectionTable.{sound_table, is_closed, release, holds, tick_record, Ticking, idle, ticks}
use Rattle.protocol.specs.Calls.{Test, Verdict, refuse, accept, verdict}
use Rattle.protocol.specs.Request.{request_tests, answer_with, request_served, accepted, on_verdict, request_of}
use Rattle.protocol.specs.Tick.{tick_tests, tick_told, ticked, on_tick_verdict, tick_of}
use Rattle.protocol.specs.DeadlineQuery.{query_tests, on_query_verdict, query_of}
use Rattle.protocol.specs.Series.{Call, request, tick, query, Server, start, step}
use Rattle.protocol.proofs.Coding.{refused_none}
use Rattle.protocol.proofs.ConnectionTable.{empty_sound, release_sound}
use Rattle.protocol.proofs.Requests.{Accepted, accepted_by, stored, stored_sound, served, laid}
use Rattle.protocol.proofs.Ticks.{TickAccepted, tick_accepted_by, place, due, due_share, due_there, due_kept, set_known}

-- a request keeps the table sound
module _ (client : SdoClientInfo) (clock : ℕ) (bytes image answer : List ℕ) (table : List Connection) (area : List ℕ) where
  answer_sound : (t : List Connection) (area' : List ℕ) (s : Served) (x : Answer Reply) → sound_table t ≡ true → sound_table (answer_with client clock bytes image answer table area t area' s x).table ≡ true
  unfolding answer_with
  answer_sound t area' s (refused n) e = e
  answer_sound t area' s (value y) e =
      pick_elim (λ u. sound_table u ≡ true) (is_closed s.connection.state) (release (holds client) t) t (λ f. release_sound (holds client) t e) (λ f. e)

  accepted_sound : Accepted client clock bytes image answer table area → sound_table (accepted client clock bytes image answer table area).table ≡ true
  unfolding accepted request_served
  accepted_sound ok =
      let s = served client clock bytes image answer table area ok in
      answer_sound (stored client clock bytes image answer table area ok) (laid client clock bytes image answer table area ok) s s.said (stored_sound client clock bytes image answer table area ok)

  pub request_keeps_sound : sound_table table ≡ true → sound_table (request_of client clock bytes image answer table area).table ≡ true
  unfolding request_of on_verdict
  request_keeps_sound e = by_verdict (verdict (request_tests client clock bytes image answer table area)) refl
    where
      by_verdict : (v : Verdict) → verdict (request_tests client clock bytes image answer table area) ≡ v → sound_table (on_verdict client clock bytes image answer table area v).table ≡ true
      by_verdict (refuse x) f = e
      by_verdict accept f = accepted_sound (accepted_by client clock bytes image answer table area f)

-- a tick keeps the table sound
module _ (clock : ℕ) (image answer : List ℕ) (table : List Connection) (area : List ℕ) where
  ticked_sound : TickAccepted clock image answer table area → sound_table (ticked clock image answer table area).table ≡ true
  unfolding ticked tick_told
  ticked_sound ok = by_ticking (tick_record (due clock image answer table area ok) (due_share clock image answer table area ok) image clock) refl
    where
      by_ticking : (x : Ticking) → tick_record (due clock image answer table area ok) (due_share clock image answer table area ok) image clock ≡ x → sound_table (tick_told clock image answer table area (place clock image answer table area ok) (due clock image answer table area ok) x).table ≡ true
      by_ticking idle e = release_sound _ table ok.table_sound
      by_ticking (ticks r' y) e =
          let inside = due_there clock image answer table area ok r' y e in
          release_sound _ _ (set_known clock image answer table area ok inside r' ((due_kept clock image answer table area ok inside).kept r' y e).0)

  pub tick_keeps_sound : sound_table table ≡ true → sound_table (tick_of clock image answer table area).table ≡ true
  unfolding tick_of on_tick_verdict
  tick_keeps_sound e = by_verdict (verdict (tick_tests clock image answer table area)) refl
    where
      by_verdict : (v : Verdict) → verdict (tick_tests clock image answer table area) ≡ v → sound_table (on_tick_verdict clock image answer table area v).table ≡ true
      by_verdict (refuse x) f = e
      by_verdict accept f = ticked_sound (tick_accepted_by clock image answer table area f)

-- the server after a series, and its table
pub after : Server → List Call → Server
after s [] = s
after s (x ∷ xs) = after (step s x).server xs

step_sound : (s : Server) (x : Call) → sound_table s.table ≡ true → sound_table (step s x).server.table ≡ true
unfolding step
step_sound s (request client clock bytes image answer) e = request_keeps_sound client clock bytes image answer s.table s.area e
step_sound s (tick clock image answer) e = tick_keeps_sound clock image answer s.table s.area e
step_sound s query e = e

after_sound : (calls : List Call) (s : Server) → sound_table s.table ≡ true → sound_table (after s calls).table ≡ true
unfolding after
after_sound [] s e = e
after_sound (x ∷ calls) s e = after_sound calls (step s x).server (step_sound s x e)

pub table_stays_sound : (calls : List Call) (area : List ℕ) → sound_table (after (start area) calls).table ≡ true
table_stays_sound calls area = after_sound calls (start area) empty_sound

-- what serving refuses with: 8 or 9, where the header is there
abbrev Late : Answer Reply → Type 0
Late x = (n : ℕ) → x ≡ refused n → (7 < n) × (n < 10)

late : (m : ℕ) → 7 < m → m < 10 → Late (refused m)
late m a b n f = let p : m ≡ n = cc in (omega arith, omega arith)

replies : (y : Reply) → Late (value y)
replies y n f = absurd (refused_none (sym f))

abbrev Lately : Served → Type 0
Lately s = Late s.said

module _ (c : Connection) (share image : List ℕ) (clock : ℕ) where
  after_late : (h r : SequenceLayerHeader) (body : List ℕ) → Lately (after_step c share image clock h r body)
  unfolding after_step empty_frame answered
  after_late h r body =
      pick_elim Lately (eqb (receive_mark h.rcon) 3) _ _ (λ e. replies _)
      (λ e. pick_elim Lately (eqb (length body) 0) _ _ (λ f. pick_elim Lately (is_opening c.state || eqb (send_mark h.scon) 2) _ _ (λ g. replies _) (λ g. late 9 (lit< tt) (lit< tt))) (λ f. replies _))

header_there : (bytes : List ℕ) (n : ℕ) → decode_header bytes ≡ refused n → 4 ≤ length bytes → ⊥
unfolding decode_header pick
header_there bytes n e l = refused_none (sym (rw (le-ltb (length bytes) 4 l) at e))

module _ (c : Connection) (share image : List ℕ) (clock : ℕ) (bytes : List ℕ) where
  step_late : (h : SequenceLayerHeader) (x : Stepped) → Lately (on_step c share image clock bytes h x)
  unfolding on_step
  step_late h (stepped c' r) = after_late c' share image clock h r _
  step_late h (misfit c') = late 8 (lit< tt) (lit< tt)

  before_late : (h : SequenceLayerHeader) (x : Before) → Lately (on_before c share image clock bytes h x)
  unfolding on_before
  before_late h (resends y) = replies y
  before_late h goes_on = step_late h (sequence_step c h)

  header_late : (x : Answer SequenceLayerHeader) → decode_header bytes ≡ x → 4 ≤ length bytes → Lately (on_header c share image clock bytes x)
  unfolding on_header
  header_late (value h) e l = before_late h (before_step c share h)
  header_late (refused n) e l = absurd (header_there bytes n e l)

  pub serve_numbers : 4 ≤ length bytes → Lately (serve c share image clock bytes)
  unfolding serve
  serve_numbers l = header_late (decode_header bytes) refl l

-- "8 and 9 only if none of 1 to 7 does": a request returns a number up to 7 by its tests alone, and 8 or 9 only where they accept
module _ (client : SdoClientInfo) (clock : ℕ) (bytes image answer : List ℕ) (table : List Connection) (area : List ℕ) where
  answer_late : (t : List Connection) (area' : List ℕ) (s : Served) (x : Answer Reply) → Late x → (n : ℕ) → (answer_with client clock bytes image answer table area t area' s x).returned ≡ refused n → (7 < n) × (n < 10)
  unfolding answer_with
  answer_late t area' s (refused m) k n f = k n (let p : m ≡ n = cc in ap refused p)
  answer_late t area' s (value y) k n f = absurd (refused_none (sym f))

  pub accepted_numbers : Accepted client clock bytes image answer table area → (n : ℕ) → (accepted client clock bytes image answer table area).returned ≡ refused n → (7 < n) × (n < 10)
  unfolding accepted request_served
  accepted_numbers ok n e =
      let s = served client clock bytes image answer table area ok in
      answer_late _ _ s s.said (serve_numbers _ _ image clock bytes ok.some) n e

-- no list of tests refuses by a test that fails
abbrev NotTable : Verdict → Type 0
NotTable v = v ≡ refuse N.Table → ⊥

accept_other : NotTable accept
accept_other e = let z : ◌≡◌ {A = ℕ} 0 1 = cc in omega arith

refuse_other : (x : Refusal) → (x ≡ N.Table → ⊥) → NotTable (refuse x)
refuse_other x f e = let p : x ≡ N.Table = cc in f p

by_number : {x y : Refusal} → x ≡ y → refusal_number x ≡ refusal_number y
by_number e = ap refusal_number e

other_tests : (b : Bool) (x : Refusal) (ts : List Test) → (b ≡ true → x ≡ N.Table → ⊥) → NotTable (verdict ts) → NotTable (verdict (record { holds = b; refusal = x } ∷ ts))
unfolding verdict
other_tests b x ts f g = pick_elim NotTable b (refuse x) (verdict ts) (λ e. refuse_other x (f e)) (λ e. g)

no_tests : NotTable (verdict [])
unfolding verdict
no_tests = accept_other

sound_test : (t : List Connection) → sound_table t ≡ true → not (sound_table t) ≡ true → N.Table ≡ N.Table → ⊥
sound_test t e f g = not_both e (not-true _ f)

only_table : (x : Refusal) → refusal_number x ≡ 3 → x ≡ N.Table
only_table N.Table e = refl
only_table N.Lent e = absurd (omega arith)
only_table N.Image e = absurd (omega arith)
only_table N.Clock e = absurd (omega arith)
only_table N.Short e = absurd (omega arith)
only_table N.Long e = absurd (omega arith)
only_table N.Full e = absurd (omega arith)
only_table N.Sequence e = absurd (omega arith)
only_table N.EmptyCommand e = absurd (omega arith)

-- so from the empty table no call of a series is refused with 3
module _ (client : SdoClientInfo) (clock : ℕ) (bytes image answer : List ℕ) (table : List Connection) (area : List ℕ) (sound : sound_table table ≡ true) where
  request_tests_pass : NotTable (verdict (request_tests client clock bytes image answer table area))
  unfolding request_tests
  request_tests_pass =
      other_tests _ N.Lent _ (λ e f. absurd (omega (arith, by_number f))) (other_tests _ N.Image _ (λ e f. absurd (omega (arith, by_number f))) (other_tests _ N.Table _ (sound_test table sound) (other_tests _ N.Clock _ (λ e f. absurd (omega (arith, by_number f))) (other_tests _ N.Short _ (λ e f. absurd (omega (arith, by_number f))) (other_tests _ N.Long _ (λ e f. absurd (omega (arith, by_number f))) (other_tests _ N.Full _ (λ e f. absurd (omega (arith, by_number f))) no_tests))))))

  pub request_never_3 : (request_of client clock bytes image answer table area).returned ≡ refused 3 → ⊥
  unfolding request_of on_verdict
  request_never_3 e = by_verdict (verdict (request_tests client clock bytes image answer table area)) refl e
    where
      by_verdict : (v : Verdict) → verdict (request_tests client clock bytes image answer table area) ≡ v → (on_verdict client clock bytes image answer table area v).returned ≡ refused 3 → ⊥
      by_verdict (refuse x) f g = request_tests_pass (f ∙ ap refuse (only_table x (let p : refusal_number x ≡ 3 = cc in p)))
      by_verdict accept f g = let w = accepted_numbers client clock bytes image answer table area (accepted_by client clock bytes image answer table area f) 3 g in omega arith

module _ (clock : ℕ) (image answer : List ℕ) (table : List Connection) (area : List ℕ) (sound : sound_table table ≡ true) where
  tick_tests_pass : NotTable (verdict (tick_tests clock image answer table area))
  unfolding tick_tests
  tick_tests_pass =
      other_tests _ N.Lent _ (λ e f. absurd (omega (arith, by_number f))) (other_tests _ N.Image _ (λ e f. absurd (omega (arith, by_number f))) (other_tests _ N.Table _ (sound_test table sound) (other_tests _ N.Clock _ (λ e f. absurd (omega (arith, by_number f))) no_tests)))

  told_none : (x : Ticking) (i : ℕ) (r : Connection) → (tick_told clock image answer table area i r x).returned ≡ refused 3 → ⊥
  unfolding tick_told
  told_none idle i r e = refused_none (sym e)
  told_none (ticks r' y) i r e = refused_none (sym e)

  pub tick_never_3 : (tick_of clock image answer table area).returned ≡ refused 3 → ⊥
  unfolding tick_of on_tick_verdict ticked
  tick_never_3 e = by_verdict (verdict (tick_tests clock image answer table area)) refl e
    where
      by_verdict : (v : Verdict) → verdict (tick_tests clock image answer table area) ≡ v → (on_tick_verdict clock image answer table area v).returned ≡ refused 3 → ⊥
      by_verdict (refuse x) f g = tick_tests_pass (f ∙ ap refuse (only_table x (let p : refusal_number x ≡ 3 = cc in p)))
      by_verdict accept f g = told_none _ _ _ g

query_tests_pass : (table : List Connection) → sound_table table ≡ true → NotTable (verdict (query_tests table))
unfolding query_tests
query_tests_pass table sound =
    other_tests _ N.Lent _ (λ e f. absurd (omega (arith, by_number f))) (other_tests _ N.Table _ (sound_test table sound) no_tests)

pub query_never_3 : (table : List Connection) → sound_table table ≡ true → query_of table ≡ refused 3 → ⊥
unfolding query_of
query_never_3 table sound e = by_verdict (verdict (query_tests table)) refl e
  where
    by_verdict : (v : Verdict) → verdict (query_tests table) ≡ v → on_query_verdict table v ≡ refused 3 → ⊥
    by_verdict (refuse x) f g = query_tests_pass table sound (f ∙ ap refuse (only_table x (let p : refusal_number x ≡ 3 = cc in p)))
    by_verdict accept f g = refused_none (sym g)

-- whatever came before, from the empty table
pub record Never3 (s : Server) : Type 0 where
  pub by_request : (client : SdoClientInfo) (clock : ℕ) (bytes image answer : List ℕ) → (request_of client clock bytes image answer s.table s.area).returned ≡ refused 3 → ⊥
  pub by_tick : (clock : ℕ) (image answer : List ℕ) → (tick_of clock image answer s.table s.area).returned ≡ refused 3 → ⊥
  pub by_query : query_of s.table ≡ refused 3 → ⊥

pub never_refused_with_3 : (calls : List Call) (area : List ℕ) → Never3 (after (start area) calls)
never_refused_with_3 calls area =
    let s = after (start area) calls in
    let h = table_stays_sound calls area in
    record {
      by_request = λ client clock bytes image answer. request_never_3 client clock bytes image answer s.table s.area h;
      by_tick = λ clock image answer. tick_never_3 clock image answer s.table s.area h;
      by_query = query_never_3 s.table h;
    }
