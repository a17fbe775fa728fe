-- Demand 3: every finished upload of a series spells the value held when it began.
use Prim.Native.Nat.{ℕ, ◌<◌}
use mathlib.Core.Path.{◌≡◌, refl, sym, ap, ◌∙◌}
use mathlib.Core.Bool.{Bool, true, false, ◌&&◌}
use mathlib.Core.List.{List, [], ◌∷◌, ◌++◌}
use mathlib.Core.Option.{Option, none}
use lib.ListN.{length, set, take}
use Rattle.picks.specs.Pick.{pick, first}
use Rattle.picks.proofs.Keep.{not_both, by_test}
use Rattle.octets.specs.Octets.{splice}
use Rattle.protocol.specs.declared.SdoClientInfo.{SdoClientInfo}
use Rattle.protocol.specs.declared.SdoServerState.TheVariants.{Closed}
use Rattle.protocol.specs.declared.Connection.{Connection}
use Rattle.protocol.specs.Coding.{Answer, refused, value}
use Rattle.protocol.specs.ConnectionRecord.{Reply, Served}
use Rattle.protocol.specs.ConnectionTable.{sound_table, place_of, is_known, record_of, same_client, holds, is_closed, release, share_of, empty_table, Ticking, idle, ticks, tick_record}
use Rattle.protocol.specs.Calls.{Verdict, refuse, accept, verdict, frame}
use Rattle.protocol.specs.Request.{request_tests, dropped, answer_with, request_served, accepted, on_verdict, request_of}
use Rattle.protocol.specs.Tick.{tick_tests, drops_closed, tick_told, ticked, on_tick_verdict, tick_of}
use Rattle.protocol.specs.Series.{Call, request, tick, query, Server, start, held_by, Sent, sent_to, sent_tick, request_done, tick_done, step, run}
use Rattle.protocol.specs.EveryUpload.{Frame, decodes, decode_sent, frames_of, AllDecode, AllSpell, Claim}
use Rattle.protocol.proofs.ConnectionTable.{same_client_eq, same_client_refl, same_client_sym, join_own, release_kept, release_gone, release_unknown}
use Rattle.protocol.proofs.ServeSound.{Formed, Steps}
use Rattle.protocol.proofs.Coding.{value_one, refused_none}
use Rattle.protocol.proofs.RecordSound.{image_laws}
use Rattle.protocol.proofs.ServeUploads.{ServeKind, mute, says, resays, serve_kind, TickKind, again, aborted, tick_kind}
use Rattle.protocol.proofs.Frames.{frame_header, frame_command, answer_holds}
use Rattle.protocol.proofs.Requests.{Accepted, accepted_by, own_sound, share_long, own, own_share, served, served_kept, stored, laid, stored_sound, stored_own, stored_other, laid_own, laid_other}
use Rattle.protocol.proofs.Ticks.{TickAccepted, tick_accepted_by, place, due, due_share, due_there, due_known, due_kept, set_known, set_own, set_other}
use Rattle.protocol.proofs.Uploads.{Up, Stays, closed_none}
use Rattle.protocol.proofs.Spelling.{Running, Next, after_kind, after_quiet, after_resent}

-- what the proof carries from call to call
pub record Client (c : SdoClientInfo) (s : Server) (fs : List Frame) : Type 0 where
  pub spells : AllSpell fs
  pub running : is_known c s.table ≡ true → (x n o : ℕ) → Up (record_of c s.table) x n o → Running x n o (share_of s.area (record_of c s.table).area) fs

pub record Inv (s : Server) (log : List Sent) : Type 0 where
  pub decode : AllDecode log
  pub client : (c : SdoClientInfo) → Client c s (frames_of c log)

-- an answer's bytes are one frame
one_frame : (y : Reply) (held : Option (List ℕ)) (c : SdoClientInfo) (bytes : List ℕ) → Formed y → bytes ≡ frame y → decode_sent (record { client = c; bytes = bytes; held = held }) ≡ record { header = y.header; command = y.command; held = held } ∷ []
unfolding decodes
one_frame y held c bytes f e = rw (e, frame_header y f, frame_command y f)

-- the frames of a client with one more answer, to it or to another
own_frames : (c : SdoClientInfo) (s : Sent) (log : List Sent) (f : Frame) → same_client s.client c ≡ true → decode_sent s ≡ f ∷ [] → frames_of c (s ∷ log) ≡ f ∷ frames_of c log
unfolding frames_of pick
own_frames c s log f e d = rw (e, d)

other_frames : (c : SdoClientInfo) (s : Sent) (log : List Sent) → same_client s.client c ≡ false → frames_of c (s ∷ log) ≡ frames_of c log
unfolding frames_of pick
other_frames c s log e = rw e

-- who is known after a release was known before it, with the same record
release_back : (gone : Connection → Bool) (t : List Connection) (c : SdoClientInfo) → sound_table t ≡ true → is_known c (release gone t) ≡ true → (is_known c t ≡ true) × (record_of c (release gone t) ≡ record_of c t)
release_back gone t c s e =
    by_test (is_known c t)
    (λ k. by_test (gone (record_of c t)) (λ g. not_both e (release_gone gone t c s k g)) (λ g. (k, (release_kept gone t c k g).1)))
    (λ k. not_both e (release_unknown gone t c k))

module _ (client : SdoClientInfo) (clock : ℕ) (bytes image answer : List ℕ) (s : Server) (log : List Sent) (inv : Inv s log) (ok : Accepted client clock bytes image answer s.table s.area) where
  abbrev mine : Connection
  mine = own client clock bytes image answer s.table s.area ok

  abbrev my_share : List ℕ
  my_share = own_share client clock bytes image answer s.table s.area ok

  abbrev result : Served
  result = served client clock bytes image answer s.table s.area ok

  abbrev rows : List Connection
  rows = stored client clock bytes image answer s.table s.area ok

  abbrev bytes' : List ℕ
  bytes' = laid client clock bytes image answer s.table s.area ok

  mine_known : is_known client s.table ≡ true → mine ≡ record_of client s.table
  unfolding pick
  mine_known e = rw e

  mine_new : is_known client s.table ≡ false → mine.state ≡ Closed
  unfolding pick
  mine_new e = rw e (ap (λ (r : Connection). r.state) (join_own client s.table e).1)

  -- what the client's upload rests on before the call
  before_run : (x n o : ℕ) → Up mine x n o → Running x n o my_share (frames_of client log)
  before_run x n o u =
      by_test (is_known client s.table)
      (λ e. let q = mine_known e in rw q ((inv.client client).running e x n o (rw q at u)))
      (λ e. absurd (closed_none u.transfer (sym (mine_new e) ∙ u.state)))

  -- another client sees nothing of the call
  other_client : (c : SdoClientInfo) (table' : List Connection) → same_client c client ≡ false → (is_known c table' ≡ true → (is_known c rows ≡ true) × (record_of c table' ≡ record_of c rows)) → Client c (record { table = table'; area = bytes' }) (frames_of c log)
  other_client c table' f back = record {
    spells = (inv.client c).spells;
    running = λ e x n o u.
        let b = back e in
        let w = stored_other client clock bytes image answer s.table s.area ok c f in
        let k = sym w.0 ∙ b.0 in
        let p : record_of c table' ≡ record_of c s.table = b.1 ∙ w.1 in
        rw (p, laid_other client clock bytes image answer s.table s.area ok c f k) ((inv.client c).running k x n o (rw p at u));
  }

  -- the client itself, by its next frame or none
  own_client : (table' : List Connection) (fs : List Frame) → AllSpell fs → (is_known client table' ≡ true → record_of client table' ≡ result.connection) → ((x n o : ℕ) → Up result.connection x n o → Running x n o result.share fs) → Client client (record { table = table'; area = bytes' }) fs
  own_client table' fs all same run' = record {
    spells = all;
    running = λ e x n o u.
        let p : record_of client table' ≡ result.connection = same e in
        let k = served_kept client clock bytes image answer s.table s.area ok in
        let q : share_of bytes' result.connection.area ≡ result.share = ap (share_of bytes') k.area ∙ laid_own client clock bytes image answer s.table s.area ok in
        rw (p, q) (run' x n o (rw p at u));
  }

  own_stored : is_known client rows ≡ true → record_of client rows ≡ result.connection
  own_stored e = (stored_own client clock bytes image answer s.table s.area ok).1

  rows_sound : sound_table rows ≡ true
  rows_sound = stored_sound client clock bytes image answer s.table s.area ok

  -- after a refusal by 8 or 9: no frame
  refused_inv : Stays mine my_share result.connection result.share → Inv (record { table = rows; area = bytes' }) log
  refused_inv k = record {
    decode = inv.decode;
    client = λ c. by_test (same_client c client)
        (λ e. rw (same_client_eq c client e) (own_client rows (frames_of client log) (inv.client client).spells own_stored (λ x n o u. let w = k.before x n o u in rw w.1 (before_run x n o w.0))))
        (λ e. other_client c rows e (λ f. (f, refl)));
  }

  -- after an answer: one frame
  abbrev gone : List Connection
  gone = dropped client clock bytes image answer s.table s.area rows result.connection

  gone_back : (c : SdoClientInfo) → is_known c gone ≡ true → (is_known c rows ≡ true) × (record_of c gone ≡ record_of c rows)
  unfolding pick
  gone_back c = by_closed (is_closed result.connection.state)
    where
      by_closed : (b : Bool) → is_known c (pick b (release (holds client) rows) rows) ≡ true → (is_known c rows ≡ true) × (record_of c (pick b (release (holds client) rows) rows) ≡ record_of c rows)
      by_closed true e = release_back (holds client) rows c rows_sound e
      by_closed false e = (e, refl)

  answered_inv : (y : Reply) (sent : Sent) → sent.client ≡ client → decode_sent sent ≡ record { header = y.header; command = y.command; held = held_by bytes image } ∷ [] → Next (record { header = y.header; command = y.command; held = held_by bytes image }) (frames_of client log) result.connection result.share → Inv (record { table = gone; area = bytes' }) (sent ∷ log)
  unfolding AllDecode AllSpell
  answered_inv y sent e d n = record {
    decode = (ap length d, inv.decode);
    client = λ c. by_test (same_client c client) (mine_inv c) (other_inv c);
  }
    where
      fs : List Frame
      fs = frames_of client log

      to_client : same_client sent.client client ≡ true
      to_client = rw e (same_client_refl client)

      mine_inv : (c : SdoClientInfo) → same_client c client ≡ true → Client c (record { table = gone; area = bytes' }) (frames_of c (sent ∷ log))
      mine_inv c f =
          rw (same_client_eq c client f, own_frames client sent log (record { header = y.header; command = y.command; held = held_by bytes image }) (rw e (same_client_refl client)) d)
          (own_client gone (record { header = y.header; command = y.command; held = held_by bytes image } ∷ frames_of client log) (n.spells, (inv.client client).spells) (λ g. let b = gone_back client g in b.1 ∙ own_stored b.0) n.running)

      other_inv : (c : SdoClientInfo) → same_client c client ≡ false → Client c (record { table = gone; area = bytes' }) (frames_of c (sent ∷ log))
      other_inv c f =
          rw (other_frames c sent log (rw e (same_client_sym client c ∙ f))) (other_client c gone f (gone_back c))

  stays_of : (n : ℕ) → result.said ≡ refused n → ServeKind mine my_share (held_by bytes image) result → Stays mine my_share result.connection result.share
  stays_of n e (mute m f k) = k
  stays_of n e (says y f m k) = absurd (refused_none (sym e ∙ f))
  stays_of n e (resays y f m k g) = absurd (refused_none (sym e ∙ f))

  my_kind : ServeKind mine my_share (held_by bytes image) result
  my_kind =
      serve_kind mine my_share image clock bytes (own_sound client clock bytes image answer s.table s.area ok) (share_long client clock bytes image answer s.table s.area ok) (image_laws image ok.image_sound)

  abbrev framed : Reply → Frame
  framed y = record { header = y.header; command = y.command; held = held_by bytes image }

  next_of : (y : Reply) → result.said ≡ value y → ServeKind mine my_share (held_by bytes image) result → Next (framed y) (frames_of client log) result.connection result.share
  next_of y e (mute m f k) = absurd (refused_none (sym f ∙ e))
  next_of y e (says z f m k) = rw (← value_one (sym f ∙ e)) (after_kind mine my_share result.connection result.share (framed z) (frames_of client log) before_run m k)
  next_of y e (resays z f m k g) = rw (← value_one (sym f ∙ e)) (after_resent mine my_share result.connection result.share (framed z) (frames_of client log) before_run m k g)

  pub accepted_inv : Inv (request_done (held_by bytes image) (accepted client clock bytes image answer s.table s.area)).server ((request_done (held_by bytes image) (accepted client clock bytes image answer s.table s.area)).sent ++ log)
  unfolding accepted request_served answer_with sent_to
  accepted_inv = by_said result.said refl
    where
      by_said : (x : Answer Reply) → result.said ≡ x → Inv (request_done (held_by bytes image) (answer_with client clock bytes image answer s.table s.area rows bytes' result x)).server ((request_done (held_by bytes image) (answer_with client clock bytes image answer s.table s.area rows bytes' result x)).sent ++ log)
      by_said (refused n) e = refused_inv (stays_of n e my_kind)
      by_said (value y) e =
          let formed = (served_kept client clock bytes image answer s.table s.area ok).formed y e in
          answered_inv y (record { client = client; bytes = take (length (frame y)) (splice 0 (frame y) answer); held = held_by bytes image }) refl (one_frame y (held_by bytes image) client _ formed (answer_holds y formed answer ok.room)) (next_of y e my_kind)

request_inv : (s : Server) (log : List Sent) (client : SdoClientInfo) (clock : ℕ) (bytes image answer : List ℕ) → Inv s log → Inv (step s (request client clock bytes image answer)).server ((step s (request client clock bytes image answer)).sent ++ log)
unfolding step request_of on_verdict sent_to
request_inv s log client clock bytes image answer inv = by_verdict (verdict (request_tests client clock bytes image answer s.table s.area)) refl
  where
    by_verdict : (v : Verdict) → verdict (request_tests client clock bytes image answer s.table s.area) ≡ v → Inv (request_done (held_by bytes image) (on_verdict client clock bytes image answer s.table s.area v)).server ((request_done (held_by bytes image) (on_verdict client clock bytes image answer s.table s.area v)).sent ++ log)
    by_verdict (refuse x) e = inv
    by_verdict accept e = accepted_inv client clock bytes image answer s log inv (accepted_by client clock bytes image answer s.table s.area e)

module _ (clock : ℕ) (image answer : List ℕ) (s : Server) (log : List Sent) (inv : Inv s log) (ok : TickAccepted clock image answer s.table s.area) where
  abbrev closes : List Connection → List Connection
  closes t = drops_closed clock image answer s.table s.area t

  -- a client that the tick did not answer
  unanswered : (c : SdoClientInfo) (t : List Connection) → sound_table t ≡ true → (is_known c t ≡ true → (is_known c s.table ≡ true) × (record_of c t ≡ record_of c s.table)) → Client c (record { table = closes t; area = s.area }) (frames_of c log)
  unanswered c t h back = record {
    spells = (inv.client c).spells;
    running = λ e x n o u.
        let b = release_back (λ r. r.used && is_closed r.state) t c h e in
        let w = back b.0 in
        let p : record_of c (closes t) ≡ record_of c s.table = b.1 ∙ w.1 in
        rw p ((inv.client c).running w.0 x n o (rw p at u));
  }

  nobody_inv : Inv (record { table = closes s.table; area = s.area }) log
  nobody_inv = record { decode = inv.decode; client = λ c. unanswered c s.table ok.table_sound (λ e. (e, refl)) }

  module _ (r' : Connection) (y : Reply) (inside : place clock image answer s.table s.area ok < length s.table) (steps : Steps (due clock image answer s.table s.area ok) r') (next : Next (record { header = y.header; command = y.command; held = none }) (frames_of (due clock image answer s.table s.area ok).client log) r' (due_share clock image answer s.table s.area ok)) where
    abbrev answered : Connection
    answered = due clock image answer s.table s.area ok

    abbrev after : List Connection
    after = set s.table (place clock image answer s.table s.area ok) r'

    abbrev sent_frame : Frame
    sent_frame = record { header = y.header; command = y.command; held = none }

    after_sound : sound_table after ≡ true
    after_sound = set_known clock image answer s.table s.area ok inside r' steps

    answered_client : Client answered.client (record { table = closes after; area = s.area }) (sent_frame ∷ frames_of answered.client log)
    unfolding AllSpell
    answered_client = record {
      spells = (next.spells, (inv.client answered.client).spells);
      running = λ e x n o u.
          let b = release_back (λ r. r.used && is_closed r.state) after answered.client after_sound e in
          let p : record_of answered.client (closes after) ≡ r' = b.1 ∙ (set_own clock image answer s.table s.area ok inside r' steps).1 in
          rw (p, steps.area) (next.running x n o (rw p at u));
    }

    somebody_inv : (sent : Sent) → sent.client ≡ answered.client → decode_sent sent ≡ sent_frame ∷ [] → Inv (record { table = closes after; area = s.area }) (sent ∷ log)
    unfolding AllDecode
    somebody_inv sent e d = record {
      decode = (ap length d, inv.decode);
      client = λ c. by_test (same_client c answered.client)
          (λ f. rw (same_client_eq c answered.client f, own_frames answered.client sent log sent_frame (rw e (same_client_refl answered.client)) d) answered_client)
          (λ f. rw (other_frames c sent log (rw e (same_client_sym answered.client c ∙ f))) (unanswered c after after_sound (λ k. let w = set_other clock image answer s.table s.area ok inside r' steps c f in (sym w.0 ∙ k, w.1))));
    }

  -- what the answered client's upload rests on before the tick
  due_run : place clock image answer s.table s.area ok < length s.table → (x n o : ℕ) → Up (due clock image answer s.table s.area ok) x n o → Running x n o (due_share clock image answer s.table s.area ok) (frames_of (due clock image answer s.table s.area ok).client log)
  due_run inside x n o u =
      let k = due_known clock image answer s.table s.area ok inside in
      rw k.1 at ((inv.client (due clock image answer s.table s.area ok).client).running k.0 x n o (rw k.1 u))

  tick_next : (r' : Connection) (y : Reply) → place clock image answer s.table s.area ok < length s.table → TickKind (due clock image answer s.table s.area ok) (due_share clock image answer s.table s.area ok) r' y → Next (record { header = y.header; command = y.command; held = none }) (frames_of (due clock image answer s.table s.area ok).client log) r' (due_share clock image answer s.table s.area ok)
  tick_next r' y inside (again m k g) = after_resent (due clock image answer s.table s.area ok) (due_share clock image answer s.table s.area ok) r' (due_share clock image answer s.table s.area ok) _ _ (due_run inside) m k g
  tick_next r' y inside (aborted e k) = after_quiet (due clock image answer s.table s.area ok) (due_share clock image answer s.table s.area ok) r' (due_share clock image answer s.table s.area ok) _ _ (due_run inside) e k

  ticked_inv : Inv (tick_done (ticked clock image answer s.table s.area)).server ((tick_done (ticked clock image answer s.table s.area)).sent ++ log)
  unfolding ticked tick_told sent_tick
  ticked_inv = by_ticking (tick_record (due clock image answer s.table s.area ok) (due_share clock image answer s.table s.area ok) image clock) refl
    where
      by_ticking : (x : Ticking) → tick_record (due clock image answer s.table s.area ok) (due_share clock image answer s.table s.area ok) image clock ≡ x → Inv (tick_done (tick_told clock image answer s.table s.area (place clock image answer s.table s.area ok) (due clock image answer s.table s.area ok) x)).server ((tick_done (tick_told clock image answer s.table s.area (place clock image answer s.table s.area ok) (due clock image answer s.table s.area ok) x)).sent ++ log)
      by_ticking idle e = nobody_inv
      by_ticking (ticks r' y) e =
          let inside = due_there clock image answer s.table s.area ok r' y e in
          let k = (due_kept clock image answer s.table s.area ok inside).kept r' y e in
          let kind = tick_kind (due clock image answer s.table s.area ok) (due_share clock image answer s.table s.area ok) image clock r' y e in
          somebody_inv r' y inside k.0 (tick_next r' y inside kind) (record { client = (due clock image answer s.table s.area ok).client; bytes = take (length (frame y)) (splice 0 (frame y) answer); held = none }) refl (one_frame y none (due clock image answer s.table s.area ok).client _ k.1 (answer_holds y k.1 answer ok.room))

tick_inv : (s : Server) (log : List Sent) (clock : ℕ) (image answer : List ℕ) → Inv s log → Inv (step s (tick clock image answer)).server ((step s (tick clock image answer)).sent ++ log)
unfolding step tick_of on_tick_verdict sent_tick
tick_inv s log clock image answer inv = by_verdict (verdict (tick_tests clock image answer s.table s.area)) refl
  where
    by_verdict : (v : Verdict) → verdict (tick_tests clock image answer s.table s.area) ≡ v → Inv (tick_done (on_tick_verdict clock image answer s.table s.area v)).server ((tick_done (on_tick_verdict clock image answer s.table s.area v)).sent ++ log)
    by_verdict (refuse x) e = inv
    by_verdict accept e = ticked_inv clock image answer s log inv (tick_accepted_by clock image answer s.table s.area e)

-- a call keeps the invariant, and so does a series
step_inv : (s : Server) (log : List Sent) (x : Call) → Inv s log → Inv (step s x).server ((step s x).sent ++ log)
unfolding step
step_inv s log (request client clock bytes image answer) inv = request_inv s log client clock bytes image answer inv
step_inv s log (tick clock image answer) inv = tick_inv s log clock image answer inv
step_inv s log query inv = inv

run_inv : (calls : List Call) (s : Server) (log : List Sent) → Inv s log → AllDecode (run s calls log) × ((c : SdoClientInfo) → AllSpell (frames_of c (run s calls log)))
unfolding run
run_inv [] s log inv = (inv.decode, λ c. (inv.client c).spells)
run_inv (x ∷ calls) s log inv = run_inv calls (step s x).server ((step s x).sent ++ log) (step_inv s log x inv)

nobody_known : (c : SdoClientInfo) → is_known c empty_table ≡ false
unfolding empty_table place_of first pick
nobody_known c = refl

start_inv : (area : List ℕ) → Inv (start area) []
unfolding AllDecode AllSpell frames_of
start_inv area = record { decode = tt; client = λ c. record { spells = tt; running = λ e x n o u. not_both e (nobody_known c) } }

-- demand 3
pub every_upload_spells : (calls : List Call) (area : List ℕ) → Claim calls area
every_upload_spells calls area = let w = run_inv calls (start area) [] (start_inv area) in record { decodes = w.0; spells = w.1 }
