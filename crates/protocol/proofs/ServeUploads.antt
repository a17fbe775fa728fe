-- What a whole request on one record does to an upload.
use Prim.Native.Nat.{ℕ, ◌-◌, ◌<◌}
use native.Mathlib.Omega.{arith}
use mathlib.Core.Path.{◌≡◌, refl, ap, ◌∙◌}
use mathlib.Core.Bool.{Bool, true, false, ◌&&◌, ◌||◌}
use mathlib.Core.List.{List}
use mathlib.Core.Option.{Option}
use lib.ListN.{length}
use lib.Dec.{eqb, ltb}
use Rattle.picks.specs.Pick.{pick}
use Rattle.picks.proofs.Picks.{pick_elim}
use Rattle.protocol.specs.declared.SendConnState.TheVariants as S
use Rattle.protocol.specs.declared.SequenceLayerHeader.{SequenceLayerHeader}
use Rattle.protocol.specs.declared.SdoTransferState.{SdoTransferState}
use Rattle.protocol.specs.declared.SdoServerState.{SdoServerState}
use Rattle.protocol.specs.declared.SdoServerState.TheVariants.{Closed, Opening, Established, SegmentedDownload, SegmentedUpload}
use Rattle.protocol.specs.declared.Connection.{Connection}
use Rattle.protocol.specs.Constants.{PIECE, SHARE}
use Rattle.protocol.specs.Coding.{Answer, refused, value}
use Rattle.protocol.specs.SequenceHeader.{receive_mark, send_mark, next, decode_header, command_part}
use Rattle.protocol.specs.Command.{Command, flag_places, decode_command}
use Rattle.protocol.specs.TransferRecord.{Acted, moved, piece}
use Rattle.protocol.specs.ConnectionRecord.{Reply, Served, Before, resends, goes_on, resent, before_in, before_step, Stepped, stepped, misfit, closed_step, opening_step, acknowledge, later_step, step_in, sequence_step, nil, is_opening, answered, empty_in, empty_frame, after_step, on_step, on_before, on_header, serve}
use Rattle.protocol.specs.ConnectionTable.{sound_state, sound_record, Ticking, idle, ticks, times_out, tick_upload, tick_in, tick_record}
use Rattle.protocol.specs.Series.{is_read, held_by}
use Rattle.protocol.proofs.RecordSound.{ImageLaws, state_sound, upload_sending}
use Rattle.protocol.proofs.ServeSound.{step_steps, send_short}
use Rattle.protocol.proofs.Uploads.{Up, up_state, Stays, Kind, quiet, begins, advances, finishes, no_upload, stays_same, closed_none, established_none, download_none, advance_kind, decoding_kind, settle_kind}

-- the stored piece of an upload, sent again
pub record Resent (c : Connection) (share : List ℕ) (m : Command) : Type 0 where
  pub transaction : ℕ
  pub total : ℕ
  pub offset : ℕ
  pub was : Up c transaction total offset
  pub command : m ≡ piece PIECE transaction total (offset - PIECE) share

pub data ServeKind (c : Connection) (share : List ℕ) (held : Option (List ℕ)) (s : Served) : Type 0 where
  mute : (n : ℕ) → s.said ≡ refused n → Stays c share s.connection s.share → ServeKind c share held s
  says : (y : Reply) → s.said ≡ value y → eqb (send_mark y.header.scon) 3 ≡ false → Kind c share held y.command s.connection s.share → ServeKind c share held s
  resays : (y : Reply) → s.said ≡ value y → eqb (send_mark y.header.scon) 3 ≡ true → Resent c share y.command → Stays c share s.connection s.share → ServeKind c share held s

-- an upload of one record is an upload of another
pub record Back (c c' : Connection) : Type 0 where
  pub up : (x n o : ℕ) → Up c' x n o → Up c x n o

back_same : (c : Connection) → Back c c
back_same c = record { up = λ x n o u. u }

back_none : (c c' : Connection) → ((t : SdoTransferState) → c'.state ≡ SegmentedUpload t → ⊥) → Back c c'
back_none c c' f = record { up = λ x n o u. absurd (f u.transfer u.state) }

opening_none : (t : SdoTransferState) → Opening ≡ SegmentedUpload t → ⊥
opening_none t e = let z : ◌≡◌ {A = ℕ} 0 1 = cc in omega arith

-- what a kind says of a record after the sequence step, it says of the record before it
stays_back : (c c' : Connection) (share : List ℕ) (d : Connection) (share' : List ℕ) → Back c c' → Stays c' share d share' → Stays c share d share'
stays_back c c' share d share' b s = record { before = λ x n o u. let w = s.before x n o u in (b.up x n o w.0, w.1) }

kind_back : (c c' : Connection) (share : List ℕ) (held : Option (List ℕ)) (m : Command) (d : Connection) (share' : List ℕ) → Back c c' → Kind c' share held m d share' → Kind c share held m d share'
kind_back c c' share held m d share' b (quiet e s) = quiet e (stays_back c c' share d share' b s)
kind_back c c' share held m d share' b (begins k) = begins k
kind_back c c' share held m d share' b (advances k) = advances (record { transaction = k.transaction; total = k.total; offset = k.offset; was = b.up _ _ _ k.was; more = k.more; command = k.command; same = k.same; up = k.up })
kind_back c c' share held m d share' b (finishes k) = finishes (record { transaction = k.transaction; total = k.total; offset = k.offset; was = b.up _ _ _ k.was; left = k.left; last = k.last; command = k.command; closed = k.closed })

-- the sequence step begins no upload and never asks for an acknowledgement
pub record StepBack (c : Connection) (x : Stepped) : Type 0 where
  pub goes : (c' : Connection) (r : SequenceLayerHeader) → x ≡ stepped c' r → Back c c' × (eqb (send_mark r.scon) 3 ≡ false)
  pub fails : (c' : Connection) → x ≡ misfit c' → Back c c'

steps_back : (c c' : Connection) (r : SequenceLayerHeader) → Back c c' → eqb (send_mark r.scon) 3 ≡ false → StepBack c (stepped c' r)
steps_back c c' r b e = record {
  goes = λ d q f. let p : c' ≡ d = cc in let o : r ≡ q = cc in (rw (← p) b, rw (← o) e);
  fails = λ d f. absurd (let z : ◌≡◌ {A = ℕ} 0 1 = cc in omega arith);
}

fails_back : (c c' : Connection) → Back c c' → StepBack c (misfit c')
fails_back c c' b = record {
  goes = λ d q f. absurd (let z : ◌≡◌ {A = ℕ} 0 1 = cc in omega arith);
  fails = λ d f. let p : c' ≡ d = cc in rw (← p) b;
}

pub same_transfer : {t d : SdoTransferState} → SegmentedUpload t ≡ SegmentedUpload d → t ≡ d
same_transfer e = cc

acknowledge_back : (c : Connection) (send receive : ℕ) (ours : Bool) → Back c (moved c send receive (acknowledge ours c.state))
unfolding acknowledge pick
acknowledge_back c send receive ours = record { up = λ x n o u. by_state c.state refl ours x n o u }
  where
    by_state : (s : SdoServerState) → c.state ≡ s → (b : Bool) (x n o : ℕ) → Up (moved c send receive (acknowledge b s)) x n o → Up c x n o
    by_state Closed e b x n o u = absurd (closed_none u.transfer u.state)
    by_state Opening e b x n o u = absurd (opening_none u.transfer u.state)
    by_state Established e b x n o u = absurd (established_none u.transfer u.state)
    by_state (SegmentedDownload t) e b x n o u = absurd (download_none t u.transfer u.state)
    by_state (SegmentedUpload t) e false x n o u =
        let p = same_transfer u.state in
        record { transfer = t; state = e; transaction' = ap (λ (d : SdoTransferState). d.transaction) p ∙ u.transaction'; total' = ap (λ (d : SdoTransferState). d.total) p ∙ u.total'; offset' = ap (λ (d : SdoTransferState). d.offset) p ∙ u.offset' }
    by_state (SegmentedUpload t) e true x n o u =
        let p = same_transfer u.state in
        record { transfer = t; state = e; transaction' = ap (λ (d : SdoTransferState). d.transaction) p ∙ u.transaction'; total' = ap (λ (d : SdoTransferState). d.total) p ∙ u.total'; offset' = ap (λ (d : SdoTransferState). d.offset) p ∙ u.offset' }

module _ (c : Connection) (h : SequenceLayerHeader) where
  closed_back : StepBack c (closed_step c h)
  unfolding closed_step
  closed_back =
      pick_elim (StepBack c) (eqb (send_mark h.scon) 1) _ _ (λ e. steps_back c _ _ (back_none c _ opening_none) refl) (λ e. steps_back c c _ (back_same c) refl)

  opening_back : StepBack c (opening_step c h)
  unfolding opening_step
  opening_back =
      pick_elim (StepBack c) (eqb (send_mark h.scon) 2 && eqb h.receive c.send) _ _ (λ e. steps_back c _ _ (back_none c _ established_none) refl) (λ e. fails_back c _ (back_none c _ closed_none))

  later_back : StepBack c (later_step c h)
  unfolding later_step
  later_back =
      pick_elim (StepBack c) (eqb h.send c.receive) _ _ (λ e. steps_back c c _ (back_same c) refl)
      (λ e. pick_elim (StepBack c) (eqb h.send (next c.receive)) _ _ (λ f. steps_back c _ _ (acknowledge_back c (next c.send) h.send (eqb h.receive c.send)) refl) (λ f. fails_back c c (back_same c)))

  step_back : StepBack c (sequence_step c h)
  unfolding sequence_step step_in
  step_back = by_state c.state
    where
      by_state : (s : SdoServerState) → StepBack c (step_in s c h)
      by_state Closed = closed_back
      by_state Opening = opening_back
      by_state Established = later_back
      by_state (SegmentedDownload t) = later_back
      by_state (SegmentedUpload t) = later_back

-- an answer that is not a resend
answered_kind : (c : Connection) (share : List ℕ) (held : Option (List ℕ)) (r : SequenceLayerHeader) (a : Acted) → eqb (send_mark r.scon) 3 ≡ false → Kind c share held a.command a.connection a.share → ServeKind c share held (answered r a)
unfolding answered
answered_kind c share held r a e k =
    says _ refl (pick_elim (λ x. eqb (send_mark x) 3 ≡ false) a.command.header.aborted S.NoConnection r.scon (λ f. refl) (λ f. e)) k

serve_back : (c c' : Connection) (share : List ℕ) (held : Option (List ℕ)) (s : Served) → Back c c' → ServeKind c' share held s → ServeKind c share held s
serve_back c c' share held s b (mute n e k) = mute n e (stays_back c c' share _ _ b k)
serve_back c c' share held s b (says y e f k) = says y e f (kind_back c c' share held _ _ _ b k)
serve_back c c' share held s b (resays y e f k g) = resays y e f (record { transaction = k.transaction; total = k.total; offset = k.offset; was = b.up _ _ _ k.was; command = k.command }) (stays_back c c' share _ _ b g)

module _ (c : Connection) (share image : List ℕ) (clock : ℕ) (h r : SequenceLayerHeader) (sc : sound_record c ≡ true) (ls : length share ≡ SHARE) (si : ImageLaws image) (rm : eqb (send_mark r.scon) 3 ≡ false) (held : Option (List ℕ)) where
  empty_in_kind : (s : SdoServerState) → c.state ≡ s → sound_state s ≡ true → Kind c share held (empty_in c share image clock h r s).command (empty_in c share image clock h r s).connection (empty_in c share image clock h r s).share
  unfolding empty_in
  empty_in_kind Closed e g = quiet refl (stays_same c share)
  empty_in_kind Opening e g = quiet refl (stays_same c share)
  empty_in_kind Established e g = quiet refl (no_upload c share _ _ closed_none)
  empty_in_kind (SegmentedDownload t) e g = quiet refl (stays_same c share)
  empty_in_kind (SegmentedUpload t) e g = advance_kind c share image clock held t e (upload_sending t g)

  empty_kind : ServeKind c share held (empty_frame c share image clock h r)
  unfolding empty_frame
  empty_kind =
      pick_elim (ServeKind c share held) (is_opening c.state || eqb (send_mark h.scon) 2) _ _ (λ e. answered_kind c share held r _ rm (empty_in_kind c.state refl (state_sound c sc))) (λ e. mute 9 refl (stays_same c share))

module _ (c : Connection) (share image : List ℕ) (clock : ℕ) (h r : SequenceLayerHeader) (sc : sound_record c ≡ true) (ls : length share ≡ SHARE) (si : ImageLaws image) (rm : eqb (send_mark r.scon) 3 ≡ false) where
  after_kind : (bytes : List ℕ) → ServeKind c share (held_by bytes image) (after_step c share image clock h r (command_part bytes))
  unfolding after_step
  after_kind bytes =
      let body = command_part bytes in
      pick_elim (ServeKind c share (held_by bytes image)) (eqb (receive_mark h.rcon) 3) _ _ (λ e. says (record { header = r; command = nil false false }) refl rm (quiet refl (stays_same c share)))
      (λ e. pick_elim (ServeKind c share (held_by bytes image)) (eqb (length body) 0) _ _ (λ f. empty_kind c share image clock h r sc ls si rm (held_by bytes image))
      (λ f. answered_kind c share (held_by bytes image) r _ rm (settle_kind c share (held_by bytes image) _ (decoding_kind c share image clock ls si sc body (decode_command flag_places body)))))

-- a resend
abbrev Resends : Connection → List ℕ → Before → Type 0
Resends c share x = (y : Reply) → x ≡ resends y → (eqb (send_mark y.header.scon) 3 ≡ true) × Resent c share y.command

none_resent : (c : Connection) (share : List ℕ) → Resends c share goes_on
none_resent c share y e = absurd (let z : ◌≡◌ {A = ℕ} 0 1 = cc in omega arith)

one_resent : (c : Connection) (share : List ℕ) (h : SequenceLayerHeader) (t : SdoTransferState) → c.state ≡ SegmentedUpload t → Resends c share (resends (resent c share h t))
one_resent c share h t e y f =
    let p : resent c share h t ≡ y = cc in
    rw (← p) (refl, record { transaction = t.transaction; total = t.total; offset = t.offset; was = up_state c t e; command = refl })

before_resends : (c : Connection) (share : List ℕ) (h : SequenceLayerHeader) → Resends c share (before_step c share h)
unfolding before_step before_in
before_resends c share h = by_state c.state refl
  where
    by_state : (s : SdoServerState) → c.state ≡ s → Resends c share (before_in s c share h)
    by_state Closed e = none_resent c share
    by_state Opening e = none_resent c share
    by_state Established e = none_resent c share
    by_state (SegmentedDownload t) e = none_resent c share
    by_state (SegmentedUpload t) e = pick_elim (Resends c share) (eqb (receive_mark h.rcon) 3 && t.stored) _ _ (λ f. one_resent c share h t e) (λ f. none_resent c share)

module _ (c : Connection) (share image : List ℕ) (clock : ℕ) (bytes : List ℕ) (sc : sound_record c ≡ true) (ls : length share ≡ SHARE) (si : ImageLaws image) where
  on_step_kind : (h : SequenceLayerHeader) → h.send < 64 → ServeKind c share (held_by bytes image) (on_step c share image clock bytes h (sequence_step c h))
  unfolding on_step
  on_step_kind h hs = by_step (sequence_step c h) refl
    where
      by_step : (x : Stepped) → sequence_step c h ≡ x → ServeKind c share (held_by bytes image) (on_step c share image clock bytes h x)
      by_step (misfit c') e = mute 8 refl (record { before = λ x n o u. (((step_back c h).fails c' e).up x n o u, refl) })
      by_step (stepped c' r) e =
          let b = (step_back c h).goes c' r e in
          serve_back c c' share (held_by bytes image) _ b.0 (after_kind c' share image clock h r ((step_steps c h sc hs).goes c' r e).0.sound ls si b.1 bytes)

  -- "and changes nothing": a resend leaves record, share and image as they were, the retries among them
  pub resend_changes_nothing : (h : SequenceLayerHeader) (y : Reply) → decode_header bytes ≡ value h → before_step c share h ≡ resends y → serve c share image clock bytes ≡ record { connection = c; share = share; image = image; said = value y }
  unfolding serve on_header on_before
  resend_changes_nothing h y e f = rw (e, f)

  on_before_kind : (h : SequenceLayerHeader) → h.send < 64 → ServeKind c share (held_by bytes image) (on_before c share image clock bytes h (before_step c share h))
  unfolding on_before
  on_before_kind h hs = by_before (before_step c share h) refl
    where
      by_before : (x : Before) → before_step c share h ≡ x → ServeKind c share (held_by bytes image) (on_before c share image clock bytes h x)
      by_before goes_on e = on_step_kind h hs
      by_before (resends y) e = let w = before_resends c share h y e in resays y refl w.0 w.1 (stays_same c share)

  -- a whole request on one record
  pub serve_kind : ServeKind c share (held_by bytes image) (serve c share image clock bytes)
  unfolding serve on_header
  serve_kind = by_header (decode_header bytes) refl
    where
      by_header : (x : Answer SequenceLayerHeader) → decode_header bytes ≡ x → ServeKind c share (held_by bytes image) (on_header c share image clock bytes x)
      by_header (refused n) e = mute n refl (stays_same c share)
      by_header (value h) e = on_before_kind h (send_short bytes h e)

-- what a tick does to an upload: its stored piece is sent again, or it ends without a piece
pub data TickKind (r : Connection) (share : List ℕ) (r' : Connection) (y : Reply) : Type 0 where
  again : eqb (send_mark y.header.scon) 3 ≡ true → Resent r share y.command → Stays r share r' share → TickKind r share r' y
  aborted : is_read y.command ≡ false → Stays r share r' share → TickKind r share r' y

abbrev Tickings : Connection → List ℕ → Ticking → Type 0
Tickings r share x = (r' : Connection) (y : Reply) → x ≡ ticks r' y → TickKind r share r' y

tick_idle : (r : Connection) (share : List ℕ) → Tickings r share idle
tick_idle r share r' y e = absurd (let z : ◌≡◌ {A = ℕ} 0 1 = cc in omega arith)

tick_one : (r : Connection) (share : List ℕ) (d : Connection) (y : Reply) → TickKind r share d y → Tickings r share (ticks d y)
tick_one r share d y k r' z e = let p : d ≡ r' = cc in let q : y ≡ z = cc in rw (← p, ← q) k

module _ (r : Connection) (share image : List ℕ) (clock : ℕ) where
  timeout_kind : (t : SdoTransferState) → Tickings r share (times_out r t)
  timeout_kind t = tick_one r share _ _ (aborted refl (no_upload r share _ _ closed_none))

  upload_tick_kind : (t : SdoTransferState) → r.state ≡ SegmentedUpload t → Tickings r share (tick_upload r share image clock t)
  unfolding tick_upload
  upload_tick_kind t e =
      pick_elim (Tickings r share) (ltb 0 t.retries) _ _
      (λ f. tick_one r share _ _ (again refl (record { transaction = t.transaction; total = t.total; offset = t.offset; was = up_state r t e; command = refl })
      (record { before = λ x n o u. let p = same_transfer u.state in (record { transfer = t; state = e; transaction' = ap (λ (d : SdoTransferState). d.transaction) p ∙ u.transaction'; total' = ap (λ (d : SdoTransferState). d.total) p ∙ u.total'; offset' = ap (λ (d : SdoTransferState). d.offset) p ∙ u.offset' }, refl) })))
      (λ f. timeout_kind t)

  pub tick_kind : Tickings r share (tick_record r share image clock)
  unfolding tick_record tick_in
  tick_kind = by_state r.state refl
    where
      by_state : (s : SdoServerState) → r.state ≡ s → Tickings r share (tick_in s r share image clock)
      by_state Closed e = tick_idle r share
      by_state Opening e = tick_idle r share
      by_state Established e = tick_idle r share
      by_state (SegmentedDownload t) e = timeout_kind t
      by_state (SegmentedUpload t) e = upload_tick_kind t e
