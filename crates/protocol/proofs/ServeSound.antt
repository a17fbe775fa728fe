-- What serving a request on one record keeps, and that every answer is well formed.
use Prim.Native.Nat.{ℕ, ◌+◌, ◌-◌, ◌%◌, ◌≤◌, ◌<◌}
use native.Mathlib.Omega.{arith}
use mathlib.Core.Path.{◌≡◌, refl, sym, ◌∙◌}
use mathlib.Core.Bool.{Bool, true, false, ◌&&◌, ◌||◌, not}
use mathlib.Core.List.{List}
use lib.ListN.{length, length-drop}
use lib.Dec.{ltb, leb, eqb, lit<, lit≤}
use borrow.Author.Tests.{ltb-false}
use Rattle.picks.specs.Pick.{pick}
use Rattle.picks.proofs.Picks.{pick_elim}
use Rattle.protocol.specs.declared.SequenceLayerHeader.{SequenceLayerHeader}
use Rattle.protocol.specs.declared.SdoTransferState.{SdoTransferState}
use Rattle.protocol.specs.declared.SdoServerState.{SdoServerState}
use Rattle.protocol.specs.declared.SdoServerState.TheVariants.{Closed, Opening, Established, SegmentedDownload, SegmentedUpload}
use Rattle.protocol.specs.declared.Connection.{Connection}
use Rattle.protocol.specs.Constants.{PIECE, SHARE, REQUEST_MAX}
use Rattle.protocol.specs.Coding.{Answer, refused, value}
use Rattle.protocol.specs.SequenceHeader.{receive_mark, send_mark, next, decode_header, command_part}
use Rattle.protocol.specs.Command.{WellFormed}
use Rattle.protocol.specs.DictionaryImage.{sound_image}
use Rattle.protocol.specs.TransferRecord.{Acted, moved, with_state, stored_piece}
use Rattle.protocol.specs.ConnectionRecord.{Reply, Served, Before, resends, goes_on, resent, before_in, before_step, Stepped, stepped, misfit, closed_step, opening_step, acknowledge, later_step, step_in, sequence_step, nil, is_opening, ends, settle, answered, empty_in, empty_frame, after_step, on_step, on_before, on_header, serve}
use Rattle.protocol.specs.ConnectionTable.{sound_state, sound_upload, sound_record, has_deadline}
use Rattle.protocol.proofs.Coding.{value_one, refused_none, past_test}
use Rattle.protocol.proofs.SequenceHeader.{next_below}
use Rattle.picks.proofs.Keep.{left, both}
use Rattle.protocol.proofs.Pieces.{piece_formed, piece_short}
use Rattle.protocol.proofs.RecordSound.{Fine, ImageLaws, nil_formed, moved_sound, send_below, receive_below, state_sound, with_sound, upload_sending, advance_fine, decoding_fine, piece_narrow, share_narrow}

-- an answer that decodes: numbers below 64 and a well-formed command
pub record Formed (r : Reply) : Type 0 where
  pub receive : r.header.receive < 64
  pub send : r.header.send < 64
  pub command : WellFormed r.command
  pub short : length r.command.payload ≤ PIECE

pub record Kept (c : Connection) (s : Served) : Type 0 where
  pub used : s.connection.used ≡ c.used
  pub client : s.connection.client ≡ c.client
  pub area : s.connection.area ≡ c.area
  pub sound : sound_record s.connection ≡ true
  pub share : length s.share ≡ SHARE
  pub image : sound_image s.image ≡ true
  pub formed : (r : Reply) → s.said ≡ value r → Formed r

settle_fine : (c : Connection) (a : Acted) → Fine c a → Fine c (settle a)
unfolding settle
settle_fine c a f =
    pick_elim (Fine c) (not (is_opening a.connection.state) && (ends a.command.header.segmentation || a.command.header.aborted)) _ _
    (λ e. record { used = f.used; client = f.client; area = f.area; sound = with_sound a.connection f.sound Closed refl; share = f.share; image = f.image; formed = f.formed; short = f.short })
    (λ e. f)

answered_kept : (c : Connection) (r : SequenceLayerHeader) (a : Acted) → r.send < 64 → Fine c a → Kept c (answered r a)
unfolding answered
answered_kept c r a h f = record {
  used = f.used;
  client = f.client;
  area = f.area;
  sound = f.sound;
  share = f.share;
  image = f.image;
  formed = λ x e. rw (← value_one e) (record { receive = omega (arith, receive_below a.connection f.sound); send = h; command = f.formed; short = f.short });
}

-- the sequence step
pub record Steps (c c' : Connection) : Type 0 where
  pub used : c'.used ≡ c.used
  pub client : c'.client ≡ c.client
  pub area : c'.area ≡ c.area
  pub sound : sound_record c' ≡ true

pub record Stepping (c : Connection) (x : Stepped) : Type 0 where
  pub goes : (c' : Connection) (r : SequenceLayerHeader) → x ≡ stepped c' r → Steps c c' × (r.receive < 64) × (r.send < 64)
  pub fails : (c' : Connection) → x ≡ misfit c' → Steps c c'

stepping : (c c' : Connection) (r : SequenceLayerHeader) → Steps c c' → r.receive < 64 → r.send < 64 → Stepping c (stepped c' r)
stepping c c' r s a b = record {
  goes = λ d q e. let p : c' ≡ d = cc in let o : r ≡ q = cc in (rw (← p) s, rw (← o) a, rw (← o) b);
  fails = λ d e. absurd (let z : ◌≡◌ {A = ℕ} 0 1 = cc in omega arith);
}

failing : (c c' : Connection) → Steps c c' → Stepping c (misfit c')
failing c c' s = record {
  goes = λ d q e. absurd (let z : ◌≡◌ {A = ℕ} 0 1 = cc in omega arith);
  fails = λ d e. let p : c' ≡ d = cc in rw (← p) s;
}

acknowledge_sound : (ours : Bool) (s : SdoServerState) → sound_state s ≡ true → sound_state (acknowledge ours s) ≡ true
unfolding acknowledge sound_upload pick
acknowledge_sound ours Closed e = refl
acknowledge_sound ours Opening e = refl
acknowledge_sound ours Established e = refl
acknowledge_sound ours (SegmentedDownload t) e = e
acknowledge_sound false (SegmentedUpload t) e = e
acknowledge_sound true (SegmentedUpload t) e =
    both (left (ltb PIECE t.total && leb t.total SHARE && ltb 0 t.offset && ltb t.offset t.total && eqb (t.offset % PIECE) 0) (pick t.stored (has_deadline t.deadline) (not (has_deadline t.deadline) && eqb t.retries 0)) e) refl

module _ (c : Connection) (h : SequenceLayerHeader) (sc : sound_record c ≡ true) (hs : h.send < 64) where
  same_steps : Steps c c
  same_steps = record { used = refl; client = refl; area = refl; sound = sc }

  moves : (send receive : ℕ) (s : SdoServerState) → send ≤ 63 → receive ≤ 63 → sound_state s ≡ true → Steps c (moved c send receive s)
  moves send receive s a b e = record { used = refl; client = refl; area = refl; sound = moved_sound c send receive s a b e }

  next_at_most : next c.send ≤ 63
  next_at_most = omega (arith, next_below c.send)

  closed_steps : Stepping c (closed_step c h)
  unfolding closed_step
  closed_steps =
      pick_elim (Stepping c) (eqb (send_mark h.scon) 1) _ _ (λ e. stepping c _ _ (moves 0 h.send Opening (lit≤ tt) (omega arith) refl) hs (lit< tt)) (λ e. stepping c c _ same_steps hs (omega (arith, send_below c sc)))

  opening_steps : Stepping c (opening_step c h)
  unfolding opening_step
  opening_steps =
      pick_elim (Stepping c) (eqb (send_mark h.scon) 2 && eqb h.receive c.send) _ _
      (λ e. stepping c _ _ (moves (next c.send) h.send Established next_at_most (omega arith) refl) hs (next_below c.send))
      (λ e. failing c _ (moves c.send c.receive Closed (send_below c sc) (receive_below c sc) refl))

  later_steps : Stepping c (later_step c h)
  unfolding later_step
  later_steps =
      pick_elim (Stepping c) (eqb h.send c.receive) _ _ (λ e. stepping c c _ same_steps (omega (arith, receive_below c sc)) (omega (arith, send_below c sc)))
      (λ e. pick_elim (Stepping c) (eqb h.send (next c.receive)) _ _
      (λ f. stepping c _ _ (moves (next c.send) h.send (acknowledge (eqb h.receive c.send) c.state) next_at_most (omega arith) (acknowledge_sound _ c.state (state_sound c sc))) hs (next_below c.send))
      (λ f. failing c c same_steps))

  pub step_steps : Stepping c (sequence_step c h)
  unfolding sequence_step step_in
  step_steps = by_state c.state
    where
      by_state : (s : SdoServerState) → Stepping c (step_in s c h)
      by_state Closed = closed_steps
      by_state Opening = opening_steps
      by_state Established = later_steps
      by_state (SegmentedDownload t) = later_steps
      by_state (SegmentedUpload t) = later_steps

-- after the sequence step
said_none : (c : Connection) (s : Served) (n : ℕ) → Steps c s.connection → length s.share ≡ SHARE → sound_image s.image ≡ true → s.said ≡ refused n → Kept c s
said_none c s n k ls si e = record { used = k.used; client = k.client; area = k.area; sound = k.sound; share = ls; image = si; formed = λ r f. absurd (refused_none (sym e ∙ f)) }

said_one : (c : Connection) (s : Served) (r : Reply) → Steps c s.connection → length s.share ≡ SHARE → sound_image s.image ≡ true → s.said ≡ value r → Formed r → Kept c s
said_one c s r k ls si e g = record { used = k.used; client = k.client; area = k.area; sound = k.sound; share = ls; image = si; formed = λ x f. rw (← value_one (sym e ∙ f)) g }

module _ (c : Connection) (share image : List ℕ) (clock : ℕ) (h r : SequenceLayerHeader) (sc : sound_record c ≡ true) (ls : length share ≡ SHARE) (si : ImageLaws image) (rr : r.receive < 64) (rs : r.send < 64) where
  same_kept : (said : Answer Reply) → Steps c c
  same_kept said = record { used = refl; client = refl; area = refl; sound = sc }

  nil_fine : (s : SdoServerState) → sound_state s ≡ true → Fine c (record { connection = with_state c s; share = share; image = image; command = nil true false })
  nil_fine s e = record { used = refl; client = refl; area = refl; sound = with_sound c sc s e; share = ls; image = si.sound; formed = nil_formed true false; short = omega arith }

  empty_in_fine : (s : SdoServerState) → sound_state s ≡ true → Fine c (empty_in c share image clock h r s)
  unfolding empty_in
  empty_in_fine Closed e = nil_fine c.state (state_sound c sc)
  empty_in_fine Opening e = nil_fine c.state (state_sound c sc)
  empty_in_fine Established e = nil_fine Closed refl
  empty_in_fine (SegmentedDownload t) e = nil_fine c.state (state_sound c sc)
  empty_in_fine (SegmentedUpload t) e = advance_fine c share image clock sc ls si.sound t (upload_sending t e)

  empty_kept : Kept c (empty_frame c share image clock h r)
  unfolding empty_frame
  empty_kept =
      pick_elim (Kept c) (is_opening c.state || eqb (send_mark h.scon) 2) _ _ (λ e. answered_kept c r _ rs (empty_in_fine c.state (state_sound c sc)))
      (λ e. said_none c _ 9 (same_kept (refused 9)) ls si.sound refl)

  after_kept : (body : List ℕ) → length body + 4 ≤ REQUEST_MAX → Kept c (after_step c share image clock h r body)
  unfolding after_step
  after_kept body l =
      pick_elim (Kept c) (eqb (receive_mark h.rcon) 3) _ _
      (λ e. said_one c _ (record { header = r; command = nil false false }) (same_kept (refused 9)) ls si.sound refl (record { receive = rr; send = rs; command = nil_formed false false; short = omega arith }))
      (λ e. pick_elim (Kept c) (eqb (length body) 0) _ _ (λ f. empty_kept) (λ f. answered_kept c r _ rs (settle_fine c _ (decoding_fine c share image clock sc ls si body l))))

-- what is kept of the record after the step is kept of the record before it
through : (c c' : Connection) (s : Served) → Steps c c' → Kept c' s → Kept c s
through c c' s k f = record { used = f.used ∙ k.used; client = f.client ∙ k.client; area = f.area ∙ k.area; sound = f.sound; share = f.share; image = f.image; formed = f.formed }

-- the stored piece of an upload
pub stored_formed : (share : List ℕ) → length share ≡ SHARE → (t : SdoTransferState) → sound_upload t ≡ true → WellFormed (stored_piece t share)
stored_formed share ls t e =
    let s = upload_sending t e in
    piece_formed PIECE t.transaction t.total (t.offset - PIECE) share piece_narrow s.above (omega (arith, share_narrow, s.fits)) (omega (arith, s.left)) (omega (arith, s.fits))

-- a resend
module _ (c : Connection) (share : List ℕ) (h : SequenceLayerHeader) (sc : sound_record c ≡ true) (ls : length share ≡ SHARE) (hs : h.send < 64) where
  abbrev Resends : Before → Type 0
  Resends x = (r : Reply) → x ≡ resends r → Formed r

  none_resent : Resends goes_on
  none_resent r e = absurd (let z : ◌≡◌ {A = ℕ} 0 1 = cc in omega arith)

  one_resent : (t : SdoTransferState) → sound_upload t ≡ true → Resends (resends (resent c share h t))
  one_resent t e r f =
      let p : resent c share h t ≡ r = cc in
      rw (← p) (record { receive = hs; send = omega (arith, send_below c sc); command = stored_formed share ls t e; short = piece_short PIECE t.transaction t.total (t.offset - PIECE) share })

  resend_formed : Resends (before_step c share h)
  unfolding before_step before_in
  resend_formed = by_state c.state (state_sound c sc)
    where
      by_state : (s : SdoServerState) → sound_state s ≡ true → Resends (before_in s c share h)
      by_state Closed e = none_resent
      by_state Opening e = none_resent
      by_state Established e = none_resent
      by_state (SegmentedDownload t) e = none_resent
      by_state (SegmentedUpload t) e = pick_elim Resends (eqb (receive_mark h.rcon) 3 && t.stored) _ _ (λ f. one_resent t e) (λ f. none_resent)

-- a decoded header comes of four bytes, and its send number is below 64
pub header_there : (b : List ℕ) (h : SequenceLayerHeader) → decode_header b ≡ value h → 4 ≤ length b
unfolding decode_header
header_there b h e = ltb-false _ _ (past_test _ _ _ _ e).0

pub send_short : (b : List ℕ) (h : SequenceLayerHeader) → decode_header b ≡ value h → h.send < 64
unfolding decode_header
send_short b h e = let w = value_one (past_test _ _ _ _ e).1 in rw (← w) (omega arith)

module _ (c : Connection) (share image : List ℕ) (clock : ℕ) (request : List ℕ) (sc : sound_record c ≡ true) (ls : length share ≡ SHARE) (si : ImageLaws image) (short : length request ≤ REQUEST_MAX) where
  on_step_kept : (h : SequenceLayerHeader) → h.send < 64 → 4 ≤ length request → Kept c (on_step c share image clock request h (sequence_step c h))
  unfolding on_step
  on_step_kept h hs l = by_step (sequence_step c h) refl
    where
      by_step : (x : Stepped) → sequence_step c h ≡ x → Kept c (on_step c share image clock request h x)
      by_step (misfit c') e = said_none c _ 8 ((step_steps c h sc hs).fails c' e) ls si.sound refl
      by_step (stepped c' r) e =
          let s = (step_steps c h sc hs).goes c' r e in
          through c c' _ s.0 (after_kept c' share image clock h r s.0.sound ls si s.1 s.2 (command_part request) (simp length-drop (omega arith)))

  on_before_kept : (h : SequenceLayerHeader) → h.send < 64 → 4 ≤ length request → Kept c (on_before c share image clock request h (before_step c share h))
  unfolding on_before
  on_before_kept h hs l = by_before (before_step c share h) refl
    where
      by_before : (x : Before) → before_step c share h ≡ x → Kept c (on_before c share image clock request h x)
      by_before goes_on e = on_step_kept h hs l
      by_before (resends r) e = said_one c _ r (same_steps c h sc hs) ls si.sound refl (resend_formed c share h sc ls hs r e)

  -- serving a request keeps the client, the area number and soundness, and its answer is well formed
  pub serve_kept : Kept c (serve c share image clock request)
  unfolding serve on_header
  serve_kept = by_header (decode_header request) refl
    where
      by_header : (x : Answer SequenceLayerHeader) → decode_header request ≡ x → Kept c (on_header c share image clock request x)
      by_header (refused n) e = said_none c _ n (record { used = refl; client = refl; area = refl; sound = sc }) ls si.sound refl
      by_header (value h) e = on_before_kept h (send_short request h e) (header_there request h e)
