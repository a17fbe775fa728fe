-- What a tick keeps of a due record, and that its answer is well formed.
use Prim.Native.Nat.{ℕ, ◌-◌, ◌%◌, ◌<◌}
use native.Mathlib.Omega.{arith}
use mathlib.Core.Path.{◌≡◌, refl}
use mathlib.Core.Bool.{Bool, true, false, ◌&&◌, not}
use mathlib.Core.List.{List}
use lib.ListN.{length}
use lib.Dec.{ltb, leb, eqb, lit<, lit≤}
use borrow.Author.Tests.{ltb-true, eqb-true}
use Rattle.picks.specs.Pick.{pick}
use Rattle.picks.proofs.Picks.{pick_elim}
use Rattle.octets.proofs.Little.{length_le_bytes}
use Rattle.protocol.specs.declared.SdoTransferState.{SdoTransferState}
use Rattle.protocol.specs.declared.SdoServerState.{SdoServerState}
use Rattle.protocol.specs.declared.SdoServerState.TheVariants.{Closed, Opening, Established, SegmentedDownload, SegmentedUpload}
use Rattle.protocol.specs.declared.Connection.{Connection}
use Rattle.protocol.specs.Constants.{PIECE, SHARE, TIMED_OUT}
use Rattle.protocol.specs.TransferRecord.{reset}
use Rattle.protocol.specs.ConnectionRecord.{Reply}
use Rattle.protocol.specs.ConnectionTable.{sound_state, sound_upload, sound_record, has_deadline, Ticking, idle, ticks, times_out, retried, tick_upload, tick_in, tick_record}
use Rattle.picks.proofs.Keep.{left, right, both, not_both}
use Rattle.protocol.proofs.Pieces.{piece_short}
use Rattle.protocol.proofs.RecordSound.{abort_formed, piece_code, moved_sound, send_below, receive_below, state_sound, with_sound}
use Rattle.protocol.proofs.ServeSound.{Formed, Steps, stored_formed}

-- the six tests of an upload but the last, and the last
abbrev placed : SdoTransferState → Bool
placed t = ltb PIECE t.total && leb t.total SHARE && ltb 0 t.offset && ltb t.offset t.total && eqb (t.offset % PIECE) 0

abbrev awaited : SdoTransferState → Bool
awaited t = pick t.stored (has_deadline t.deadline) (not (has_deadline t.deadline) && eqb t.retries 0)

-- an upload with retries left, or with a deadline, has a stored piece
pub retries_stored : (t : SdoTransferState) → sound_upload t ≡ true → 0 < t.retries → t.stored ≡ true
unfolding sound_upload pick
retries_stored t e h = go t.stored refl
  where
    go : (b : Bool) → t.stored ≡ b → t.stored ≡ true
    go true f = f
    go false f = absurd (let n : t.retries ≡ 0 = eqb-true _ _ (right (not (has_deadline t.deadline)) (eqb t.retries 0) (rw f at (right (placed t) (awaited t) e))) in omega arith)

pub deadline_stored : (t : SdoTransferState) → sound_upload t ≡ true → has_deadline t.deadline ≡ true → t.stored ≡ true
unfolding sound_upload pick
deadline_stored t e h = go t.stored refl
  where
    go : (b : Bool) → t.stored ≡ b → t.stored ≡ true
    go true f = f
    go false f = absurd (let n : not (has_deadline t.deadline) ≡ true = left _ (eqb t.retries 0) (rw f at (right (placed t) (awaited t) e)) in not_both n (rw h))

pub record Ticks (r : Connection) (x : Ticking) : Type 0 where
  pub kept : (r' : Connection) (reply : Reply) → x ≡ ticks r' reply → Steps r r' × Formed reply

idles : (r : Connection) → Ticks r idle
idles r = record { kept = λ r' reply e. absurd (let z : ◌≡◌ {A = ℕ} 0 1 = cc in omega arith) }

answers : (r r' : Connection) (reply : Reply) → Steps r r' → Formed reply → Ticks r (ticks r' reply)
answers r r' reply s f = record { kept = λ d q e. let p : r' ≡ d = cc in let o : reply ≡ q = cc in (rw (← p) s, rw (← o) f) }

module _ (r : Connection) (share image : List ℕ) (clock : ℕ) (sr : sound_record r ≡ true) (ls : length share ≡ SHARE) where
  times_out_lem : (t : SdoTransferState) → Ticks r (times_out r t)
  times_out_lem t =
      answers r (reset r) _ (record { used = refl; client = refl; area = refl; sound = moved_sound r 0 63 Closed (lit≤ tt) (lit≤ tt) refl })
      (record { receive = lit< tt; send = lit< tt; command = abort_formed t.transaction TIMED_OUT; short = rw (length_le_bytes 4 TIMED_OUT) piece_code })

  retried_sound : (t : SdoTransferState) → sound_upload t ≡ true → 0 < t.retries → sound_upload (retried t image clock) ≡ true
  unfolding sound_upload pick
  retried_sound t e h = both (left (placed t) (awaited t) e) (rw (retries_stored t e h))

  tick_upload_lem : (t : SdoTransferState) → sound_upload t ≡ true → Ticks r (tick_upload r share image clock t)
  unfolding tick_upload
  tick_upload_lem t e =
      pick_elim (Ticks r) (ltb 0 t.retries) _ _
      (λ f. answers r _ _ (record { used = refl; client = refl; area = refl; sound = with_sound r sr (SegmentedUpload (retried t image clock)) (retried_sound t e (ltb-true _ _ f)) })
      (record { receive = omega (arith, receive_below r sr); send = omega (arith, send_below r sr); command = stored_formed share ls t e; short = piece_short PIECE t.transaction t.total (t.offset - PIECE) share }))
      (λ f. times_out_lem t)

  pub tick_kept : Ticks r (tick_record r share image clock)
  unfolding tick_record tick_in
  tick_kept = by_state r.state (state_sound r sr)
    where
      by_state : (s : SdoServerState) → sound_state s ≡ true → Ticks r (tick_in s r share image clock)
      by_state Closed e = idles r
      by_state Opening e = idles r
      by_state Established e = idles r
      by_state (SegmentedDownload t) e = times_out_lem t
      by_state (SegmentedUpload t) e = tick_upload_lem t e
