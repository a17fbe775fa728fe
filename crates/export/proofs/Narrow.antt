-- A call on one record keeps its numbers within their bytes: the index, the deadline and the retries; total and offset are bounded by soundness.
use Prim.Native.Nat.{ℕ, ◌+◌, ◌^◌, ◌<◌}
use Prim.{Unit}
use native.Mathlib.Omega.{arith}
use mathlib.Core.Path.{◌≡◌, refl}
use mathlib.Core.Bool.{Bool, true, false, ◌&&◌, ◌||◌, not}
use mathlib.Core.List.{List}
use lib.ListN.{length, take, drop}
use lib.Dec.{ltb, leb, eqb, lit<}
use Rattle.picks.proofs.Picks.{pick_elim}
use Rattle.octets.specs.Octets.{AllBytes, splice}
use Rattle.octets.proofs.Bytes.{bytes_drop, bytes_take}
use Rattle.octets.proofs.Little.{le_bound}
use Rattle.protocol.specs.declared.SequenceLayerHeader.{SequenceLayerHeader}
use Rattle.protocol.specs.declared.CommandId.{CommandId}
use Rattle.protocol.specs.declared.CommandId.TheVariants.{Nil, WriteByIndex, ReadByIndex, WriteAllByIndex, ReadAllByIndex, WriteByName, ReadByName, FileWrite, FileRead, WriteMultipleParamByIndex, ReadMultipleParamByIndex, Abort, MaxSegmentSize}
use Rattle.protocol.specs.declared.Segmentation.{Segmentation}
use Rattle.protocol.specs.declared.Segmentation.TheVariants.{Expedited, Initiate, Segment, Complete}
use Rattle.protocol.specs.declared.SdoTransferState.{SdoTransferState}
use Rattle.protocol.specs.declared.SdoServerState.{SdoServerState}
use Rattle.protocol.specs.declared.SdoServerState.TheVariants.{Closed, Opening, Established, SegmentedDownload, SegmentedUpload}
use Rattle.protocol.specs.declared.Connection.{Connection}
use Rattle.std.specs.Prelude.{Result, Err, Ok}
use Rattle.protocol.specs.declared.Entry.{Entry}
use Rattle.protocol.specs.declared.AbortCode.{AbortCode}
use Rattle.protocol.specs.Constants.{PIECE, SHARE}
use Rattle.protocol.specs.Coding.{Answer, refused, value}
use Rattle.protocol.specs.SequenceHeader.{receive_mark, send_mark, next, decode_header, command_part}
use Rattle.protocol.specs.Command.{Command, Decoding, decoded, undecodable, flag_places, header_of, header_length, decode_command, total_number, id_byte}
use Rattle.protocol.specs.DictionaryImage.{lookup, readable, writable, value_of}
use Rattle.protocol.specs.TransferRecord.{Acted, is_last, after_piece, advance, index_of, sub_of, new_upload, read_value, read_entry, read_by_index, write_entry, write_object, write_expedited, write_initiate, write_segment, write_complete, download_data, download_step, write_data, write_by_index, max_segment_size, with_state}
use Rattle.protocol.specs.ConnectionRecord.{Served, Before, resends, goes_on, before_step, Stepped, stepped, misfit, closed_step, opening_step, acknowledge, later_step, step_in, sequence_step, dispatch, upload_command, command_in, command_layer, on_decoding, is_opening, ends, settle, answered, empty_in, empty_frame, after_step, on_step, on_before, on_header, serve}
use Rattle.protocol.specs.ConnectionTable.{Ticking, idle, ticks, tick_upload, tick_in, tick_record}
use Rattle.protocol.proofs.Command.{decode_inverts}
use Rattle.protocol.proofs.DictionaryImage.{retries_below}
use Rattle.protocol.proofs.Deadlines.{deadline_fits}
use Rattle.format.specs.Fits.{FitsDeadline}

abbrev pub NarrowTransfer : SdoTransferState → Type 0
NarrowTransfer t = (t.index < 256 ^ 2) × FitsDeadline t.deadline × (t.retries < 256 ^ 4)

abbrev pub NarrowState : SdoServerState → Type 0
NarrowState Closed = Unit
NarrowState Opening = Unit
NarrowState Established = Unit
NarrowState (SegmentedDownload t) = NarrowTransfer t
NarrowState (SegmentedUpload t) = NarrowTransfer t

abbrev NarrowActed : Acted → Type 0
NarrowActed a = NarrowState a.connection.state

abbrev NarrowServed : Served → Type 0
NarrowServed s = NarrowState s.connection.state

-- the sequence step
abbrev step_connection : Stepped → Connection
step_connection (stepped c r) = c
step_connection (misfit c) = c

abbrev NarrowStepped : Stepped → Type 0
NarrowStepped x = NarrowState (step_connection x).state

acknowledge_narrow : (ours : Bool) (s : SdoServerState) → NarrowState s → NarrowState (acknowledge ours s)
unfolding acknowledge
acknowledge_narrow ours Closed h = tt
acknowledge_narrow ours Opening h = tt
acknowledge_narrow ours Established h = tt
acknowledge_narrow ours (SegmentedDownload t) h = h
acknowledge_narrow ours (SegmentedUpload t) h = pick_elim NarrowState ours _ _ (λ e. (h.0, tt, lit< tt)) (λ e. h)

module _ (c : Connection) (h : SequenceLayerHeader) (n : NarrowState c.state) where
  later_narrow : NarrowStepped (later_step c h)
  unfolding later_step
  later_narrow =
      pick_elim NarrowStepped (eqb h.send c.receive) _ _ (λ e. n) (λ e. pick_elim NarrowStepped (eqb h.send (next c.receive)) _ _ (λ f. acknowledge_narrow (eqb h.receive c.send) c.state n) (λ f. n))

  step_narrow : NarrowStepped (sequence_step c h)
  unfolding sequence_step step_in closed_step opening_step
  step_narrow = by_state c.state
    where
      by_state : (s : SdoServerState) → NarrowStepped (step_in s c h)
      by_state Closed = pick_elim NarrowStepped (eqb (send_mark h.scon) 1) _ _ (λ e. tt) (λ e. n)
      by_state Opening = pick_elim NarrowStepped (eqb (send_mark h.scon) 2 && eqb h.receive c.send) _ _ (λ e. tt) (λ e. tt)
      by_state Established = later_narrow
      by_state (SegmentedDownload t) = later_narrow
      by_state (SegmentedUpload t) = later_narrow

-- a command
module _ (c : Connection) (share image : List ℕ) (clock : ℕ) (n : NarrowState c.state) (bi : AllBytes image) where
  advance_narrow : (share' : List ℕ) (t : SdoTransferState) → t.index < 256 ^ 2 → NarrowActed (advance c share' image clock t)
  unfolding advance
  advance_narrow share' t h = pick_elim NarrowState (is_last t) Closed (SegmentedUpload (after_piece t image clock)) (λ e. tt) (λ e. (h, deadline_fits image clock bi, retries_below image bi))

  index_narrow : (p : List ℕ) → AllBytes p → index_of p < 256 ^ 2
  index_narrow p b = le_bound 2 p b

  module _ (transaction : ℕ) where
    read_narrow : (p : List ℕ) → AllBytes p → NarrowActed (read_by_index c share image clock transaction p)
    unfolding read_by_index read_entry read_value
    read_narrow p b = pick_elim NarrowActed (ltb (length p) 4) _ _ (λ e. tt) (λ e. by_access (readable (lookup image (index_of p) (sub_of p))))
      where
        by_access : (a : Result Entry AbortCode) → NarrowActed (read_entry c share image clock transaction (index_of p) (sub_of p) a)
        by_access (Err code) = tt
        by_access (Ok e) =
            let v = value_of image e in
            pick_elim NarrowActed (leb (length v) PIECE) _ _ (λ f. n) (λ f. advance_narrow (splice 0 v share) (new_upload c share image clock transaction (length v) (index_of p) (sub_of p)) (index_narrow p b))

    object_narrow : (share' : List ℕ) (next' : Connection) (index sub : ℕ) (bytes : List ℕ) → NarrowState next'.state → NarrowActed (write_object c share' image clock transaction next' index sub bytes)
    unfolding write_object write_entry
    object_narrow share' next' index sub bytes h = by_access (writable (lookup image index sub) (length bytes))
      where
        by_access : (a : Result Entry AbortCode) → NarrowActed (write_entry c share' image clock transaction next' bytes a)
        by_access (Err code) = tt
        by_access (Ok e) = h

    initiate_narrow : (total : ℕ) (p : List ℕ) → AllBytes p → NarrowActed (write_initiate c share image clock transaction total p)
    unfolding write_initiate
    initiate_narrow total p b =
        pick_elim NarrowActed (ltb (length p) 4) _ _ (λ e. tt) (λ e. pick_elim NarrowActed (eqb total 0) _ _ (λ f. tt) (λ f. pick_elim NarrowActed (ltb SHARE total) _ _ (λ g. tt) (λ g. (index_narrow p b, deadline_fits image clock bi, lit< tt))))

    data_narrow : (is_complete : Bool) (bytes : List ℕ) (s : SdoServerState) → NarrowState s → NarrowActed (write_data c share image clock transaction is_complete bytes s)
    unfolding write_data download_step write_segment write_complete
    data_narrow is_complete bytes Closed h = tt
    data_narrow is_complete bytes Opening h = tt
    data_narrow is_complete bytes Established h = tt
    data_narrow is_complete bytes (SegmentedUpload t) h = tt
    data_narrow is_complete bytes (SegmentedDownload t) h =
        pick_elim NarrowActed (eqb t.transaction transaction) _ _ (λ e. pick_elim NarrowActed (ltb t.total (t.offset + length bytes)) _ _ (λ f. tt) (λ f. by_kind is_complete)) (λ e. tt)
      where
        by_kind : (k : Bool) → NarrowActed (download_data c share image clock transaction k t bytes)
        by_kind true =
            pick_elim NarrowActed (ltb (t.offset + length bytes) t.total) _ _ (λ e. tt) (λ e. object_narrow (splice t.offset bytes share) (with_state c Established) t.index t.sub (take t.total (splice t.offset bytes share)) tt)
        by_kind false = (h.0, deadline_fits image clock bi, h.2)

    write_narrow : (s : Segmentation) (total : ℕ) (p : List ℕ) → AllBytes p → NarrowActed (write_by_index c share image clock transaction s total p)
    unfolding write_expedited
    write_narrow Expedited total p b = pick_elim NarrowActed (ltb (length p) 4) _ _ (λ e. tt) (λ e. object_narrow share c (index_of p) (sub_of p) (drop 4 p) n)
    write_narrow Initiate total p b = initiate_narrow total p b
    write_narrow Segment total p b = data_narrow false p c.state n
    write_narrow Complete total p b = data_narrow true p c.state n

  dispatch_narrow : (i : CommandId) (m : Command) → AllBytes m.payload → NarrowActed (dispatch c share image clock i m)
  unfolding dispatch max_segment_size
  dispatch_narrow Nil m b = n
  dispatch_narrow ReadByIndex m b = read_narrow m.header.transaction m.payload b
  dispatch_narrow WriteByIndex m b = write_narrow m.header.transaction m.header.segmentation (total_number m.total) m.payload b
  dispatch_narrow MaxSegmentSize m b = n
  dispatch_narrow Abort m b = tt
  dispatch_narrow WriteAllByIndex m b = tt
  dispatch_narrow ReadAllByIndex m b = tt
  dispatch_narrow WriteByName m b = tt
  dispatch_narrow ReadByName m b = tt
  dispatch_narrow FileWrite m b = tt
  dispatch_narrow FileRead m b = tt
  dispatch_narrow WriteMultipleParamByIndex m b = tt
  dispatch_narrow ReadMultipleParamByIndex m b = tt

  command_narrow : (m : Command) → AllBytes m.payload → NarrowActed (command_layer c share image clock m)
  unfolding command_layer command_in upload_command
  command_narrow m b = pick_elim NarrowActed m.header.aborted _ _ (λ e. tt) (λ e. by_state c.state n)
    where
      by_state : (s : SdoServerState) → NarrowState s → NarrowActed (command_in c share image clock s m)
      by_state Closed h = dispatch_narrow m.header.id m b
      by_state Opening h = dispatch_narrow m.header.id m b
      by_state Established h = dispatch_narrow m.header.id m b
      by_state (SegmentedDownload t) h = dispatch_narrow m.header.id m b
      by_state (SegmentedUpload t) h =
          pick_elim NarrowActed (eqb t.transaction m.header.transaction) _ _
          (λ e. pick_elim NarrowActed (eqb (id_byte m.header.id) 0 || m.header.response) _ _ (λ f. advance_narrow share t h.0) (λ f. tt))
          (λ e. tt)

  decoding_narrow : (body : List ℕ) → AllBytes body → NarrowActed (on_decoding c share image clock body (decode_command flag_places body))
  decoding_narrow body b = by_answer (decode_command flag_places body) refl
    where
      by_answer : (x : Answer Decoding) → decode_command flag_places body ≡ x → NarrowActed (on_decoding c share image clock body x)
      by_answer (refused k) e = tt
      by_answer (value undecodable) e = tt
      by_answer (value (decoded m)) e =
          let d = decode_inverts flag_places body m e in
          let h = header_of flag_places d.id body in
          command_narrow m (rw (← d.command) (bytes_take h.size (drop (header_length h.segmentation) body) (bytes_drop (header_length h.segmentation) body b)))

  after_narrow : (h r : SequenceLayerHeader) (body : List ℕ) → AllBytes body → NarrowServed (after_step c share image clock h r body)
  unfolding after_step empty_frame empty_in answered settle
  after_narrow h r body b =
      pick_elim NarrowServed (eqb (receive_mark h.rcon) 3) _ _ (λ e. n) (λ e. pick_elim NarrowServed (eqb (length body) 0) _ _ (λ f. empty) (λ f. settled (on_decoding c share image clock body (decode_command flag_places body)) (decoding_narrow body b)))
    where
      by_state : (s : SdoServerState) → NarrowState s → NarrowActed (empty_in c share image clock h r s)
      by_state Closed q = n
      by_state Opening q = n
      by_state Established q = tt
      by_state (SegmentedDownload t) q = n
      by_state (SegmentedUpload t) q = advance_narrow share t q.0

      empty : NarrowServed (empty_frame c share image clock h r)
      empty = pick_elim NarrowServed (is_opening c.state || eqb (send_mark h.scon) 2) _ _ (λ e. by_state c.state n) (λ e. n)

      settled : (a : Acted) → NarrowActed a → NarrowActed (settle a)
      settled a q = pick_elim NarrowActed (not (is_opening a.connection.state) && (ends a.command.header.segmentation || a.command.header.aborted)) _ _ (λ e. tt) (λ e. q)

-- a whole request on one record
pub serve_narrow : (c : Connection) (share image : List ℕ) (clock : ℕ) (request : List ℕ) → NarrowState c.state → AllBytes image → AllBytes request → NarrowState (serve c share image clock request).connection.state
unfolding serve on_header on_before on_step
serve_narrow c share image clock request n bi br = by_header (decode_header request)
  where
    by_step : (h : SequenceLayerHeader) (x : Stepped) → NarrowStepped x → NarrowServed (on_step c share image clock request h x)
    by_step h (misfit c') q = q
    by_step h (stepped c' r) q = after_narrow c' share image clock q bi h r (command_part request) (bytes_drop 4 request br)

    by_before : (h : SequenceLayerHeader) (x : Before) → NarrowServed (on_before c share image clock request h x)
    by_before h (resends r) = n
    by_before h goes_on = by_step h (sequence_step c h) (step_narrow c h n)

    by_header : (x : Answer SequenceLayerHeader) → NarrowServed (on_header c share image clock request x)
    by_header (refused k) = n
    by_header (value h) = by_before h (before_step c share h)

-- a tick on one record
abbrev NarrowTicking : Connection → Ticking → Type 0
NarrowTicking r idle = Unit
NarrowTicking r (ticks r' reply) = NarrowState r'.state

pub tick_narrow : (r : Connection) (share image : List ℕ) (clock : ℕ) → NarrowState r.state → AllBytes image → NarrowTicking r (tick_record r share image clock)
unfolding tick_record tick_in tick_upload
tick_narrow r share image clock n bi = by_state r.state n
  where
    by_state : (s : SdoServerState) → NarrowState s → NarrowTicking r (tick_in s r share image clock)
    by_state Closed h = tt
    by_state Opening h = tt
    by_state Established h = tt
    by_state (SegmentedDownload t) h = tt
    by_state (SegmentedUpload t) h =
        pick_elim (NarrowTicking r) (ltb 0 t.retries) _ _ (λ e. (h.0, deadline_fits image clock bi, omega (arith, h.2))) (λ e. tt)
