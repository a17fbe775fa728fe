-- What acting on a command keeps: the record's client and area number, and the soundness of record, share and image; and every answer is well formed.
use Prim.Native.Nat.{ℕ, zero, suc, ◌+◌, ◌%◌, ◌≤◌, ◌<◌, max, min}
use native.Mathlib.Omega.{arith}
use native.Mathlib.Nat.{zero-mod}
use mathlib.Core.Path.{◌≡◌, refl, sym, ap, ◌∙◌}
use mathlib.Core.Bool.{Bool, true, false, ◌&&◌, ◌||◌, not}
use mathlib.Core.List.{List, [], ◌++◌}
use lib.ListN.{length, take, length-take, length-drop, length-append}
use lib.Dec.{ltb, leb, eqb, lit<, lit≤}
use borrow.Author.Tests.{lt-ltb, le-leb, eq-eqb, ltb-true, ltb-false, leb-true, leb-false, eqb-true}
use Rattle.picks.specs.Pick.{pick}
use Rattle.picks.proofs.Picks.{pick_elim}
use Rattle.octets.specs.Octets.{le, splice, le_bytes}
use Rattle.octets.proofs.Splice.{length_splice}
use Rattle.octets.proofs.Little.{length_le_bytes}
use Rattle.protocol.specs.declared.SdoTransferState.{SdoTransferState}
use Rattle.protocol.specs.declared.SdoServerState.{SdoServerState}
use Rattle.protocol.specs.declared.SdoServerState.TheVariants.{Closed, Opening, Established, SegmentedDownload, SegmentedUpload}
use Rattle.protocol.specs.declared.Connection.{Connection}
use Rattle.protocol.specs.declared.Entry.{Entry}
use Rattle.std.specs.Prelude.{Result, Ok, Err}
use Rattle.protocol.specs.declared.LookupError.{LookupError}
use Rattle.protocol.specs.declared.LookupError.TheVariants.{NoObject, NoSubIndex}
use Rattle.protocol.specs.declared.AbortCode.{AbortCode}
use Rattle.protocol.specs.Constants.{PIECE, SHARE, FIRST_MAX, OFFSET_MAX, CAPACITY_MAX, INVALID_COMMAND, INVALID_SEQUENCE, OUT_OF_MEMORY, LENGTH_MISFIT, LENGTH_TOO_LOW, GENERAL_ERROR, REQUEST_MAX, abort_number}
use Rattle.protocol.specs.declared.CommandId.{CommandId}
use Rattle.protocol.specs.declared.CommandId.TheVariants.{Nil, WriteByIndex, ReadByIndex, WriteAllByIndex, ReadAllByIndex, WriteByName, ReadByName, FileWrite, FileRead, WriteMultipleParamByIndex, ReadMultipleParamByIndex, Abort, MaxSegmentSize}
use Rattle.protocol.specs.declared.Segmentation.{Segmentation}
use Rattle.protocol.specs.declared.Segmentation.TheVariants.{Expedited, Initiate, Segment, Complete}
use Rattle.protocol.specs.Coding.{Answer, refused, value}
use Rattle.protocol.specs.Command.{Command, WellFormed, Decoding, decoded, undecodable, flag_places, id_byte, total_number, header_of, undecodable_transaction, decode_command}
use Rattle.protocol.specs.ConnectionRecord.{nil, dispatch, upload_command, command_in, command_layer, on_decoding}
use Rattle.protocol.specs.DictionaryImage.{sound_image, lookup, value_of, readable, writable, write_image}
use Rattle.protocol.specs.TransferRecord.{Acted, moved, with_state, reply, abort_command, aborts, replies, piece_length, after_piece, is_last, advance, index_of, sub_of, data_of, new_upload, new_download, read_value, read_entry, read_by_index, write_entry, write_object, write_expedited, write_initiate, after_segment, write_segment, write_complete, download_data, download_step, write_data, write_by_index, max_segment_size}
use Rattle.protocol.specs.ConnectionTable.{sound_state, sound_upload, sound_download, sound_record, has_deadline}
use Rattle.protocol.proofs.Command.{decode_inverts}
use Rattle.protocol.proofs.DictionaryImage.{value_small, lookup_found, granted_write, write_keeps_sound}
use Rattle.picks.proofs.Keep.{left, right, both, not_both}
use Rattle.protocol.proofs.Pieces.{piece_formed, piece_short, piece_multiple}

-- the sizes against the widths that carry them
pub piece_narrow : PIECE < 65536
unfolding PIECE
piece_narrow = lit< tt

pub piece_positive : 0 < PIECE
unfolding PIECE
piece_positive = lit< tt

pub piece_code : 4 ≤ PIECE
unfolding PIECE
piece_code = lit≤ tt

pub share_narrow : SHARE < 65536
unfolding SHARE
share_narrow = lit< tt

pub capacity_share : CAPACITY_MAX ≤ SHARE
unfolding CAPACITY_MAX SHARE
capacity_share = lit≤ tt

-- a record whose numbers and state are sound is
pub moved_sound : (c : Connection) (send receive : ℕ) (s : SdoServerState) → send ≤ 63 → receive ≤ 63 → sound_state s ≡ true → sound_record (moved c send receive s) ≡ true
unfolding sound_record
moved_sound c send receive s a b e = both (both (le-leb send 63 a) (le-leb receive 63 b)) e

module _ (c : Connection) (e : sound_record c ≡ true) where
  numbers : leb c.send 63 && leb c.receive 63 ≡ true
  unfolding sound_record
  numbers = left _ (sound_state c.state) e

  pub send_below : c.send ≤ 63
  send_below = leb-true _ _ (left _ (leb c.receive 63) numbers)

  pub receive_below : c.receive ≤ 63
  receive_below = leb-true _ _ (right (leb c.send 63) _ numbers)

  pub state_sound : sound_state c.state ≡ true
  unfolding sound_record
  state_sound = right (leb c.send 63 && leb c.receive 63) _ e

  pub with_sound : (s : SdoServerState) → sound_state s ≡ true → sound_record (with_state c s) ≡ true
  with_sound s f = moved_sound c c.send c.receive s send_below receive_below f

-- what is kept
pub record Fine (c : Connection) (a : Acted) : Type 0 where
  pub used : a.connection.used ≡ c.used
  pub client : a.connection.client ≡ c.client
  pub area : a.connection.area ≡ c.area
  pub sound : sound_record a.connection ≡ true
  pub share : length a.share ≡ SHARE
  pub image : sound_image a.image ≡ true
  pub formed : WellFormed a.command
  pub short : length a.command.payload ≤ PIECE

reply_formed : (transaction : ℕ) (p : List ℕ) → length p < 65536 → WellFormed (reply transaction p)
reply_formed transaction p h = record { size = refl; narrow = h; present = refl; total = lit< tt }

pub nil_formed : (response aborted : Bool) → WellFormed (nil response aborted)
nil_formed response aborted = record { size = refl; narrow = lit< tt; present = refl; total = lit< tt }

pub abort_formed : (transaction code : ℕ) → WellFormed (abort_command transaction code)
abort_formed transaction code = record { size = sym (length_le_bytes 4 code); narrow = lit< tt; present = refl; total = lit< tt }

-- an upload that has something left to send
pub record Sending (t : SdoTransferState) : Type 0 where
  pub above : PIECE < t.total
  pub fits : t.total ≤ SHARE
  pub left : t.offset < t.total
  pub multiple : t.offset % PIECE ≡ 0

pub upload_sending : (t : SdoTransferState) → sound_upload t ≡ true → Sending t
unfolding sound_upload
upload_sending t e =
    let a = ltb PIECE t.total in
    let b = leb t.total SHARE in
    let p = ltb 0 t.offset in
    let l = ltb t.offset t.total in
    let m = eqb (t.offset % PIECE) 0 in
    let e5 = left (a && b && p && l && m) (pick t.stored (has_deadline t.deadline) (not (has_deadline t.deadline) && eqb t.retries 0)) e in
    let e4 = left (a && b && p && l) m e5 in
    let e2 = left (a && b) p (left (a && b && p) l e4) in
    record {
      above = ltb-true _ _ (left a b e2);
      fits = leb-true _ _ (right a b e2);
      left = ltb-true _ _ (right (a && b && p) l e4);
      multiple = eqb-true _ _ (right (a && b && p && l) m e5);
    }

pub after_sound : (t : SdoTransferState) (image : List ℕ) (clock : ℕ) → Sending t → is_last t ≡ false → sound_upload (after_piece t image clock) ≡ true
unfolding sound_upload pick
after_sound t image clock s l =
    let m : t.offset + piece_length PIECE t.total t.offset < t.total = leb-false _ _ l in
    let n : piece_length PIECE t.total t.offset ≡ PIECE = omega (arith, s.left) in
    let f : (t.offset + piece_length PIECE t.total t.offset) % PIECE ≡ 0 = rw n (piece_multiple PIECE t.offset s.multiple) in
    both (both (both (both (both (lt-ltb _ _ s.above) (le-leb _ _ s.fits)) (lt-ltb 0 (t.offset + piece_length PIECE t.total t.offset) (omega (arith, piece_positive)))) (lt-ltb _ _ m)) (eq-eqb _ _ f)) refl

-- the next piece of an upload
module _ (c : Connection) (share image : List ℕ) (clock : ℕ) (sc : sound_record c ≡ true) (ls : length share ≡ SHARE) (si : sound_image image ≡ true) where
  pub aborts_fine : (transaction code : ℕ) → Fine c (aborts c share image transaction code)
  aborts_fine transaction code = record { used = refl; client = refl; area = refl; sound = moved_sound c 0 63 Closed (lit≤ tt) (lit≤ tt) refl; share = ls; image = si; formed = abort_formed transaction code; short = rw (length_le_bytes 4 code) piece_code }

  pub replies_fine : (c' : Connection) (share' image' : List ℕ) (transaction : ℕ) (p : List ℕ) → c'.used ≡ c.used → c'.client ≡ c.client → c'.area ≡ c.area → sound_record c' ≡ true → length share' ≡ SHARE → sound_image image' ≡ true → length p ≤ PIECE → Fine c (replies c' share' image' transaction p)
  replies_fine c' share' image' transaction p a b d e f g h = record { used = a; client = b; area = d; sound = e; share = f; image = g; formed = reply_formed transaction p (omega (arith, piece_narrow)); short = h }

  pub advance_fine : (t : SdoTransferState) → Sending t → Fine c (advance c share image clock t)
  unfolding advance
  advance_fine t s = record {
    used = refl;
    client = refl;
    area = refl;
    sound = pick_elim (λ x. sound_record (with_state c x) ≡ true) (is_last t) Closed (SegmentedUpload (after_piece t image clock)) (λ e. with_sound c sc Closed refl) (λ e. with_sound c sc (SegmentedUpload (after_piece t image clock)) (after_sound t image clock s e));
    share = ls;
    image = si;
    formed = piece_formed PIECE t.transaction t.total t.offset share piece_narrow s.above (omega (arith, share_narrow, s.fits)) s.left (omega (arith, s.fits));
    short = piece_short PIECE t.transaction t.total t.offset share;
  }

-- what the image laws give: a value that is read fits a share, and a write that is allowed keeps the image sound
pub record ImageLaws (image : List ℕ) : Type 0 where
  pub sound : sound_image image ≡ true
  pub short : (index sub : ℕ) (e : Entry) → readable (lookup image index sub) ≡ Ok e → length (value_of image e) ≤ SHARE
  pub write : (index sub : ℕ) (bytes : List ℕ) (e : Entry) → writable (lookup image index sub) (length bytes) ≡ Ok e → sound_image (write_image image e bytes) ≡ true

readable_found : (x : Result Entry LookupError) (e : Entry) → readable x ≡ Ok e → x ≡ Ok e
readable_found (Err NoObject) e f = absurd (let z : ◌≡◌ {A = ℕ} 0 1 = cc in omega arith)
readable_found (Err NoSubIndex) e f = absurd (let z : ◌≡◌ {A = ℕ} 0 1 = cc in omega arith)
readable_found (Ok d) e f = let g : d ≡ e = cc in ap Ok g

pub image_laws : (image : List ℕ) → sound_image image ≡ true → ImageLaws image
image_laws image t = record {
  sound = t;
  short = λ index sub e f. let v = value_small image t (lookup_found image index sub e (readable_found (lookup image index sub) e f)).listed in omega (arith, capacity_share);
  write = λ index sub bytes e f. write_keeps_sound (granted_write image index sub e bytes t f);
}

module _ (c : Connection) (share image : List ℕ) (clock transaction : ℕ) (sc : sound_record c ≡ true) (ls : length share ≡ SHARE) (si : ImageLaws image) where
  abort_fine : (code : ℕ) → Fine c (aborts c share image transaction code)
  abort_fine code = aborts_fine c share image clock sc ls si.sound transaction code

  reply_fine : (p : List ℕ) → length p ≤ PIECE → Fine c (replies c share image transaction p)
  reply_fine p h = replies_fine c share image clock sc ls si.sound c share image transaction p refl refl refl sc ls si.sound h

  upload_fine : (index sub : ℕ) (v : List ℕ) → PIECE < length v → length v ≤ SHARE → Fine c (advance c (splice 0 v share) image clock (new_upload c share image clock transaction (length v) index sub))
  upload_fine index sub v a f =
      advance_fine c (splice 0 v share) image clock sc (length_splice 0 v share ∙ ls) si.sound (new_upload c share image clock transaction (length v) index sub)
      (record { above = a; fits = f; left = omega arith; multiple = zero-mod PIECE })

  read_fine : (p : List ℕ) → Fine c (read_by_index c share image clock transaction p)
  unfolding read_by_index read_entry read_value
  read_fine p =
      pick_elim (Fine c) (ltb (length p) 4) _ _ (λ e. abort_fine INVALID_COMMAND) (λ e. by_access (readable (lookup image (index_of p) (sub_of p))) refl)
    where
      by_access : (x : Result Entry AbortCode) → readable (lookup image (index_of p) (sub_of p)) ≡ x → Fine c (read_entry c share image clock transaction (index_of p) (sub_of p) x)
      by_access (Err code) f = abort_fine (abort_number code)
      by_access (Ok e) f =
          let s = si.short (index_of p) (sub_of p) e f in
          pick_elim (Fine c) (leb (length (value_of image e)) PIECE) _ _ (λ g. reply_fine (value_of image e) (leb-true _ _ g)) (λ g. upload_fine (index_of p) (sub_of p) (value_of image e) (leb-false _ _ g) s)

  write_fine : (next : Connection) (index sub : ℕ) (bytes : List ℕ) → next.used ≡ c.used → next.client ≡ c.client → next.area ≡ c.area → sound_record next ≡ true → Fine c (write_object c share image clock transaction next index sub bytes)
  unfolding write_object write_entry
  write_fine next index sub bytes a b d s = by_access (writable (lookup image index sub) (length bytes)) refl
    where
      by_access : (x : Result Entry AbortCode) → writable (lookup image index sub) (length bytes) ≡ x → Fine c (write_entry c share image clock transaction next bytes x)
      by_access (Err code) f = abort_fine (abort_number code)
      by_access (Ok e) f = replies_fine c share image clock sc ls si.sound next share (write_image image e bytes) transaction [] a b d s ls (si.write index sub bytes e f) (omega arith)

  expedited_fine : (p : List ℕ) → Fine c (write_expedited c share image clock transaction p)
  unfolding write_expedited
  expedited_fine p =
      pick_elim (Fine c) (ltb (length p) 4) _ _ (λ e. abort_fine INVALID_COMMAND) (λ e. write_fine c (index_of p) (sub_of p) (data_of p) refl refl refl sc)

  download_sound : (total : ℕ) (p : List ℕ) → 0 < total → total ≤ SHARE → length p ≤ FIRST_MAX + 4 → sound_download (new_download c share image clock transaction total p) ≡ true
  unfolding sound_download
  download_sound total p h k l =
      both (both (both (le-leb 1 total h) (le-leb total SHARE k)) (le-leb (min (length (data_of p)) OFFSET_MAX) (max total FIRST_MAX) (simp length-drop (omega arith)))) refl

  initiate_fine : (total : ℕ) (p : List ℕ) → length p ≤ FIRST_MAX + 4 → Fine c (write_initiate c share image clock transaction total p)
  unfolding write_initiate
  initiate_fine total p l =
      pick_elim (Fine c) (ltb (length p) 4) _ _ (λ e. abort_fine INVALID_COMMAND)
      (λ e. pick_elim (Fine c) (eqb total 0) _ _ (λ f. abort_fine LENGTH_MISFIT)
      (λ f. pick_elim (Fine c) (ltb SHARE total) _ _ (λ g. abort_fine OUT_OF_MEMORY)
      (λ g. replies_fine c share image clock sc ls si.sound (with_state c (SegmentedDownload (new_download c share image clock transaction total p))) (splice 0 (data_of p) share) image transaction [] refl refl refl
      (with_sound c sc (SegmentedDownload (new_download c share image clock transaction total p)) (download_sound total p (above total f) (ltb-false _ _ g) l)) (length_splice 0 (data_of p) share ∙ ls) si.sound (omega arith))))
    where
      above : (n : ℕ) → eqb n 0 ≡ false → 0 < n
      above zero e = absurd (not_both refl e)
      above (suc n) e = omega arith

  -- data of a running download
  segment_sound : (t : SdoTransferState) (bytes : List ℕ) → sound_download t ≡ true → t.offset + length bytes ≤ t.total → sound_download (after_segment c share image clock transaction t bytes) ≡ true
  unfolding sound_download
  segment_sound t bytes e l =
      let a = leb 1 t.total in
      let b = leb t.total SHARE in
      let d = leb t.offset (max t.total FIRST_MAX) in
      let f = left (a && b) d (left (a && b && d) (has_deadline t.deadline) e) in
      both (both (both (left a b f) (right a b f)) (le-leb (t.offset + length bytes) (max t.total FIRST_MAX) (omega arith))) refl

  segment_fine : (t : SdoTransferState) (bytes : List ℕ) → sound_download t ≡ true → t.offset + length bytes ≤ t.total → Fine c (write_segment c share image clock transaction t bytes)
  unfolding write_segment
  segment_fine t bytes e l =
      replies_fine c share image clock sc ls si.sound (with_state c (SegmentedDownload (after_segment c share image clock transaction t bytes))) (splice t.offset bytes share) image transaction [] refl refl refl
      (with_sound c sc (SegmentedDownload (after_segment c share image clock transaction t bytes)) (segment_sound t bytes e l)) (length_splice t.offset bytes share ∙ ls) si.sound (omega arith)

  max_fine : (p : List ℕ) → Fine c (max_segment_size c share image transaction p)
  unfolding max_segment_size
  max_fine p =
      reply_fine (le_bytes 2 (pick (ltb (length p) 2) 0 (le (take 2 p))) ++ le_bytes 2 PIECE) (simp (length-append, length_le_bytes) piece_code)

module _ (c : Connection) (share image : List ℕ) (clock transaction : ℕ) (sc : sound_record c ≡ true) (ls : length share ≡ SHARE) (si : ImageLaws image) where
  complete_fine : (t : SdoTransferState) (bytes : List ℕ) → Fine c (write_complete c share image clock transaction t bytes)
  unfolding write_complete
  complete_fine t bytes =
      let stored = splice t.offset bytes share in
      pick_elim (Fine c) (ltb (t.offset + length bytes) t.total) _ _ (λ e. abort_fine c share image clock transaction sc ls si LENGTH_TOO_LOW)
      (λ e. write_fine c stored image clock transaction sc (length_splice t.offset bytes share ∙ ls) si (with_state c Established) t.index t.sub (take t.total stored) refl refl refl (with_sound c sc Established refl))

  step_fine : (is_complete : Bool) (t : SdoTransferState) (bytes : List ℕ) → sound_download t ≡ true → Fine c (download_step c share image clock transaction is_complete t bytes)
  unfolding download_step
  step_fine is_complete t bytes e =
      pick_elim (Fine c) (eqb t.transaction transaction) _ _
      (λ f. pick_elim (Fine c) (ltb t.total (t.offset + length bytes)) _ _ (λ g. abort_fine c share image clock transaction sc ls si LENGTH_MISFIT) (λ g. by_kind is_complete (ltb-false _ _ g)))
      (λ f. abort_fine c share image clock transaction sc ls si GENERAL_ERROR)
    where
      by_kind : (k : Bool) → t.offset + length bytes ≤ t.total → Fine c (download_data c share image clock transaction k t bytes)
      by_kind true l = complete_fine t bytes
      by_kind false l = segment_fine c share image clock transaction sc ls si t bytes e l

  data_fine : (is_complete : Bool) (bytes : List ℕ) (s : SdoServerState) → sound_state s ≡ true → Fine c (write_data c share image clock transaction is_complete bytes s)
  unfolding write_data
  data_fine is_complete bytes Closed e = abort_fine c share image clock transaction sc ls si INVALID_SEQUENCE
  data_fine is_complete bytes Opening e = abort_fine c share image clock transaction sc ls si INVALID_SEQUENCE
  data_fine is_complete bytes Established e = abort_fine c share image clock transaction sc ls si INVALID_SEQUENCE
  data_fine is_complete bytes (SegmentedUpload t) e = abort_fine c share image clock transaction sc ls si INVALID_SEQUENCE
  data_fine is_complete bytes (SegmentedDownload t) e = step_fine is_complete t bytes e

  by_index_fine : (s : Segmentation) (total : ℕ) (p : List ℕ) → (s ≡ Initiate → length p ≤ FIRST_MAX + 4) → Fine c (write_by_index c share image clock transaction s total p)
  by_index_fine Expedited total p l = expedited_fine c share image clock transaction sc ls si p
  by_index_fine Initiate total p l = initiate_fine c share image clock transaction sc ls si total p (l refl)
  by_index_fine Segment total p l = data_fine false p c.state (state_sound c sc)
  by_index_fine Complete total p l = data_fine true p c.state (state_sound c sc)

-- the payload of an Initiate in a request of the length that is accepted
first_short : (body : List ℕ) (m : Command) → length body + 4 ≤ REQUEST_MAX → decode_command flag_places body ≡ value (decoded m) → m.header.segmentation ≡ Initiate → length m.payload ≤ FIRST_MAX + 4
unfolding FIRST_MAX REQUEST_MAX
first_short body m l e f =
    let d = decode_inverts flag_places body m e in
    let h = header_of flag_places d.id body in
    let g : h.segmentation ≡ Initiate = ap (λ (x : Command). x.header.segmentation) d.command ∙ f in
    let n : 12 + h.size ≤ length body = rw g at d.whole in
    rw (← d.command) (simp length-take (omega arith))

-- a command on a record
module _ (c : Connection) (share image : List ℕ) (clock : ℕ) (sc : sound_record c ≡ true) (ls : length share ≡ SHARE) (si : ImageLaws image) where
  dispatch_fine : (i : CommandId) (m : Command) → (m.header.segmentation ≡ Initiate → length m.payload ≤ FIRST_MAX + 4) → Fine c (dispatch c share image clock i m)
  unfolding dispatch
  dispatch_fine Nil m l = reply_fine c share image clock m.header.transaction sc ls si [] (omega arith)
  dispatch_fine ReadByIndex m l = read_fine c share image clock m.header.transaction sc ls si m.payload
  dispatch_fine WriteByIndex m l = by_index_fine c share image clock m.header.transaction sc ls si m.header.segmentation (total_number m.total) m.payload l
  dispatch_fine MaxSegmentSize m l = max_fine c share image clock m.header.transaction sc ls si m.payload
  dispatch_fine Abort m l = abort_fine c share image clock m.header.transaction sc ls si INVALID_COMMAND
  dispatch_fine WriteAllByIndex m l = abort_fine c share image clock m.header.transaction sc ls si INVALID_COMMAND
  dispatch_fine ReadAllByIndex m l = abort_fine c share image clock m.header.transaction sc ls si INVALID_COMMAND
  dispatch_fine WriteByName m l = abort_fine c share image clock m.header.transaction sc ls si INVALID_COMMAND
  dispatch_fine ReadByName m l = abort_fine c share image clock m.header.transaction sc ls si INVALID_COMMAND
  dispatch_fine FileWrite m l = abort_fine c share image clock m.header.transaction sc ls si INVALID_COMMAND
  dispatch_fine FileRead m l = abort_fine c share image clock m.header.transaction sc ls si INVALID_COMMAND
  dispatch_fine WriteMultipleParamByIndex m l = abort_fine c share image clock m.header.transaction sc ls si INVALID_COMMAND
  dispatch_fine ReadMultipleParamByIndex m l = abort_fine c share image clock m.header.transaction sc ls si INVALID_COMMAND

  upload_command_fine : (t : SdoTransferState) (m : Command) → sound_upload t ≡ true → Fine c (upload_command c share image clock t m)
  unfolding upload_command
  upload_command_fine t m e =
      pick_elim (Fine c) (eqb t.transaction m.header.transaction) _ _
      (λ f. pick_elim (Fine c) (eqb (id_byte m.header.id) 0 || m.header.response) _ _ (λ g. advance_fine c share image clock sc ls si.sound t (upload_sending t e)) (λ g. abort_fine c share image clock m.header.transaction sc ls si INVALID_SEQUENCE))
      (λ f. abort_fine c share image clock m.header.transaction sc ls si GENERAL_ERROR)

  aborted_fine : Fine c (record { connection = with_state c Established; share = share; image = image; command = nil false true })
  aborted_fine = record { used = refl; client = refl; area = refl; sound = with_sound c sc Established refl; share = ls; image = si.sound; formed = nil_formed false true; short = omega arith }

  command_fine : (m : Command) → (m.header.segmentation ≡ Initiate → length m.payload ≤ FIRST_MAX + 4) → Fine c (command_layer c share image clock m)
  unfolding command_layer command_in
  command_fine m l =
      pick_elim (Fine c) m.header.aborted _ _
      (λ e. aborted_fine)
      (λ e. by_state c.state (state_sound c sc))
    where
      by_state : (s : SdoServerState) → sound_state s ≡ true → Fine c (command_in c share image clock s m)
      by_state Closed e = dispatch_fine m.header.id m l
      by_state Opening e = dispatch_fine m.header.id m l
      by_state Established e = dispatch_fine m.header.id m l
      by_state (SegmentedDownload t) e = dispatch_fine m.header.id m l
      by_state (SegmentedUpload t) e = upload_command_fine t m e

  -- whatever the bytes of a command are, if they come with a request of the length that is accepted
  pub decoding_fine : (body : List ℕ) → length body + 4 ≤ REQUEST_MAX → Fine c (on_decoding c share image clock body (decode_command flag_places body))
  decoding_fine body l = by_answer (decode_command flag_places body) refl
    where
      by_answer : (x : Answer Decoding) → decode_command flag_places body ≡ x → Fine c (on_decoding c share image clock body x)
      by_answer (refused n) e = abort_fine c share image clock (undecodable_transaction body) sc ls si INVALID_COMMAND
      by_answer (value undecodable) e = abort_fine c share image clock (undecodable_transaction body) sc ls si INVALID_COMMAND
      by_answer (value (decoded m)) e = command_fine m (first_short body m l e)
