-- What acting on a command does to an upload: nothing, it begins one, sends its next piece, or its last.
use Prim.Native.Nat.{ℕ, ◌+◌, ◌≤◌, ◌<◌}
use native.Mathlib.Omega.{arith}
use mathlib.Core.Path.{◌≡◌, refl, sym, ◌∙◌}
use mathlib.Core.Bool.{Bool, true, false, ◌&&◌, ◌||◌, not}
use mathlib.Core.List.{List, []}
use mathlib.Core.Option.{Option, none, some}
use lib.ListN.{length, take}
use lib.Seq.{take-length}
use lib.Dec.{ltb, leb, eqb}
use borrow.Author.Tests.{leb-true, leb-false, lt-leb}
use Rattle.picks.specs.Pick.{pick}
use Rattle.picks.proofs.Picks.{pick_elim}
use Rattle.octets.specs.Octets.{splice}
use Rattle.octets.proofs.Splice.{part_splice}
use Rattle.protocol.specs.declared.CommandId.{CommandId}
use Rattle.protocol.specs.declared.CommandId.TheVariants.{Nil, WriteByIndex, ReadByIndex, WriteAllByIndex, ReadAllByIndex, WriteByName, ReadByName, FileWrite, FileRead, WriteMultipleParamByIndex, ReadMultipleParamByIndex, Abort, MaxSegmentSize}
use Rattle.protocol.specs.declared.Segmentation.{Segmentation}
use Rattle.protocol.specs.declared.Segmentation.TheVariants.{Expedited, Initiate, Segment, Complete}
use Rattle.std.specs.Prelude.{Result, Err, Ok}
use Rattle.protocol.specs.declared.Entry.{Entry}
use Rattle.protocol.specs.declared.AbortCode.{AbortCode}
use Rattle.protocol.specs.declared.SdoTransferState.{SdoTransferState}
use Rattle.protocol.specs.declared.SdoServerState.{SdoServerState}
use Rattle.protocol.specs.declared.SdoServerState.TheVariants.{Closed, Opening, Established, SegmentedDownload, SegmentedUpload}
use Rattle.protocol.specs.declared.Connection.{Connection}
use Rattle.protocol.specs.Constants.{PIECE, SHARE, INVALID_COMMAND, INVALID_SEQUENCE, OUT_OF_MEMORY, LENGTH_MISFIT, LENGTH_TOO_LOW, GENERAL_ERROR, abort_number}
use Rattle.protocol.specs.Coding.{Answer, refused, value}
use Rattle.protocol.specs.Command.{Command, Decoding, decoded, undecodable, id_byte, total_number, undecodable_transaction}
use Rattle.protocol.specs.DictionaryImage.{lookup, readable, writable, value_of, write_image}
use Rattle.protocol.specs.TransferRecord.{Acted, with_state, aborts, replies, piece, piece_length, advance, is_last, after_piece, index_of, sub_of, data_of, new_upload, new_download, read_value, read_entry, read_by_index, write_entry, write_object, write_expedited, write_initiate, after_segment, write_segment, write_complete, download_data, download_step, write_data, write_by_index, max_segment_size}
use Rattle.protocol.specs.ConnectionRecord.{dispatch, upload_command, command_in, command_layer, on_decoding, is_opening, ends, settle}
use Rattle.protocol.specs.ConnectionTable.{sound_state, sound_record}
use Rattle.protocol.specs.Series.{is_read, held_in, held_command, held_decoding}
use Rattle.protocol.proofs.Pieces.{piece_agrees, piece_initiate}
use Rattle.protocol.proofs.RecordSound.{Sending, ImageLaws, state_sound, upload_sending}

-- a record runs an upload of this transaction, total and offset
pub record Up (c : Connection) (transaction total offset : ℕ) : Type 0 where
  pub transfer : SdoTransferState
  pub state : c.state ≡ SegmentedUpload transfer
  pub transaction' : transfer.transaction ≡ transaction
  pub total' : transfer.total ≡ total
  pub offset' : transfer.offset ≡ offset

pub up_state : (c : Connection) (t : SdoTransferState) → c.state ≡ SegmentedUpload t → Up c t.transaction t.total t.offset
up_state c t e = record { transfer = t; state = e; transaction' = refl; total' = refl; offset' = refl }

-- an upload after it was one before it, with the same bytes
pub record Stays (c : Connection) (share : List ℕ) (c' : Connection) (share' : List ℕ) : Type 0 where
  pub before : (x n o : ℕ) → Up c' x n o → Up c x n o × (share' ≡ share)

-- an upload of the value held begins with its first piece
pub record Begins (held : Option (List ℕ)) (m : Command) (c' : Connection) (share' : List ℕ) : Type 0 where
  pub bytes : List ℕ
  pub transaction : ℕ
  pub is_held : held ≡ some bytes
  pub above : PIECE < length bytes
  pub command : m ≡ piece PIECE transaction (length bytes) 0 bytes
  pub copy : take (length bytes) share' ≡ bytes
  pub up : Up c' transaction (length bytes) PIECE

-- the next piece of an upload, not its last
pub record Advances (c : Connection) (share : List ℕ) (m : Command) (c' : Connection) (share' : List ℕ) : Type 0 where
  pub transaction : ℕ
  pub total : ℕ
  pub offset : ℕ
  pub was : Up c transaction total offset
  pub more : offset + PIECE < total
  pub command : m ≡ piece PIECE transaction total offset share
  pub same : share' ≡ share
  pub up : Up c' transaction total (offset + PIECE)

-- its last piece
pub record Ends (c : Connection) (share : List ℕ) (m : Command) (c' : Connection) : Type 0 where
  pub transaction : ℕ
  pub total : ℕ
  pub offset : ℕ
  pub was : Up c transaction total offset
  pub left : offset < total
  pub last : total ≤ offset + PIECE
  pub command : m ≡ piece PIECE transaction total offset share
  pub closed : c'.state ≡ Closed

pub data Kind (c : Connection) (share : List ℕ) (held : Option (List ℕ)) (m : Command) (c' : Connection) (share' : List ℕ) : Type 0 where
  quiet : is_read m ≡ false → Stays c share c' share' → Kind c share held m c' share'
  begins : Begins held m c' share' → Kind c share held m c' share'
  advances : Advances c share m c' share' → Kind c share held m c' share'
  finishes : Ends c share m c' → Kind c share held m c' share'

abbrev ActKind : Connection → List ℕ → Option (List ℕ) → Acted → Type 0
ActKind c share held a = Kind c share held a.command a.connection a.share

-- a record that runs no upload
pub no_upload : (c : Connection) (share : List ℕ) (c' : Connection) (share' : List ℕ) → ((t : SdoTransferState) → c'.state ≡ SegmentedUpload t → ⊥) → Stays c share c' share'
no_upload c share c' share' f = record { before = λ x n o u. absurd (f u.transfer u.state) }

pub stays_same : (c : Connection) (share : List ℕ) → Stays c share c share
stays_same c share = record { before = λ x n o u. (u, refl) }

pub closed_none : (t : SdoTransferState) → Closed ≡ SegmentedUpload t → ⊥
closed_none t e = let z : ◌≡◌ {A = ℕ} 0 1 = cc in omega arith

pub established_none : (t : SdoTransferState) → Established ≡ SegmentedUpload t → ⊥
established_none t e = let z : ◌≡◌ {A = ℕ} 0 1 = cc in omega arith

pub download_none : (d t : SdoTransferState) → SegmentedDownload d ≡ SegmentedUpload t → ⊥
download_none d t e = let z : ◌≡◌ {A = ℕ} 0 1 = cc in omega arith

module _ (c : Connection) (share image : List ℕ) (clock : ℕ) (held : Option (List ℕ)) where
  abort_kind : (transaction code : ℕ) → ActKind c share held (aborts c share image transaction code)
  abort_kind transaction code = quiet refl (no_upload c share _ _ closed_none)

  reply_kind : (image' : List ℕ) (transaction : ℕ) (p : List ℕ) → ActKind c share held (replies c share image' transaction p)
  reply_kind image' transaction p = quiet refl (stays_same c share)

  pub advance_kind : (t : SdoTransferState) → c.state ≡ SegmentedUpload t → Sending t → ActKind c share held (advance c share image clock t)
  unfolding advance pick
  advance_kind t e s = by_last (is_last t) refl
    where
      by_last : (b : Bool) → is_last t ≡ b → ActKind c share held (advance c share image clock t)
      by_last true f = finishes (record {
        transaction = t.transaction;
        total = t.total;
        offset = t.offset;
        was = up_state c t e;
        left = s.left;
        last = let l = leb-true t.total (t.offset + piece_length PIECE t.total t.offset) f in omega arith;
        command = refl;
        closed = rw f;
      })
      by_last false f =
          let l : t.offset + piece_length PIECE t.total t.offset < t.total = leb-false t.total (t.offset + piece_length PIECE t.total t.offset) f in
          advances (record {
            transaction = t.transaction;
            total = t.total;
            offset = t.offset;
            was = up_state c t e;
            more = omega (arith, s.left);
            command = refl;
            same = refl;
            up = record { transfer = after_piece t image clock; state = rw f; transaction' = refl; total' = refl; offset' = omega (arith, s.left) };
          })

-- a read of a long value begins an upload of it
module _ (c : Connection) (share image : List ℕ) (clock transaction : ℕ) (ls : length share ≡ SHARE) (held : Option (List ℕ)) where
  begin_kind : (index sub : ℕ) (v : List ℕ) → held ≡ some v → PIECE < length v → length v ≤ SHARE → ActKind c share held (advance c (splice 0 v share) image clock (new_upload c share image clock transaction (length v) index sub))
  unfolding advance pick
  begin_kind index sub v e a f =
      let t = new_upload c share image clock transaction (length v) index sub in
      let copy : take (length v) (splice 0 v share) ≡ v = part_splice 0 v share (omega arith) in
      let l : is_last t ≡ false = lt-leb (length v) (0 + piece_length PIECE (length v) 0) (omega arith) in
      begins (record {
        bytes = v;
        transaction = transaction;
        is_held = e;
        above = a;
        command = piece_agrees PIECE transaction (length v) 0 (splice 0 v share) v (omega arith) (copy ∙ sym (take-length v));
        copy = copy;
        up = record { transfer = after_piece t image clock; state = rw l; transaction' = refl; total' = refl; offset' = omega arith };
      })

  -- what the definitions say is held is what a read copies
  value_kind : (index sub : ℕ) (v : List ℕ) → held ≡ some v → length v ≤ SHARE → ActKind c share held (read_value c share image clock transaction index sub v)
  unfolding read_value
  value_kind index sub v e f =
      pick_elim (ActKind c share held) (leb (length v) PIECE) _ _ (λ g. reply_kind c share image clock held image transaction v) (λ g. begin_kind index sub v e (leb-false _ _ g) f)

held_value : (image : List ℕ) (m : Command) → is_read m ≡ true → (x : Result Entry AbortCode) → readable (lookup image (index_of m.payload) (sub_of m.payload)) ≡ x → ltb (length m.payload) 4 ≡ false → held_command image m ≡ held_in image x
unfolding held_command pick
held_value image m q x e l = rw (q, l, e)

module _ (c : Connection) (share image : List ℕ) (clock : ℕ) (ls : length share ≡ SHARE) (si : ImageLaws image) where
  read_kind : (m : Command) → is_read m ≡ true → ActKind c share (held_command image m) (read_by_index c share image clock m.header.transaction m.payload)
  unfolding read_by_index read_entry
  read_kind m q =
      let p = m.payload in
      pick_elim (ActKind c share (held_command image m)) (ltb (length p) 4) _ _ (λ e. abort_kind c share image clock (held_command image m) m.header.transaction INVALID_COMMAND) (λ e. by_access (readable (lookup image (index_of p) (sub_of p))) refl e)
    where
      by_access : (x : Result Entry AbortCode) → readable (lookup image (index_of m.payload) (sub_of m.payload)) ≡ x → ltb (length m.payload) 4 ≡ false → ActKind c share (held_command image m) (read_entry c share image clock m.header.transaction (index_of m.payload) (sub_of m.payload) x)
      by_access (Err code) f e = abort_kind c share image clock (held_command image m) m.header.transaction (abort_number code)
      by_access (Ok d) f e = value_kind c share image clock m.header.transaction ls (held_command image m) (index_of m.payload) (sub_of m.payload) (value_of image d) (held_value image m q (Ok d) f e) (si.short (index_of m.payload) (sub_of m.payload) d f)

  -- writes begin no upload
  object_kind : (held : Option (List ℕ)) (transaction : ℕ) (index sub : ℕ) (bytes : List ℕ) → ActKind c share held (write_object c share image clock transaction c index sub bytes)
  unfolding write_object write_entry
  object_kind held transaction index sub bytes = by_access (writable (lookup image index sub) (length bytes))
    where
      by_access : (x : Result Entry AbortCode) → ActKind c share held (write_entry c share image clock transaction c bytes x)
      by_access (Err code) = abort_kind c share image clock held transaction (abort_number code)
      by_access (Ok e) = reply_kind c share image clock held (write_image image e bytes) transaction []

  expedited_kind : (held : Option (List ℕ)) (transaction : ℕ) (p : List ℕ) → ActKind c share held (write_expedited c share image clock transaction p)
  unfolding write_expedited
  expedited_kind held transaction p =
      pick_elim (ActKind c share held) (ltb (length p) 4) _ _ (λ e. abort_kind c share image clock held transaction INVALID_COMMAND) (λ e. object_kind held transaction (index_of p) (sub_of p) (data_of p))

  initiate_kind : (held : Option (List ℕ)) (transaction total : ℕ) (p : List ℕ) → ActKind c share held (write_initiate c share image clock transaction total p)
  unfolding write_initiate
  initiate_kind held transaction total p =
      pick_elim (ActKind c share held) (ltb (length p) 4) _ _ (λ e. abort_kind c share image clock held transaction INVALID_COMMAND)
      (λ e. pick_elim (ActKind c share held) (eqb total 0) _ _ (λ f. abort_kind c share image clock held transaction LENGTH_MISFIT)
      (λ f. pick_elim (ActKind c share held) (ltb SHARE total) _ _ (λ g. abort_kind c share image clock held transaction OUT_OF_MEMORY)
      (λ g. quiet refl (no_upload c share _ _ (download_none (new_download c share image clock transaction total p))))))

  complete_kind : (held : Option (List ℕ)) (transaction : ℕ) (t : SdoTransferState) (bytes : List ℕ) → ActKind c share held (write_complete c share image clock transaction t bytes)
  unfolding write_complete write_object write_entry
  complete_kind held transaction t bytes =
      let stored = splice t.offset bytes share in
      pick_elim (ActKind c share held) (ltb (t.offset + length bytes) t.total) _ _ (λ e. abort_kind c share image clock held transaction LENGTH_TOO_LOW) (λ e. by_access (writable (lookup image t.index t.sub) (length (take t.total stored))))
    where
      by_access : (x : Result Entry AbortCode) → ActKind c share held (write_entry c (splice t.offset bytes share) image clock transaction (with_state c Established) (take t.total (splice t.offset bytes share)) x)
      by_access (Err code) = quiet refl (no_upload c share _ _ closed_none)
      by_access (Ok e) = quiet refl (no_upload c share _ _ established_none)

  download_kind : (held : Option (List ℕ)) (transaction : ℕ) (is_complete : Bool) (t : SdoTransferState) (bytes : List ℕ) → ActKind c share held (download_step c share image clock transaction is_complete t bytes)
  unfolding download_step write_segment
  download_kind held transaction is_complete t bytes =
      pick_elim (ActKind c share held) (eqb t.transaction transaction) _ _
      (λ f. pick_elim (ActKind c share held) (ltb t.total (t.offset + length bytes)) _ _ (λ g. abort_kind c share image clock held transaction LENGTH_MISFIT) (λ g. by_kind is_complete))
      (λ f. abort_kind c share image clock held transaction GENERAL_ERROR)
    where
      by_kind : (k : Bool) → ActKind c share held (download_data c share image clock transaction k t bytes)
      by_kind true = complete_kind held transaction t bytes
      by_kind false = quiet refl (no_upload c share _ _ (download_none (after_segment c share image clock transaction t bytes)))

  data_kind : (held : Option (List ℕ)) (transaction : ℕ) (is_complete : Bool) (bytes : List ℕ) (s : SdoServerState) → ActKind c share held (write_data c share image clock transaction is_complete bytes s)
  unfolding write_data
  data_kind held transaction is_complete bytes Closed = abort_kind c share image clock held transaction INVALID_SEQUENCE
  data_kind held transaction is_complete bytes Opening = abort_kind c share image clock held transaction INVALID_SEQUENCE
  data_kind held transaction is_complete bytes Established = abort_kind c share image clock held transaction INVALID_SEQUENCE
  data_kind held transaction is_complete bytes (SegmentedUpload t) = abort_kind c share image clock held transaction INVALID_SEQUENCE
  data_kind held transaction is_complete bytes (SegmentedDownload t) = download_kind held transaction is_complete t bytes

  write_kind : (held : Option (List ℕ)) (transaction : ℕ) (s : Segmentation) (total : ℕ) (p : List ℕ) → ActKind c share held (write_by_index c share image clock transaction s total p)
  write_kind held transaction Expedited total p = expedited_kind held transaction p
  write_kind held transaction Initiate total p = initiate_kind held transaction total p
  write_kind held transaction Segment total p = data_kind held transaction false p c.state
  write_kind held transaction Complete total p = data_kind held transaction true p c.state

  max_kind : (held : Option (List ℕ)) (transaction : ℕ) (p : List ℕ) → ActKind c share held (max_segment_size c share image transaction p)
  unfolding max_segment_size
  max_kind held transaction p = quiet refl (stays_same c share)

  dispatch_kind : (i : CommandId) (m : Command) → m.header.id ≡ i → ActKind c share (held_command image m) (dispatch c share image clock i m)
  unfolding dispatch
  dispatch_kind Nil m e = reply_kind c share image clock (held_command image m) image m.header.transaction []
  dispatch_kind ReadByIndex m e = read_kind m (rw e)
  dispatch_kind WriteByIndex m e = write_kind (held_command image m) m.header.transaction m.header.segmentation (total_number m.total) m.payload
  dispatch_kind MaxSegmentSize m e = max_kind (held_command image m) m.header.transaction m.payload
  dispatch_kind Abort m e = abort_kind c share image clock (held_command image m) m.header.transaction INVALID_COMMAND
  dispatch_kind WriteAllByIndex m e = abort_kind c share image clock (held_command image m) m.header.transaction INVALID_COMMAND
  dispatch_kind ReadAllByIndex m e = abort_kind c share image clock (held_command image m) m.header.transaction INVALID_COMMAND
  dispatch_kind WriteByName m e = abort_kind c share image clock (held_command image m) m.header.transaction INVALID_COMMAND
  dispatch_kind ReadByName m e = abort_kind c share image clock (held_command image m) m.header.transaction INVALID_COMMAND
  dispatch_kind FileWrite m e = abort_kind c share image clock (held_command image m) m.header.transaction INVALID_COMMAND
  dispatch_kind FileRead m e = abort_kind c share image clock (held_command image m) m.header.transaction INVALID_COMMAND
  dispatch_kind WriteMultipleParamByIndex m e = abort_kind c share image clock (held_command image m) m.header.transaction INVALID_COMMAND
  dispatch_kind ReadMultipleParamByIndex m e = abort_kind c share image clock (held_command image m) m.header.transaction INVALID_COMMAND

  upload_command_kind : (t : SdoTransferState) (m : Command) → c.state ≡ SegmentedUpload t → Sending t → ActKind c share (held_command image m) (upload_command c share image clock t m)
  unfolding upload_command
  upload_command_kind t m e s =
      pick_elim (ActKind c share (held_command image m)) (eqb t.transaction m.header.transaction) _ _
      (λ f. pick_elim (ActKind c share (held_command image m)) (eqb (id_byte m.header.id) 0 || m.header.response) _ _ (λ g. advance_kind c share image clock (held_command image m) t e s) (λ g. abort_kind c share image clock (held_command image m) m.header.transaction INVALID_SEQUENCE))
      (λ f. abort_kind c share image clock (held_command image m) m.header.transaction GENERAL_ERROR)

  command_kind : sound_record c ≡ true → (m : Command) → ActKind c share (held_command image m) (command_layer c share image clock m)
  unfolding command_layer command_in
  command_kind sc m =
      pick_elim (ActKind c share (held_command image m)) m.header.aborted _ _ (λ e. quiet refl (no_upload c share _ _ established_none)) (λ e. by_state c.state refl (state_sound c sc))
    where
      by_state : (s : SdoServerState) → c.state ≡ s → sound_state s ≡ true → ActKind c share (held_command image m) (command_in c share image clock s m)
      by_state Closed e g = dispatch_kind m.header.id m refl
      by_state Opening e g = dispatch_kind m.header.id m refl
      by_state Established e g = dispatch_kind m.header.id m refl
      by_state (SegmentedDownload t) e g = dispatch_kind m.header.id m refl
      by_state (SegmentedUpload t) e g = upload_command_kind t m e (upload_sending t g)

  pub decoding_kind : sound_record c ≡ true → (body : List ℕ) (x : Answer Decoding) → ActKind c share (held_decoding image x) (on_decoding c share image clock body x)
  decoding_kind sc body (refused n) = abort_kind c share image clock none (undecodable_transaction body) INVALID_COMMAND
  decoding_kind sc body (value undecodable) = abort_kind c share image clock none (undecodable_transaction body) INVALID_COMMAND
  decoding_kind sc body (value (decoded m)) = command_kind sc m

-- closing changes nothing that an upload rests on
settled : (a : Acted) → ends a.command.header.segmentation ≡ false → a.command.header.aborted ≡ false → settle a ≡ a
unfolding settle pick
settled a e f = go (is_opening a.connection.state)
  where
    go : (b : Bool) → pick (not b && (ends a.command.header.segmentation || a.command.header.aborted)) (record { connection = with_state a.connection Closed; share = a.share; image = a.image; command = a.command }) a ≡ a
    go true = refl
    go false = rw (e, f)

settle_quiet : (c : Connection) (share : List ℕ) (held : Option (List ℕ)) (a : Acted) → is_read a.command ≡ false → Stays c share a.connection a.share → ActKind c share held (settle a)
unfolding settle
settle_quiet c share held a e s =
    pick_elim (ActKind c share held) (not (is_opening a.connection.state) && (ends a.command.header.segmentation || a.command.header.aborted)) _ _ (λ f. quiet e (no_upload c share _ _ closed_none)) (λ f. quiet e s)

settle_last : (c : Connection) (share : List ℕ) (held : Option (List ℕ)) (a : Acted) → Ends c share a.command a.connection → ActKind c share held (settle a)
unfolding settle
settle_last c share held a b =
    pick_elim (ActKind c share held) (not (is_opening a.connection.state) && (ends a.command.header.segmentation || a.command.header.aborted)) _ _
    (λ f. finishes (record { transaction = b.transaction; total = b.total; offset = b.offset; was = b.was; left = b.left; last = b.last; command = b.command; closed = refl }))
    (λ f. finishes b)

-- an Initiate and a Segment do not end
first_open : (transaction total : ℕ) (bytes : List ℕ) → PIECE < total → ends (piece PIECE transaction total 0 bytes).header.segmentation ≡ false
unfolding piece
first_open transaction total bytes h = rw (piece_initiate PIECE total 0 (omega arith) refl h)

middle_open : (transaction total offset : ℕ) (bytes : List ℕ) → offset + PIECE < total → ends (piece PIECE transaction total offset bytes).header.segmentation ≡ false
unfolding piece pick
middle_open transaction total offset bytes h = rw (lt-leb total (offset + piece_length PIECE total offset) (omega arith)) (go (eqb offset 0))
  where
    go : (b : Bool) → ends (pick b Initiate Segment) ≡ false
    go true = refl
    go false = refl

not_aborted : (transaction total offset : ℕ) (bytes : List ℕ) → (piece PIECE transaction total offset bytes).header.aborted ≡ false
unfolding piece
not_aborted transaction total offset bytes = refl

pub settle_kind : (c : Connection) (share : List ℕ) (held : Option (List ℕ)) (a : Acted) → ActKind c share held a → ActKind c share held (settle a)
settle_kind c share held a (quiet e s) = settle_quiet c share held a e s
settle_kind c share held a (finishes b) = settle_last c share held a b
settle_kind c share held a (begins b) =
    rw (settled a (rw b.command (first_open b.transaction (length b.bytes) b.bytes b.above)) (rw b.command (not_aborted b.transaction (length b.bytes) 0 b.bytes))) (begins b)
settle_kind c share held a (advances b) =
    rw (settled a (rw b.command (middle_open b.transaction b.total b.offset share b.more)) (rw b.command (not_aborted b.transaction b.total b.offset share))) (advances b)
