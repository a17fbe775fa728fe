-- Document 01, 'Transfer record'.
use Rattle.std.specs.Prelude.{ℕ, ◌+◌, ◌*◌, ◌-◌, min, Bool, true, false, List, [], ◌++◌, length, get_or, take, drop, ltb, leb, eqb, Some, None, Result, Ok, Err}
use Rattle.picks.specs.Pick.{pick}
use Rattle.octets.specs.Octets.{le, le_bytes, splice}
use Rattle.protocol.specs.declared.CommandId.TheVariants.{Nil, ReadByIndex}
use Rattle.protocol.specs.declared.Segmentation.{Segmentation}
use Rattle.protocol.specs.declared.Segmentation.TheVariants.{Expedited, Initiate, Segment, Complete}
use Rattle.protocol.specs.declared.SdoTransferState.{SdoTransferState}
use Rattle.protocol.specs.declared.SdoServerState.{SdoServerState}
use Rattle.protocol.specs.declared.SdoServerState.TheVariants.{Closed, Opening, Established, SegmentedDownload, SegmentedUpload}
use Rattle.protocol.specs.declared.Connection.{Connection}
use Rattle.protocol.specs.declared.Body.{Body}
use Rattle.protocol.specs.declared.Body.TheVariants as B
use Rattle.protocol.specs.declared.Action.{Action}
use Rattle.protocol.specs.declared.Entry.{Entry}
use Rattle.protocol.specs.declared.AbortCode.{AbortCode}
use Rattle.protocol.specs.Constants.{PIECE, SHARE, CLOCK_MAX, OFFSET_MAX, abort_number, INVALID_COMMAND, INVALID_SEQUENCE, OUT_OF_MEMORY, LENGTH_MISFIT, LENGTH_TOO_LOW, GENERAL_ERROR}
use Rattle.protocol.specs.Command.{Command, with_payload}
use Rattle.protocol.specs.DictionaryImage.{lookup, value_of, readable, writable, write_image, timeout_of, retries_of}

-- a record with other numbers and another state; what else it holds stays
abbrev pub moved : Connection → ℕ → ℕ → SdoServerState → Connection
moved c send receive s = record { used = c.used; client = c.client; area = c.area; send = send; receive = receive; state = s }

abbrev pub with_state : Connection → SdoServerState → Connection
with_state c s = moved c c.send c.receive s

-- what acting on a command leaves of the record, the client's share of the area and the image, and the answer
pub record Acted : Type 0 where
  pub connection : Connection
  pub share : List ℕ
  pub image : List ℕ
  pub command : Command

-- the payload that the code's answer points at: "a part of the image for an expedited answer and a part of the area otherwise"
abbrev pub body_bytes : List ℕ → List ℕ → Body → List ℕ
body_bytes share image B.Nothing = []
body_bytes share image (B.Image at n) = take n (drop at image)
body_bytes share image (B.Share at n) = take n (drop at share)
body_bytes share image (B.Code code) = le_bytes 4 code
body_bytes share image (B.Sizes a b) = le_bytes 2 a ++ le_bytes 2 b

-- an abort code and the two sizes stand in neither
abbrev pub is_part : Body → Bool
is_part B.Nothing = true
is_part (B.Image at n) = true
is_part (B.Share at n) = true
is_part (B.Code code) = false
is_part (B.Sizes a b) = false

abbrev pub body_part : List ℕ → List ℕ → Body → List ℕ
body_part share image b = pick (is_part b) (body_bytes share image b) []

-- the values of the code's answer, with the share and the image as they are left
abbrev pub told_action : Action → List ℕ → List ℕ → Acted
told_action a share image = record { connection = a.connection; share = share; image = image; command = with_payload a.command (body_bytes share image a.body) }

-- "answered Expedited under id Nil"
abbrev pub reply : ℕ → List ℕ → Command
reply transaction p = record { header = record { transaction = transaction; response = true; aborted = false; segmentation = Expedited; id = Nil; size = length p }; total = None; payload = p }

-- an abort of ours; "An abort closes." "Abort resets both"
abbrev pub abort_command : ℕ → ℕ → Command
abort_command transaction code = record { header = record { transaction = transaction; response = true; aborted = true; segmentation = Expedited; id = Nil; size = 4 }; total = None; payload = le_bytes 4 code }

abbrev pub reset : Connection → Connection
reset c = moved c 0 63 Closed

module _ (c : Connection) (share image : List ℕ) where
  abbrev pub aborts : ℕ → ℕ → Acted
  aborts transaction code = record { connection = reset c; share = share; image = image; command = abort_command transaction code }

  abbrev pub replies : ℕ → List ℕ → Acted
  replies transaction p = record { connection = c; share = share; image = image; command = reply transaction p }

-- "cut into pieces of 1,452, the rest last, under id ReadByIndex: Initiate with the size, Segment, Complete": the piece of `size` bytes at `offset` of `bytes`
abbrev pub piece_length : ℕ → ℕ → ℕ → ℕ
piece_length size total offset = min size (total - offset)

abbrev pub piece_kind : ℕ → ℕ → ℕ → Segmentation
piece_kind size total offset =
    pick (leb total (offset + piece_length size total offset)) Complete (pick (eqb offset 0) Initiate Segment)

unfoldable pub piece : ℕ → ℕ → ℕ → ℕ → List ℕ → Command
piece size transaction total offset bytes =
    let n = piece_length size total offset in
    record { header = record { transaction = transaction; response = true; aborted = false; segmentation = piece_kind size total offset; id = ReadByIndex; size = n }; total = pick (eqb offset 0) (Some total) None; payload = take n (drop offset bytes) }

abbrev pub next_piece : SdoTransferState → List ℕ → Command
next_piece t bytes = piece PIECE t.transaction t.total t.offset bytes

-- "the bytes before offset still hold it"
abbrev pub stored_piece : SdoTransferState → List ℕ → Command
stored_piece t bytes = piece PIECE t.transaction t.total (t.offset - PIECE) bytes

-- "deadline to clock plus timeout times 1,000"; a clock above its limit is refused before
unfoldable pub deadline_after : List ℕ → ℕ → ℕ
deadline_after image clock = min clock CLOCK_MAX + timeout_of image * 1000

-- "Each piece but Complete sets deadline to clock plus timeout times 1,000, the retries, and itself as stored piece."
abbrev pub after_piece : SdoTransferState → List ℕ → ℕ → SdoTransferState
after_piece t image clock = record { transaction = t.transaction; total = t.total; offset = t.offset + piece_length PIECE t.total t.offset; index = t.index; sub = t.sub; deadline = Some (deadline_after image clock); retries = retries_of image; stored = true }

abbrev pub is_last : SdoTransferState → Bool
is_last t = leb t.total (t.offset + piece_length PIECE t.total t.offset)

-- the next piece of an upload is sent
unfoldable pub advance : Connection → List ℕ → List ℕ → ℕ → SdoTransferState → Acted
advance c share image clock t = record { connection = with_state c (pick (is_last t) Closed (SegmentedUpload (after_piece t image clock))); share = share; image = image; command = next_piece t share }

-- "A read, an Expedited write and an Initiate write begin with index, sub and one ignored byte; … The rest of a write is data."
abbrev pub index_of : List ℕ → ℕ
index_of p = le (take 2 p)

abbrev pub sub_of : List ℕ → ℕ
sub_of p = get_or p 2 0

abbrev pub data_of : List ℕ → List ℕ
data_of p = drop 4 p

module _ (c : Connection) (share image : List ℕ) (clock transaction : ℕ) where
  -- "A value up to 1,452 bytes is answered Expedited under id Nil. A longer one is copied into the client's area and cut into pieces"
  abbrev pub new_upload : ℕ → ℕ → ℕ → SdoTransferState
  new_upload total index sub = record { transaction = transaction; total = total; offset = 0; index = index; sub = sub; deadline = None; retries = 0; stored = false }

  unfoldable pub read_value : ℕ → ℕ → List ℕ → Acted
  read_value index sub value =
      pick (leb (length value) PIECE) (replies c share image transaction value) (advance c (splice 0 value share) image clock (new_upload (length value) index sub))

  unfoldable pub read_entry : ℕ → ℕ → Result Entry AbortCode → Acted
  read_entry index sub (Err code) = aborts c share image transaction (abort_number code)
  read_entry index sub (Ok e) = read_value index sub (value_of image e)

  -- "under 4 payload bytes abort 05040001 before any other check"
  unfoldable pub read_by_index : List ℕ → Acted
  read_by_index p =
      pick (ltb (length p) 4) (aborts c share image transaction INVALID_COMMAND) (read_entry (index_of p) (sub_of p) (readable (lookup image (index_of p) (sub_of p))))

  -- a write that its checks allow, or their abort; `next` is the record after it
  unfoldable pub write_entry : Connection → List ℕ → Result Entry AbortCode → Acted
  write_entry next bytes (Err code) = aborts c share image transaction (abort_number code)
  write_entry next bytes (Ok e) = replies next share (write_image image e bytes) transaction []

  unfoldable pub write_object : Connection → ℕ → ℕ → List ℕ → Acted
  write_object next index sub bytes = write_entry next bytes (writable (lookup image index sub) (length bytes))

  unfoldable pub write_expedited : List ℕ → Acted
  write_expedited p =
      pick (ltb (length p) 4) (aborts c share image transaction INVALID_COMMAND) (write_object c (index_of p) (sub_of p) (data_of p))

  -- "WriteByIndex Initiate: total 0 aborts 06070010; total above 8,192 aborts 05040005 (added, outside the domain)."
  abbrev pub new_download : ℕ → List ℕ → SdoTransferState
  new_download total p = record { transaction = transaction; total = total; offset = min (length (data_of p)) OFFSET_MAX; index = index_of p; sub = sub_of p; deadline = Some (deadline_after image clock); retries = 0; stored = false }

  unfoldable pub write_initiate : ℕ → List ℕ → Acted
  write_initiate total p =
      pick (ltb (length p) 4) (aborts c share image transaction INVALID_COMMAND)
      (pick (eqb total 0) (aborts c share image transaction LENGTH_MISFIT)
      (pick (ltb SHARE total) (aborts c share image transaction OUT_OF_MEMORY)
      (replies (with_state c (SegmentedDownload (new_download total p))) (splice 0 (data_of p) share) image transaction [])))

  -- "Segment or Complete: … other transaction, 08000000; beyond total, 06070010; Complete below total, 06070013; else stored, and Complete writes."
  abbrev pub after_segment : SdoTransferState → List ℕ → SdoTransferState
  after_segment t bytes = record { transaction = t.transaction; total = t.total; offset = t.offset + length bytes; index = t.index; sub = t.sub; deadline = Some (deadline_after image clock); retries = t.retries; stored = t.stored }

  unfoldable pub write_segment : SdoTransferState → List ℕ → Acted
  write_segment t bytes =
      replies (with_state c (SegmentedDownload (after_segment t bytes))) (splice t.offset bytes share) image transaction []

-- the share with the last data writes the object's value
unfoldable pub write_complete : Connection → List ℕ → List ℕ → ℕ → ℕ → SdoTransferState → List ℕ → Acted
write_complete c share image clock transaction t bytes =
    let stored = splice t.offset bytes share in
    pick (ltb (t.offset + length bytes) t.total) (aborts c share image transaction LENGTH_TOO_LOW)
    (write_object c stored image clock transaction (with_state c Established) t.index t.sub (take t.total stored))

module _ (c : Connection) (share image : List ℕ) (clock transaction : ℕ) where
  abbrev pub download_data : Bool → SdoTransferState → List ℕ → Acted
  download_data true t bytes = write_complete c share image clock transaction t bytes
  download_data false t bytes = write_segment c share image clock transaction t bytes

  unfoldable pub download_step : Bool → SdoTransferState → List ℕ → Acted
  download_step is_complete t bytes =
      pick (eqb t.transaction transaction)
      (pick (ltb t.total (t.offset + length bytes)) (aborts c share image transaction LENGTH_MISFIT) (download_data is_complete t bytes))
      (aborts c share image transaction GENERAL_ERROR)

  -- "no download running, 05040003"
  unfoldable pub write_data : Bool → List ℕ → SdoServerState → Acted
  write_data is_complete bytes Closed = aborts c share image transaction INVALID_SEQUENCE
  write_data is_complete bytes Opening = aborts c share image transaction INVALID_SEQUENCE
  write_data is_complete bytes Established = aborts c share image transaction INVALID_SEQUENCE
  write_data is_complete bytes (SegmentedUpload t) = aborts c share image transaction INVALID_SEQUENCE
  write_data is_complete bytes (SegmentedDownload t) = download_step is_complete t bytes

  -- "Segment and Complete carry data only."
  abbrev pub write_by_index : Segmentation → ℕ → List ℕ → Acted
  write_by_index Expedited total p = write_expedited c share image clock transaction p
  write_by_index Initiate total p = write_initiate c share image clock transaction total p
  write_by_index Segment total p = write_data false p c.state
  write_by_index Complete total p = write_data true p c.state

-- "MaxSegmentSize answers the client's u16 (0 if absent), then 1,452."
unfoldable pub max_segment_size : Connection → List ℕ → List ℕ → ℕ → List ℕ → Acted
max_segment_size c share image transaction p =
    replies c share image transaction (le_bytes 2 (pick (ltb (length p) 2) 0 (le (take 2 p))) ++ le_bytes 2 PIECE)
