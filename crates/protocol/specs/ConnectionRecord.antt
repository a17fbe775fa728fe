-- Document 01, 'Connection record'.
use Rattle.std.specs.Prelude.{ℕ, Bool, true, false, ◌&&◌, ◌||◌, not, List, [], length, eqb, Option, Some, None, Result, Ok, Err}
use Rattle.picks.specs.Pick.{pick}
use Rattle.protocol.specs.declared.ReceiveConnState.TheVariants as R
use Rattle.protocol.specs.declared.SendConnState.TheVariants as S
use Rattle.protocol.specs.declared.SequenceLayerHeader.{SequenceLayerHeader}
use Rattle.protocol.specs.declared.CommandId.{CommandId}
use Rattle.protocol.specs.declared.CommandId.TheVariants.{Nil, WriteByIndex, ReadByIndex, WriteAllByIndex, ReadAllByIndex, WriteByName, ReadByName, FileWrite, FileRead, WriteMultipleParamByIndex, ReadMultipleParamByIndex, Abort, MaxSegmentSize}
use Rattle.protocol.specs.declared.Segmentation.{Segmentation}
use Rattle.protocol.specs.declared.Segmentation.TheVariants.{Expedited, Initiate, Segment, Complete}
use Rattle.protocol.specs.declared.SdoTransferState.{SdoTransferState}
use Rattle.protocol.specs.declared.SdoServerState.{SdoServerState}
use Rattle.protocol.specs.declared.SdoServerState.TheVariants.{Closed, Opening, Established, SegmentedDownload, SegmentedUpload}
use Rattle.protocol.specs.declared.Connection.{Connection}
use Rattle.protocol.specs.declared.Left.{Left}
use Rattle.protocol.specs.declared.Misfit.{Misfit}
use Rattle.protocol.specs.declared.Refusal.{Refusal}
use Rattle.protocol.specs.declared.SdoResponseData.{SdoResponseData}
use Rattle.protocol.specs.Constants.{INVALID_COMMAND, INVALID_SEQUENCE, GENERAL_ERROR}
use Rattle.protocol.specs.Coding.{Answer, refused, value, refusal_number}
use Rattle.protocol.specs.SequenceHeader.{receive_mark, send_mark, next, decode_header, command_part}
use Rattle.protocol.specs.Command.{Command, Decoding, decoded, undecodable, flag_places, decode_command, undecodable_transaction, total_number, id_byte, with_payload}
use Rattle.protocol.specs.TransferRecord.{Acted, body_bytes, moved, with_state, aborts, replies, advance, read_by_index, write_by_index, max_segment_size, stored_piece}

-- an answer: header and command
pub record Reply : Type 0 where
  pub header : SequenceLayerHeader
  pub command : Command

-- what serving a request leaves of the record, the share and the image, and what is said: an answer, or 5, 8 or 9
pub record Served : Type 0 where
  pub connection : Connection
  pub share : List ℕ
  pub image : List ℕ
  pub said : Answer Reply

-- the values of the code's answers, with the share and the image as they are left
abbrev pub told_reply : SdoResponseData → List ℕ → List ℕ → Reply
told_reply r share image = record { header = r.header; command = with_payload r.command (body_bytes share image r.body) }

abbrev pub told_said : Result SdoResponseData Refusal → List ℕ → List ℕ → Answer Reply
told_said (Ok r) share image = value (told_reply r share image)
told_said (Err x) share image = refused (refusal_number x)

abbrev pub told_handled : Left (Result SdoResponseData Refusal) → List ℕ → List ℕ → Served
told_handled l share image = record { connection = l.connection; share = share; image = image; said = told_said l.said share image }

-- before the sequence step: "Receive mark 3 in an upload with a stored piece resends it under send mark 3, before any number is looked at, and changes nothing."; "on receive mark 3, to a resend …, the receive number is the request's send number"
pub data Before : Type 0 where
  resends : Reply → Before
  goes_on : Before

-- the values of the code's answer, whose piece stands in the share
abbrev pub told_resend : Option SdoResponseData → List ℕ → List ℕ → Before
told_resend (Some r) share image = resends (told_reply r share image)
told_resend None share image = goes_on

abbrev pub resent : Connection → List ℕ → SequenceLayerHeader → SdoTransferState → Reply
resent c share h t = record { header = record { receive = h.send; rcon = R.ConnectionValid; send = c.send; scon = S.ConnectionValidAckRequest }; command = stored_piece t share }

unfoldable pub before_in : SdoServerState → Connection → List ℕ → SequenceLayerHeader → Before
before_in Closed c share h = goes_on
before_in Opening c share h = goes_on
before_in Established c share h = goes_on
before_in (SegmentedDownload t) c share h = goes_on
before_in (SegmentedUpload t) c share h = pick (eqb (receive_mark h.rcon) 3 && t.stored) (resends (resent c share h t)) goes_on

unfoldable pub before_step : Connection → List ℕ → SequenceLayerHeader → Before
before_step c share h = before_in c.state c share h

-- the sequence step: the record after it with the answer's header so far, or 8
pub data Stepped : Type 0 where
  stepped : Connection → SequenceLayerHeader → Stepped
  misfit : Connection → Stepped

-- the values of the code's answer
abbrev pub step_of : Connection → Result SequenceLayerHeader Misfit → Stepped
step_of c (Ok r) = stepped c r
step_of c (Err e) = misfit c

abbrev pub told_step : Left (Result SequenceLayerHeader Misfit) → Stepped
told_step l = step_of l.connection l.said

abbrev pub answer_marked : Connection → SequenceLayerHeader
answer_marked c = record { receive = c.receive; rcon = R.ConnectionValid; send = c.send; scon = S.ConnectionValid }

-- "A Closed client's command is still served: under marks 0, or, with send mark 1, under marks 1, the state Opening, send number 0 and the request's number taken."
unfoldable pub closed_step : Connection → SequenceLayerHeader → Stepped
closed_step c h =
    pick (eqb (send_mark h.scon) 1)
    (stepped (moved c 0 h.send Opening) (record { receive = h.send; rcon = R.Initialization; send = 0; scon = S.Initialization }))
    (stepped c (record { receive = h.send; rcon = R.NoConnection; send = c.send; scon = S.NoConnection }))

-- "A good frame in Opening (any send number) … moves both numbers on"; 8: "Opening without send mark 2 and the right receive number", "Opening becomes Closed"
unfoldable pub opening_step : Connection → SequenceLayerHeader → Stepped
opening_step c h =
    let c' = moved c (next c.send) h.send Established in
    pick (eqb (send_mark h.scon) 2 && eqb h.receive c.send) (stepped c' (answer_marked c')) (misfit (with_state c Closed))

-- "A piece acknowledged (next number, receive number ours) … loses deadline and stored piece."
abbrev pub acknowledged : SdoTransferState → SdoTransferState
acknowledged t = record { transaction = t.transaction; total = t.total; offset = t.offset; index = t.index; sub = t.sub; deadline = None; retries = 0; stored = false }

unfoldable pub acknowledge : Bool → SdoServerState → SdoServerState
acknowledge ours Closed = Closed
acknowledge ours Opening = Opening
acknowledge ours Established = Established
acknowledge ours (SegmentedDownload t) = SegmentedDownload t
acknowledge ours (SegmentedUpload t) = pick ours (SegmentedUpload (acknowledged t)) (SegmentedUpload t)

-- "the next number moves both numbers on; a repeat moves neither"; 8: "later states: number neither last nor next"
unfoldable pub later_step : Connection → SequenceLayerHeader → Stepped
later_step c h =
    let c' = moved c (next c.send) h.send (acknowledge (eqb h.receive c.send) c.state) in
    pick (eqb h.send c.receive) (stepped c (answer_marked c)) (pick (eqb h.send (next c.receive)) (stepped c' (answer_marked c')) (misfit c))

unfoldable pub step_in : SdoServerState → Connection → SequenceLayerHeader → Stepped
step_in Closed c h = closed_step c h
step_in Opening c h = opening_step c h
step_in Established c h = later_step c h
step_in (SegmentedDownload t) c h = later_step c h
step_in (SegmentedUpload t) c h = later_step c h

unfoldable pub sequence_step : Connection → SequenceLayerHeader → Stepped
sequence_step c h = step_in c.state c h

-- a Nil command with no payload: "default header", with or without the response and aborted bits
abbrev pub nil : Bool → Bool → Command
nil response aborted = record { header = record { transaction = 0; response = response; aborted = aborted; segmentation = Expedited; id = Nil; size = 0 }; total = None; payload = [] }

module _ (c : Connection) (share image : List ℕ) (clock : ℕ) where
  -- at dispatch; "The other known ids, at dispatch, are answered as Abort is (added)."
  unfoldable pub dispatch : CommandId → Command → Acted
  dispatch Nil m = replies c share image m.header.transaction []
  dispatch ReadByIndex m = read_by_index c share image clock m.header.transaction m.payload
  dispatch WriteByIndex m = write_by_index c share image clock m.header.transaction m.header.segmentation (total_number m.total) m.payload
  dispatch MaxSegmentSize m = max_segment_size c share image m.header.transaction m.payload
  dispatch Abort m = aborts c share image m.header.transaction INVALID_COMMAND
  dispatch WriteAllByIndex m = aborts c share image m.header.transaction INVALID_COMMAND
  dispatch ReadAllByIndex m = aborts c share image m.header.transaction INVALID_COMMAND
  dispatch WriteByName m = aborts c share image m.header.transaction INVALID_COMMAND
  dispatch ReadByName m = aborts c share image m.header.transaction INVALID_COMMAND
  dispatch FileWrite m = aborts c share image m.header.transaction INVALID_COMMAND
  dispatch FileRead m = aborts c share image m.header.transaction INVALID_COMMAND
  dispatch WriteMultipleParamByIndex m = aborts c share image m.header.transaction INVALID_COMMAND
  dispatch ReadMultipleParamByIndex m = aborts c share image m.header.transaction INVALID_COMMAND

  -- "An upload advances … on a command of its transaction that is Nil or a response. Any other command of its transaction aborts 05040003, one of another transaction 08000000."
  unfoldable pub upload_command : SdoTransferState → Command → Acted
  upload_command t m =
      pick (eqb t.transaction m.header.transaction)
      (pick (eqb (id_byte m.header.id) 0 || m.header.response) (advance c share image clock t) (aborts c share image m.header.transaction INVALID_SEQUENCE))
      (aborts c share image m.header.transaction GENERAL_ERROR)

  unfoldable pub command_in : SdoServerState → Command → Acted
  command_in Closed m = dispatch m.header.id m
  command_in Opening m = dispatch m.header.id m
  command_in Established m = dispatch m.header.id m
  command_in (SegmentedDownload t) m = dispatch m.header.id m
  command_in (SegmentedUpload t) m = upload_command t m

  -- "A command with the aborted bit is answered, in every state, by an empty aborted Nil of transaction 0 without the response bit, closes, and resets no number."
  unfoldable pub command_layer : Command → Acted
  command_layer m =
      pick m.header.aborted (record { connection = with_state c Established; share = share; image = image; command = nil false true }) (command_in c.state m)

  -- an undecodable command "aborts 05040001 hex with the low four bits of byte 0 as transaction id"
  abbrev pub on_decoding : List ℕ → Answer Decoding → Acted
  on_decoding body (value (decoded m)) = command_layer m
  on_decoding body (value undecodable) = aborts c share image (undecodable_transaction body) INVALID_COMMAND
  on_decoding body (refused n) = aborts c share image (undecodable_transaction body) INVALID_COMMAND

-- "An abort closes. A Complete answer, or an Expedited one to a command without receive mark 3, closes unless the state is then Opening."
abbrev pub is_opening : SdoServerState → Bool
is_opening Closed = false
is_opening Opening = true
is_opening Established = false
is_opening (SegmentedDownload t) = false
is_opening (SegmentedUpload t) = false

abbrev pub ends : Segmentation → Bool
ends Expedited = true
ends Initiate = false
ends Segment = false
ends Complete = true

unfoldable pub settle : Acted → Acted
settle a =
    pick (not (is_opening a.connection.state) && (ends a.command.header.segmentation || a.command.header.aborted))
    (record { connection = with_state a.connection Closed; share = a.share; image = a.image; command = a.command })
    a

-- "An answer carries the send number after the sequence step … and the receive number after the call"; "aborted answers have send mark 0"
unfoldable pub answered : SequenceLayerHeader → Acted → Served
answered r a = record { connection = a.connection; share = a.share; image = a.image; said = value (record { header = record { receive = a.connection.receive; rcon = r.rcon; send = r.send; scon = pick a.command.header.aborted S.NoConnection r.scon }; command = a.command }) }

module _ (c : Connection) (share image : List ℕ) (clock : ℕ) (h r : SequenceLayerHeader) where
  -- "An upload advances on an empty frame with send mark 2"; "An empty valid frame that ends the handshake, or meets Established, closes."
  unfoldable pub empty_in : SdoServerState → Acted
  empty_in Closed = record { connection = c; share = share; image = image; command = nil true false }
  empty_in Opening = record { connection = c; share = share; image = image; command = nil true false }
  empty_in Established = record { connection = with_state c Closed; share = share; image = image; command = nil true false }
  empty_in (SegmentedDownload t) = record { connection = c; share = share; image = image; command = nil true false }
  empty_in (SegmentedUpload t) = advance c share image clock t

  -- 9: "empty command, receive mark not 3, not Opening after the sequence step, send mark not 2": "sequence step done"
  unfoldable pub empty_frame : Served
  empty_frame =
      pick (is_opening c.state || eqb (send_mark h.scon) 2) (answered r (empty_in c.state)) (record { connection = c; share = share; image = image; said = refused 9 })

  -- after the sequence step; "Otherwise the sequence step answers a Nil command (default header)"
  unfoldable pub after_step : List ℕ → Served
  after_step body =
      pick (eqb (receive_mark h.rcon) 3)
      (record { connection = c; share = share; image = image; said = value (record { header = r; command = nil false false }) })
      (pick (eqb (length body) 0) empty_frame (answered r (settle (on_decoding c share image clock body (decode_command flag_places body)))))

module _ (c : Connection) (share image : List ℕ) (clock : ℕ) (request : List ℕ) where
  unfoldable pub on_step : SequenceLayerHeader → Stepped → Served
  on_step h (stepped c' r) = after_step c' share image clock h r (command_part request)
  on_step h (misfit c') = record { connection = c'; share = share; image = image; said = refused 8 }

  unfoldable pub on_before : SequenceLayerHeader → Before → Served
  on_before h (resends r) = record { connection = c; share = share; image = image; said = value r }
  on_before h goes_on = on_step h (sequence_step c h)

  unfoldable pub on_header : Answer SequenceLayerHeader → Served
  on_header (refused n) = record { connection = c; share = share; image = image; said = refused n }
  on_header (value h) = on_before h (before_step c share h)

-- a whole request on one record
unfoldable pub serve : Connection → List ℕ → List ℕ → ℕ → List ℕ → Served
serve c share image clock request = on_header c share image clock request (decode_header request)
