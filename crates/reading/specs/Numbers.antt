-- A frame as numbers, of which each may be any: what the codecs' definitions decode of its bytes, where its payload stands, and what it is to a reading.
use Rattle.std.specs.Prelude.{ℕ, ◌+◌, Bool, false, ◌&&◌, not, Option, List, length, take, drop, eqb, ltb}
use Rattle.picks.specs.Pick.{pick}
use Rattle.octets.specs.Octets.{le}
use Rattle.protocol.specs.declared.SequenceLayerHeader.{SequenceLayerHeader}
use Rattle.protocol.specs.declared.CommandLayerHeader.{CommandLayerHeader}
use Rattle.protocol.specs.Coding.{Answer, refused, value}
use Rattle.protocol.specs.SequenceHeader.{receive_mark, send_mark, decode_header, command_part}
use Rattle.protocol.specs.Command.{Decoding, decoded, undecodable, flag_places, segmentation_number, id_byte, total_number, header_length, decode_command}
use Rattle.reading.specs.declared.frame.Frame as Decoded
use Rattle.reading.specs.declared.frame.Frame.TheVariants.{Short, Empty, Unreadable, Command}
use Rattle.reading.specs.declared.numbers.Frame.{Frame}
use Rattle.reading.specs.declared.Piece.{Piece}
use Rattle.reading.specs.declared.Piece.TheVariants.{Other, Whole, First, Next, Last, Again, Abort}

abbrev pub bare_of : ℕ → Frame
bare_of kind =
    record { kind = kind; receive = 0; rcon = 0; send = 0; scon = 0; transaction = 0; response = false; aborted = false; segmentation = 0; id = 0; total = 0; start = 0; size = 0 }

-- a header, with nothing behind it: kind 1
abbrev pub header_frame : SequenceLayerHeader → Frame
header_frame h =
    record { kind = 1; receive = h.receive; rcon = receive_mark h.rcon; send = h.send; scon = send_mark h.scon; transaction = 0; response = false; aborted = false; segmentation = 0; id = 0; total = 0; start = 0; size = 0 }

-- a command behind the header: kind 2
abbrev pub command_frame : Frame → CommandLayerHeader → Option ℕ → Frame
command_frame f h d =
    record { kind = 2; receive = f.receive; rcon = f.rcon; send = f.send; scon = f.scon; transaction = h.transaction; response = h.response; aborted = h.aborted; segmentation = segmentation_number h.segmentation; id = id_byte h.id; total = total_number d; start = 4 + header_length h.segmentation; size = h.size }

abbrev pub kind_of : Frame → ℕ → Frame
kind_of f kind =
    record { kind = kind; receive = f.receive; rcon = f.rcon; send = f.send; scon = f.scon; transaction = f.transaction; response = f.response; aborted = f.aborted; segmentation = f.segmentation; id = f.id; total = f.total; start = f.start; size = f.size }

-- bytes behind the header that are no command: kind 3
abbrev pub decoding_frame : Frame → Answer Decoding → Frame
decoding_frame f (value (decoded m)) = command_frame f m.header m.total
decoding_frame f (value undecodable) = kind_of f 3
decoding_frame f (refused n) = kind_of f 3

unfoldable pub rest_frame : Frame → List ℕ → Frame
rest_frame f rest = pick (eqb (length rest) 0) f (decoding_frame f (decode_command flag_places rest))

-- too short for a header: kind 0
abbrev pub answer_frame : Answer SequenceLayerHeader → List ℕ → Frame
answer_frame (value h) bytes = rest_frame (header_frame h) (command_part bytes)
answer_frame (refused n) bytes = bare_of 0

unfoldable pub frame_of : List ℕ → Frame
frame_of bytes = answer_frame (decode_header bytes) bytes

-- the numbers of a frame that is decoded
abbrev pub numbers_of : Decoded.Frame → Frame
numbers_of Short = bare_of 0
numbers_of (Empty h) = header_frame h
numbers_of (Unreadable h) = kind_of (header_frame h) 3
numbers_of (Command h c) = command_frame (header_frame h) c.header c.total

-- a frame's payload, as a part of its bytes
abbrev pub payload_in : Frame → List ℕ → List ℕ
payload_in f bytes = take f.size (drop f.start bytes)

-- a request that asks for an object: a command ReadByIndex that names one, and not behind an error response
abbrev pub is_read : Frame → Bool
is_read f = eqb f.kind 2 && eqb f.id 2 && ltb 3 f.size && not f.aborted && not (eqb f.rcon 3)

-- a piece under send mark 3 was sent before
unfoldable pub upload_piece : Frame → Piece
upload_piece a =
    pick (eqb a.scon 3) Again
    (pick (eqb a.segmentation 1) (First a.total)
    (pick (eqb a.segmentation 2) Next
    (pick (eqb a.segmentation 3) Last Other)))

unfoldable pub short_piece : Frame → Frame → Piece
short_piece q a = pick (is_read q && eqb a.id 0 && eqb a.segmentation 0 && a.response) Whole Other

unfoldable pub piece_of : Frame → Frame → List ℕ → Piece
piece_of q a bytes =
    pick (eqb a.kind 2)
    (pick a.aborted (Abort (le (take 4 (drop 0 (payload_in a bytes)))))
    (pick (eqb a.id 2) (upload_piece a) (short_piece q a)))
    Other
