-- A frame: what the codecs' definitions decode of its bytes, and its payload.
use Rattle.std.specs.Prelude.{ℕ, List, [], length, eqb}
use Rattle.picks.specs.Pick.{pick}
use Rattle.protocol.specs.declared.SequenceLayerHeader.{SequenceLayerHeader}
use Rattle.protocol.specs.Coding.{Answer, refused, value}
use Rattle.protocol.specs.SequenceHeader.{decode_header, command_part}
use Rattle.protocol.specs.Command.{Decoding, decoded, undecodable, flag_places, payload_of, decode_command}
use Rattle.reading.specs.declared.frame.Frame.{Frame}
use Rattle.reading.specs.declared.frame.Frame.TheVariants.{Short, Empty, Unreadable, Command}

-- bytes behind the header: a command, or none
abbrev pub decoding_frame : SequenceLayerHeader → Answer Decoding → Frame
decoding_frame h (value (decoded m)) = Command h (record { header = m.header; total = m.total })
decoding_frame h (value undecodable) = Unreadable h
decoding_frame h (refused n) = Unreadable h

unfoldable pub rest_frame : SequenceLayerHeader → List ℕ → Frame
rest_frame h rest = pick (eqb (length rest) 0) (Empty h) (decoding_frame h (decode_command flag_places rest))

abbrev pub answer_frame : Answer SequenceLayerHeader → List ℕ → Frame
answer_frame (value h) bytes = rest_frame h (command_part bytes)
answer_frame (refused n) bytes = Short

unfoldable pub frame_of : List ℕ → Frame
frame_of bytes = answer_frame (decode_header bytes) bytes

-- the payload stands behind the sequence header and the command's
abbrev pub payload_in : Frame → List ℕ → List ℕ
payload_in Short bytes = []
payload_in (Empty h) bytes = []
payload_in (Unreadable h) bytes = []
payload_in (Command h c) bytes = payload_of c.header (command_part bytes)

abbrev pub size_in : Frame → ℕ
size_in Short = 0
size_in (Empty h) = 0
size_in (Unreadable h) = 0
size_in (Command h c) = c.header.size
