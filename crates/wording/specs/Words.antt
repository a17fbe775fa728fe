-- The sheet's words for clients, clocks, frames, refusals and aborts.
use Rattle.std.specs.Prelude.{ℕ, ◌/◌, ◌%◌, ◌^◌, List, [], ◌∷◌, ◌++◌, map, eqb}
use Prim.Native.String.{String}
use Rattle.picks.specs.Pick.{pick}
use Rattle.show.specs.Text.{letters, entry, digits, hex_text, decimal_text, start_text}
use Rattle.protocol.specs.declared.SdoClientInfo.{SdoClientInfo}
use Rattle.protocol.specs.declared.SdoClientInfo.TheVariants.{Asnd, Udp}
use Rattle.protocol.specs.Constants.{
  TIMED_OUT,
  INVALID_COMMAND,
  INVALID_SEQUENCE,
  OUT_OF_MEMORY,
  READ_ONLY,
  NO_OBJECT,
  LENGTH_MISFIT,
  LENGTH_TOO_LOW,
  NO_SUB_INDEX,
  GENERAL_ERROR,
}
use Rattle.protocol.specs.declared.SequenceLayerHeader.{SequenceLayerHeader}
use Rattle.protocol.specs.declared.CommandLayerHeader.{CommandLayerHeader}
use Rattle.protocol.specs.declared.SdoCommand.{SdoCommand}
use Rattle.protocol.specs.SequenceHeader.{receive_mark, send_mark}
use Rattle.protocol.specs.Command.{segmentation_number, id_byte, total_number}
use Rattle.reading.specs.declared.frame.Frame.{Frame}
use Rattle.reading.specs.declared.frame.Frame.TheVariants.{Short, Empty, Unreadable, Command}

-- a clock of microseconds, in seconds
unfoldable pub clock_text : ℕ → List ℕ
clock_text clock = decimal_text (clock / 1000000) ++ letters "." ++ digits 10 6 clock ++ letters " s"

-- the four bytes of an address
unfoldable pub dotted : ℕ → List ℕ
dotted n = letters "." ++ decimal_text n

unfoldable pub address_text : ℕ → List ℕ
address_text ip = decimal_text (ip / 256 ^ 3) ++ dotted (ip / 256 ^ 2 % 256) ++ dotted (ip / 256 % 256) ++ dotted (ip % 256)

-- the six bytes of a MAC address
unfoldable pub dashed : ℕ → List ℕ
dashed n = letters "-" ++ hex_text n

unfoldable pub mac_text : ℕ → List ℕ
mac_text mac =
    hex_text (mac / 256 ^ 5) ++ dashed (mac / 256 ^ 4) ++ dashed (mac / 256 ^ 3) ++ dashed (mac / 256 ^ 2) ++ dashed (mac / 256) ++ dashed mac

unfoldable pub node_text : ℕ → ℕ → List ℕ
node_text node mac = letters "node " ++ decimal_text node ++ letters " (MAC " ++ mac_text mac ++ letters ")"

unfoldable pub port_text : ℕ → ℕ → List ℕ
port_text ip port = address_text ip ++ letters " port " ++ decimal_text port

abbrev pub client_text : SdoClientInfo → List ℕ
client_text (Asnd node mac) = node_text node mac
client_text (Udp ip port) = port_text ip port

-- a number in eight digits in hex
abbrev pub code_text : ℕ → List ℕ
code_text code = digits 16 8 code

unfoldable pub object_text : ℕ → ℕ → List ℕ
object_text index sub = letters "object " ++ digits 16 4 index ++ letters " hex, sub-index " ++ decimal_text sub

-- the text that a list has for a number, or another
unfoldable pub text_of : ℕ → List (ℕ × String) → String → List ℕ
text_of n [] other = letters other
text_of n ((m, text) ∷ rest) other = pick (eqb n m) (letters text) (text_of n rest other)

-- the texts of such a list, the other first
abbrev pub texts_of : List (ℕ × String) → String → List String
texts_of list other = other ∷ map (λ e. e.1) list

-- an abort's code and its meaning
abbrev pub meanings : List (ℕ × String)
meanings =
    (TIMED_OUT, "the transfer took too long: a piece was not acknowledged in time")
    ∷ (INVALID_COMMAND, "the command is unknown or cannot be read")
    ∷ (INVALID_SEQUENCE, "this command does not belong here: no such transfer is running, or it must be acknowledged first")
    ∷ (OUT_OF_MEMORY, "there is no room for so many bytes")
    ∷ (READ_ONLY, "the object may only be read")
    ∷ (NO_OBJECT, "there is no such object")
    ∷ (LENGTH_MISFIT, "the object does not have this length")
    ∷ (LENGTH_TOO_LOW, "too few bytes for the object")
    ∷ (NO_SUB_INDEX, "the object has no such sub-index")
    ∷ (GENERAL_ERROR, "another transfer of this client is running")
    ∷ []

abbrev pub unknown_code : String
unknown_code = "a code that the controller never sends"

unfoldable pub meaning : ℕ → List ℕ
meaning code = text_of code meanings unknown_code

unfoldable pub abort_text : ℕ → List ℕ
abort_text code = code_text code ++ letters ": " ++ meaning code

-- a refusal's number and its meaning
abbrev pub refusals : List String
refusals =
    ""
    ∷ "the bench lent the controller a buffer of a wrong length"
    ∷ "the dictionary image is not sound"
    ∷ "the table of connections is not sound"
    ∷ "the clock is above its limit"
    ∷ "the frame is shorter than its header of four bytes"
    ∷ "the frame is longer than 1500 bytes"
    ∷ "eight clients are connected already"
    ∷ "the frame's number is neither the next one nor the last one, or the frame does not confirm the opening"
    ∷ "an empty frame that neither acknowledges nor asks again"
    ∷ []

unfoldable pub refusal_text : ℕ → List ℕ
refusal_text number = decimal_text number ++ letters ": " ++ entry number refusals

-- the names of the commands
abbrev pub names : List (ℕ × String)
names =
    (0x01, "WriteByIndex")
    ∷ (0x02, "ReadByIndex")
    ∷ (0x03, "WriteAllByIndex")
    ∷ (0x04, "ReadAllByIndex")
    ∷ (0x05, "WriteByName")
    ∷ (0x06, "ReadByName")
    ∷ (0x20, "FileWrite")
    ∷ (0x21, "FileRead")
    ∷ (0x31, "WriteMultipleParamByIndex")
    ∷ (0x32, "ReadMultipleParamByIndex")
    ∷ (0x40, "Abort")
    ∷ (0x70, "MaxSegmentSize")
    ∷ []

unfoldable pub id_text : ℕ → List ℕ
id_text id = text_of id names "Nil"

-- the sequence header's numbers and marks
abbrev pub receive_marks : List String
receive_marks = " (no connection)" ∷ " (initialisation)" ∷ " (valid)" ∷ " (error response)" ∷ []

abbrev pub send_marks : List String
send_marks = " (no connection)" ∷ " (initialisation)" ∷ " (valid)" ∷ " (valid, please acknowledge)" ∷ []

unfoldable pub header_text : SequenceLayerHeader → List ℕ
header_text h =
    letters "\n    header:  receive "
    ++ decimal_text h.receive
    ++ entry (receive_mark h.rcon) receive_marks
    ++ letters ", send "
    ++ decimal_text h.send
    ++ entry (send_mark h.scon) send_marks

-- the command's kind: its name, its segmentation, and a word for each flag that is set
abbrev pub segmentations : List String
segmentations = ", Expedited" ∷ ", Initiate" ∷ ", Segment" ∷ ", Complete" ∷ []

unfoldable pub kind_text : CommandLayerHeader → List ℕ
kind_text h =
    letters "\n    command: "
    ++ id_text (id_byte h.id)
    ++ entry (segmentation_number h.segmentation) segmentations
    ++ pick h.response (letters ", response") []
    ++ pick h.aborted (letters ", aborted") []

-- the size that an Initiate carries
unfoldable pub total_text : SdoCommand → List ℕ
total_text c =
    pick (eqb (segmentation_number c.header.segmentation) 1) (letters ", " ++ decimal_text (total_number c.total) ++ letters " bytes in all") []

unfoldable pub command_text : SdoCommand → List ℕ
command_text c =
    kind_text c.header
    ++ letters ", transaction "
    ++ decimal_text c.header.transaction
    ++ total_text c
    ++ letters ", "
    ++ decimal_text c.header.size
    ++ letters " bytes of data"

-- what a frame has: a header unless it is too short, a command or none
abbrev pub decoded_text : Frame → List ℕ
decoded_text Short = []
decoded_text (Empty h) = header_text h
decoded_text (Unreadable h) = header_text h
decoded_text (Command h c) = header_text h ++ command_text c

-- a frame decoded, and its first bytes
unfoldable pub frame_text : Frame → List ℕ → List ℕ
frame_text f bytes = decoded_text f ++ letters "\n    bytes:  " ++ start_text bytes 24 ++ letters "\n"
