-- The sheet's words for what a request asks and what an answer gives.
use Rattle.std.specs.Prelude.{ℕ, ◌+◌, ◌-◌, not, List, [], ◌∷◌, ◌++◌, eqb, ltb, leb, length, get_or, take, drop}
use Prim.Native.String.{String}
use Rattle.picks.specs.Pick.{pick}
use Rattle.octets.specs.Octets.{le}
use Rattle.show.specs.Text.{letters, entry, decimal_text}
use Rattle.reading.specs.declared.Piece.{Piece}
use Rattle.reading.specs.declared.Piece.TheVariants.{Other, Whole, First, Next, Last, Again, Abort}
use Rattle.reading.specs.declared.Reading.{Reading}
use Rattle.protocol.specs.declared.SequenceLayerHeader.{SequenceLayerHeader}
use Rattle.protocol.specs.declared.SdoCommand.{SdoCommand}
use Rattle.protocol.specs.SequenceHeader.{receive_mark, send_mark}
use Rattle.protocol.specs.Command.{segmentation_number, id_byte, total_number}
use Rattle.reading.specs.declared.frame.Frame.{Frame}
use Rattle.reading.specs.declared.frame.Frame.TheVariants.{Short, Empty, Unreadable, Command}
use Rattle.reading.specs.Frame.{payload_in, size_in}
use Rattle.wording.specs.Words.{code_text, object_text, abort_text}

-- a frame without a command
abbrev pub empty_frames : List String
empty_frames =
    "an empty frame outside any connection" ∷ "opens the connection (initialisation)" ∷ "acknowledges" ∷ "asks for an acknowledgement" ∷ []

unfoldable pub empty_text : SequenceLayerHeader → List ℕ
empty_text h =
    pick (eqb (receive_mark h.rcon) 3) (letters "asks for the last piece again (error response)") (entry (send_mark h.scon) empty_frames)

-- the object that a payload names
unfoldable pub named_text : List ℕ → List ℕ
named_text payload =
    pick (ltb (length payload) 4) (letters "an object, without saying which")
    (object_text (le (take 2 (drop 0 payload))) (get_or payload 2 0))

unfoldable pub read_text : List ℕ → List ℕ
read_text payload = letters "reads " ++ named_text payload

-- the bytes of a write that names an object: all of an Initiate's, or those behind the object's name
unfoldable pub amount_of : SdoCommand → ℕ
amount_of c = pick (eqb (segmentation_number c.header.segmentation) 1) (total_number c.total) (c.header.size - 4)

unfoldable pub written_text : SdoCommand → List ℕ → List ℕ
written_text c payload = decimal_text (amount_of c) ++ letters " bytes to " ++ named_text payload

abbrev pub writes : List String
writes = "writes " ∷ "begins to write " ∷ "writes the next bytes" ∷ "writes the last bytes" ∷ []

unfoldable pub write_text : SdoCommand → List ℕ → List ℕ
write_text c payload =
    entry (segmentation_number c.header.segmentation) writes
    ++ pick (ltb (segmentation_number c.header.segmentation) 2) (written_text c payload) []

-- a command that the controller looks at, by its id
unfoldable pub looked_text : SdoCommand → List ℕ → List ℕ
looked_text c payload =
    pick (eqb (id_byte c.header.id) 0) (letters "an empty command (Nil)")
    (pick (eqb (id_byte c.header.id) 1) (write_text c payload)
    (pick (eqb (id_byte c.header.id) 2) (read_text payload)
    (pick (eqb (id_byte c.header.id) 112) (letters "asks how long a piece may be") (letters "a command that this controller does not serve"))))

-- the client's own abort
unfoldable pub coded : ℕ → List ℕ
coded code = letters " with code " ++ code_text code

unfoldable pub own_abort_text : List ℕ → List ℕ
own_abort_text payload = letters "aborts" ++ pick (ltb 3 (length payload)) (coded (le (take 4 (drop 0 payload)))) []

-- a frame with a command
unfoldable pub opening_text : SequenceLayerHeader → List ℕ
opening_text h = pick (eqb (send_mark h.scon) 1) (letters "opens the connection (initialisation) and ") []

unfoldable pub acted_text : SequenceLayerHeader → SdoCommand → List ℕ → List ℕ
acted_text h c payload = opening_text h ++ pick c.header.aborted (own_abort_text payload) (looked_text c payload)

unfoldable pub asked_text : SequenceLayerHeader → SdoCommand → List ℕ → List ℕ
asked_text h c payload =
    pick (eqb (receive_mark h.rcon) 3) (letters "asks for the last piece again (error response); the command is not looked at") (acted_text h c payload)

-- what a request asks, by what the frame is
abbrev pub request_text : Frame → List ℕ → List ℕ
request_text Short bytes = letters "a frame too short to be one"
request_text (Empty h) bytes = empty_text h
request_text (Unreadable h) bytes = letters "a command that cannot be read"
request_text (Command h c) bytes = asked_text h c (payload_in (Command h c) bytes)

-- which bytes of an object the last n of those sent are
unfoldable pub range_text : Reading → ℕ → List ℕ
range_text r n =
    pick (leb n r.sent)
    (letters ": bytes " ++ decimal_text (r.sent - n + 1) ++ letters " to " ++ decimal_text r.sent ++ letters " of " ++ decimal_text r.total) []

-- a piece of n bytes, once it is sent; without a size its reading began where the recording does not show it
unfoldable pub piece_text : List ℕ → Reading → ℕ → List ℕ
piece_text what r n =
    what
    ++ pick (eqb r.total 0) (letters "a reading whose beginning the recording does not show")
    (object_text r.index r.sub ++ range_text r n)

-- a value that is sent whole
unfoldable pub whole_text : Reading → List ℕ
whole_text r =
    letters "the whole value of " ++ object_text r.index r.sub ++ letters ": " ++ decimal_text r.sent ++ letters " bytes"

-- an answer that is no piece of an upload and no abort, to a command
unfoldable pub taken_text : ℕ → List ℕ
taken_text id =
    pick (eqb id 1) (letters "the write is accepted")
    (pick (eqb id 112) (letters "the client's size, and 1452 bytes") (letters "takes note"))

-- by what it answers
abbrev pub taken_by : Frame → List ℕ
taken_by Short = letters "takes note"
taken_by (Empty h) = letters "takes note; there is nothing to send"
taken_by (Unreadable h) = letters "takes note"
taken_by (Command h c) = taken_text (id_byte c.header.id)

unfoldable pub replied_text : Frame → SequenceLayerHeader → SdoCommand → List ℕ
replied_text q h c =
    pick (not c.header.response) (letters "takes note, and has no piece to send again")
    (pick (eqb (send_mark h.scon) 1) (letters "accepts the opening") (taken_by q))

-- and to any request
abbrev pub other_text : Frame → Frame → List ℕ
other_text q Short = letters "takes note, and has no piece to send again"
other_text q (Empty h) = letters "takes note, and has no piece to send again"
other_text q (Unreadable h) = letters "takes note, and has no piece to send again"
other_text q (Command h c) = replied_text q h c

-- an abort as an answer: without a code it confirms the client's own
unfoldable pub aborted_text : Frame → ℕ → List ℕ
aborted_text a code = pick (ltb (size_in a) 4) (letters "confirms the abort") (letters "ABORT " ++ abort_text code)

-- what an answer gives, and how much of the object is sent then
abbrev pub answer_text : Frame → Frame → Piece → Reading → List ℕ
answer_text q a Other r = other_text q a
answer_text q a Whole r = whole_text r
answer_text q a (First total) r = piece_text (letters "the first piece of ") r (size_in a)
answer_text q a Next r = piece_text (letters "the next piece of ") r (size_in a)
answer_text q a Last r = piece_text (letters "the last piece of ") r (size_in a)
answer_text q a Again r = piece_text (letters "once more the last piece sent, of ") r (size_in a)
answer_text q a (Abort code) r = aborted_text a code
