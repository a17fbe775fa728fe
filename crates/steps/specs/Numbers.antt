-- The sheet's words for what a request asks and what an answer gives, of frames as numbers, of which each may be any.
use Rattle.std.specs.Prelude.{ℕ, ◌-◌, not, List, [], ◌++◌, eqb, ltb}
use Rattle.picks.specs.Pick.{pick}
use Rattle.show.specs.Text.{letters, entry, decimal_text}
use Rattle.reading.specs.declared.Piece.{Piece}
use Rattle.reading.specs.declared.Piece.TheVariants.{Other, Whole, First, Next, Last, Again, Abort}
use Rattle.reading.specs.declared.Reading.{Reading}
use Rattle.reading.specs.declared.numbers.Frame.{Frame}
use Rattle.reading.specs.Numbers.{payload_in}
use Rattle.wording.specs.Words.{abort_text}
use Rattle.steps.specs.Steps.{empty_frames, named_text, read_text, writes, own_abort_text, piece_text, whole_text, taken_text}

-- a frame without a command
unfoldable pub empty_text : Frame → List ℕ
empty_text f = pick (eqb f.rcon 3) (letters "asks for the last piece again (error response)") (entry f.scon empty_frames)

-- the bytes of a write that names an object: all of an Initiate's, or those behind the object's name
unfoldable pub amount_of : Frame → ℕ
amount_of f = pick (eqb f.segmentation 1) f.total (f.size - 4)

unfoldable pub written_text : Frame → List ℕ → List ℕ
written_text f payload = decimal_text (amount_of f) ++ letters " bytes to " ++ named_text payload

unfoldable pub write_text : Frame → List ℕ → List ℕ
write_text f payload = entry f.segmentation writes ++ pick (ltb f.segmentation 2) (written_text f payload) []

-- a command that the controller looks at, by its id
unfoldable pub looked_text : Frame → List ℕ → List ℕ
looked_text f payload =
    pick (eqb f.id 0) (letters "an empty command (Nil)")
    (pick (eqb f.id 1) (write_text f payload)
    (pick (eqb f.id 2) (read_text payload)
    (pick (eqb f.id 112) (letters "asks how long a piece may be") (letters "a command that this controller does not serve"))))

-- a frame with a command
unfoldable pub opening_text : Frame → List ℕ
opening_text f = pick (eqb f.scon 1) (letters "opens the connection (initialisation) and ") []

unfoldable pub acted_text : Frame → List ℕ → List ℕ
acted_text f payload = opening_text f ++ pick f.aborted (own_abort_text payload) (looked_text f payload)

unfoldable pub asked_text : Frame → List ℕ → List ℕ
asked_text f payload =
    pick (eqb f.rcon 3) (letters "asks for the last piece again (error response); the command is not looked at") (acted_text f payload)

-- what a request asks, by what the frame is
unfoldable pub request_text : Frame → List ℕ → List ℕ
request_text f bytes =
    pick (eqb f.kind 0) (letters "a frame too short to be one")
    (pick (eqb f.kind 1) (empty_text f)
    (pick (eqb f.kind 2) (asked_text f (payload_in f bytes)) (letters "a command that cannot be read")))

-- an answer that is no piece of an upload and no abort, to any request
unfoldable pub other_text : Frame → Frame → List ℕ
other_text q a =
    pick (not a.response) (letters "takes note, and has no piece to send again")
    (pick (eqb a.scon 1) (letters "accepts the opening")
    (pick (eqb q.kind 1) (letters "takes note; there is nothing to send") (taken_text q.id)))

-- an abort as an answer: without a code it confirms the client's own
unfoldable pub aborted_text : Frame → ℕ → List ℕ
aborted_text a code = pick (ltb a.size 4) (letters "confirms the abort") (letters "ABORT " ++ abort_text code)

-- what an answer gives, and how much of the object is sent then
abbrev pub answer_text : Frame → Frame → Piece → Reading → List ℕ
answer_text q a Other r = other_text q a
answer_text q a Whole r = whole_text r
answer_text q a (First total) r = piece_text (letters "the first piece of ") r a.size
answer_text q a Next r = piece_text (letters "the next piece of ") r a.size
answer_text q a Last r = piece_text (letters "the last piece of ") r a.size
answer_text q a Again r = piece_text (letters "once more the last piece sent, of ") r a.size
answer_text q a (Abort code) r = aborted_text a code
