-- The sheet's words for a frame as numbers, of which each may be any: a mark or a segmentation above 3 has no word, and an id that is none is Nil.
use Rattle.std.specs.Prelude.{ℕ, List, [], ◌++◌, eqb}
use Rattle.picks.specs.Pick.{pick}
use Rattle.show.specs.Text.{letters, entry, decimal_text, start_text}
use Rattle.reading.specs.declared.numbers.Frame.{Frame}
use Rattle.wording.specs.Words.{id_text, receive_marks, send_marks, segmentations}

-- the sequence header's numbers and marks
unfoldable pub header_text : Frame → List ℕ
header_text f =
    letters "\n    header:  receive "
    ++ decimal_text f.receive
    ++ entry f.rcon receive_marks
    ++ letters ", send "
    ++ decimal_text f.send
    ++ entry f.scon send_marks

-- the command's kind: its name, its segmentation, and a word for each flag that is set
unfoldable pub kind_text : Frame → List ℕ
kind_text f =
    letters "\n    command: "
    ++ id_text f.id
    ++ entry f.segmentation segmentations
    ++ pick f.response (letters ", response") []
    ++ pick f.aborted (letters ", aborted") []

-- the size that an Initiate carries
unfoldable pub total_text : Frame → List ℕ
total_text f = pick (eqb f.segmentation 1) (letters ", " ++ decimal_text f.total ++ letters " bytes in all") []

unfoldable pub command_text : Frame → List ℕ
command_text f =
    kind_text f
    ++ letters ", transaction "
    ++ decimal_text f.transaction
    ++ total_text f
    ++ letters ", "
    ++ decimal_text f.size
    ++ letters " bytes of data"

-- what a frame has: a header unless it is too short, a command or none
unfoldable pub decoded_text : Frame → List ℕ
decoded_text f = pick (eqb f.kind 0) [] (header_text f ++ pick (eqb f.kind 2) (command_text f) [])

-- a frame decoded, and its first bytes
unfoldable pub frame_text : Frame → List ℕ → List ℕ
frame_text f bytes = decoded_text f ++ letters "\n    bytes:  " ++ start_text bytes 24 ++ letters "\n"
