-- Frames as numbers and the frames that were decoded have the same words.
use Rattle.std.proofs.Common.{ℕ, ◌≡◌, ◌∙◌, refl, ap}
use mathlib.Core.List.{List}
use mathlib.Core.Bool.{not}
use lib.Dec.{eqb}
use Rattle.picks.specs.Pick.{pick}
use Rattle.show.specs.Text.{letters}
use Rattle.protocol.specs.declared.SequenceLayerHeader.{SequenceLayerHeader}
use Rattle.protocol.specs.declared.SdoCommand.{SdoCommand}
use Rattle.protocol.specs.SequenceHeader.{send_mark}
use Rattle.reading.specs.declared.frame.Frame.{Frame}
use Rattle.reading.specs.declared.frame.Frame.TheVariants.{Short, Empty, Unreadable, Command}
use Rattle.reading.specs.declared.Reading.{Reading}
use Rattle.reading.specs.declared.Piece.{Piece}
use Rattle.reading.specs.declared.Piece.TheVariants.{Other, Whole, First, Next, Last, Again, Abort}
use Rattle.reading.specs.Frame.{payload_in, size_in}
use Rattle.reading.specs.Numbers.{numbers_of}
use Rattle.reading.proofs.Same.{payload_numbers}
use Rattle.steps.specs.Steps.{empty_text, amount_of, written_text, write_text, looked_text, opening_text, acted_text, asked_text, request_text, piece_text, taken_text, taken_by, replied_text, other_text, aborted_text, answer_text}
use Rattle.steps.specs.Numbers as N

asked_numbers : (h : SequenceLayerHeader) (c : SdoCommand) (payload : List ℕ) → N.asked_text (numbers_of (Command h c)) payload ≡ asked_text h c payload
unfolding amount_of written_text write_text looked_text opening_text acted_text asked_text N.amount_of N.written_text N.write_text N.looked_text N.opening_text N.acted_text N.asked_text
asked_numbers h c payload = refl

-- the words for a request of its numbers are the frame's
pub request_numbers : (f : Frame) (bytes : List ℕ) → N.request_text (numbers_of f) bytes ≡ request_text f bytes
unfolding pick empty_text N.empty_text N.request_text
request_numbers Short bytes = refl
request_numbers (Empty h) bytes = refl
request_numbers (Unreadable h) bytes = refl
request_numbers (Command h c) bytes =
    ap (N.asked_text (numbers_of (Command h c))) (payload_numbers (Command h c) bytes) ∙ asked_numbers h c (payload_in (Command h c) bytes)

taken_numbers : (q : Frame) → pick (eqb (numbers_of q).kind 1) (letters "takes note; there is nothing to send") (taken_text (numbers_of q).id) ≡ taken_by q
unfolding pick taken_text
taken_numbers Short = refl
taken_numbers (Empty h) = refl
taken_numbers (Unreadable h) = refl
taken_numbers (Command h c) = refl

other_numbers : (q a : Frame) → N.other_text (numbers_of q) (numbers_of a) ≡ other_text q a
unfolding pick N.other_text replied_text
other_numbers q Short = refl
other_numbers q (Empty h) = refl
other_numbers q (Unreadable h) = refl
other_numbers q (Command h c) =
    ap (λ (t : List ℕ). pick (not c.header.response) (letters "takes note, and has no piece to send again") (pick (eqb (send_mark h.scon) 1) (letters "accepts the opening") t)) (taken_numbers q)

size_numbers : (f : Frame) → (numbers_of f).size ≡ size_in f
size_numbers Short = refl
size_numbers (Empty h) = refl
size_numbers (Unreadable h) = refl
size_numbers (Command h c) = refl

aborted_numbers : (a : Frame) (code : ℕ) → N.aborted_text (numbers_of a) code ≡ aborted_text a code
unfolding aborted_text N.aborted_text
aborted_numbers a code = rw (size_numbers a) refl

-- and for an answer
pub answer_numbers : (q a : Frame) (p : Piece) (r : Reading) → N.answer_text (numbers_of q) (numbers_of a) p r ≡ answer_text q a p r
answer_numbers q a Other r = other_numbers q a
answer_numbers q a Whole r = refl
answer_numbers q a (First total) r = ap (piece_text (letters "the first piece of ") r) (size_numbers a)
answer_numbers q a Next r = ap (piece_text (letters "the next piece of ") r) (size_numbers a)
answer_numbers q a Last r = ap (piece_text (letters "the last piece of ") r) (size_numbers a)
answer_numbers q a Again r = ap (piece_text (letters "once more the last piece sent, of ") r) (size_numbers a)
answer_numbers q a (Abort code) r = aborted_numbers a code
