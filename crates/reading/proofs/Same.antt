-- A frame as numbers is the frame that was decoded: the bytes' numbers are its numbers, and of these each function says what it says of the frame.
use mathlib.Core.Path.{◌≡◌, refl, sym, ap, ◌∙◌}
use mathlib.Core.Bool.{Bool, ◌&&◌}
use lib.Seq.{drop-drop}
use Rattle.std.specs.Prelude.{ℕ, List, length, take, eqb}
use Rattle.picks.specs.Pick.{pick}
use Rattle.picks.proofs.Picks.{pick_ap}
use Rattle.protocol.specs.Coding.{Answer, refused, value}
use Rattle.protocol.specs.declared.SequenceLayerHeader.{SequenceLayerHeader}
use Rattle.protocol.specs.declared.SdoCommand.{SdoCommand}
use Rattle.protocol.specs.declared.Segmentation.{Segmentation}
use Rattle.protocol.specs.declared.Segmentation.TheVariants.{Expedited, Initiate, Segment, Complete}
use Rattle.protocol.specs.Command.{Decoding, decoded, undecodable, flag_places, segmentation_number, id_byte, total_number, header_length, decode_command}
use Rattle.protocol.specs.SequenceHeader.{send_mark, decode_header, command_part}
use Rattle.reading.specs.declared.frame.Frame.{Frame}
use Rattle.reading.specs.declared.frame.Frame.TheVariants as D
use Rattle.reading.specs.declared.Piece.TheVariants.{Other, Whole, First, Next, Last, Again}
use Rattle.reading.specs.Frame.{decoding_frame, rest_frame, answer_frame, frame_of, payload_in}
use Rattle.reading.specs.Reading as R
use Rattle.reading.specs.Numbers as N

decoding_numbers : (h : SequenceLayerHeader) (x : Answer Decoding) → N.decoding_frame (N.header_frame h) x ≡ N.numbers_of (decoding_frame h x)
decoding_numbers h (value (decoded m)) = refl
decoding_numbers h (value undecodable) = refl
decoding_numbers h (refused n) = refl

rest_numbers : (h : SequenceLayerHeader) (rest : List ℕ) → N.rest_frame (N.header_frame h) rest ≡ N.numbers_of (rest_frame h rest)
unfolding rest_frame N.rest_frame
rest_numbers h rest =
    let x = decode_command flag_places rest in
    ap (pick (eqb (length rest) 0) (N.header_frame h)) (decoding_numbers h x)
    ∙ sym (pick_ap N.numbers_of (eqb (length rest) 0) (D.Empty h) (decoding_frame h x))

answer_numbers : (x : Answer SequenceLayerHeader) (bytes : List ℕ) → N.answer_frame x bytes ≡ N.numbers_of (answer_frame x bytes)
answer_numbers (value h) bytes = rest_numbers h (command_part bytes)
answer_numbers (refused n) bytes = refl

-- the numbers of the bytes are those of the frame that they decode to
pub frame_numbers : (bytes : List ℕ) → N.frame_of bytes ≡ N.numbers_of (frame_of bytes)
unfolding frame_of N.frame_of
frame_numbers bytes = answer_numbers (decode_header bytes) bytes

-- the payload of its numbers is the frame's
pub payload_numbers : (f : Frame) (bytes : List ℕ) → N.payload_in (N.numbers_of f) bytes ≡ payload_in f bytes
payload_numbers D.Short bytes = refl
payload_numbers (D.Empty h) bytes = refl
payload_numbers (D.Unreadable h) bytes = refl
payload_numbers (D.Command h c) bytes = sym (ap (take c.header.size) (drop-drop (header_length c.header.segmentation) 4 bytes))

-- its numbers are a read where the frame is one
pub is_read_numbers : (f : Frame) → N.is_read (N.numbers_of f) ≡ R.is_read f
is_read_numbers D.Short = refl
is_read_numbers (D.Empty h) = refl
is_read_numbers (D.Unreadable h) = refl
is_read_numbers (D.Command h c) = refl

segment_numbers : (s : Segmentation) (total : ℕ) → pick (eqb (segmentation_number s) 1) (First total) (pick (eqb (segmentation_number s) 2) Next (pick (eqb (segmentation_number s) 3) Last Other)) ≡ R.segment_piece s total
unfolding pick
segment_numbers Expedited total = refl
segment_numbers Initiate total = refl
segment_numbers Segment total = refl
segment_numbers Complete total = refl

upload_numbers : (h : SequenceLayerHeader) (c : SdoCommand) → N.upload_piece (N.numbers_of (D.Command h c)) ≡ R.upload_piece h c
unfolding R.upload_piece N.upload_piece
upload_numbers h c = ap (pick (eqb (send_mark h.scon) 3) Again) (segment_numbers c.header.segmentation (total_number c.total))

short_numbers : (q : Frame) (h : SequenceLayerHeader) (c : SdoCommand) → N.short_piece (N.numbers_of q) (N.numbers_of (D.Command h c)) ≡ R.short_piece q c.header
unfolding R.short_piece N.short_piece
short_numbers q h c =
    ap (λ (b : Bool). pick (b && eqb (id_byte c.header.id) 0 && eqb (segmentation_number c.header.segmentation) 0 && c.header.response) Whole Other) (is_read_numbers q)

command_numbers : (q : Frame) (h : SequenceLayerHeader) (c : SdoCommand) (bytes : List ℕ) → N.piece_of (N.numbers_of q) (N.numbers_of (D.Command h c)) bytes ≡ R.command_piece q h c (payload_in (D.Command h c) bytes)
unfolding R.command_piece N.piece_of pick
command_numbers q h c bytes = rw (payload_numbers (D.Command h c) bytes, upload_numbers h c, short_numbers q h c) refl

-- and the piece is the frame's
pub piece_numbers : (q f : Frame) (bytes : List ℕ) → N.piece_of (N.numbers_of q) (N.numbers_of f) bytes ≡ R.piece_of q f bytes
unfolding N.piece_of pick
piece_numbers q D.Short bytes = refl
piece_numbers q (D.Empty h) bytes = refl
piece_numbers q (D.Unreadable h) bytes = refl
piece_numbers q (D.Command h c) bytes = command_numbers q h c bytes
