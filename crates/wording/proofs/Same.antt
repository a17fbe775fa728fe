-- A frame as numbers and the frame that was decoded have the same words.
use Rattle.std.proofs.Common.{ℕ, ◌≡◌, refl, ap, append-nil}
use mathlib.Core.List.{List, ◌++◌}
use Rattle.picks.specs.Pick.{pick}
use Rattle.show.specs.Text.{letters, start_text}
use Rattle.protocol.specs.declared.SequenceLayerHeader.{SequenceLayerHeader}
use Rattle.protocol.specs.declared.SdoCommand.{SdoCommand}
use Rattle.reading.specs.declared.frame.Frame.{Frame}
use Rattle.reading.specs.declared.frame.Frame.TheVariants.{Short, Empty, Unreadable, Command}
use Rattle.reading.specs.Numbers.{header_frame, numbers_of}
use Rattle.wording.specs.Words.{header_text, kind_text, total_text, command_text, decoded_text, frame_text}
use Rattle.wording.specs.Numbers as N

header_numbers : (h : SequenceLayerHeader) → N.header_text (header_frame h) ≡ header_text h
unfolding header_text N.header_text
header_numbers h = refl

command_numbers : (h : SequenceLayerHeader) (c : SdoCommand) → N.command_text (numbers_of (Command h c)) ≡ command_text c
unfolding kind_text total_text command_text N.kind_text N.total_text N.command_text
command_numbers h c = refl

decoded_numbers : (f : Frame) → N.decoded_text (numbers_of f) ≡ decoded_text f
unfolding pick N.decoded_text header_text N.header_text
decoded_numbers Short = refl
decoded_numbers (Empty h) = append-nil (header_text h)
decoded_numbers (Unreadable h) = append-nil (header_text h)
decoded_numbers (Command h c) = ap (λ (t : List ℕ). header_text h ++ t) (command_numbers h c)

-- the words of its numbers are the frame's
pub frame_numbers : (f : Frame) (bytes : List ℕ) → N.frame_text (numbers_of f) bytes ≡ frame_text f bytes
unfolding frame_text N.frame_text
frame_numbers f bytes = ap (λ (t : List ℕ). t ++ letters "\n    bytes:  " ++ start_text bytes 24 ++ letters "\n") (decoded_numbers f)
