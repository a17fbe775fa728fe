-- An answer's bytes decode to it and fit the answer buffer.
use Prim.Native.Nat.{ℕ, ◌≤◌}
use native.Mathlib.Omega.{arith}
use mathlib.Core.Path.{◌≡◌, sym, ap, ◌∙◌}
use mathlib.Core.List.{List, [], append-nil}
use lib.ListN.{length, take, drop, length-append}
use Rattle.octets.specs.Octets.{splice}
use Rattle.octets.proofs.Splice.{part_splice}
use Rattle.protocol.specs.declared.Segmentation.{Segmentation}
use Rattle.protocol.specs.declared.Segmentation.TheVariants.{Expedited, Initiate, Segment, Complete}
use Rattle.protocol.specs.Constants.{ANSWER_MIN}
use Rattle.protocol.specs.Coding.{value}
use Rattle.protocol.specs.SequenceHeader.{encode_header, decode_header}
use Rattle.protocol.specs.Command.{flag_places, decoded, header_length, encode_command, decode_command}
use Rattle.protocol.specs.ConnectionRecord.{Reply}
use Rattle.protocol.specs.Calls.{frame}
use Rattle.protocol.proofs.SequenceHeader as Header
use Rattle.protocol.proofs.Command as Coded
use Rattle.protocol.proofs.Flags.{places_separate}
use Rattle.protocol.proofs.ServeSound.{Formed}

header_at_most : (s : Segmentation) → header_length s ≤ 12
header_at_most Expedited = omega arith
header_at_most Initiate = omega arith
header_at_most Segment = omega arith
header_at_most Complete = omega arith

module _ (r : Reply) (f : Formed r) where
  pub frame_header : decode_header (frame r) ≡ value r.header
  unfolding frame
  frame_header = Header.decode_encode r.header (encode_command flag_places r.command) f.receive f.send

  pub frame_command : decode_command flag_places (drop 4 (frame r)) ≡ value (decoded r.command)
  unfolding frame encode_header
  frame_command =
      ap (decode_command flag_places) (sym (append-nil (encode_command flag_places r.command))) ∙ Coded.decode_encode flag_places places_separate r.command [] f.command

  pub frame_short : length (frame r) ≤ ANSWER_MIN
  unfolding frame encode_header ANSWER_MIN
  frame_short =
      simp length-append (omega (arith, Coded.encoded_length flag_places r.command, header_at_most r.command.header.segmentation, f.short))

  -- the answer, to its length, is the frame
  pub answer_holds : (answer : List ℕ) → ANSWER_MIN ≤ length answer → take (length (frame r)) (splice 0 (frame r) answer) ≡ frame r
  answer_holds answer h = part_splice 0 (frame r) answer (omega (arith, frame_short))
