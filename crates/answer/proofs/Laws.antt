-- The rest of a buffer, and the length of a frame.
use Prim.Native.Nat.{ℕ, ◌+◌, ◌-◌, ◌≤◌}
use native.Mathlib.Omega.{arith}
use mathlib.Core.Path.{◌≡◌, ap, ◌∙◌}
use mathlib.Core.List.{List, ◌++◌, append-nil}
use lib.ListN.{length, take, drop, length-drop}
use lib.Seq.{take-length, drop-length}
use Rattle.octets.specs.Octets.{splice}
use Rattle.octets.proofs.Splice.{splice_after, splice_splice}
use Rattle.protocol.specs.Coding.{put}
use Rattle.protocol.specs.SequenceHeader.{encode_header}
use Rattle.protocol.specs.Command.{flag_places, encode_command}
use Rattle.protocol.specs.ConnectionRecord.{Reply}
use Rattle.protocol.specs.Calls.{frame}
use Rattle.protocol.proofs.Coding.{left_fits}

-- a store in the part from a to the end, said of the whole
pub splice_rest : (a at : ℕ) (ys xs : List ℕ) → take a xs ++ (splice at ys (take (length xs - a) (drop a xs)) ++ drop (length xs - a) (drop a xs)) ≡ splice (a + at) ys xs
splice_rest a at ys xs =
    let d = drop a xs in
    rw (← length-drop a xs, take-length d, drop-length d, append-nil (splice at ys d)) (splice_after a at ys xs)

-- four bytes at the start, and then a store in the rest
pub laid_behind : (h e answer s z : List ℕ) → length h ≡ 4 → 4 ≤ length answer → s ≡ put h answer → z ≡ splice 0 e (take (length s - 4) (drop 4 s)) → take 4 s ++ (z ++ drop (length s - 4) (drop 4 s)) ≡ splice 0 (h ++ e) answer
laid_behind h e answer s z four room es ez =
    rw ez (splice_rest 4 0 e s) ∙ ap (splice 4 e) (es ∙ left_fits h answer (omega arith)) ∙ ap (λ n. splice n e (splice 0 h answer)) (let q : 4 ≡ 0 + length h = omega arith in q) ∙ splice_splice 0 h e answer

pub frame_length : (r : Reply) → length (frame r) ≡ 4 + length (encode_command flag_places r.command)
unfolding frame encode_header
frame_length r = omega arith
