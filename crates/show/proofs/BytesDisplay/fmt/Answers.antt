use Rattle.std.proofs.Common.{rules, get_or, take, ◌∷◌, [], ◌++◌, ◌^◌, ◌-◌, ◌<◌, true, false}
use native.Mathlib.Omega.{arith}
use Rattle.std.specs.Fmt.{padded_integral, format_spec, digits}
use Rattle.std.proofs.Output.{has_written_append, has_written_of_eq}
use Rattle.show.specs.Text.{bytes_text}
use Rattle.show.proofs.Numbers.{hex_padded}
use Rattle.show.proofs.Texts.{bytes_more}
use Rattle.show.proofs.BytesDisplay.fmt.Goals as goal

pub loop-byte-init : goal.loop-byte-init
unfolding bytes_text
loop-byte-init g c = search rules

pub loop-byte-preserved : goal.loop-byte-preserved
loop-byte-preserved g c p =
    let bytes = c.args.self.now.0.now in
    let i = c.loop-byte.byte-index in
    let small : get_or bytes i 0 < 2 ^ 8 = search rules in
    let b = (32 ∷ []) ++ padded_integral (format_spec 32 0 4 2 (2 ^ 64 - 1)) false [] (digits 16 true (get_or bytes i 0)) in
    has_written_of_eq _ _ (bytes_text (take i bytes) ++ b) _ _ (rw (hex_padded 1 (get_or bytes i 0) (omega arith) (omega arith)) (bytes_more bytes i c.loop-byte-test.true)) (has_written_append _ _ _ _ b _ (c.loop-byte.invariant p) (search rules))
