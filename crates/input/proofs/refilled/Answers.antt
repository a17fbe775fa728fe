-- What is not played is moved to the front, and the read is behind it.
use Rattle.std.proofs.Common.{◌-◌, ◌≤◌, length, refl, ap, arith}
use Rattle.std.specs.Io.KnownBytes.{Consumes}
use Rattle.input.proofs.Buffer.{unplayed_fits, moved_fits, refill}
use Rattle.input.proofs.refilled.Goals as goal

pub move_to_front-requires : goal.move_to_front-requires
move_to_front-requires g c = rw c.unplayed-n.ensures (unplayed_fits _ _)

pub read_at-got-requires : goal.read_at-got-requires
read_at-got-requires g c =
    let u = c.unplayed-n in
    let a = c.args in
    let fits : length u.result.now ≤ length a.input.now - a.w.start = rw u.ensures (unplayed_fits a.input.now a.w) in
    rw c.move_to_front.ensures (moved_fits (length u.result.now) a.w.start a.input.now fits)

pub returns-clause-bytes : goal.returns-clause-bytes
returns-clause-bytes g c =
    let u = c.unplayed-n in
    let a = c.args in
    let r = c.read_at-got in
    refill (Consumes (g.R.Read.remaining a.reader.now) (g.R.Read.remaining r.new.reader)) a.input.now c.move_to_front.new.input r.new.buffer a.w _ (length u.result.now) r.result (ap length u.ensures) c.move_to_front.ensures (omega (arith, r.ensures.in_bounds)) r.ensures.kept refl r.ensures.got
