-- Each branch is a turn.
use Rattle.std.proofs.Common.{le_refl, zero-le}
use Rattle.input.specs.Turns.Turns.{none}
use Rattle.input.proofs.Turns.{reads_more, plays_one, passed_within}
use Rattle.input.proofs.played.Goals.{then-bytes-n, else-bytes-n+in_ok-known}
use Rattle.input.proofs.played.Goals as goal

pub loop-init : goal.loop-init
loop-init g c = rw c.begun-window.ensures ((le_refl 0, zero-le), none _)

pub loop-preserved : goal.loop-preserved
loop-preserved g c =
    let u = c.unplayed-bytes in
    let n = c.length_of-n in
    let i = c.loop.invariant in
    elim c.if-bytes-n.branch [
      | then-bytes-n w ↦
          rw (w.player-is, w.reader-is, w.input-is, w.window-is)
          (w.refilled-window.ensures.within, reads_more _ _ _ _ _ _ _ i.1 u.result.now u.ensures n.result n.ensures _ _ _ w.if-bytes-n.true w.refilled-window.ensures.bytes)
      | else-bytes-n+in_ok-known w ↦
          rw (w.player-is, w.reader-is, w.input-is, w.window-is) (
            passed_within _ _ _ i.0 u.result.now u.ensures n.result w.if-bytes-n.false _ _ w.passed-window.ensures,
            plays_one _ _ _ _ _ _ _ i.1 u.result.now u.ensures n.result n.ensures _ _ _ _ w.if-bytes-n.false w.part.ensures (rw w.in_ok-known.was at w.play.ensures) w.passed-window.ensures,
          )
    ]
