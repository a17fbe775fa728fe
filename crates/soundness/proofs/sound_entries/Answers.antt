-- The entries are sound if those from the turn's on are, at the key and the start reached. A start within the limit and a capacity for each turn fits a u32.
use Rattle.std.proofs.Common.{◌-◌, arith, rules}
use Rattle.picks.proofs.Picks.{flag}
use Rattle.soundness.proofs.Walk.{sound_more, sound_not, sound_end}
use Rattle.soundness.proofs.sound_entries.Goals.{else-loop-i-test, then-loop-i-test+then-not-sound}
use Rattle.soundness.proofs.sound_entries.Goals as goal

pub loop-i-preserved : goal.loop-i-preserved
loop-i-preserved c =
    let l = c.loop-i in
    let a = c.args in (
      c.if-not-sound.false,
      search rules,
      rw c.from-start.ensures (sound_more a.image.now a.n l.i c.entry_in-e.result (omega arith) c.entry_in-e.ensures _ _ _ l.invariant.2 _ c.key_of-least.ensures (flag c.is_sound-sound.ensures c.if-not-sound.false)),
    )

pub returns : goal.returns
returns c =
    let l = c.loop-i in
    let a = c.args in
    elim c.loop-i-test.branch [
      | else-loop-i-test w ↦ rw (w.sound-is, l.invariant.0) (sound_end a.image.now _ (a.n - l.i) (omega (arith, w.loop-i-test)) _ _ _ l.invariant.2)
      | then-loop-i-test+then-not-sound w ↦
          rw (w.sound-is, w.if-not-sound.true) (sound_not a.image.now a.n l.i w.entry_in-e.result (omega (arith, w.loop-i-test)) w.entry_in-e.ensures _ _ _ l.invariant.2 (flag w.is_sound-sound.ensures w.if-not-sound.true))
    ]
