-- A loop that drops the first closed record; a sound row is then as `release` has it.
use Rattle.table.proofs.Sound.{sound_closed}
use Rattle.table.proofs.Release.{drops_more, drops_none, drop_counts, count_most, gone_used}
use Rattle.picks.specs.Pick.{first}
use Rattle.connection.specs.Among.{is_gone}
use lib.ListN.{length}
use mathlib.Core.Path.{sym, ◌∙◌}
use Prim.Native.Nat.{◌<◌}
use borrow.Author.Rules.{rules}
use native.Mathlib.Omega.{arith}
use Rattle.table.proofs.drop_closed.Goals as goal

pub loop-i-smaller : goal.loop-i-smaller
loop-i-smaller c =
    let l = c.loop-i in
    let i = c.in-Some.ensures in
    let h : first is_gone l.t < length l.t = omega (arith, i.place, i.inside, l.invariant.1) in
    rw (c.dropped_at-next.ensures, i.place) (omega (arith, drop_counts is_gone gone_used l.t h))

pub loop-i-preserved : goal.loop-i-preserved
loop-i-preserved c =
    let l = c.loop-i in (
      search rules,
      search rules,
      rw (c.dropped_at-next.ensures, c.in-Some.ensures.place) (l.invariant.2 ∙ drops_more is_gone gone_used 8 l.t (omega (arith, count_most is_gone l.t, l.invariant.1))),
    )

pub returns : goal.returns
returns c =
    let l = c.loop-i in
    let a = c.args in
    let p = sym (l.invariant.2 ∙ drops_none is_gone gone_used 8 l.t (omega (arith, c.in_default.ensures.place, l.invariant.1))) in
    record { value = p; when_sound = λ s. p ∙ sym (sound_closed a.t s 8 (omega arith)) }
