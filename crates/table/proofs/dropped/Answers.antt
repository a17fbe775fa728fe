-- A sound row has one record of the client, so it is as `release` has it.
use Rattle.table.proofs.Sound.{sound_release}
use Rattle.table.proofs.Release.{dropped_out}
use Rattle.table.specs.Row.{dropped_at}
use Rattle.protocol.specs.ConnectionTable.{holds, place_of}
use Rattle.row.proofs.Walk.{told_at}
use lib.ListN.{length}
use Prim.Native.Nat.{ℕ}
use mathlib.Core.Path.{◌≡◌, sym, ap, ◌∙◌}
use borrow.Author.Rules.{rules}
use native.Mathlib.Omega.{arith}
use Rattle.table.proofs.dropped.Goals as goal

pub returns-in-Some : goal.returns-in-Some
unfolding place_of
returns-in-Some c =
    let a = c.args in
    let l : length a.t ≡ 8 = search rules in
    let p = c.dropped_at.ensures ∙ ap (λ (i : ℕ). dropped_at i a.t) (told_at (holds a.client) a.t _ l c.in-Some.ensures).0 in
    record { value = p; when_sound = λ s. p ∙ sym (sound_release a.t s a.client) }

pub returns-in-None : goal.returns-in-None
unfolding place_of
returns-in-None c =
    let a = c.args in
    let l : length a.t ≡ 8 = search rules in
    let p = sym (dropped_out a.t _ (omega (arith, (told_at (holds a.client) a.t _ l c.in-None.ensures).0))) in
    record { value = p; when_sound = λ s. p ∙ sym (sound_release a.t s a.client) }
