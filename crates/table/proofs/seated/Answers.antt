-- One choice; a sound row that is not full is as `join` has it.
use Rattle.table.proofs.Sound.{sound_seat}
use Rattle.table.proofs.Walk.{told_inside}
use Rattle.protocol.specs.ConnectionTable.{holds, place_of, is_known}
use Rattle.picks.proofs.Picks.{pick_t, pick_f}
use Rattle.row.proofs.Walk.{told_at}
use lib.ListN.{length}
use mathlib.Core.Bool.{true, false}
use mathlib.Core.Path.{◌≡◌, refl, sym, ◌∙◌}
use borrow.Author.Rules.{rules}
use Rattle.table.proofs.seated.Goals as goal

pub returns-then-is_some : goal.returns-then-is_some
unfolding place_of
returns-then-is_some c =
    let a = c.args in
    let l : length a.t ≡ 8 = search rules in
    let p = told_at (holds a.client) a.t _ l c.place_of.ensures in
    let k : is_known a.client a.t ≡ true = rw l (sym (told_inside _ _ p.0 p.1) ∙ sym c.is_some.ensures ∙ c.if-is_some.true) in
    record { value = pick_t _ _ _ _ k refl; when_sound = λ s f. pick_t _ _ _ _ k refl }

pub returns : goal.returns
unfolding place_of
returns c =
    let a = c.args in
    let l : length a.t ≡ 8 = search rules in
    let p = told_at (holds a.client) a.t _ l c.place_of.ensures in
    let k : is_known a.client a.t ≡ false = rw l (sym (told_inside _ _ p.0 p.1) ∙ sym c.is_some.ensures ∙ c.if-is_some.false) in
    let e = pick_f _ _ _ _ k c.joined.ensures in
    record { value = e; when_sound = λ s f. e ∙ sound_seat a.t s a.client f }
