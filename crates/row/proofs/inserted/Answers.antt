-- The records between the two places turn up by one, then a store.
use Rattle.row.specs.Row.{put_in}
use Rattle.row.proofs.Moves.{turned_in}
use Rattle.picks.proofs.Picks.{pick_t, pick_f}
use Rattle.picks.proofs.Keep.{of_both}
use borrow.Author.Tests.{leb-true, ltb-true}
use lib.ListN.{length}
use mathlib.Core.Path.{◌≡◌, refl, ◌∙◌}
use borrow.Author.Rules.{rules}
use native.Mathlib.Omega.{arith}
use Rattle.row.proofs.inserted.Goals as goal

pub returns-then-at-n : goal.returns-then-at-n
unfolding put_in
returns-then-at-n c =
    let a = c.args in
    let l : length a.t ≡ 8 = search rules in
    let p = of_both _ _ c.if-at-n.true in
    let m = ltb-true _ _ p.1 in
    rw c.rotate_right.ensures.after (turned_in a.t a.at a.c a.n _ (leb-true _ _ p.0) (omega arith) refl) ∙ pick_t _ _ _ _ c.if-at-n.true refl

pub returns-else-at-n : goal.returns-else-at-n
returns-else-at-n c = pick_f _ _ _ _ c.if-at-n.false refl
