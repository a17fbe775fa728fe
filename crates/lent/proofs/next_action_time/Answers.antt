-- A table of another length is refused; else its earliest deadline is told where it is sound.
use Rattle.std.proofs.Common.{ne_eqb, ◌≡◌, ◌∙◌, ap, rules}
use Rattle.picks.proofs.Picks.{flag}
use Rattle.protocol.specs.Coding.{refused, value}
use Rattle.protocol.specs.DeadlineQuery.{told_next_action}
use Rattle.server.proofs.Calls.{query_sound, query_unsound}
use Rattle.lent.proofs.OtherLength.{query_refused}
use Rattle.lent.proofs.next_action_time.Goals as goal

pub returns-in_err-row_of : goal.returns-in_err-row_of
returns-in_err-row_of c =
    let e = c.in_err-row_of.ensures.refused in
    let t : told_next_action c.from_residual.result ≡ refused 1 = let r = c.from_residual.ensures in search rules in
    rw t (query_refused _ (ne_eqb _ _ e.0))

pub returns-then-is_sound : goal.returns-then-is_sound
returns-then-is_sound c =
    let row = c.in_ok-row_of.ensures.loaded in
    let l = c.in_ok-row_of.ensures.long in
    ap value c.earliest.ensures ∙ query_sound _ l (rw (← row) (flag c.is_sound.ensures c.if-is_sound.true))

pub returns : goal.returns
returns c =
    let row = c.in_ok-row_of.ensures.loaded in
    let l = c.in_ok-row_of.ensures.long in
    query_unsound _ l (rw (← row) (flag c.is_sound.ensures c.if-is_sound.false))
