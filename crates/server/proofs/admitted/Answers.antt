-- The three tests of the request, then the call.
use Rattle.server.proofs.Testing.{frame_verdict, full_is}
use Rattle.server.proofs.Accepting.{refused_kept, accepted_made}
use Rattle.server.specs.Tables.{left_in}
use Rattle.protocol.specs.Coding.{refused, refusal_number}
use Rattle.protocol.specs.Calls.{told_checked}
use Rattle.protocol.specs.Request.{told_outcome}
use Rattle.protocol.proofs.Ticks.{tick_accepted_by}
use Rattle.protocol.specs.Constants.{RECORDS}
use mathlib.Core.Path.{◌≡◌, sym, ap, ◌∙◌}
use borrow.Author.Rules.{rules}
use Rattle.server.proofs.admitted.Goals as goal

pub returns-in_err-check_frame : goal.returns-in_err-check_frame
unfolding RECORDS
returns-in_err-check_frame g c v =
    let a = c.args in
    let row = g.T.Table.rows a.t.now in
    let long = (tick_accepted_by a.clock a.image.now a.answer.now row a.area.now v).eight in
    let x = c.in_err-check_frame.field-0.0 in
    let e : told_outcome c.from_residual.result ≡ refused (refusal_number x) = let r = c.from_residual.ensures in search rules in
    ap (λ r. left_in r a.answer.now a.t.now a.area.now a.image.now) e ∙ refused_kept g.T.Table.made a.t.now a.client a.clock a.request.now a.image.now a.answer.now row a.area.now x (ap told_checked (sym c.in_err-check_frame.was) ∙ c.check_frame.ensures ∙ frame_verdict a.clock a.image.now a.answer.now row a.area.now long v a.client a.request.now _ (full_is a.client row _ _ _ _ long c.place_of-place.ensures.place c.place_of-place.ensures.inside c.unused_place-free.ensures.place c.unused_place-free.ensures.inside c.is_none.ensures c.is_none-2.ensures))

pub returns : goal.returns
unfolding RECORDS
returns g c v =
    let a = c.args in
    let row = g.T.Table.rows a.t.now in
    let long = (tick_accepted_by a.clock a.image.now a.answer.now row a.area.now v).eight in
    let w = ap told_checked (sym c.in_ok-check_frame.was) ∙ c.check_frame.ensures ∙ frame_verdict a.clock a.image.now a.answer.now row a.area.now long v a.client a.request.now _ (full_is a.client row _ _ _ _ long c.place_of-place.ensures.place c.place_of-place.ensures.inside c.unused_place-free.ensures.place c.unused_place-free.ensures.inside c.is_none.ensures c.is_none-2.ensures) in
    accepted_made g.T.Table.made a.t.now a.client a.clock a.request.now a.image.now a.answer.now row a.area.now _ (c.accepted.ensures (sym w, c.place_of-place.ensures.place, c.place_of-place.ensures.inside, c.unused_place-free.ensures.place)) w
