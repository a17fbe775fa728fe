-- A table of another length is refused, and all is left; else the row that a request leaves is made of its records.
use Rattle.std.proofs.Common.{ne_eqb, rules}
use Rattle.picks.specs.Pick.{pick}
use Rattle.server.specs.Tables.{kept_or_made}
use Rattle.server.proofs.Accepting.{called_of, row_left}
use Rattle.lent.proofs.OtherLength.{request_refused}
use Rattle.protocol.specs.Coding.{refused}
use Rattle.protocol.specs.Calls.{Called, To}
use Rattle.protocol.specs.Request.{told_outcome, request_of}
use Rattle.protocol.specs.declared.Connection.{Connection}
use mathlib.Core.List.{List}
use mathlib.Core.Path.{◌≡◌, ap, ◌∙◌}
use Rattle.lent.proofs.handle_request.Goals as goal

pub returns-in_err-t : goal.returns-in_err-t
returns-in_err-t c =
    let none = c.in_err-t.ensures.ok_part in
    let e = rw none at c.as_mut_array.ensures.cases in
    let v = rw none at c.in_err-t.ensures.value in
    let t : told_outcome c.from_residual.result ≡ refused 1 = let r = c.from_residual.ensures in search rules in
    rw t (request_refused _ _ _ _ _ _ _ (ne_eqb _ _ e))

pub returns : goal.returns
unfolding pick
returns c =
    let a = c.args in
    let f : List Connection → Called To = λ t. request_of a.client a.clock a.request.now a.image.now a.answer.now t a.area.now in
    let row = rw c.in_ok-t.ensures.ok_part at c.as_mut_array.ensures.cases in
    ap called_of c.request_on.ensures ∙ ap (λ t. called_of (kept_or_made (λ r. r) t (f t))) row.same ∙ ap called_of (row_left a.client a.clock a.request.now a.image.now a.answer.now a.table.now a.area.now)
