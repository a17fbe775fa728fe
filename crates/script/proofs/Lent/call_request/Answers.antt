-- Refused by the number of records, or the request on what is lent.
use mathlib.Core.Path.{refl, sym, ◌∙◌}
use Rattle.protocol.specs.Request.{told_outcome}
use Rattle.script.specs.Outcomes.{request}
use Rattle.script.specs.Playing.{did}
use Rattle.script.proofs.Through.{request_other, request_through_lem}
use Rattle.script.proofs.Lent.call_request.Goals as goal

pub returns-then-self-records_of : goal.returns-then-self-records_of
returns-then-self-records_of c =
    let a = c.args in
    request_other a.self c.records_of.ensures.1 (λ e. c.if-self-records_of.true (e ∙ sym c.records_of.ensures.0)) a.item.now a.area.now a.image.now a.answer.now (did c.calls.result) c.calls.ensures.0

pub returns : goal.returns
returns c =
    let d = c.handle_request-done in
    let a = c.args in
    request_through_lem a.self c.records_of.ensures.1 (c.if-self-records_of.false ∙ c.records_of.ensures.0) a.item.now a.area.now a.image.now a.answer.now c.min-c.result c.min-c.ensures c.clock_of-clock.result c.clock_of-clock.ensures (request (told_outcome d.result.outcome)) d.result.table c.calls-2.ensures.1 (did c.calls-2.result) c.calls-2.ensures.0 c.min-a.result c.min-b.result c.min-a.ensures c.min-b.ensures c.client_of-client.result c.client_of-client.ensures c.request_of-request.result.now c.request_of-request.ensures d.result _ _ _ d.ensures refl refl
