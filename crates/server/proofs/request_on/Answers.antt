-- Refused by the tests of what is lent, or admitted: the tests are those on the records that the call reads, and where they are passed these are the table's.
use Rattle.server.proofs.Laws.{tick_tests_lem}
use Rattle.server.proofs.Testing.{lent_verdict}
use Rattle.server.proofs.Accepting.{refused_kept}
use Rattle.server.specs.Tables.{left_in, kept_or_made}
use Rattle.protocol.proofs.Ticks.{tick_accepted_by}
use Rattle.protocol.specs.Coding.{refused, refusal_number}
use Rattle.protocol.specs.Calls.{told_checked, verdict}
use Rattle.protocol.specs.Request.{told_outcome, request_of}
use Rattle.protocol.specs.Tick.{tick_tests}
use mathlib.Core.Path.{◌≡◌, sym, ap, ◌∙◌}
use borrow.Author.Rules.{rules}
use Rattle.server.proofs.request_on.Goals as goal

pub returns-in_err-check_lent : goal.returns-in_err-check_lent
returns-in_err-check_lent g c =
    let a = c.args in
    let row = g.T.Table.read a.known a.t.now in
    let x = c.in_err-check_lent.field-0.0 in
    let v = ap told_checked (sym c.in_err-check_lent.was) ∙ c.check_lent.ensures ∙ tick_tests_lem a.clock a.image.now a.answer.now row a.area.now (c.is_sound.ensures.eight a.known) _ (c.is_sound.ensures.flag a.known) in
    let e : told_outcome c.from_residual.result ≡ refused (refusal_number x) = let r = c.from_residual.ensures in search rules in
    ap (λ r. left_in r a.answer.now a.t.now a.area.now a.image.now) e ∙ refused_kept g.T.Table.made a.t.now a.client a.clock a.request.now a.image.now a.answer.now row a.area.now x (lent_verdict a.clock a.image.now a.answer.now row a.area.now (c.is_sound.ensures.eight a.known) a.client a.request.now x v)

pub returns : goal.returns
returns g c =
    let a = c.args in
    let row = g.T.Table.read a.known a.t.now in
    let w = sym (ap told_checked (sym c.in_ok-check_lent.was) ∙ c.check_lent.ensures ∙ tick_tests_lem a.clock a.image.now a.answer.now row a.area.now (c.is_sound.ensures.eight a.known) _ (c.is_sound.ensures.flag a.known)) in
    let same = g.T.Table.laws a.known a.t.now (tick_accepted_by a.clock a.image.now a.answer.now row a.area.now w).table_sound in
    let passed = sym (ap (λ r. verdict (tick_tests a.clock a.image.now a.answer.now r a.area.now)) same) ∙ w in
    c.admitted.ensures passed ∙ ap (λ r. kept_or_made g.T.Table.made a.t.now (request_of a.client a.clock a.request.now a.image.now a.answer.now r a.area.now)) (sym same)
