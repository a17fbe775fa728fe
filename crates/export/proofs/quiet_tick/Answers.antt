-- Refused by a test, or nothing to do.
use Rattle.outcomes.proofs.Rows.{eight_row, sound_row, row_is}
use Rattle.export.proofs.Testing.{tick_refused_early}
use Rattle.export.proofs.Quiet.{quiet_left}
use Rattle.server.proofs.Laws.{tick_tests_lem}
use Rattle.protocol.proofs.Ticks.{tick_accepted_by}
use Rattle.protocol.specs.Coding.{refusal_number}
use Rattle.protocol.specs.Calls.{told_checked}
use Rattle.protocol.specs.Tick.{told_ticked}
use Rattle.outcomes.specs.Outcomes.{only, tick_answer, row_of}
use mathlib.Core.Bool.{true}
use mathlib.Core.Path.{◌≡◌, refl, sym, ap, ◌∙◌}
use borrow.Author.Rules.{rules}
use Rattle.export.proofs.quiet_tick.Goals as goal

pub returns-in_err-check_lent : goal.returns-in_err-check_lent
returns-in_err-check_lent c =
    let a = c.args in
    let t = a.t.now in
    let row = row_of true t in
    let x = c.in_err-check_lent.field-0.0 in
    let e : tick_answer (told_ticked c.from_residual.result) ≡ only (refusal_number x) = let r = c.from_residual.ensures in search rules in
    tick_refused_early a.clock a.image.now a.answer.now row a.area.now t x _ (ap told_checked (sym c.in_err-check_lent.was) ∙ c.check_lent.ensures ∙ tick_tests_lem a.clock a.image.now a.answer.now row a.area.now (eight_row true t) _ (c.is_sound.ensures ∙ sound_row true t)) e

pub returns : goal.returns
returns c =
    let a = c.args in
    let t = a.t.now in
    let row = row_of true t in
    let w = ap told_checked (sym c.in_ok-check_lent.was) ∙ c.check_lent.ensures ∙ tick_tests_lem a.clock a.image.now a.answer.now row a.area.now (eight_row true t) _ (c.is_sound.ensures ∙ sound_row true t) in
    let sound = (tick_accepted_by a.clock a.image.now a.answer.now row a.area.now (sym w)).table_sound in
    quiet_left a.clock a.image.now a.answer.now a.area.now t _ row (only 255) (row_is true t sound) c.requires sound w c.tidy.ensures refl
