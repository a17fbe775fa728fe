-- Refused by the number of records, or the tick on what is lent.
use mathlib.Core.Path.{refl, sym, ◌∙◌}
use Rattle.protocol.specs.Tick.{told_ticked}
use Rattle.script.specs.Outcomes.{tick}
use Rattle.script.specs.Playing.{did}
use Rattle.script.proofs.Through.{tick_other, tick_through_lem}
use Rattle.script.proofs.Lent.call_tick.Goals as goal

pub returns-then-self-records_of : goal.returns-then-self-records_of
returns-then-self-records_of c =
    let a = c.args in
    tick_other a.self c.records_of.ensures.1 (λ e. c.if-self-records_of.true (e ∙ sym c.records_of.ensures.0)) a.item.now a.area.now a.image.now a.answer.now (did c.calls.result) c.calls.ensures.0

pub returns : goal.returns
returns c =
    let d = c.tick-done in
    let a = c.args in
    tick_through_lem a.self c.records_of.ensures.1 (c.if-self-records_of.false ∙ c.records_of.ensures.0) a.item.now a.area.now a.image.now a.answer.now c.min-c.result c.min-c.ensures c.clock_of-clock.result c.clock_of-clock.ensures (tick (told_ticked d.result.outcome)) d.result.table c.calls-2.ensures.1 (did c.calls-2.result) c.calls-2.ensures.0 c.part.result.now c.part-2.result.now c.part.ensures c.part-2.ensures d.result _ d.ensures refl refl
