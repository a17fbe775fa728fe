-- Nobody, or the record at the place.
use Rattle.server.proofs.Calls.{same_called, ticked_is, tick_stored}
use Rattle.protocol.proofs.Ticks.{tick_accepted_by}
use Rattle.protocol.specs.ConnectionTable.{fresh, idle, share_of, told_record_ticked, tick_record, tick_in}
use Rattle.protocol.specs.Tick.{tick_told, tick_at}
use Rattle.row.specs.Row.{place_in}
use Rattle.server.proofs.ticked.Goals.{in-Some+in_default-tick, in_default}
use Rattle.std.proofs.Common.{length, ℕ, Option}
use Rattle.std.proofs.lemmas.List.{get_or_past}
use borrow.Author.Rules.{rules}
use native.Mathlib.Omega.{arith}
use mathlib.Core.Path.{◌≡◌, refl, sym, ap, ◌∙◌}
use Rattle.server.proofs.ticked.Goals as goal

pub tick_answered-requires : goal.tick_answered-requires
tick_answered-requires c =
    let a = c.args in
    let ok = tick_accepted_by a.clock a.image.now a.answer.now a.t a.area.now c.requires in
    let k = c.record_at-c.result in
    let share = share_of a.area.now k.area in
    let g = sym (c.tick.ensures share) ∙ ap (λ x. told_record_ticked x share a.image.now) c.in-Some-tick.is in
    (tick_stored a.clock a.image.now a.answer.now a.t a.area.now c.in-Some.i k c.record_at-c.ensures ok _ _ g, ok.room)

pub returns-in-Some-tick : goal.returns-in-Some-tick
unfolding tick_told
returns-in-Some-tick c =
    let a = c.args in
    let k = c.record_at-c.result in
    let share = share_of a.area.now k.area in
    let g = sym (c.tick.ensures share) ∙ ap (λ x. told_record_ticked x share a.image.now) c.in-Some-tick.is in
    c.tick_answered.ensures ∙ ticked_is a.clock a.image.now a.answer.now a.t a.area.now c.in-Some.i k c.record_at-c.ensures _ g ∙ ap (λ p. tick_at a.clock a.image.now a.answer.now a.t a.area.now (place_in p)) (sym c.in-Some.is)

pub returns : goal.returns
unfolding tick_told tick_record tick_in
returns c =
    let a = c.args in
    let ok = tick_accepted_by a.clock a.image.now a.answer.now a.t a.area.now c.requires in
    let at = λ (p : Option ℕ). tick_at a.clock a.image.now a.answer.now a.t a.area.now (place_in p) in
    let nobody = same_called a.image.now refl refl (c.drop_closed.ensures.when_sound ok.table_sound) refl in
    elim c.match-place.branch [
      | in-Some+in_default-tick w ↦
          let k = w.record_at-c.result in
          let g = sym (w.tick.ensures (share_of a.area.now k.area)) ∙ ap (λ x. told_record_ticked x (share_of a.area.now k.area) a.image.now) w.in_default-tick.is in
          nobody ∙ ticked_is a.clock a.image.now a.answer.now a.t a.area.now w.in-Some.i k w.record_at-c.ensures idle g ∙ ap at (sym w.in-Some.is)
      | in_default w ↦
          let f = sym (get_or_past a.t 8 (fresh 0) (let e : length a.t ≡ 8 = search rules in omega arith)) in
          nobody ∙ ticked_is a.clock a.image.now a.answer.now a.t a.area.now 8 (fresh 0) f idle refl ∙ ap at (sym w.in_default.is)
    ]
