-- Served, and stored by its seat.
use Rattle.server.proofs.Accepting.{own_inside, refused_left, answered_left}
use Rattle.picks.proofs.Picks.{pick_t}
use mathlib.Core.Path.{refl, sym, ◌∙◌}
use Rattle.server.proofs.accepted.Goals as goal

pub returns-in-Err : goal.returns-in-Err
returns-in-Err g c v =
    let a = c.args in
    let k = c.seat_of-s in
    let w = c.serve_record-served in
    let i = own_inside g.T.Table.made a.client a.clock a.request.now a.image.now a.answer.now (g.T.Table.rows a.t.now) a.area.now a.place a.free v k.result k.ensures in
    refused_left g.T.Table.made a.client a.clock a.request.now a.image.now a.answer.now (g.T.Table.rows a.t.now) a.area.now a.place a.free v k.result k.ensures w.result c.in-Err.x w.new.area w.new.image _ c.in-Err.is (w.ensures.served ∙ sym (pick_t _ _ _ _ i refl)) (w.ensures.area_left ∙ sym (pick_t _ _ _ _ i refl)) c.put_back.ensures

pub returns-in-Ok : goal.returns-in-Ok
returns-in-Ok g c v =
    let a = c.args in
    let k = c.seat_of-s in
    let w = c.serve_record-served in
    let r = c.answered in
    let i = own_inside g.T.Table.made a.client a.clock a.request.now a.image.now a.answer.now (g.T.Table.rows a.t.now) a.area.now a.place a.free v k.result k.ensures in
    answered_left g.T.Table.made a.client a.clock a.request.now a.image.now a.answer.now (g.T.Table.rows a.t.now) a.area.now a.place a.free v k.result k.ensures w.result c.in-Ok.r w.new.area w.new.image _ _ _ c.in-Ok.is (w.ensures.served ∙ sym (pick_t _ _ _ _ i refl)) (w.ensures.area_left ∙ sym (pick_t _ _ _ _ i refl)) r.ensures.table_left r.ensures.returned r.ensures.answer_left
