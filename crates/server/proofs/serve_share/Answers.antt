-- The part lent on comes back as the share laid in the area.
use Rattle.server.proofs.Laws.{laid_back, own_again}
use mathlib.Core.Path.{sym, ap, ◌∙◌}
use Rattle.protocol.specs.ConnectionTable.{share_of, with_share}
use Rattle.protocol.specs.ConnectionRecord.{told_handled, serve}
use Prim.Native.Nat.{◌+◌, ◌*◌, ◌-◌}
use lib.ListN.{length, take, drop}
use mathlib.Core.Path.{◌≡◌}
use Rattle.protocol.specs.Constants.{SHARE}
use borrow.Author.Rules.{rules}
use native.Mathlib.Omega.{arith}
use Rattle.server.proofs.serve_share.Goals as goal

pub slice_bounds-handle_request-end : goal.slice_bounds-handle_request-end
unfolding SHARE
slice_bounds-handle_request-end c = let p = c.requires in omega arith

pub returns : goal.returns
unfolding SHARE
returns c =
    let a = c.args in
    let n = a.c.area in
    let z = c.handle_request.new.share in
    let k = 8192 * n + 8192 - 8192 * n in
    let whole : k ≡ 8192 = omega arith in
    let long : length z ≡ k = search rules in
    let inside = c.requires in
    let e = laid_back n k a.area.now z whole long inside in
    let o = ap (λ x. share_of x n) e ∙ own_again n k a.area.now z whole long inside in
    record { served = ap (λ s. told_handled c.handle_request.result s c.handle_request.new.image) o ∙ c.handle_request.ensures ∙ ap (λ m. serve a.c (take m (drop (8192 * n) a.area.now)) a.image.now a.clock a.request.now) whole; area_left = e ∙ ap (with_share a.area.now n) (sym o) }
