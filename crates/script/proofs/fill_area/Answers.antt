-- Each turn sets one byte more; after all of them the rest of the area stands behind.
use Rattle.std.proofs.Common.{◌≡◌, take, arith, length-take, length-set, refl}
use native.Mathlib.Numerals.{add-one}
use mathlib.Core.List.{append-nil}
use lib.ListN.{drop_of_length-le}
use Rattle.items.specs.Items.{area_bytes}
use Rattle.script.proofs.Buffers.{area_none, area_more}
use Rattle.script.specs.Playing.{filled}
use Rattle.script.proofs.fill_area.Goals as goal

pub loop-i-init : goal.loop-i-init
loop-i-init c =
    let front = take 65536 c.args.area.now in
    (rw (length-take 65536 c.args.area.now) (omega (arith, c.requires)), area_none c.args.b front)

pub loop-i-preserved : goal.loop-i-preserved
loop-i-preserved c =
    let l = c.loop-i in
    let front = take 65536 c.args.area.now in
    (rw (length-set) l.invariant.0, rw (l.invariant.1, add-one l.i) (area_more c.args.b l.i front c.loop-i-test.true))

pub returns : goal.returns
unfolding filled
returns c =
    let l = c.loop-i in
    let front = take 65536 c.args.area.now in
    let all : l.i ≡ 65536 = omega (arith, l.invariant.0, l.auto.byte-items, l.auto.i-end, c.loop-i-test.false) in
    rw (l.invariant.1, all, drop_of_length-le front {i = 65536} (omega (arith, l.invariant.0, l.auto.byte-items)), append-nil (area_bytes c.args.b 65536)) refl
