-- The last byte, two flags and a deadline.
use borrow.Author.Tests.{eqb-true, leb-true, eq-eqb}
use native.Mathlib.Omega.{arith}
use Rattle.picks.proofs.Keep.{of_both}
use Rattle.packing.proofs.Plain.{same_transfer}
use Rattle.packing.proofs.plain_transfer.Goals as goal

pub returns-then-r-eq1 : goal.returns-then-r-eq1
returns-then-r-eq1 c t =
    let e = of_both _ _ c.if-ends.true in
    same_transfer c.args.r.now c.fits-r c.told-r (eqb-true _ _ e.0) (leb-true _ _ e.1) (omega arith) (rw (eq-eqb _ 1 c.if-r-eq1.true))

pub returns-then-r-eq0 : goal.returns-then-r-eq0
returns-then-r-eq0 c t =
    let e = of_both _ _ c.if-ends.true in
    let d = rw c.number_at.ensures at t in
    same_transfer c.args.r.now c.fits-r c.told-r (eqb-true _ _ e.0) (leb-true _ _ e.1) (omega arith) (rw (c.if-r-eq0.true, d))
