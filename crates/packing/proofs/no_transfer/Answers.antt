-- Four numbers that are 0.
use mathlib.Core.Path.{sym, ◌∙◌}
use borrow.Author.Tests.{eqb-true}
use Rattle.picks.proofs.Keep.{of_both}
use Rattle.packing.proofs.Plain as Plain
use Rattle.packing.proofs.no_transfer.Goals as goal

pub returns : goal.returns
returns c t =
    let d = of_both _ _ t in
    let e = of_both _ _ d.0 in
    let f = of_both _ _ e.0 in
    Plain.no_transfer c.args.r.now c.fits-r c.told-r (sym c.number_at-first.ensures ∙ eqb-true _ _ f.0) (sym c.number_at-second.ensures ∙ eqb-true _ _ f.1) (sym c.number_at.ensures ∙ eqb-true _ _ e.1) (sym c.number_at-2.ensures ∙ eqb-true _ _ d.1)
