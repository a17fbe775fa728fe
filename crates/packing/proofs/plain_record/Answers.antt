-- Part by part.
use borrow.Author.Tests.{leb-true}
use Rattle.picks.proofs.Keep.{of_both}
use Rattle.packing.proofs.Plain.{same_record}
use Rattle.packing.proofs.plain_record.Goals as goal

pub returns-then-head : goal.returns-then-head
returns-then-head c t =
    let d = of_both _ _ c.if-head.true in
    same_record c.args.r.now c.fits-r c.told-r (leb-true _ _ d.0) (c.plain_client.ensures d.1) (c.plain_state.ensures t)
