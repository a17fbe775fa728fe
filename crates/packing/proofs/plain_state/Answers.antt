-- By the state: without a transfer, and with one.
use Rattle.packing.proofs.Plain.{same_state_blank, same_state_busy}
use Rattle.packing.proofs.plain_state.Goals as goal

pub returns-then-r-lt3 : goal.returns-then-r-lt3
returns-then-r-lt3 c t = same_state_blank c.args.r.now c.fits-r c.told-r c.if-r-lt3.true (c.no_transfer.ensures t)

pub returns-then-r-lt5 : goal.returns-then-r-lt5
returns-then-r-lt5 c t = same_state_busy c.args.r.now c.fits-r c.told-r c.if-r-lt3.false c.if-r-lt5.true (c.plain_transfer.ensures t)
