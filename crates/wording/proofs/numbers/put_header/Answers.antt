-- The numbers, each with its mark.
use Rattle.show.specs.Text.{letters}
use Rattle.show.proofs.Laid.{then}
use Rattle.wording.specs.Numbers.{header_text}
use Rattle.wording.proofs.numbers.put_header.Goals as goal

pub returns : goal.returns
unfolding letters header_text
returns c =
    then _ _ _ (then _ _ _ (then _ _ _ (then _ _ _ (then _ _ _ c.put-at.ensures (rw c.from.ensures at c.put_number-at.ensures)) (rw (c.as_bytes.ensures.value, c.received.ensures) at c.put-at-2.ensures))
    c.put-at-3.ensures)
    (rw c.from-2.ensures at c.put_number-at-2.ensures))
    (rw (c.as_bytes-2.ensures.value, c.sent.ensures) at c.put.ensures)
