-- The words behind one another.
use Rattle.show.specs.Text.{letters}
use Rattle.show.proofs.Laid.{then}
use Rattle.wording.specs.Numbers.{kind_text}
use Rattle.wording.proofs.numbers.put_kind.Goals as goal

pub returns : goal.returns
unfolding letters kind_text
returns c =
    then _ _ _ (then _ _ _ (then _ _ _ (then _ _ _ c.put-at.ensures (rw (c.as_bytes.ensures.value, c.name_of.ensures) at c.put-at-2.ensures))
    (rw (c.as_bytes-2.ensures.value, c.segmentation_of.ensures) at c.put-at-3.ensures))
    (rw (c.as_bytes-3.ensures.value, c.flagged.ensures) at c.put-at-4.ensures))
    (rw (c.as_bytes-4.ensures.value, c.flagged-2.ensures) at c.put.ensures)
