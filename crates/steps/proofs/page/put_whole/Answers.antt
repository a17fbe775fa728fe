-- The object and its length.
use Rattle.show.specs.Text.{letters}
use Rattle.show.proofs.Laid.{then}
use Rattle.steps.specs.Steps.{whole_text}
use Rattle.steps.proofs.page.put_whole.Goals as goal

pub returns : goal.returns
unfolding letters whole_text
returns c =
    then _ _ _ (then _ _ _ (then _ _ _ (then _ _ _ c.put-at.ensures c.put_object-at.ensures) c.put-at-2.ensures) (rw c.from.ensures at c.put_number-at.ensures)) c.put.ensures
