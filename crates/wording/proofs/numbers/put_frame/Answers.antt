-- What the frame has, and its first bytes.
use Rattle.show.specs.Text.{letters}
use Rattle.show.proofs.Laid.{then}
use Rattle.wording.specs.Numbers.{frame_text}
use Rattle.wording.proofs.numbers.put_frame.Goals as goal

pub returns : goal.returns
unfolding letters frame_text
returns c = then _ _ _ (then _ _ _ (then _ _ _ c.put_decoded-at.ensures c.put-at.ensures) c.put_start-at.ensures) c.put.ensures
