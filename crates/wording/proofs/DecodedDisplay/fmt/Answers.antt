-- What the frame has, and its first bytes.
use Rattle.std.proofs.Common.{append_assoc}
use Rattle.show.proofs.Written.{as_text}
use Rattle.show.specs.Text.{letters}
use Rattle.wording.specs.Words.{frame_text}
use Rattle.wording.proofs.DecodedDisplay.fmt.Goals as goal

pub returns-clause-writes : goal.returns-clause-writes
unfolding letters frame_text
returns-clause-writes g c p ok =
    as_text (simp append_assoc) (c.write.ensures.writes p ok)
