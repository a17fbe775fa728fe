-- The page's place moves by no more than the bytes' length.
use Rattle.std.proofs.Common.{arith, ap}
use Rattle.show.specs.Text.{Page, laid}
use Rattle.replay.proofs.transcript.put.Goals as goal

pub returns : goal.returns
unfolding laid
returns c = omega (arith, ap (λ (p : Page). p.at) c.put.ensures)
