-- The number and its meaning.
use Rattle.std.proofs.Common.{arith, sym, append_assoc}
use Rattle.show.proofs.Written.{as_text}
use Rattle.picks.specs.Pick.{pick}
use Rattle.show.specs.Text.{letters}
use Rattle.show.proofs.Numbers.{decimal_same}
use Rattle.wording.specs.Words.{refusal_text}
use Rattle.wording.proofs.RefusedDisplay.fmt.Goals as goal

pub returns-clause-writes : goal.returns-clause-writes
unfolding letters pick refusal_text
returns-clause-writes g c p ok =
    let n = c.args.self.now.0 in
    as_text (rw (sym (decimal_same n (omega arith)), c.refusal_of.ensures) (simp append_assoc)) (c.write.ensures.writes p ok)
