-- Where so many bytes were sent.
use Rattle.std.proofs.Common.{arith, refl, sym, ◌+◌, ◌-◌, append_assoc}
use Rattle.show.proofs.Written.{as_text}
use borrow.Author.Tests.{le-leb}
use Rattle.picks.specs.Pick.{pick}
use Rattle.show.specs.Text.{letters}
use Rattle.show.proofs.Numbers.{decimal_same}
use Rattle.steps.specs.Steps.{range_text}
use Rattle.steps.proofs.RangeDisplay.fmt.Goals as goal

pub returns-clause-writes : goal.returns-clause-writes
unfolding letters pick range_text
returns-clause-writes g c p ok =
    let r = c.args.self.now.reading in
    let n = c.args.self.now.length in
    as_text (rw (le-leb _ _ c.if-last-self.false, sym (decimal_same (r.sent - n + 1) (omega arith)), sym (decimal_same (r.sent) (omega arith)), sym (decimal_same (r.total) (omega arith))) (simp append_assoc refl)) (c.write.ensures.writes p ok)
