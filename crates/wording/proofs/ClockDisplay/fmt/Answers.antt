-- Seconds, and six digits of the rest.
use Rattle.std.proofs.Common.{arith, sym, ◌/◌, ◌%◌, append_assoc}
use Rattle.show.proofs.Written.{as_text}
use Rattle.picks.specs.Pick.{pick}
use Rattle.show.specs.Text.{letters}
use Rattle.show.proofs.Numbers.{decimal_same, ten_padded, last_six}
use Rattle.wording.specs.Words.{clock_text}
use Rattle.wording.proofs.ClockDisplay.fmt.Goals as goal

pub returns-clause-writes : goal.returns-clause-writes
unfolding letters pick clock_text
returns-clause-writes g c p ok =
    let n = c.args.self.now.0 in
    as_text (rw (sym (decimal_same (n / 1000000) (omega arith)), last_six n) (simp append_assoc)) ((rw (c.laid_out.ensures, ten_padded 5 (n % 1000000) (omega arith) (omega arith)) at c.write.ensures.writes) p ok)
