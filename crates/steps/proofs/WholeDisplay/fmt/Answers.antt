-- The object and the bytes.
use Rattle.std.proofs.Common.{arith, refl, sym, append_assoc}
use Rattle.show.proofs.Written.{as_text}
use Rattle.show.specs.Text.{letters}
use Rattle.show.proofs.Numbers.{decimal_same}
use Rattle.steps.specs.Steps.{whole_text}
use Rattle.steps.proofs.WholeDisplay.fmt.Goals as goal

pub returns-clause-writes : goal.returns-clause-writes
unfolding letters whole_text
returns-clause-writes g c p ok =
    let r = c.args.self.now.0 in
    as_text (rw (sym (decimal_same (r.sent) (omega arith))) (simp append_assoc refl)) (c.write.ensures.writes p ok)
