-- The amount and the object.
use Rattle.std.proofs.Common.{arith, refl, sym, append_assoc}
use Rattle.show.proofs.Written.{as_text}
use Rattle.show.specs.Text.{letters}
use Rattle.show.proofs.Numbers.{decimal_same}
use Rattle.steps.specs.Steps.{written_text}
use Rattle.steps.proofs.WrittenDisplay.fmt.Goals as goal

pub returns-clause-writes : goal.returns-clause-writes
unfolding letters written_text
returns-clause-writes g c p ok =
    as_text (rw (sym (decimal_same (c.amount-amount.result) (omega arith)), c.amount-amount.ensures) (simp append_assoc refl)) (c.write.ensures.writes p ok)
