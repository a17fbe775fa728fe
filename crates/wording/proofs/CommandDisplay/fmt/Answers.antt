-- The kind, the transaction, the size that an Initiate carries, and the size.
use Rattle.std.proofs.Common.{arith, sym, append_assoc}
use Rattle.show.proofs.Written.{as_text}
use Rattle.show.specs.Text.{letters}
use Rattle.show.proofs.Numbers.{decimal_same}
use Rattle.wording.specs.Words.{command_text}
use Rattle.wording.proofs.CommandDisplay.fmt.Goals as goal

pub returns-clause-writes : goal.returns-clause-writes
unfolding letters command_text
returns-clause-writes g c p ok =
    let h = c.args.self.now.0.header in
    as_text (rw (sym (decimal_same (h.transaction) (omega arith)), sym (decimal_same (h.size) (omega arith))) (simp append_assoc)) (c.write.ensures.writes p ok)
