-- The numbers, each with its mark.
use Rattle.std.proofs.Common.{arith, sym, append_assoc}
use Rattle.show.proofs.Written.{as_text}
use Rattle.show.specs.Text.{letters}
use Rattle.show.proofs.Numbers.{decimal_same}
use Rattle.wording.specs.Words.{header_text}
use Rattle.wording.proofs.HeaderDisplay.fmt.Goals as goal

pub returns-clause-writes : goal.returns-clause-writes
unfolding letters header_text
returns-clause-writes g c p ok =
    let h = c.args.self.now.0 in
    as_text (rw (c.received-received.ensures, c.sent-sent.ensures, sym (decimal_same (h.receive) (omega arith)), sym (decimal_same (h.send) (omega arith))) (simp append_assoc)) (c.write.ensures.writes p ok)
