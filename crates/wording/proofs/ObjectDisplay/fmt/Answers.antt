-- The index in four digits.
use Rattle.std.proofs.Common.{arith, sym, append_assoc}
use Rattle.show.proofs.Written.{as_text}
use Rattle.picks.specs.Pick.{pick}
use Rattle.show.specs.Text.{letters}
use Rattle.show.proofs.Numbers.{decimal_same, hex_padded}
use Rattle.wording.specs.Words.{object_text}
use Rattle.wording.proofs.ObjectDisplay.fmt.Goals as goal

pub returns-clause-writes : goal.returns-clause-writes
unfolding letters pick object_text
returns-clause-writes g c p ok =
    let i = c.args.self.now.index in
    let s = c.args.self.now.sub in
    as_text (rw (sym (decimal_same s (omega arith))) (simp append_assoc)) ((rw (c.laid_out.ensures, c.in_radix.ensures, hex_padded 3 i (omega arith) (omega arith)) at c.write.ensures.writes) p ok)
