-- What is left of the words is still to be laid.
use Rattle.std.proofs.Common.{◌≡◌, drop}
use Rattle.show.specs.Text.{page_at, laid}
use Rattle.template.specs.Filled.{filled}
use Rattle.template.proofs.put.Given as goal

abbrev pub invariant-loop-letter : goal.invariant-loop-letter
invariant-loop-letter l = laid (page_at l.end l.page) (filled (drop l.letter-index l.words) l.left) ≡ laid (page_at l.at l.initial.page) (filled l.words l.numbers)
