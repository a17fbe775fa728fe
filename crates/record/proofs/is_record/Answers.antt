-- The client's kind is its first byte; by the state.
use Rattle.format.specs.Format.{is_record}
use Rattle.format.proofs.Reading.{and_true}
use lib.Seq.{get_or-drop}
use borrow.Author.Tests.{lt-ltb, le-ltb}
use Rattle.record.proofs.is_record.Goals as goal

pub returns-then-s-lt3 : goal.returns-then-s-lt3
unfolding is_record
returns-then-s-lt3 c = rw (get_or-drop 1 c.args.s.now 0 0, lt-ltb _ _ c.if-s-lt3.true) (and_true _)

pub returns-else-s-lt3 : goal.returns-else-s-lt3
unfolding is_record
returns-else-s-lt3 c = rw (get_or-drop 1 c.args.s.now 0 0, le-ltb _ _ c.if-s-lt3.false)
