-- Stores, one behind the other.
use Rattle.format.proofs.Writing.{transfer_laid}
use Rattle.record.proofs.Parts.{flag_some, time_or}
use Rattle.record.proofs.transfer_bytes.Goals as goal

pub returns : goal.returns
returns c = rw (c.store-5.ensures, c.store-4.ensures, c.unwrap_or.ensures, c.copy_at.ensures, c.is_some.ensures, c.store-3.ensures, c.store-2.ensures, c.store.ensures, time_or c.args.t.deadline, flag_some c.args.t.deadline) (transfer_laid c.args.t)
