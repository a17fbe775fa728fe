-- Eight bytes that are 0.
use Rattle.format.specs.Format.{record_of}
use Rattle.records.proofs.Fields.{nobody_is}
use lib.ListN.{drop}
use Rattle.records.proofs.bytes.is_nobody.Goals as goal

pub returns : goal.returns
unfolding record_of
returns c = rw c.number_at.ensures (nobody_is (drop 1 c.args.r.now))
