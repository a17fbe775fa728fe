-- An unused record is quiet, and a used one by its deadline and state.
use Rattle.format.specs.Format.{record_of}
use Rattle.protocol.specs.ConnectionTable.{is_closed, is_past, transfer_deadline}
use Rattle.records.proofs.Fields.{past_used, closed_is, quiet_used}
use Rattle.picks.proofs.Picks.{flag}
use Rattle.packed.proofs.is_quiet_record.Goals as goal

pub returns-then-is_used : goal.returns-then-is_used
unfolding record_of
returns-then-is_used c =
    let s = c.args.r.now in
    let x = record_of s in
    let p = is_past c.args.clock (transfer_deadline x.state) in
    rw (c.is_past.ensures, c.deadline.ensures, past_used c.args.clock x.used (transfer_deadline x.state), ← closed_is s) (quiet_used x.used p (is_closed x.state) (flag c.is_used.ensures c.if-is_used.true))
