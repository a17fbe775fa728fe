-- By the state.
use Rattle.format.specs.Format.{state_bytes}
use Rattle.picks.proofs.Picks.{at_case}
use Rattle.record.proofs.Parts.{none_written}
use mathlib.Core.Logic.{inl, inr}
use Rattle.record.proofs.state_bytes.Goals as goal

pub returns-in_default : goal.returns-in_default
returns-in_default c = none_written c.args.s c.in_default.not-SegmentedDownload c.in_default.not-SegmentedUpload

pub returns-in-SegmentedUpload : goal.returns-in-SegmentedUpload
unfolding state_bytes
returns-in-SegmentedUpload c = elim c.in-SegmentedUpload.is [ inl e ↦ at_case state_bytes e c.transfer_bytes.ensures | inr e ↦ at_case state_bytes e c.transfer_bytes.ensures ]
