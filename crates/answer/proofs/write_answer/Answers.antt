-- The header at the start, the command behind it.
use Rattle.protocol.specs.SequenceHeader.{encode_header}
use Rattle.protocol.specs.Command.{flag_places}
use Rattle.protocol.proofs.Command.{encoded_length}
use lib.ListN.{length}
use mathlib.Core.Path.{◌≡◌}
use Rattle.protocol.specs.Calls.{frame}
use Rattle.protocol.specs.ConnectionRecord.{told_reply}
use Rattle.protocol.specs.Coding.{value}
use Rattle.answer.proofs.Laws.{laid_behind, frame_length}
use Rattle.picks.proofs.Picks.{pick_f}
use borrow.Author.Tests.{le-ltb}
use mathlib.Core.Path.{refl, ap}
use Rattle.protocol.specs.Constants.{ANSWER_MIN}
use native.Mathlib.Omega.{arith}
use Rattle.answer.proofs.write_answer.Goals as goal

pub returns : goal.returns
unfolding ANSWER_MIN frame encode_header
returns c =
    let a = c.args in
    let r = told_reply a.r a.share.now a.image.now in
    let h = c.header_length.ensures in
    let p = c.payload-payload.ensures in
    let b = rw p at c.store.ensures in
    let l = frame_length r in
    let e = encoded_length flag_places r.command in
    let q : length c.payload-payload.result.now ≡ length r.command.payload = rw p in
    record { told = pick_f _ _ _ _ (le-ltb _ _ c.if-answer-lt-ANSWER_MIN.false) (ap value (omega arith)); left = pick_f _ _ _ _ (le-ltb _ _ c.if-answer-lt-ANSWER_MIN.false) (laid_behind (encode_header a.r.header) _ a.answer.now _ _ refl (omega arith) c.serialize.ensures.left b) }
