-- By the segmentation.
use Rattle.std.proofs.Common.{◌≡◌, ◌∙◌, refl, true, arith, rules, sym}
use Rattle.show.proofs.Written.{as_text}
use Rattle.picks.specs.Pick.{pick}
use lib.Dec.{eqb}
use Rattle.protocol.specs.Command.{segmentation_number, total_number}
use Rattle.show.specs.Text.{letters}
use Rattle.show.proofs.Numbers.{decimal_same}
use Rattle.wording.specs.Words.{total_text}
use Rattle.wording.proofs.Totals.{none_is_0}
use Rattle.wording.proofs.TotalDisplay.fmt.Goals as goal

pub returns-clause-writes : goal.returns-clause-writes
unfolding letters total_text pick
returns-clause-writes g c p ok =
    let e : eqb (segmentation_number c.args.self.now.0.header.segmentation) 1 ≡ true = search rules in
    let n : c.unwrap_or-total.result ≡ total_number c.args.self.now.0.total = c.unwrap_or-total.ensures ∙ none_is_0 c.args.self.now.0.total in
    as_text (rw (e, ← n, sym (decimal_same c.unwrap_or-total.result (omega arith))) refl) (c.write.ensures.writes p ok)
