-- The kind, the transaction, the size that an Initiate carries, and the size.
use Rattle.std.proofs.Common.{◌∙◌, append-nil, append_assoc, refl}
use Rattle.picks.specs.Pick.{pick}
use Rattle.show.specs.Text.{letters}
use Rattle.show.proofs.Laid.{then}
use Rattle.template.specs.Filled.{filled, letter_text, taken}
use Rattle.wording.specs.Numbers.{command_text}
use Rattle.wording.proofs.numbers.put_command.Goals as goal

pub returns : goal.returns
unfolding letters filled letter_text taken pick command_text
returns c =
    then _ _ _ (then _ _ _ (then _ _ _ c.put_kind-at.ensures c.put-at.ensures) c.put_total-at.ensures) c.put.ensures
    ∙ rw c.from.ensures (simp (append-nil, append_assoc) refl)
