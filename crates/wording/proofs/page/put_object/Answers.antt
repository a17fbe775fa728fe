-- The template, filled.
use Rattle.std.proofs.Common.{refl, append_assoc, append-nil, ◌∙◌}
use Rattle.picks.specs.Pick.{pick}
use Rattle.show.specs.Text.{letters}
use Rattle.template.specs.Filled.{filled, letter_text, taken}
use Rattle.wording.specs.Words.{object_text}
use Rattle.wording.proofs.page.put_object.Goals as goal

pub returns : goal.returns
unfolding letters filled letter_text taken pick object_text
returns c = c.put.ensures ∙ rw (c.from.ensures, c.from-2.ensures) (simp (append_assoc, append-nil) refl)
