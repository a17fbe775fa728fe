-- The numbers, each with its mark.
use Rattle.std.proofs.Common.{ℕ, List, ◌≡◌, ◌++◌, ◌∙◌, refl, append_assoc}
use Rattle.show.specs.Text.{letters, Page, laid}
use Rattle.show.proofs.Laid.{then}
use Rattle.wording.specs.Words.{header_text}
use Rattle.wording.proofs.page.put_header.Goals as goal

then_three : {q r : Page} (p : Page) (x a b c : List ℕ) → q ≡ laid p x → r ≡ laid q (a ++ b ++ c) → r ≡ laid p (x ++ a ++ b ++ c)
then_three p x a b c e f = then p x (a ++ b ++ c) e f ∙ simp append_assoc refl

pub returns : goal.returns
unfolding letters header_text
returns c =
    then_three _ _ _ _ _ (rw c.received.ensures at c.put_marked-at.ensures) (rw c.sent.ensures at c.put_marked.ensures)
