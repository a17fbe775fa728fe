-- A template, filled, is the text that its definition has.
use Rattle.std.proofs.Common.{ℕ, ◌≡◌, refl, [], ◌∷◌, ◌++◌, append_assoc, append-nil}
use Rattle.picks.specs.Pick.{pick}
use Rattle.show.specs.Text.{letters, decimal_text}
use Rattle.template.specs.Filled.{letter_text, taken, filled}

pub range_filled : (a b c : ℕ) → filled (letters ": bytes # to # of #") (a ∷ b ∷ c ∷ []) ≡ letters ": bytes " ++ decimal_text a ++ letters " to " ++ decimal_text b ++ letters " of " ++ decimal_text c
unfolding letters filled letter_text taken pick
range_filled a b c = simp (append_assoc, append-nil) refl
