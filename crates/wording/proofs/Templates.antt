-- A template, filled, is the text that its definition has.
use Rattle.std.proofs.Common.{ℕ, ◌/◌, ◌%◌, ◌^◌, ◌≡◌, refl, [], ◌∷◌, append_assoc, append-nil}
use Rattle.picks.specs.Pick.{pick}
use Rattle.show.specs.Text.{letters}
use Rattle.show.proofs.Numbers.{last_byte}
use Rattle.template.specs.Filled.{letter_text, taken, filled}
use Rattle.wording.specs.Words.{mac_text, dashed}

pub mac_filled : (mac : ℕ)
    → filled (letters "@-@-@-@-@-@") (mac / 256 ^ 5 % 256 ∷ mac / 256 ^ 4 % 256 ∷ mac / 256 ^ 3 % 256 ∷ mac / 256 ^ 2 % 256 ∷ mac / 256 % 256 ∷ mac % 256 ∷ []) ≡ mac_text mac
unfolding letters filled letter_text taken pick mac_text dashed
mac_filled mac =
    rw (last_byte (mac / 256 ^ 5), last_byte (mac / 256 ^ 4), last_byte (mac / 256 ^ 3), last_byte (mac / 256 ^ 2), last_byte (mac / 256), last_byte mac) (simp (append_assoc, append-nil) refl)
