-- A number that no refusal has: 0, and those past the last.
use Rattle.std.proofs.Common.{ℕ, zero, suc, ◌<◌, ◌≤◌, ◌≡◌, refl, [], arith}
use Rattle.show.specs.Text.{letters, entry}
use Rattle.show.proofs.Texts.{entry_past}
use Rattle.wording.specs.Words.{refusals}

pub none_past : (n : ℕ) → (0 < n → 10 ≤ n) → entry n refusals ≡ []
unfolding letters entry
none_past zero h = refl
none_past (suc n) h = entry_past (suc n) refusals (h (omega arith))
