-- No size counts as 0.
use Rattle.std.proofs.Common.{ℕ, ◌≡◌, refl}
use Rattle.std.specs.Prelude.{Option, None, Some, unwrap_or}
use Rattle.protocol.specs.Command.{total_number}

pub none_is_0 : (o : Option ℕ) → unwrap_or o 0 ≡ total_number o
none_is_0 None = refl
none_is_0 (Some n) = refl
