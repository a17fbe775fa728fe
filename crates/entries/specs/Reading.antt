-- An entry in its twelve bytes: `entry_at` from the place on where it stands.
use Rattle.std.specs.Prelude.{ℕ, List, get_or, take, drop}
use Rattle.octets.specs.Octets.{le}
use Rattle.protocol.specs.declared.Entry.{Entry}

abbrev pub entry_in : ℕ → List ℕ → Entry
entry_in place b = record { place = place; index = le (take 2 b); sub = get_or b 2 0; flags = get_or b 3 0; body = le (take 4 (drop 4 b)); capacity = le (take 2 (drop 8 b)); length = le (take 2 (drop 10 b)) }
