-- What a tick finds nothing to do for.
use Rattle.std.specs.Prelude.{ℕ, Bool, ◌&&◌, not}
use Rattle.protocol.specs.declared.Connection.{Connection}
use Rattle.protocol.specs.ConnectionTable.{is_due}
use Rattle.connection.specs.Among.{is_gone}

-- neither due at the clock nor dropped by a tick
abbrev pub is_quiet : ℕ → Connection → Bool
is_quiet clock r = not (is_due clock r) && not (is_gone r)
