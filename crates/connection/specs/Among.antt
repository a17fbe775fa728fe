-- One record among those of a row, as the code asks.
use Rattle.std.specs.Prelude.{Bool, ◌&&◌, ◌||◌, not}
use Rattle.picks.specs.Pick.{pick}
use Rattle.protocol.specs.declared.SdoClientInfo.{SdoClientInfo}
use Rattle.protocol.specs.declared.Connection.{Connection}
use Rattle.protocol.specs.ConnectionTable.{before, is_closed, is_fresh}

-- a record may stand next behind another: `ordered` two by two
abbrev pub follows : Connection → Connection → Bool
follows x y = pick x.used (not y.used || before x.client y.client) (is_fresh x && not y.used)

-- a record that a tick drops
abbrev pub is_gone : Connection → Bool
is_gone r = r.used && is_closed r.state

-- a client's record belongs before this one: it is unused, or its client does not stand before that client
abbrev pub is_behind : SdoClientInfo → Connection → Bool
is_behind c r = not (r.used && before r.client c)
