-- What an answered request and a tick that answers leave, from the row and the record before it is stored.
use Rattle.std.specs.Prelude.{ℕ, ◌+◌, ◌*◌, Bool, List, length, set, leb}
use Rattle.picks.specs.Pick.{pick}
use Rattle.octets.specs.Octets.{splice}
use Rattle.protocol.specs.declared.SdoClientInfo.{SdoClientInfo}
use Rattle.protocol.specs.declared.Connection.{Connection}
use Rattle.protocol.specs.Constants.{SHARE}
use Rattle.protocol.specs.Coding.{Answer, refused, value, refusal_number}
use Rattle.protocol.specs.ConnectionRecord.{Reply, Served, serve}
use Rattle.protocol.specs.ConnectionTable.{release, share_of}
use Rattle.protocol.specs.Calls.{Verdict, refuse, accept, verdict, To, Called, frame}
use Rattle.protocol.specs.Tick.{Told, somebody, tick_tests, tick_at}
use Rattle.connection.specs.Among.{is_gone}

-- a record served on its own part of an area, which may not hold it
abbrev pub holds_share : Connection → List ℕ → Bool
holds_share c area = leb (SHARE * c.area + SHARE) (length area)

abbrev pub served_on : Connection → List ℕ → List ℕ → ℕ → List ℕ → Served
served_on c area image clock request =
    pick (holds_share c area) (serve c (share_of area c.area) image clock request) (record { connection = c; share = share_of area c.area; image = image; said = refused 1 })

-- a tick's answer goes to the client of the due record
abbrev pub told_to : Answer To → Answer Told
told_to (refused n) = refused n
told_to (value x) = value (somebody x)

abbrev pub ticked_call : SdoClientInfo → List Connection → ℕ → Connection → Reply → List ℕ → List ℕ → List ℕ → Called Told
ticked_call client row place next reply answer area image = record { returned = value (somebody (record { client = client; size = length (frame reply) })); answer = splice 0 (frame reply) answer; table = release is_gone (set row place next); area = area; image = image }

-- a tick that looks at the record at a given place: `tick_of` where that is the first due one's
abbrev pub on_tick_at : ℕ → ℕ → List ℕ → List ℕ → List Connection → List ℕ → Verdict → Called Told
on_tick_at i clock image answer table area (refuse x) = record { returned = refused (refusal_number x); answer = answer; table = table; area = area; image = image }
on_tick_at i clock image answer table area accept = tick_at clock image answer table area i

unfoldable pub tick_at_of : ℕ → ℕ → List ℕ → List ℕ → List Connection → List ℕ → Called Told
tick_at_of i clock image answer table area = on_tick_at i clock image answer table area (verdict (tick_tests clock image answer table area))
