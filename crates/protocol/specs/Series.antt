-- Demand 3, the series: calls, what each leaves and sends, and the value held.
use Rattle.std.specs.Prelude.{ℕ, Bool, ◌&&◌, not, List, [], ◌∷◌, ◌++◌, length, take, ltb, eqb, Result, Ok, Err}
use Rattle.std.proofs.Math.Option.{Option, none, some}
use Rattle.picks.specs.Pick.{pick}
use Rattle.protocol.specs.declared.SdoClientInfo.{SdoClientInfo}
use Rattle.protocol.specs.declared.Connection.{Connection}
use Rattle.protocol.specs.declared.Entry.{Entry}
use Rattle.protocol.specs.declared.AbortCode.{AbortCode}
use Rattle.protocol.specs.Coding.{Answer, refused, value}
use Rattle.protocol.specs.SequenceHeader.{command_part}
use Rattle.protocol.specs.Command.{Command, Decoding, decoded, undecodable, flag_places, id_byte, decode_command}
use Rattle.protocol.specs.DictionaryImage.{lookup, readable, value_of}
use Rattle.protocol.specs.TransferRecord.{index_of, sub_of}
use Rattle.protocol.specs.ConnectionTable.{empty_table}
use Rattle.protocol.specs.Calls.{To, Called}
use Rattle.protocol.specs.Request.{request_of}
use Rattle.protocol.specs.Tick.{Told, nobody, somebody, tick_of}

-- "any series of calls (requests from however many clients, ticks and deadline queries …); clocks may show anything …; each call may be lent any image, any request bytes and any answer buffer"
pub data Call : Type 0 where
  request : SdoClientInfo → ℕ → List ℕ → List ℕ → List ℕ → Call
  tick : ℕ → List ℕ → List ℕ → Call
  query : Call

-- "Each call gets what it takes of table and area as the last left it"
pub record Server : Type 0 where
  pub table : List Connection
  pub area : List ℕ

-- "starts with an empty table and any area"
abbrev pub start : List ℕ → Server
start area = record { table = empty_table; area = area }

-- "The value held is that of the entry named by the request that the Initiate answered: its body's first length bytes, in the image that call was lent."
abbrev pub held_in : List ℕ → Result Entry AbortCode → Option (List ℕ)
held_in image (Err code) = none
held_in image (Ok e) = some (value_of image e)

abbrev pub is_read : Command → Bool
is_read m = eqb (id_byte m.header.id) 2

unfoldable pub held_command : List ℕ → Command → Option (List ℕ)
held_command image m =
    pick (is_read m && not (ltb (length m.payload) 4)) (held_in image (readable (lookup image (index_of m.payload) (sub_of m.payload)))) none

abbrev pub held_decoding : List ℕ → Answer Decoding → Option (List ℕ)
held_decoding image (refused n) = none
held_decoding image (value undecodable) = none
held_decoding image (value (decoded m)) = held_command image m

abbrev pub held_by : List ℕ → List ℕ → Option (List ℕ)
held_by bytes image = held_decoding image (decode_command flag_places (command_part bytes))

-- "the answers, to their lengths, that its accepted requests and the ticks answering it gave"; beside an answer to a request stands the value held
pub record Sent : Type 0 where
  pub client : SdoClientInfo
  pub bytes : List ℕ
  pub held : Option (List ℕ)

pub record Done : Type 0 where
  pub server : Server
  pub sent : List Sent

unfoldable pub sent_to : List ℕ → Option (List ℕ) → Answer To → List Sent
sent_to answer held (refused n) = []
sent_to answer held (value to) = record { client = to.client; bytes = take to.size answer; held = held } ∷ []

unfoldable pub sent_tick : List ℕ → Answer Told → List Sent
sent_tick answer (refused n) = []
sent_tick answer (value nobody) = []
sent_tick answer (value (somebody to)) = record { client = to.client; bytes = take to.size answer; held = none } ∷ []

abbrev pub request_done : Option (List ℕ) → Called To → Done
request_done held c = record { server = record { table = c.table; area = c.area }; sent = sent_to c.answer held c.returned }

abbrev pub tick_done : Called Told → Done
tick_done c = record { server = record { table = c.table; area = c.area }; sent = sent_tick c.answer c.returned }

unfoldable pub step : Server → Call → Done
step s (request client clock bytes image answer) = request_done (held_by bytes image) (request_of client clock bytes image answer s.table s.area)
step s (tick clock image answer) = tick_done (tick_of clock image answer s.table s.area)
step s query = record { server = s; sent = [] }

-- all that a series sent, newest first, behind what was sent before it
unfoldable pub run : Server → List Call → List Sent → List Sent
run s [] log = log
run s (x ∷ xs) log = let d = step s x in run d.server xs (d.sent ++ log)
