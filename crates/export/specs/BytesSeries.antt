-- Demand 3 about the calls that C makes: a series of them, each with what it returned and left, as the function's contract says.
use Rattle.std.specs.Prelude.{ℕ, ◌≡◌, List, [], ◌∷◌, ◌++◌, take, eqb}
use Prim.{Unit}
use Rattle.std.proofs.Math.Option.{Option, none}
use Rattle.picks.specs.Pick.{pick}
use Rattle.octets.specs.Octets.{AllBytes, le_bytes}
use Rattle.protocol.specs.ConnectionTable.{empty_table}
use Rattle.protocol.specs.Series.{held_by, Sent}
use Rattle.format.specs.Format.{client_of, table_bytes}
use Rattle.outcomes.specs.declared.SdoAnswer.{SdoAnswer}
use Rattle.outcomes.specs.declared.SdoDeadline.{SdoDeadline}
use Rattle.export.specs.Exported.{left, request_bytes, tick_bytes, query_bytes}

-- a call of `sdo_handle_request`, `sdo_tick` or `sdo_next_action_time`: what it was lent beside table and area, what it returned, and what it left of all that it could write to
pub data Turn : Type 0 where
  requested : ℕ → ℕ → List ℕ → List ℕ → List ℕ → SdoAnswer → List ℕ → List ℕ → List ℕ → List ℕ → Turn
  ticked : ℕ → List ℕ → List ℕ → SdoAnswer → List ℕ → List ℕ → Turn
  queried : SdoDeadline → Turn

-- the bytes that the caller keeps from call to call
pub record Kept : Type 0 where
  pub table : List ℕ
  pub area : List ℕ

-- "starts with an empty table and any area"
abbrev pub start_bytes : List ℕ → Kept
start_bytes area = record { table = table_bytes empty_table; area = area }

-- the `ensures` of the three functions; tools/code-series compares them
abbrev pub Contract : Kept → Turn → Type 0
Contract s (requested client clock bytes image answer r table' area' image' answer') = left r table' area' image' answer' ≡ request_bytes client clock bytes image answer s.table s.area
Contract s (ticked clock image answer r table' answer') = left r table' s.area image answer' ≡ tick_bytes clock image answer s.table s.area
Contract s (queried r) = r ≡ query_bytes s.table

-- request and image are bytes: the functions' types say so, and the contracts speak of lists of numbers
abbrev pub LentBytes : Turn → Type 0
LentBytes (requested client clock bytes image answer r table' area' image' answer') = AllBytes bytes × AllBytes image
LentBytes (ticked clock image answer r table' answer') = AllBytes image
LentBytes (queried r) = Unit

-- "Each call gets what it takes of table and area as the last left it"
abbrev pub next_of : Kept → Turn → Kept
next_of s (requested client clock bytes image answer r table' area' image' answer') = record { table = table'; area = area' }
next_of s (ticked clock image answer r table' answer') = record { table = table'; area = s.area }
next_of s (queried r) = s

-- a series: each call was lent bytes and kept its contract
abbrev pub Ran : Kept → List Turn → Type 0
Ran s [] = Unit
Ran s (t ∷ ts) = LentBytes t × Contract s t × Ran (next_of s t) ts

-- at outcome 0 the answer buffer's first `length` bytes go to the client whose bytes are those of the number `client`; at any other nothing is sent
abbrev pub sent_as : SdoAnswer → List ℕ → Option (List ℕ) → List Sent
sent_as r answer held = pick (eqb r.outcome 0) (record { client = client_of (le_bytes 8 r.client); bytes = take r.length answer; held = held } ∷ []) []

-- beside an answer to a request stands the value held, in the image that the call was lent
abbrev pub sent_by : Turn → List Sent
sent_by (requested client clock bytes image answer r table' area' image' answer') = sent_as r answer' (held_by bytes image)
sent_by (ticked clock image answer r table' answer') = sent_as r answer' none
sent_by (queried r) = []

-- all that a series sent, newest first, behind what was sent before it
abbrev pub sent_all : List Turn → List Sent → List Sent
sent_all [] log = log
sent_all (t ∷ ts) log = sent_all ts (sent_by t ++ log)
