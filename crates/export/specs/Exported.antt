-- The three calls on bytes and numbers, through the records' bytes (crate `record`) and the calls on records (`request_of`, `tick_of`, `query_of`).
use Rattle.std.specs.Prelude.{ℕ, true, List, length, eqb}
use Rattle.picks.specs.Pick.{pick}
use Rattle.octets.specs.Octets.{le_bytes}
use Rattle.protocol.specs.Coding.{Answer, refused}
use Rattle.protocol.specs.Calls.{To, Called}
use Rattle.protocol.specs.Request.{request_of}
use Rattle.protocol.specs.Tick.{Told, tick_of}
use Rattle.protocol.specs.DeadlineQuery.{query_of}
use Rattle.format.specs.Format.{client_of, is_client}
use Rattle.outcomes.specs.declared.SdoAnswer.{SdoAnswer}
use Rattle.outcomes.specs.declared.SdoDeadline.{SdoDeadline}
use Rattle.outcomes.specs.Outcomes.{only, request_answer, tick_answer, query_answer, row_of, table_left}

-- what a call returns, and what it leaves of all that was lent to it
pub record Left : Type 0 where
  pub returned : SdoAnswer
  pub table : List ℕ
  pub area : List ℕ
  pub image : List ℕ
  pub answer : List ℕ

abbrev pub left : SdoAnswer → List ℕ → List ℕ → List ℕ → List ℕ → Left
left r table area image answer = record { returned = r; table = table; area = area; image = image; answer = answer }

abbrev pub left_by : {A : Type 0} → (Answer A → SdoAnswer) → List ℕ → Called A → Left
left_by f table c = left (f c.returned) (table_left (f c.returned).outcome c.table table) c.area c.image c.answer

-- a request; a table of another length than 320 is refused with 1
module _ (client clock : ℕ) (request image answer table area : List ℕ) where
  abbrev pub request_through : Called To
  request_through = request_of (client_of (le_bytes 8 client)) clock request image answer (row_of (is_client (le_bytes 8 client)) table) area

  unfoldable pub request_bytes : Left
  request_bytes = pick (eqb (length table) 320) (left_by request_answer table request_through) (left (only 1) table area image answer)

-- a tick
module _ (clock : ℕ) (image answer table area : List ℕ) where
  abbrev pub tick_through : Called Told
  tick_through = tick_of clock image answer (row_of true table) area

  unfoldable pub tick_bytes : Left
  tick_bytes = pick (eqb (length table) 320) (left_by tick_answer table tick_through) (left (only 1) table area image answer)

-- the deadline query
unfoldable pub query_bytes : List ℕ → SdoDeadline
query_bytes table = pick (eqb (length table) 320) (query_answer (query_of (row_of true table))) (query_answer (refused 1))
