-- Demand 3 about the code: a series of its calls, each with what it returned and left, as the function's contract says.
use Rattle.std.specs.Prelude.{ℕ, ◌≡◌, List, [], ◌∷◌, ◌++◌, Option, Result}
use Prim.{Unit}
use Rattle.protocol.specs.declared.SdoClientInfo.{SdoClientInfo}
use Rattle.protocol.specs.declared.Answered.{Answered}
use Rattle.protocol.specs.declared.Called.{Called}
use Rattle.protocol.specs.declared.Refusal.{Refusal}
use Rattle.protocol.specs.Request.{told_outcome, told_requested, request_of}
use Rattle.protocol.specs.Tick.{told_ticked, told_ticked_row, tick_of}
use Rattle.protocol.specs.DeadlineQuery.{told_next_action, query_of}
use Rattle.protocol.specs.Series.{Call, request, tick, query, Server, held_by, Sent, sent_to, sent_tick}

-- a call of `handle_request`, `tick` or `next_action_time`: what it was lent, what it returned, and what it left of the answer buffer, the area and the image
pub data Turn : Type 0 where
  requested : SdoClientInfo → ℕ → List ℕ → List ℕ → List ℕ → Called Answered → List ℕ → List ℕ → List ℕ → Turn
  ticked : ℕ → List ℕ → List ℕ → Called (Option Answered) → List ℕ → Turn
  queried : Result (Option ℕ) Refusal → Turn

abbrev pub call_of : Turn → Call
call_of (requested client clock bytes image answer r answer' area' image') = request client clock bytes image answer
call_of (ticked clock image answer r answer') = tick clock image answer
call_of (queried n) = query

-- the `ensures` of the three functions; tools/code-series compares them
abbrev pub Contract : Server → Turn → Type 0
Contract s (requested client clock bytes image answer r answer' area' image') = told_requested r answer' area' image' ≡ request_of client clock bytes image answer s.table s.area
Contract s (ticked clock image answer r answer') = told_ticked_row r answer' s.area image ≡ tick_of clock image answer s.table s.area
Contract s (queried n) = told_next_action n ≡ query_of s.table

-- "Each call gets what it takes of table and area as the last left it"
abbrev pub next_of : Server → Turn → Server
next_of s (requested client clock bytes image answer r answer' area' image') = record { table = r.table; area = area' }
next_of s (ticked clock image answer r answer') = record { table = r.table; area = s.area }
next_of s (queried n) = s

abbrev pub sent_by : Turn → List Sent
sent_by (requested client clock bytes image answer r answer' area' image') = sent_to answer' (held_by bytes image) (told_outcome r.outcome)
sent_by (ticked clock image answer r answer') = sent_tick answer' (told_ticked r.outcome)
sent_by (queried n) = []

abbrev pub Ran : Server → List Turn → Type 0
Ran s [] = Unit
Ran s (t ∷ ts) = Contract s t × Ran (next_of s t) ts

-- all that the code sent, newest first, behind what was sent before it
abbrev pub sent_all : List Turn → List Sent → List Sent
sent_all [] log = log
sent_all (t ∷ ts) log = sent_all ts (sent_by t ++ log)
