-- What a call says, of whatever kind it is, and the transcript's code of it.
use Rattle.std.specs.Prelude.{ℕ, Option, None, Some, Ok, Err}
use Rattle.protocol.specs.declared.Answered.{Answered}
use Rattle.protocol.specs.Coding.{Answer, refused, value}
use Rattle.protocol.specs.Calls.{To}
use Rattle.protocol.specs.Request.{told_outcome}
use Rattle.protocol.specs.Tick as T
use Rattle.protocol.specs.DeadlineQuery.{told_next_action}
use Rattle.script.specs.declared.told.Told.{Told}
use Rattle.script.specs.declared.told.Told.TheVariants.{Request, Tick, Query}

-- what each kind of call returns, in document 01's terms
pub data Said : Type 0 where
  request : Answer To → Said
  tick : Answer T.Told → Said
  query : Answer (Option ℕ) → Said

abbrev pub said : Told → Said
said (Request o) = request (told_outcome o)
said (Tick o) = tick (T.told_ticked o)
said (Query o) = query (told_next_action o)

-- "0 an answer; 1 to 9 the refusal; 254 a deadline; 255 nothing: nobody answered by a tick, no deadline"
abbrev pub code_of : Said → ℕ
code_of (request (refused n)) = n
code_of (request (value x)) = 0
code_of (tick (refused n)) = n
code_of (tick (value T.nobody)) = 255
code_of (tick (value (T.somebody x))) = 0
code_of (query (refused n)) = n
code_of (query (value None)) = 255
code_of (query (value (Some n))) = 254

-- the answer, where there is one
abbrev pub answer_of : Told → Option Answered
answer_of (Request (Ok a)) = Some a
answer_of (Request (Err x)) = None
answer_of (Tick (Ok a)) = a
answer_of (Tick (Err x)) = None
answer_of (Query o) = None
