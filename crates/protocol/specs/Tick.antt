-- Document 01: a tick. "Tick can return 1 to 4". It changes neither area nor image.
use Rattle.std.specs.Prelude.{ℕ, ◌&&◌, not, List, [], ◌∷◌, length, get_or, set, ltb, Option, Some, None, Result, Ok, Err}
use Rattle.octets.specs.Octets.{splice}
use Rattle.protocol.specs.declared.Refusal.TheVariants as N
use Rattle.protocol.specs.declared.Refusal.{Refusal}
use Rattle.protocol.specs.declared.Answered.{Answered}
use Rattle.protocol.specs.declared.Called as L
use Rattle.protocol.specs.declared.Connection.{Connection}
use Rattle.protocol.specs.Constants.{CLOCK_MAX}
use Rattle.protocol.specs.Coding.{Answer, refused, value, refusal_number}
use Rattle.protocol.specs.DictionaryImage.{sound_image}
use Rattle.protocol.specs.ConnectionTable.{sound_table, fresh, release, is_closed, share_of, chosen, Ticking, idle, ticks, tick_record}
use Rattle.protocol.specs.Calls.{Test, test, Verdict, refuse, accept, verdict, lent_wrong, To, Called, frame}

-- whom a tick answered
pub data Told : Type 0 where
  nobody : Told
  somebody : To → Told

module _ (clock : ℕ) (image answer : List ℕ) (table : List Connection) (area : List ℕ) where
  unfoldable pub tick_tests : List Test
  tick_tests = test (lent_wrong table area answer) N.Lent ∷ test (not (sound_image image)) N.Image ∷ test (not (sound_table table)) N.Table ∷ test (ltb CLOCK_MAX clock) N.Clock ∷ []

  -- "then drops all Closed ones"
  abbrev pub drops_closed : List Connection → List Connection
  drops_closed t = release (λ r. r.used && is_closed r.state) t

  unfoldable pub tick_told : ℕ → Connection → Ticking → Called Told
  tick_told i r idle = record { returned = value nobody; answer = answer; table = drops_closed table; area = area; image = image }
  tick_told i r (ticks r' reply) = record { returned = value (somebody (record { client = r.client; size = length (frame reply) })); answer = splice 0 (frame reply) answer; table = drops_closed (set table i r'); area = area; image = image }

  -- "Tick answers the first due client in that order"
  abbrev pub tick_at : ℕ → Called Told
  tick_at i =
      let r = get_or table i (fresh 0) in
      tick_told i r (tick_record r (share_of area r.area) image clock)

  unfoldable pub ticked : Called Told
  ticked = tick_at (chosen table clock)

  unfoldable pub on_tick_verdict : Verdict → Called Told
  on_tick_verdict (refuse x) = record { returned = refused (refusal_number x); answer = answer; table = table; area = area; image = image }
  on_tick_verdict accept = ticked

  unfoldable pub tick_of : Called Told
  tick_of = on_tick_verdict (verdict tick_tests)

-- the number and the values of each case of the code's answer
abbrev pub told_ticked : Result (Option Answered) Refusal → Answer Told
told_ticked (Err x) = refused (refusal_number x)
told_ticked (Ok None) = value nobody
told_ticked (Ok (Some a)) = value (somebody (record { client = a.client; size = a.length }))

-- what the code returns, with all that was lent to it as it is left
abbrev pub told_ticked_row : L.Called (Option Answered) → List ℕ → List ℕ → List ℕ → Called Told
told_ticked_row r answer area image = record { returned = told_ticked r.outcome; answer = answer; table = r.table; area = area; image = image }
