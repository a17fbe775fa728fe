-- What a call answers, as numbers, and what it leaves of the table's bytes.
use Rattle.std.specs.Prelude.{ℕ, Bool, ◌&&◌, List, replicate, ltb, Option, None, Some}
use Rattle.picks.specs.Pick.{pick}
use Rattle.octets.specs.Octets.{le}
use Rattle.protocol.specs.declared.Connection.{Connection}
use Rattle.protocol.specs.Coding.{Answer, refused, value}
use Rattle.protocol.specs.ConnectionTable.{fresh}
use Rattle.protocol.specs.Calls.{To}
use Rattle.protocol.specs.Tick.{Told, nobody, somebody}
use Rattle.format.specs.Format.{client_bytes, table_bytes, table_of, is_table}
use Rattle.outcomes.specs.declared.SdoAnswer.{SdoAnswer}
use Rattle.outcomes.specs.declared.SdoDeadline.{SdoDeadline}

-- outcomes: 0 answered, 1 to 9 the refusal's number, 254 a deadline, 255 nothing; length and client are 0 where the outcome is not 0; a client is its eight bytes as a number, the first the lowest
abbrev pub only : ℕ → SdoAnswer
only n = record { outcome = n; length = 0; client = 0 }

abbrev pub answers_to : To → SdoAnswer
answers_to x = record { outcome = 0; length = x.size; client = le (client_bytes x.client) }

abbrev pub request_answer : Answer To → SdoAnswer
request_answer (refused n) = only n
request_answer (value x) = answers_to x

abbrev pub tick_answer : Answer Told → SdoAnswer
tick_answer (refused n) = only n
tick_answer (value nobody) = only 255
tick_answer (value (somebody x)) = answers_to x

-- a deadline's time is 0 where the outcome is not 254
abbrev pub query_answer : Answer (Option ℕ) → SdoDeadline
query_answer (refused n) = record { outcome = n; at = 0 }
query_answer (value None) = record { outcome = 255; at = 0 }
query_answer (value (Some n)) = record { outcome = 254; at = n }

-- bytes that are no table, and those of any table for a client that is none, stand for a row that is not sound: they are refused with 3, after 1 and 2
abbrev pub no_table : List Connection
no_table = replicate 8 (fresh 0)

unfoldable pub row_of : Bool → List ℕ → List Connection
row_of known table = pick (known && is_table table) (table_of table) no_table

-- refusals 1 to 7 leave the table's bytes as they were; after any other call they are those of its records
unfoldable pub table_left : ℕ → List Connection → List ℕ → List ℕ
table_left n row table = pick (ltb 0 n && ltb n 8) table (table_bytes row)
