-- Document 01: the deadline query. It can return 1 (table only) and 3, and changes nothing.
use Rattle.std.specs.Prelude.{not, List, [], ◌∷◌, length, eqb, ℕ, Option, Result, Ok, Err}
use Rattle.protocol.specs.declared.Refusal.TheVariants as N
use Rattle.protocol.specs.declared.Refusal.{Refusal}
use Rattle.protocol.specs.declared.Connection.{Connection}
use Rattle.protocol.specs.Constants.{RECORDS}
use Rattle.protocol.specs.Coding.{Answer, refused, value, refusal_number}
use Rattle.protocol.specs.ConnectionTable.{sound_table, earliest}
use Rattle.protocol.specs.Calls.{Test, test, Verdict, refuse, accept, verdict}

unfoldable pub query_tests : List Connection → List Test
query_tests table = test (not (eqb (length table) RECORDS)) N.Lent ∷ test (not (sound_table table)) N.Table ∷ []

abbrev pub on_query_verdict : List Connection → Verdict → Answer (Option ℕ)
on_query_verdict table (refuse x) = refused (refusal_number x)
on_query_verdict table accept = value (earliest table)

unfoldable pub query_of : List Connection → Answer (Option ℕ)
query_of table = on_query_verdict table (verdict (query_tests table))

-- the number and the values of each case of the code's answer
abbrev pub told_next_action : Result (Option ℕ) Refusal → Answer (Option ℕ)
told_next_action (Err x) = refused (refusal_number x)
told_next_action (Ok d) = value d
