-- Document 01, the table of refusals: what is common to request, tick and deadline query.
use Rattle.std.specs.Prelude.{ℕ, Bool, ◌||◌, not, List, [], ◌∷◌, ◌++◌, length, ltb, eqb, Result, Ok, Err, ⊤}
use Rattle.picks.specs.Pick.{pick}
use Rattle.octets.specs.Octets.{splice}
use Rattle.protocol.specs.declared.Refusal.{Refusal}
use Rattle.protocol.specs.declared.SdoClientInfo.{SdoClientInfo}
use Rattle.protocol.specs.declared.Connection.{Connection}
use Rattle.protocol.specs.Constants.{ANSWER_MIN, AREA, RECORDS}
use Rattle.protocol.specs.Coding.{Answer, refused, value}
use Rattle.protocol.specs.SequenceHeader.{encode_header}
use Rattle.protocol.specs.Command.{flag_places, encode_command}
use Rattle.protocol.specs.ConnectionRecord.{Reply}

-- "The lowest number is returned": the first of an ordered list of tests that holds
pub record Test : Type 0 where
  pub holds : Bool
  pub refusal : Refusal

pub data Verdict : Type 0 where
  refuse : Refusal → Verdict
  accept : Verdict

-- the values of the code's answer
abbrev pub told_checked : Result ⊤ Refusal → Verdict
told_checked (Err x) = refuse x
told_checked (Ok u) = accept

unfoldable pub verdict : List Test → Verdict
verdict [] = accept
verdict (t ∷ ts) = pick t.holds (refuse t.refusal) (verdict ts)

-- 1: "answer buffer under 1,468, area not 65,536, table not 8"; 2: "image not sound"; 3: "table not sound"; 4: "clock above 2^63 − 1"
abbrev pub lent_wrong : List Connection → List ℕ → List ℕ → Bool
lent_wrong table area answer =
    ltb (length answer) ANSWER_MIN || not (eqb (length area) AREA) || not (eqb (length table) RECORDS)

abbrev pub test : Bool → Refusal → Test
test b r = record { holds = b; refusal = r }

-- a client and the length of the answer to it
pub record To : Type 0 where
  pub client : SdoClientInfo
  pub size : ℕ

-- what a call returns, and what it leaves of all that was lent to it
pub record Called (A : Type 0) : Type 0 where
  pub returned : Answer A
  pub answer : List ℕ
  pub table : List Connection
  pub area : List ℕ
  pub image : List ℕ

-- the bytes of an answer
unfoldable pub frame : Reply → List ℕ
frame r = encode_header r.header ++ encode_command flag_places r.command

-- the answer in the lent buffer: "answer buffer under 1,468" is 1, and then it is "untouched"; "An accepted answer leaves bytes past its length as they were."
abbrev pub answer_written : Reply → List ℕ → Answer ℕ
answer_written r answer = pick (ltb (length answer) ANSWER_MIN) (refused 1) (value (length (frame r)))

abbrev pub answer_left : Reply → List ℕ → List ℕ
answer_left r answer = pick (ltb (length answer) ANSWER_MIN) answer (splice 0 (frame r) answer)

-- an answer's length, and the client that it goes to
abbrev pub addressed : SdoClientInfo → Answer ℕ → Answer To
addressed c (refused n) = refused n
addressed c (value n) = value (record { client = c; size = n })
