-- What a call answers, and what coding into a lent buffer leaves there.
use Rattle.std.specs.Prelude.{ℕ, List, length, ltb, Result, Ok, Err}
use Rattle.picks.specs.Pick.{pick}
use Rattle.octets.specs.Octets.{splice}
use Rattle.protocol.specs.declared.Refusal.{Refusal}
use Rattle.protocol.specs.declared.Refusal.TheVariants as N
use Rattle.protocol.specs.declared.BufferTooShort.{BufferTooShort}

-- an answer in document 01's terms: the number of a refusal, or a value
pub data Answer (A : Type 0) : Type 0 where
  refused : ℕ → Answer A
  value : A → Answer A

-- the numbers of document 01's table
abbrev pub refusal_number : Refusal → ℕ
refusal_number N.Lent = 1
refusal_number N.Image = 2
refusal_number N.Table = 3
refusal_number N.Clock = 4
refusal_number N.Short = 5
refusal_number N.Long = 6
refusal_number N.Full = 7
refusal_number N.Sequence = 8
refusal_number N.EmptyCommand = 9

-- "Coding into a short buffer returns 1, changing nothing": what is returned, and the buffer afterwards
abbrev pub written : List ℕ → List ℕ → Answer ℕ
written bytes buffer = pick (ltb (length buffer) (length bytes)) (refused 1) (value (length bytes))

abbrev pub put : List ℕ → List ℕ → List ℕ
put bytes buffer = pick (ltb (length buffer) (length bytes)) buffer (splice 0 bytes buffer)

-- the number and the value of each case of the code's answer
abbrev pub told_written : Result ℕ BufferTooShort → Answer ℕ
told_written (Ok n) = value n
told_written (Err e) = refused 1
