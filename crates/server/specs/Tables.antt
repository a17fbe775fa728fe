-- What a request returns and leaves with the table in any form: a table that is made of the records, or the one that it was.
use Rattle.std.specs.Prelude.{ℕ, ◌&&◌, List, ltb}
use Rattle.picks.specs.Pick.{pick}
use Rattle.protocol.specs.declared.Connection.{Connection}
use Rattle.protocol.specs.Coding.{Answer, refused, value}
use Rattle.protocol.specs.Calls.{To, Called}

pub record LeftIn (T : Type 0) : Type 0 where
  pub returned : Answer To
  pub answer : List ℕ
  pub table : T
  pub area : List ℕ
  pub image : List ℕ

abbrev pub left_in : {T : Type 0} → Answer To → List ℕ → T → List ℕ → List ℕ → LeftIn T
left_in r answer table area image = record { returned = r; answer = answer; table = table; area = area; image = image }

-- a refusal's number, 0 for an answer
abbrev pub number_of : Answer To → ℕ
number_of (refused n) = n
number_of (value x) = 0

-- a request that passed the tests
abbrev pub made_of : {T : Type 0} → (List Connection → T) → Called To → LeftIn T
made_of made c = left_in c.returned c.answer (made c.table) c.area c.image

-- any request: refusals 1 to 7 leave the table as it was
abbrev pub kept_or_made : {T : Type 0} → (List Connection → T) → T → Called To → LeftIn T
kept_or_made made old c =
    left_in c.returned c.answer (pick (ltb 0 (number_of c.returned) && ltb (number_of c.returned) 8) old (made c.table)) c.area c.image
