-- What the functions over lent records say of them.
use Rattle.std.specs.Prelude.{ℕ, List, Option, Some, None}
use Rattle.picks.specs.Pick.{pick}
use Rattle.protocol.specs.declared.Connection.{Connection}
use Rattle.protocol.specs.Coding.{Answer}
use Rattle.protocol.specs.ConnectionTable.{is_due}
use Rattle.protocol.specs.Calls.{Called}

-- what a call with a lent table returns, and what it leaves of all that was lent to it
abbrev pub called : {A : Type 0} → Answer A → List ℕ → List Connection → List ℕ → List ℕ → Called A
called r answer table area image = record { returned = r; answer = answer; table = table; area = area; image = image }

-- the best so far, or else the record at place i where it is due
abbrev pub better_of : Option ℕ → Connection → ℕ → ℕ → Option ℕ
better_of None c i clock = pick (is_due clock c) (Some i) None
better_of (Some j) c i clock = Some j
