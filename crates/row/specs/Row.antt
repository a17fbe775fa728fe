-- Places of a row of records, and a record put at one of them.
use Rattle.std.specs.Prelude.{ℕ, suc, ◌-◌, List, ◌∷◌, ◌++◌, take, drop, ltb, Option, Some, None}
use Rattle.picks.specs.Pick.{pick, first}
use Rattle.protocol.specs.declared.SdoClientInfo.{SdoClientInfo}
use Rattle.protocol.specs.declared.Connection.{Connection}
use Rattle.connection.specs.Among.{is_behind}

-- the place that a search tells, the row's length where it tells none
abbrev pub place_in : Option ℕ → ℕ
place_in None = 8
place_in (Some i) = i

-- a place of a row of n, or past its end none
abbrev pub due_in : ℕ → ℕ → Option ℕ
due_in i n = pick (ltb i n) (Some i) None

-- where a client's record belongs: before the first that is unused, or whose client does not stand before it
unfoldable pub seat_place : SdoClientInfo → List Connection → ℕ
seat_place c t = first (is_behind c) t

-- a record put at a place, those from there up to place n moved up by one, and the one at place n lost
unfoldable pub put_in : ℕ → ℕ → Connection → List Connection → List Connection
put_in at n r t = take at t ++ (r ∷ take (n - at) (drop at t)) ++ drop (suc n) t
