-- A table of another length than eight is refused with 1 by each definition, and all is left.
use Prim.Native.Nat.{ℕ}
use mathlib.Core.Bool.{Bool, true, false, not, ◌||◌}
use mathlib.Core.Path.{◌≡◌, refl}
use mathlib.Core.List.{List}
use lib.ListN.{length}
use lib.Dec.{ltb, eqb}
use Rattle.picks.specs.Pick.{pick}
use Rattle.protocol.specs.declared.SdoClientInfo.{SdoClientInfo}
use Rattle.protocol.specs.declared.Connection.{Connection}
use Rattle.protocol.specs.Constants.{ANSWER_MIN, AREA, RECORDS}
use Rattle.protocol.specs.Coding.{refused}
use Rattle.protocol.specs.Calls.{lent_wrong, verdict}
use Rattle.protocol.specs.Request.{request_tests, on_verdict, request_of}
use Rattle.protocol.specs.Tick.{tick_tests, on_tick_verdict, tick_of}
use Rattle.protocol.specs.DeadlineQuery.{query_tests, query_of}
use Rattle.lent.specs.Lent.{called}

wrong : (a b c : Bool) → c ≡ false → (a || not b || not c) ≡ true
wrong true b c e = refl
wrong false true c e = rw e refl
wrong false false c e = refl

lent_wrong_lem : (table : List Connection) (area answer : List ℕ) → eqb (length table) 8 ≡ false → lent_wrong table area answer ≡ true
unfolding RECORDS
lent_wrong_lem table area answer e = wrong (ltb (length answer) ANSWER_MIN) (eqb (length area) AREA) (eqb (length table) 8) e

pub request_refused : (client : SdoClientInfo) (clock : ℕ) (request image answer : List ℕ) (table : List Connection) (area : List ℕ) → eqb (length table) 8 ≡ false → called (refused 1) answer table area image ≡ request_of client clock request image answer table area
unfolding request_of request_tests verdict on_verdict pick
request_refused client clock request image answer table area e = rw (lent_wrong_lem table area answer e) refl

pub tick_refused : (clock : ℕ) (image answer : List ℕ) (table : List Connection) (area : List ℕ) → eqb (length table) 8 ≡ false → called (refused 1) answer table area image ≡ tick_of clock image answer table area
unfolding tick_of tick_tests verdict on_tick_verdict pick
tick_refused clock image answer table area e = rw (lent_wrong_lem table area answer e) refl

pub query_refused : (table : List Connection) → eqb (length table) 8 ≡ false → refused 1 ≡ query_of table
unfolding query_of query_tests verdict pick RECORDS
query_refused table e = rw e refl
