-- A request that passed its tests, on a table in any form.
use Rattle.std.specs.Prelude.{ℕ, ◌≡◌, ◌<◌, List, Option, IfSome}
use Rattle.protocol.specs.declared.SdoClientInfo.{SdoClientInfo}
use Rattle.protocol.specs.declared.Connection.{Connection}
use Rattle.protocol.specs.ConnectionTable.{place_of}
use Rattle.protocol.specs.Calls.{accept, verdict}
use Rattle.protocol.specs.Request.{request_tests}
use Rattle.row.specs.Row.{place_in}
use Rattle.table.specs.Row.{unused_place}

-- the request passed all tests, and the places are the client's and the first unused one's
abbrev pub Admitted : SdoClientInfo → Option ℕ → Option ℕ → ℕ → List ℕ → List ℕ → List ℕ → List Connection → List ℕ → Type 0
Admitted client place free clock request image answer row area =
    (verdict (request_tests client clock request image answer row area) ≡ accept) × (place_in place ≡ place_of client row) × IfSome place (λ i. i < 8) × (place_in free ≡ unused_place row)
