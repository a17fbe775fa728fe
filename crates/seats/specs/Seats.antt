-- Where a client's record stands or belongs, and the rows that a call leaves by it; a table of eight, in which a place past the end is 8.
use Rattle.std.specs.Prelude.{ℕ, ◌&&◌, List, get_or, set, ltb, leb, Option, Some, None}
use Rattle.picks.specs.Pick.{pick}
use Rattle.protocol.specs.declared.SdoClientInfo.{SdoClientInfo}
use Rattle.protocol.specs.declared.Connection.{Connection}
use Rattle.protocol.specs.ConnectionTable.{fresh, joining, is_closed}
use Rattle.row.specs.Row.{place_in, seat_place, put_in}
use Rattle.table.specs.Row.{dropped_at}
use Rattle.seats.specs.declared.Place.{Place}
use Rattle.seats.specs.declared.Place.TheVariants.{Known, Joining}
use Rattle.seats.specs.declared.Seat.{Seat}

-- its own record, or the one that it joins with
abbrev pub seat_in : SdoClientInfo → Option ℕ → Option ℕ → List Connection → Seat
seat_in client (Some i) free row = record { place = Known i; own = get_or row i (fresh 0) }
seat_in client None free row =
    record { place = Joining (seat_place client row) (place_in free); own = joining client (get_or row (place_in free) (fresh 0)).area }

abbrev pub back_row : Place → Connection → List Connection → List Connection
back_row (Known i) next row = set row i next
back_row (Joining at free) next row = pick (leb at free && ltb free 8) (put_in at free next row) row

-- the place that a dropped record leaves: its own, or the unused one that it would have taken
abbrev pub left_at : Place → ℕ
left_at (Known i) = i
left_at (Joining at free) = free

abbrev pub settled_in : Place → Connection → List Connection → List Connection
settled_in p next row = pick (is_closed next.state) (dropped_at (left_at p) row) (back_row p next row)
