-- The readings of the clients that read at one time.
use Rattle.std.specs.Prelude.{ℕ, Bool, not, ◌&&◌, Option, Some, None, List, position, get_or, set, replicate, ltb}
use Rattle.picks.specs.Pick.{pick}
use Rattle.protocol.specs.declared.SdoClientInfo.{SdoClientInfo}
use Rattle.protocol.specs.ConnectionTable.{same_client}
use Rattle.reading.specs.declared.Reading.{Reading}
use Rattle.reading.specs.Reading.{nobody}

abbrev pub is_own : SdoClientInfo → Reading → Bool
is_own client r = r.running && same_client r.client client

abbrev pub is_free : Reading → Bool
is_free r = not r.running

-- a client's own place, or a free one, also where the number is no place of the row
abbrev pub place_for : List Reading → Option ℕ → Option ℕ
place_for rows None = position is_free rows
place_for rows (Some own) = pick (ltb own 8) (Some own) (position is_free rows)

-- the reading at a place: without one, that of nobody
abbrev pub reading_at : List Reading → Option ℕ → Reading
reading_at rows None = nobody
reading_at rows (Some i) = get_or rows i nobody

-- the row with another reading at a place; without one it stays
abbrev pub with_reading : List Reading → Option ℕ → Reading → List Reading
with_reading rows None r = rows
with_reading rows (Some i) r = set rows i r

abbrev pub no_readings : List Reading
no_readings = replicate 8 nobody
