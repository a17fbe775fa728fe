-- An item played: oracle/REPLAY.md's table of items, with the calls as document 01 has them (`request_of`, `tick_of`, `query_of`).
use Rattle.std.specs.Prelude.{ℕ, List, [], ◌∷◌, ◌++◌, take, drop, replicate}
use Rattle.picks.specs.Pick.{pick}
use Rattle.octets.specs.Octets.{splice}
use Rattle.protocol.specs.declared.Connection.{Connection}
use Rattle.protocol.specs.Coding.{Answer}
use Rattle.protocol.specs.ConnectionTable.{fresh, empty_table}
use Rattle.protocol.specs.Calls.{Called}
use Rattle.protocol.specs.Request.{request_of}
use Rattle.protocol.specs.Tick.{tick_of}
use Rattle.protocol.specs.DeadlineQuery.{query_of}
use Rattle.format.specs.Format.{byte_at, number_at, is_client, table_of, is_table}
use Rattle.script.specs.declared.Lent.{Lent}
use Rattle.script.specs.declared.Played.{Played}
use Rattle.script.specs.declared.Done.{Done}
use Rattle.script.specs.declared.Done.TheVariants.{Unknown, Lends, Calls}
use Rattle.items.specs.Items.{by_kind, client_in, clock_in, request_in, is_image, image_in, area_bytes, are_lengths}
use Rattle.script.specs.Outcomes.{Said, request, tick, query, said}

-- "At the start the table is empty (area numbers 0 to 7 in order), the area 65,536 zeros, the image `00 00`, and the answer buffer has 1,468 bytes."
abbrev pub at_start : Lent
at_start = record { answer = 1468; area = 65536; records = 8; image = 2; table = empty_table }

-- what an item is: one that there is not, one that lends something, or a call that says something
pub data Doing : Type 0 where
  unknown_item : Doing
  lending : Doing
  call : Said → Doing

-- with what is lent after it
pub record Did : Type 0 where
  pub doing : Doing
  pub lent : Lent

abbrev pub doing : Done → Doing
doing Unknown = unknown_item
doing Lends = lending
doing (Calls t) = call (said t)

abbrev pub did : Played → Did
did p = record { doing = doing p.done; lent = p.lent }

-- what an item leaves: that, and the three buffers
pub record Left : Type 0 where
  pub played : Did
  pub area : List ℕ
  pub image : List ℕ
  pub answer : List ℕ

abbrev pub left : Did → List ℕ → List ℕ → List ℕ → Left
left r area image answer = record { played = r; area = area; image = image; answer = answer }

-- an item that lends something; an item that there is not, which leaves all as it was
abbrev pub lends : Lent → Did
lends l = record { doing = lending; lent = l }

abbrev pub unknown : Lent → Did
unknown l = record { doing = unknown_item; lent = l }

-- a call, with the table that it leaves
abbrev pub with_table : Lent → List Connection → Lent
with_table l table = record l { table = table }

abbrev pub calls : Said → Lent → List Connection → Did
calls s l table = record { doing = call s; lent = with_table l table }

-- items 4 to 7 "hold from there on"
unfoldable pub image_lent : List ℕ → Lent → Did
image_lent item l =
    pick (is_image item)
    (lends (record l { image = number_at 4 1 item }))
    (unknown l)

unfoldable pub image_stored : List ℕ → List ℕ → List ℕ
image_stored item image = pick (is_image item) (splice 0 (image_in item) image) image

-- "5 table: eight records"
unfoldable pub table_lent : List ℕ → Lent → Did
table_lent item l = pick (is_table (drop 1 item)) (lends (with_table l (table_of (drop 1 item)))) (unknown l)

unfoldable pub filled : ℕ → List ℕ → List ℕ
filled b area = area_bytes b 65536 ++ drop 65536 area

-- "how much of each is lent"
unfoldable pub lengths_lent : List ℕ → Lent → Did
lengths_lent item l =
    pick (are_lengths item)
    (lends (record l { answer = number_at 4 1 item; area = number_at 4 5 item; records = byte_at 9 item }))
    (unknown l)

-- "What is lent beyond the area's and the table's own length is zeros and fresh records, and is not looked at afterwards."
unfoldable pub lent_area : List ℕ → List ℕ
lent_area area = take 65536 area ++ replicate 64 0

unfoldable pub lent_table : Lent → List Connection
lent_table l = take l.records (l.table ++ (fresh 0 ∷ []))

unfoldable pub table_left : Lent → List Connection → List Connection
table_left l table = take 8 (table ++ drop l.records l.table)

-- "the answer buffer being all A5 hex before it"
unfoldable pub blank : List ℕ
blank = replicate 1600 165

-- a call on what is lent of each buffer; the rest of it stays
abbrev pub left_by : {A : Type 0} → (Answer A → Said) → Lent → List ℕ → List ℕ → List ℕ → Called A → Left
left_by f l area image answer c =
    left (calls (f c.returned) l (table_left l c.table)) (c.area ++ drop l.area area) (c.image ++ drop l.image image) (c.answer ++ drop l.answer answer)

unfoldable pub request_on : List ℕ → Lent → List ℕ → List ℕ → List ℕ → Left
request_on item l area image answer =
    left_by request l area image answer (request_of (client_in item) (clock_in item) (request_in item) (take l.image image) (take l.answer answer) (lent_table l) (take l.area area))

unfoldable pub tick_on : List ℕ → Lent → List ℕ → List ℕ → List ℕ → Left
tick_on item l area image answer =
    left_by tick l area image answer (tick_of (clock_in item) (take l.image image) (take l.answer answer) (lent_table l) (take l.area area))

-- the deadline query changes nothing
unfoldable pub query_on : Lent → Did
query_on l = calls (query (query_of (lent_table l))) l l.table

-- an item whose client has a kind that there is not is none
unfoldable pub request_played : List ℕ → Lent → List ℕ → List ℕ → List ℕ → Left
request_played item l area image answer =
    pick (is_client (drop 1 item)) (request_on item l (lent_area area) image blank) (left (unknown l) area image answer)

-- "Items 1 to 3 are calls; 4 to 7 hold from there on."
unfoldable pub play_of : List ℕ → Lent → List ℕ → List ℕ → List ℕ → Left
play_of item l area image answer =
    by_kind (byte_at 0 item)
    (request_played item l area image answer)
    (tick_on item l (lent_area area) image blank)
    (left (query_on l) (lent_area area) image blank)
    (left (image_lent item l) area (image_stored item image) answer)
    (left (table_lent item l) area image answer)
    (left (lends l) (filled (byte_at 1 item) area) image answer)
    (left (lengths_lent item l) area image answer)
    (left (unknown l) area image answer)
