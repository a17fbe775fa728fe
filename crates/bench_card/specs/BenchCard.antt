-- Document 01, 'Bench card': the rows marked P as one table, and one test of a row.
use Rattle.std.specs.Prelude.{ℕ, zero, suc, ◌+◌, ◌*◌, ◌/◌, ◌%◌, Bool, true, false, ◌&&◌, List, [], ◌∷◌, ◌++◌, length, get_or, take, drop, replicate, eqb, Some}
use Rattle.picks.specs.Pick.{pick, count}
use Rattle.octets.specs.Octets.{le_bytes}
use Rattle.protocol.specs.declared.ReceiveConnState.TheVariants as R
use Rattle.protocol.specs.declared.SendConnState.TheVariants as S
use Rattle.protocol.specs.declared.SequenceLayerHeader.{SequenceLayerHeader}
use Rattle.protocol.specs.declared.SdoClientInfo.{SdoClientInfo}
use Rattle.protocol.specs.declared.SdoClientInfo.TheVariants.{Asnd}
use Rattle.protocol.specs.declared.SdoServerState.{SdoServerState}
use Rattle.protocol.specs.declared.SdoServerState.TheVariants.{Closed, Opening, Established, SegmentedDownload, SegmentedUpload}
use Rattle.protocol.specs.declared.Connection.{Connection}
use Rattle.protocol.specs.Constants.{AREA, ANSWER_MIN}
use Rattle.protocol.specs.Coding.{Answer, refused, value}
use Rattle.protocol.specs.SequenceHeader.{encode_header, next}
use Rattle.protocol.specs.ConnectionTable.{fresh, empty_table, is_used, join, update}
use Rattle.protocol.specs.Calls.{To, Called}
use Rattle.protocol.specs.Request.{request_of}
use Rattle.protocol.specs.Tick.{Told, nobody, somebody, tick_of}

-- two lists of numbers are the same
unfoldable pub same : List ℕ → List ℕ → Bool
same [] [] = true
same [] (y ∷ ys) = false
same (x ∷ xs) [] = false
same (x ∷ xs) (y ∷ ys) = eqb x y && same xs ys

-- the server between calls, and a call on it: a request's bytes, or a tick at a clock
pub record Bench : Type 0 where
  pub table : List Connection
  pub area : List ℕ
  pub image : List ℕ

pub data Turn : Type 0 where
  asks : List ℕ → Turn
  ticks_at : ℕ → Turn

abbrev pub client : SdoClientInfo
client = Asnd 1 0x010203040506

-- the answer's bytes; none where there is no answer
unfoldable pub sent_by : Answer To → List ℕ → List ℕ
sent_by (refused n) buffer = []
sent_by (value to) buffer = take to.size buffer

unfoldable pub tick_sent_by : Answer Told → List ℕ → List ℕ
tick_sent_by (refused n) buffer = []
tick_sent_by (value nobody) buffer = []
tick_sent_by (value (somebody to)) buffer = take to.size buffer

pub record Played : Type 0 where
  pub sent : List ℕ
  pub bench : Bench

abbrev pub requested : Called To → Played
requested c = record { sent = sent_by c.returned c.answer; bench = record { table = c.table; area = c.area; image = c.image } }

abbrev pub ticked_off : Called Told → Played
ticked_off c = record { sent = tick_sent_by c.returned c.answer; bench = record { table = c.table; area = c.area; image = c.image } }

unfoldable pub play : Bench → Turn → Played
play b (asks q) = requested (request_of client 0 q b.image (replicate ANSWER_MIN 0) b.table b.area)
play b (ticks_at k) = ticked_off (tick_of k b.image (replicate ANSWER_MIN 0) b.table b.area)

-- what is looked at after a call: the answer, how many records are used, the state of the first, and the image
abbrev pub state_number : SdoServerState → ℕ
state_number Closed = 0
state_number Opening = 1
state_number Established = 2
state_number (SegmentedUpload t) = 3
state_number (SegmentedDownload t) = 4

pub record Seen : Type 0 where
  pub sent : List ℕ
  pub used : ℕ
  pub state : ℕ
  pub image : List ℕ

abbrev pub matches : Seen → Played → Bool
matches s p =
    same p.sent s.sent && eqb (count is_used p.bench.table) s.used && eqb (state_number (get_or p.bench.table 0 (fresh 0)).state) s.state && same p.bench.image s.image

-- a turn and what is seen of it, one after another
pub data Script : Type 0 where
  ends : Script
  turn : Turn → Seen → Script → Script

unfoldable pub plays : Bench → Script → Bool
plays b ends = true
plays b (turn t s more) = let p = play b t in matches s p && plays p.bench more

-- a read of a value: the pieces that are answered, by segmentation and length, to a read and to acknowledgements in turn; `rest` is what is still to be sent
pub record Piece : Type 0 where
  pub kind : ℕ
  pub size : ℕ

abbrev pub acknowledgement : ℕ → List ℕ
acknowledgement n = ((n + 1) * 4 + 2) ∷ ((n + 2) * 4 + 2) ∷ 0 ∷ 0 ∷ []

unfoldable pub uploads : Bench → ℕ → List ℕ → List Piece → List ℕ → Bool
uploads b n q [] rest = eqb (length rest) 0 && eqb (count is_used b.table) 0
uploads b n q (x ∷ xs) rest =
    let p = play b (asks q) in
    let command = drop 4 p.sent in
    let payload = drop (pick (eqb x.kind 1) 12 8) command in
    eqb (get_or command 2 0 / 64) x.kind && eqb (length payload) x.size && same payload (take x.size rest) && uploads p.bench (n + 1) (acknowledgement n) xs (drop x.size rest)

-- an image of one object, 2001/1, that is not variable
abbrev pub object : List ℕ → List ℕ
object bytes = 1 ∷ 0 ∷ 0x01 ∷ 0x20 ∷ 1 ∷ 0 ∷ le_bytes 4 14 ++ le_bytes 2 (length bytes) ++ le_bytes 2 (length bytes) ++ bytes

unfoldable pub value_from : ℕ → ℕ → List ℕ
value_from i zero = []
value_from i (suc n) = i * 31 % 256 ∷ value_from (i + 1) n

abbrev pub no_object : List ℕ
no_object = 0 ∷ 0 ∷ []

unfoldable pub on_empty : List ℕ → Bench
on_empty image = record { table = empty_table; area = replicate AREA 0; image = image }

unfoldable pub in_state : List ℕ → ℕ → ℕ → SdoServerState → List ℕ → Bench
in_state image send receive s bytes = record { table = update client (record { used = true; client = client; area = 0; send = send; receive = receive; state = s }) (join client empty_table); area = bytes ++ drop (length bytes) (replicate AREA 0); image = image }

-- the rows
pub data Row : Type 0 where
  header : SequenceLayerHeader → List ℕ → Row
  follows : ℕ → ℕ → Row
  script : Bench → Script → Row
  upload : ℕ → List Piece → Row

abbrev pub handshake : List ℕ
handshake = 0x00 ∷ 0x01 ∷ 0x00 ∷ 0x00 ∷ []

abbrev pub opened : List ℕ → Seen
opened image = record { sent = 0x01 ∷ 0x01 ∷ 0x00 ∷ 0x00 ∷ 0x00 ∷ 0x00 ∷ 0x10 ∷ 0x00 ∷ 0x00 ∷ 0x00 ∷ 0x00 ∷ 0x00 ∷ []; used = 1; state = 1; image = image }

abbrev pub read : List ℕ
read = 0x02 ∷ 0x06 ∷ 0x00 ∷ 0x00 ∷ 0x00 ∷ 0x07 ∷ 0x00 ∷ 0x02 ∷ 0x04 ∷ 0x00 ∷ 0x00 ∷ 0x00 ∷ 0x01 ∷ 0x20 ∷ 0x01 ∷ 0x00 ∷ []

abbrev pub dropped : List ℕ → List ℕ → Seen
dropped sent image = record { sent = sent; used = 0; state = 0; image = image }

unfoldable pub test : Row → Bool
test (header h bytes) = same (encode_header h) bytes
test (follows n m) = eqb (next n) m
test (script b s) = plays b s
test (upload n pieces) =
    let bytes = value_from 0 n in
    let b = (play (on_empty (object bytes)) (asks handshake)).bench in
    uploads b 0 read pieces bytes

abbrev pub piece : ℕ → ℕ → Piece
piece k n = record { kind = k; size = n }

abbrev pub abort_from : ℕ → ℕ → ℕ → ℕ → List ℕ
abort_from receive send transaction code =
    receive ∷ send ∷ 0 ∷ 0 ∷ 0 ∷ transaction ∷ 0x30 ∷ 0 ∷ 4 ∷ 0 ∷ 0 ∷ 0 ∷ le_bytes 4 code

abbrev pub write : ℕ → List ℕ → List ℕ
write flags bytes = 0x06 ∷ 0x0A ∷ 0 ∷ 0 ∷ 0 ∷ 7 ∷ flags ∷ 1 ∷ le_bytes 2 (length bytes) ++ 0 ∷ 0 ∷ bytes

unfoldable pub downloading : Bench
downloading = in_state (object (replicate 10 0)) 1 1 (SegmentedDownload (record { transaction = 7; total = 10; offset = 6; index = 0x2001; sub = 1; deadline = Some 5; retries = 0; stored = false })) (1 ∷ 2 ∷ 3 ∷ 4 ∷ 5 ∷ 6 ∷ [])

unfoldable pub uploading : Bench
uploading = in_state no_object 5 7 (SegmentedUpload (record { transaction = 9; total = 2000; offset = 1452; index = 0x2001; sub = 1; deadline = Some 1000000; retries = 0; stored = true })) []

unfoldable pub rows : List Row
rows =
    header (record { receive = 5; rcon = R.ConnectionValid; send = 0; scon = S.ConnectionValid }) (0x16 ∷ 0x02 ∷ 0x00 ∷ 0x00 ∷ [])
    ∷ follows 63 0
    ∷ script (on_empty (object (0x34 ∷ 0x12 ∷ [])))
    (turn (asks handshake) (opened (object (0x34 ∷ 0x12 ∷ [])))
    (turn (asks read) (dropped (0x06 ∷ 0x06 ∷ 0x00 ∷ 0x00 ∷ 0x00 ∷ 0x07 ∷ 0x10 ∷ 0x00 ∷ 0x02 ∷ 0x00 ∷ 0x00 ∷ 0x00 ∷ 0x34 ∷ 0x12 ∷ []) (object (0x34 ∷ 0x12 ∷ []))) ends))
    ∷ script (on_empty no_object) (turn (asks handshake) (opened no_object) (turn (asks read) (dropped (abort_from 0xFE 0x04 7 0x06020000) no_object) ends))
    ∷ script (on_empty no_object) (turn (asks (0 ∷ 0 ∷ 0 ∷ 0 ∷ 0x05 ∷ 0x07 ∷ 0x00 ∷ [])) (dropped (abort_from 0xFC 0x00 5 0x05040001) no_object) ends)
    ∷ upload 1452 (piece 0 1452 ∷ [])
    ∷ upload 1453 (piece 1 1452 ∷ piece 3 1 ∷ [])
    ∷ upload 2904 (piece 1 1452 ∷ piece 3 1452 ∷ [])
    ∷ upload 8192 (piece 1 1452 ∷ piece 2 1452 ∷ piece 2 1452 ∷ piece 2 1452 ∷ piece 2 1452 ∷ piece 3 932 ∷ [])
    ∷ script uploading
    (turn (ticks_at 999999) (record { sent = []; used = 1; state = 3; image = no_object })
    (turn (ticks_at 1000000) (dropped (abort_from 0xFE 0x00 9 0x05040000) no_object) ends))
    ∷ script downloading (turn (asks (write 0x80 (replicate 5 0))) (dropped (abort_from 0xFE 0x08 7 0x06070010) (object (replicate 10 0))) ends)
    ∷ script downloading (turn (asks (write 0xC0 (replicate 3 0))) (dropped (abort_from 0xFE 0x08 7 0x06070013) (object (replicate 10 0))) ends)
    ∷ script downloading
    (turn (asks (write 0xC0 (7 ∷ 8 ∷ 9 ∷ 10 ∷ []))) (dropped (0x0A ∷ 0x0A ∷ 0 ∷ 0 ∷ 0 ∷ 7 ∷ 0x10 ∷ 0 ∷ 0 ∷ 0 ∷ 0 ∷ 0 ∷ []) (object (1 ∷ 2 ∷ 3 ∷ 4 ∷ 5 ∷ 6 ∷ 7 ∷ 8 ∷ 9 ∷ 10 ∷ []))) ends)
    ∷ []
