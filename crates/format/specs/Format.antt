-- Clients, records and tables as bytes, in the order of replay-format.md (oracle/REPLAY.md has the same layout); "Little-endian throughout". A byte past the end reads as 0.
use Rattle.std.specs.Prelude.{ℕ, zero, suc, ◌+◌, ◌*◌, ◌/◌, ◌%◌, Bool, true, false, ◌&&◌, ◌||◌, List, [], ◌∷◌, ◌++◌, map, length, get_or, take, drop, replicate, ltb, eqb, Option, None, Some}
use Rattle.picks.specs.Pick.{pick, every}
use Rattle.octets.specs.Octets.{le, le_bytes}
use Rattle.protocol.specs.declared.SdoClientInfo.{SdoClientInfo}
use Rattle.protocol.specs.declared.SdoClientInfo.TheVariants.{Asnd, Udp}
use Rattle.protocol.specs.declared.SdoTransferState.{SdoTransferState}
use Rattle.protocol.specs.declared.SdoServerState.{SdoServerState}
use Rattle.protocol.specs.declared.SdoServerState.TheVariants.{Closed, Opening, Established, SegmentedDownload, SegmentedUpload}
use Rattle.protocol.specs.declared.Connection.{Connection}

-- a byte at a place, a number of n bytes at a place, and a flag as a byte
abbrev pub byte_at : ℕ → List ℕ → ℕ
byte_at at s = get_or s at 0

abbrev pub number_at : ℕ → ℕ → List ℕ → ℕ
number_at n at s = le (take n (drop at s))

abbrev pub flag : Bool → ℕ
flag false = 0
flag true = 1

-- "in wire order (first byte most significant …)": the number of the first n bytes, and the n bytes of a number
unfoldable pub big : ℕ → List ℕ → ℕ
big zero s = 0
big (suc n) s = 256 * big n s + byte_at n s

unfoldable pub big_bytes : ℕ → ℕ → List ℕ
big_bytes zero v = []
big_bytes (suc n) v = big_bytes n (v / 256) ++ (v % 256 ∷ [])

-- Client, 8 bytes. "ASnd: 0, node, then the six MAC bytes in wire order"; "UDP: 1, the four IP bytes in wire order, port u16, a zero byte"
unfoldable pub client_bytes : SdoClientInfo → List ℕ
client_bytes (Asnd node mac) = 0 ∷ node ∷ big_bytes 6 mac
client_bytes (Udp ip port) = 1 ∷ (big_bytes 4 ip ++ le_bytes 2 port ++ (0 ∷ []))

unfoldable pub client_of : List ℕ → SdoClientInfo
client_of s = pick (eqb (byte_at 0 s) 0) (Asnd (byte_at 1 s) (big 6 (drop 2 s))) (Udp (big 4 (drop 1 s)) (number_at 2 5 s))

abbrev pub is_client : List ℕ → Bool
is_client s = ltb (byte_at 0 s) 2

-- Record, 40 bytes. "12 state: 0 Closed, 1 Opening, 2 Established, 3 upload, 4 download"
abbrev pub state_number : SdoServerState → ℕ
state_number Closed = 0
state_number Opening = 1
state_number Established = 2
state_number (SegmentedUpload t) = 3
state_number (SegmentedDownload t) = 4

-- "25 deadline present, 0 or 1; 26 deadline u64, 0 if absent"
abbrev pub deadline_flag : Option ℕ → ℕ
deadline_flag None = 0
deadline_flag (Some n) = 1

abbrev pub deadline_time : Option ℕ → ℕ
deadline_time None = 0
deadline_time (Some n) = n

-- "13 transaction id; 14 total u32; 18 offset u32; 22 index u16; 24 sub; …; 34 retries u32; 38 stored piece present, 0 or 1"
unfoldable pub transfer_bytes : SdoTransferState → List ℕ
transfer_bytes t =
    t.transaction ∷ (le_bytes 4 t.total ++ le_bytes 4 t.offset ++ le_bytes 2 t.index ++ (t.sub ∷ deadline_flag t.deadline ∷ le_bytes 8 (deadline_time t.deadline)) ++ le_bytes 4 t.retries ++ (flag t.stored ∷ []))

-- "Bytes 13 to 38 are 0 unless the state is 3 or 4."
unfoldable pub state_bytes : SdoServerState → List ℕ
state_bytes Closed = replicate 26 0
state_bytes Opening = replicate 26 0
state_bytes Established = replicate 26 0
state_bytes (SegmentedUpload t) = transfer_bytes t
state_bytes (SegmentedDownload t) = transfer_bytes t

-- "0 used, 0 or 1; 1 client, 8 bytes; 9 area number; 10 send number; 11 receive number; 12 state; …; 39 zero"
unfoldable pub record_bytes : Connection → List ℕ
record_bytes c =
    flag c.used ∷ (client_bytes c.client ++ (c.area ∷ c.send ∷ c.receive ∷ state_number c.state ∷ []) ++ state_bytes c.state ++ (0 ∷ []))

-- what the bytes of a record say
abbrev pub deadline_of : List ℕ → Option ℕ
deadline_of s = pick (eqb (byte_at 25 s) 1) (Some (number_at 8 26 s)) None

unfoldable pub transfer_of : List ℕ → SdoTransferState
transfer_of s = record { transaction = byte_at 13 s; total = number_at 4 14 s; offset = number_at 4 18 s; index = number_at 2 22 s; sub = byte_at 24 s; deadline = deadline_of s; retries = number_at 4 34 s; stored = eqb (byte_at 38 s) 1 }

unfoldable pub state_of : List ℕ → SdoServerState
state_of s =
    pick (eqb (byte_at 12 s) 0) Closed (pick (eqb (byte_at 12 s) 1) Opening (pick (eqb (byte_at 12 s) 2) Established (pick (eqb (byte_at 12 s) 3) (SegmentedUpload (transfer_of s)) (SegmentedDownload (transfer_of s)))))

unfoldable pub record_of : List ℕ → Connection
record_of s = record { used = eqb (byte_at 0 s) 1; client = client_of (drop 1 s); area = byte_at 9 s; send = byte_at 10 s; receive = byte_at 11 s; state = state_of s }

-- "state at most 4, kinds and flags 0 or 1"; "Zero bytes, and bytes 13 to 38 where the state is below 3, are not looked at."
unfoldable pub is_record : List ℕ → Bool
is_record s =
    ltb (byte_at 0 s) 2 && is_client (drop 1 s) && (ltb (byte_at 12 s) 3 || (ltb (byte_at 12 s) 5 && (ltb (byte_at 25 s) 2 && ltb (byte_at 38 s) 2)))

-- "The eight records of the table", one behind the other: n rows of 40 bytes from a place on
unfoldable pub table_bytes : List Connection → List ℕ
table_bytes [] = []
table_bytes (c ∷ t) = record_bytes c ++ table_bytes t

unfoldable pub rows : ℕ → ℕ → List ℕ → List (List ℕ)
rows zero at s = []
rows (suc n) at s = take 40 (drop at s) ∷ rows n (at + 40) s

unfoldable pub table_of : List ℕ → List Connection
table_of s = map record_of (rows 8 0 s)

unfoldable pub is_table : List ℕ → Bool
is_table s = eqb (length s) 320 && every is_record (rows 8 0 s)
