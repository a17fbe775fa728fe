-- Closed series of calls: the claim of demand 3 is about uploads that there are.
use Rattle.std.specs.Prelude.{ℕ, zero, suc, ◌+◌, Bool, false, ◌&&◌, List, [], ◌∷◌, ◌++◌, length, replicate, eqb}
use Rattle.std.proofs.Math.Option.{Option, none, some}
use Rattle.picks.specs.Pick.{pick, count}
use Rattle.octets.specs.Octets.{le_bytes}
use Rattle.protocol.specs.declared.SdoClientInfo.{SdoClientInfo}
use Rattle.protocol.specs.declared.SdoClientInfo.TheVariants.{Asnd, Udp}
use Rattle.protocol.specs.Constants.{AREA, ANSWER_MIN}
use Rattle.protocol.specs.Request.{request_of}
use Rattle.bench_card.specs.BenchCard.{same, object, value_from, handshake, read, acknowledgement}
use Rattle.protocol.specs.Series.{Call, request, tick, Server, start, step, run}
use Rattle.protocol.specs.EveryUpload.{Frame, frames_of, is_piece, is_dropped, is_complete, Spelled, spell}

abbrev pub anna : SdoClientInfo
anna = Asnd 1 0x010203040506

abbrev pub bela : SdoClientInfo
bela = Udp 0xC0A80001 3819

abbrev pub asks : SdoClientInfo → List ℕ → List ℕ → Call
asks c bytes image = request c 0 bytes image (replicate ANSWER_MIN 0)

-- what the newest frame finishes, if it is a Complete
unfoldable pub spelled_by : List Frame → Option Spelled
spelled_by [] = none
spelled_by (k ∷ older) = pick (is_piece k && is_complete k.command.header.segmentation) (spell older k.command.payload) none

unfoldable pub is_spelled : List ℕ → Option Spelled → Bool
is_spelled bytes none = false
is_spelled bytes (some s) = same s.bytes bytes

-- Anna reads; Bela overwrites the object; a frame of Anna's is lost and the one after it refused; she asks for the piece again; a tick repeats it; she acknowledges it and gets the rest
unfoldable pub old : List ℕ
old = value_from 0 1453

unfoldable pub new : List ℕ
new = value_from 7 1453

abbrev pub overwrite : List ℕ
overwrite = 0x02 ∷ 0x06 ∷ 0 ∷ 0 ∷ 0 ∷ 9 ∷ 0 ∷ 1 ∷ le_bytes 2 1457 ++ 0 ∷ 0 ∷ 0x01 ∷ 0x20 ∷ 1 ∷ 0 ∷ new

unfoldable pub story : List Call
story =
    asks anna handshake (object old)
    ∷ asks anna read (object old)
    ∷ asks bela handshake (object old)
    ∷ asks bela overwrite (object old)
    ∷ asks anna (0x06 ∷ 0x0E ∷ 0 ∷ 0 ∷ []) (object new)
    ∷ asks anna (0x07 ∷ 0x0A ∷ 0 ∷ 0 ∷ []) (object new)
    ∷ tick 15000000 (object new) (replicate ANSWER_MIN 0)
    ∷ asks anna (0x06 ∷ 0x0A ∷ 0 ∷ 0 ∷ []) (object new)
    ∷ []

-- what Anna's frames spell, how many of them are repeats, and what Bela's write left of the image
unfoldable pub story_told : Bool
story_told =
    let fs = frames_of anna (run (start (replicate AREA 0)) story []) in
    is_spelled old (spelled_by fs) && eqb (count is_dropped fs) 2 && eqb (length fs) 5

unfoldable pub overwritten : Server → Bool
overwritten s = same (request_of bela 0 overwrite (object old) (replicate ANSWER_MIN 0) s.table s.area).image (object new)

unfoldable pub story_overwrites : Bool
story_overwrites = overwritten (step (start (replicate AREA 0)) (asks bela handshake (object old))).server

-- an upload of a value, read and acknowledged in turn
unfoldable pub acknowledged : ℕ → ℕ → List ℕ → List Call
acknowledged zero n image = []
acknowledged (suc m) n image = asks anna (acknowledgement n) image ∷ acknowledged m (n + 1) image

pub record Upload : Type 0 where
  pub size : ℕ
  pub pieces : ℕ

unfoldable pub finishes : Upload → Bool
finishes u =
    let bytes = value_from 0 u.size in
    let calls = asks anna handshake (object bytes) ∷ asks anna read (object bytes) ∷ acknowledged u.pieces 0 (object bytes) in
    is_spelled bytes (spelled_by (frames_of anna (run (start (replicate AREA 0)) calls [])))

-- "1,453, 2,904, 4,096 and 8,192 bytes", and the acknowledgements that each takes
unfoldable pub uploads : List Upload
uploads = record { size = 1453; pieces = 1 } ∷ record { size = 2904; pieces = 1 } ∷ record { size = 4096; pieces = 2 } ∷ record { size = 8192; pieces = 5 } ∷ []
