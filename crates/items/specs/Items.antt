-- The items of a call script, as oracle/REPLAY.md has them: "Everything is little-endian." A byte past the end reads as 0.
use Rattle.std.specs.Prelude.{ℕ, zero, suc, ◌+◌, ◌*◌, ◌/◌, ◌%◌, Bool, ◌&&◌, List, [], ◌∷◌, ◌++◌, take, drop, leb, eqb}
use Rattle.picks.specs.Pick.{pick}
use Rattle.protocol.specs.declared.SdoClientInfo.{SdoClientInfo}
use Rattle.format.specs.Format.{byte_at, number_at, client_of}

-- "1 request, 2 tick, 3 deadline query, 4 image, 5 table, 6 area, 7 lengths"; what there is for each, and for another number
unfoldable pub by_kind : {A : Type 0} → ℕ → A → A → A → A → A → A → A → A → A
by_kind k request tick query image table area lengths other =
    pick (eqb k 1) request (pick (eqb k 2) tick (pick (eqb k 3) query (pick (eqb k 4) image (pick (eqb k 5) table (pick (eqb k 6) area (pick (eqb k 7) lengths other))))))

-- "1 request: client, clock u64, length u16, that many bytes"; "2 tick: clock u64"
abbrev pub client_in : List ℕ → SdoClientInfo
client_in item = client_of (drop 1 item)

abbrev pub clock_in : List ℕ → ℕ
clock_in item = number_at 8 (pick (eqb (byte_at 0 item) 1) 9 1) item

abbrev pub request_in : List ℕ → List ℕ
request_in item = take (number_at 2 17 item) (drop 19 item)

-- "4 image: length u32 (at most 131,072), that many bytes"
abbrev pub is_image : List ℕ → Bool
is_image item = leb (number_at 4 1 item) 131072

abbrev pub image_in : List ℕ → List ℕ
image_in item = take (number_at 4 1 item) (drop 5 item)

-- "6 area: a byte b: area byte i becomes (b + 7 i + i / 256) mod 256": the first n bytes
unfoldable pub area_bytes : ℕ → ℕ → List ℕ
area_bytes b zero = []
area_bytes b (suc i) = area_bytes b i ++ ((b + 7 * i + i / 256) % 256 ∷ [])

-- "7 lengths: answer u32 (at most 1,600), area u32 (at most 65,600), table u8 (at most 9)"
abbrev pub are_lengths : List ℕ → Bool
are_lengths item = leb (number_at 4 1 item) 1600 && leb (number_at 4 5 item) 65600 && leb (byte_at 9 item) 9

-- how long an item is, with its number: what stands behind the number as the table says; no image is waited for that is above its limit, and nothing behind another number
unfoldable pub length_of : List ℕ → ℕ
length_of s = by_kind (byte_at 0 s) (19 + number_at 2 17 s) 9 1 (5 + pick (is_image s) (number_at 4 1 s) 0) 321 2 10 1
