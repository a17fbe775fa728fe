-- Document 01, 'Command'. The sentence that a definition comes from stands above it.
use Rattle.std.specs.Prelude.{ℕ, ◌+◌, ◌*◌, ◌/◌, ◌%◌, ◌<◌, ◌≡◌, Bool, true, false, List, [], ◌∷◌, ◌++◌, length, get_or, set, take, drop, ltb, eqb, Option, Some, None, Result, Ok, Err}
use Rattle.picks.specs.Pick.{pick}
use Rattle.octets.specs.Octets.{le, le_bytes}
use Rattle.protocol.specs.declared.CommandId.{CommandId}
use Rattle.protocol.specs.declared.CommandId.TheVariants.{Nil, WriteByIndex, ReadByIndex, WriteAllByIndex, ReadAllByIndex, WriteByName, ReadByName, FileWrite, FileRead, WriteMultipleParamByIndex, ReadMultipleParamByIndex, Abort, MaxSegmentSize}
use Rattle.protocol.specs.declared.Segmentation.{Segmentation}
use Rattle.protocol.specs.declared.Segmentation.TheVariants.{Expedited, Initiate, Segment, Complete}
use Rattle.protocol.specs.declared.CommandLayerHeader.{CommandLayerHeader}
use Rattle.protocol.specs.declared.SdoCommand.{SdoCommand}
use Rattle.protocol.specs.declared.InvalidEnumValue.{InvalidEnumValue}
use Rattle.protocol.specs.declared.CommandError.{CommandError}
use Rattle.protocol.specs.declared.CommandError.TheVariants as C
use Rattle.protocol.specs.Coding.{Answer, refused, value}

-- a whole command, with its payload
pub record Command : Type 0 where
  pub header : CommandLayerHeader
  pub total : Option ℕ
  pub payload : List ℕ

-- the places of the flags in byte 2, each by its weight; the segmentation takes two bits
pub record FlagPlaces : Type 0 where
  pub response : ℕ
  pub aborted : ℕ
  pub segmentation : ℕ

-- "flags (10 hex response, 20 hex aborted, top two bits segmentation …)"
unfoldable pub flag_places : FlagPlaces
flag_places = record { response = 16; aborted = 32; segmentation = 64 }

-- "0 Expedited, 1 Initiate, 2 Segment, 3 Complete"
abbrev pub segmentation_number : Segmentation → ℕ
segmentation_number Expedited = 0
segmentation_number Initiate = 1
segmentation_number Segment = 2
segmentation_number Complete = 3

unfoldable pub segmentation_of : ℕ → Segmentation
segmentation_of n = pick (eqb n 0) Expedited (pick (eqb n 1) Initiate (pick (eqb n 2) Segment Complete))

-- "3 command id (table in base.rs)"
abbrev pub id_byte : CommandId → ℕ
id_byte Nil = 0x00
id_byte WriteByIndex = 0x01
id_byte ReadByIndex = 0x02
id_byte WriteAllByIndex = 0x03
id_byte ReadAllByIndex = 0x04
id_byte WriteByName = 0x05
id_byte ReadByName = 0x06
id_byte FileWrite = 0x20
id_byte FileRead = 0x21
id_byte WriteMultipleParamByIndex = 0x31
id_byte ReadMultipleParamByIndex = 0x32
id_byte Abort = 0x40
id_byte MaxSegmentSize = 0x70

unfoldable pub known_ids : List CommandId
known_ids = Nil ∷ WriteByIndex ∷ ReadByIndex ∷ WriteAllByIndex ∷ ReadAllByIndex ∷ WriteByName ∷ ReadByName ∷ FileWrite ∷ FileRead ∷ WriteMultipleParamByIndex ∷ ReadMultipleParamByIndex ∷ Abort ∷ MaxSegmentSize ∷ []

-- the id among these whose byte it is, if any
unfoldable pub id_among : List CommandId → ℕ → Result CommandId InvalidEnumValue
id_among [] b = Err (record {})
id_among (i ∷ is) b = pick (eqb b (id_byte i)) (Ok i) (id_among is b)

unfoldable pub id_of : ℕ → Result CommandId InvalidEnumValue
id_of b = id_among known_ids b

-- the length of a command's header: 8 bytes, and "Initiate adds a 4-byte total size"
abbrev pub header_length : Segmentation → ℕ
header_length Expedited = 8
header_length Initiate = 12
header_length Segment = 8
header_length Complete = 8

-- byte 2
abbrev pub bit : Bool → ℕ
bit true = 1
bit false = 0

abbrev pub flags_byte : FlagPlaces → Bool → Bool → Segmentation → ℕ
flags_byte P r a s = bit r * P.response + bit a * P.aborted + segmentation_number s * P.segmentation

-- bytes 8 to 11 of an Initiate, 0 without a total; no other command has them
abbrev pub total_number : Option ℕ → ℕ
total_number None = 0
total_number (Some n) = n

abbrev pub total_bytes : Segmentation → Option ℕ → List ℕ
total_bytes Expedited d = []
total_bytes Initiate d = le_bytes 4 (total_number d)
total_bytes Segment d = []
total_bytes Complete d = []

-- "Byte 0 reserved; 1 transaction id; 2 flags; 3 command id; 4 and 5 segment size; 6 and 7 reserved. Initiate adds a 4-byte total size. Then segment-size payload bytes"
unfoldable pub fixed_header : FlagPlaces → CommandLayerHeader → List ℕ
fixed_header P h =
    0 ∷ h.transaction ∷ flags_byte P h.response h.aborted h.segmentation ∷ id_byte h.id ∷ le_bytes 2 h.size ++ 0 ∷ 0 ∷ []

unfoldable pub encode_command : FlagPlaces → Command → List ℕ
encode_command P c = fixed_header P c.header ++ total_bytes c.header.segmentation c.total ++ c.payload

-- what decoding finds: a command, or that the bytes are undecodable
pub data Decoding : Type 0 where
  decoded : Command → Decoding
  undecodable : Decoding

-- the parts of a command's bytes
abbrev pub header_of : FlagPlaces → CommandId → List ℕ → CommandLayerHeader
header_of P i b =
    let flags = get_or b 2 0 in
    record { transaction = get_or b 1 0; response = eqb (flags / P.response % 2) 1; aborted = eqb (flags / P.aborted % 2) 1; segmentation = segmentation_of (flags / P.segmentation % 4); id = i; size = le (take 2 (drop 4 b)) }

abbrev pub total_of : Segmentation → List ℕ → Option ℕ
total_of Expedited b = None
total_of Initiate b = Some (le (take 4 (drop 8 b)))
total_of Segment b = None
total_of Complete b = None

-- "Then segment-size payload bytes; later bytes are ignored."
abbrev pub payload_of : CommandLayerHeader → List ℕ → List ℕ
payload_of h b = take h.size (drop (header_length h.segmentation) b)

abbrev pub command_of : CommandLayerHeader → List ℕ → Command
command_of h b = record { header = h; total = total_of h.segmentation b; payload = payload_of h b }

-- "Too short, or an unknown id: undecodable. … decoding a short header, 5."
unfoldable pub decode_with : CommandLayerHeader → List ℕ → Answer Decoding
decode_with h b =
    let n = header_length h.segmentation in
    pick (ltb (length b) n) (refused 5)
    (pick (ltb (length b) (n + h.size)) (value undecodable) (value (decoded (command_of h b))))

unfoldable pub decode_id : FlagPlaces → Result CommandId InvalidEnumValue → List ℕ → Answer Decoding
decode_id P (Err e) b = value undecodable
decode_id P (Ok i) b = decode_with (header_of P i b) b

unfoldable pub decode_command : FlagPlaces → List ℕ → Answer Decoding
decode_command P b = pick (ltb (length b) 8) (refused 5) (decode_id P (id_of (get_or b 3 0)) b)

-- the code's command with the payload that stands beside it
abbrev pub with_payload : SdoCommand → List ℕ → Command
with_payload c p = record { header = c.header; total = c.total; payload = p }

-- the number and the values of each case of the code's answer on the bytes b, of which the payload is a part
abbrev pub told_command : List ℕ → Result SdoCommand CommandError → Answer Decoding
told_command b (Ok c) = value (decoded (with_payload c (payload_of c.header b)))
told_command b (Err C.BufferTooShort) = refused 5
told_command b (Err C.Undecodable) = value undecodable

-- "The answer then aborts 05040001 hex with the low four bits of byte 0 as transaction id."
abbrev pub undecodable_transaction : List ℕ → ℕ
undecodable_transaction b = get_or b 0 0 % 16

-- the places do not meet: each flag that is written in byte 2 is read back
pub record Separate (P : FlagPlaces) : Type 0 where
  pub response : (r a : Bool) (s : Segmentation) → flags_byte P r a s / P.response % 2 ≡ bit r
  pub aborted : (r a : Bool) (s : Segmentation) → flags_byte P r a s / P.aborted % 2 ≡ bit a
  pub segmentation : (r a : Bool) (s : Segmentation) → flags_byte P r a s / P.segmentation % 4 ≡ segmentation_number s

-- "if segment size is the payload length and a total is present exactly for Initiate"; both in their widths
abbrev pub is_initiate : Segmentation → Bool
is_initiate Expedited = false
is_initiate Initiate = true
is_initiate Segment = false
is_initiate Complete = false

abbrev pub is_present : Option ℕ → Bool
is_present None = false
is_present (Some n) = true

pub record WellFormed (c : Command) : Type 0 where
  pub size : c.header.size ≡ length c.payload
  pub narrow : c.header.size < 65536
  pub present : is_present c.total ≡ is_initiate c.header.segmentation
  pub total : total_number c.total < 4294967296

-- a command's bytes with "reserved bits 0": bytes 0, 6 and 7, and what the flags leave of byte 2
abbrev pub kept_flags : FlagPlaces → ℕ → ℕ
kept_flags P f = f / P.response % 2 * P.response + f / P.aborted % 2 * P.aborted + f / P.segmentation % 4 * P.segmentation

abbrev pub clear_reserved : FlagPlaces → List ℕ → List ℕ
clear_reserved P b = set (set (set (set b 0 0) 2 (kept_flags P (get_or b 2 0))) 6 0) 7 0
