-- What a client is sent of an object, as far as the frames that answer it say.
use Rattle.std.specs.Prelude.{ℕ, zero, suc, ◌+◌, ◌-◌, ◌/◌, ◌%◌, min, Bool, true, false, ◌&&◌, not, List, [], ◌∷◌, ◌++◌, length, get_or, take, drop, eqb, ltb, fold}
use Rattle.std.specs.Int.Bits.{bit_xor}
use Rattle.picks.specs.Pick.{pick}
use Rattle.octets.specs.Octets.{le}
use Rattle.protocol.specs.declared.SdoClientInfo.{SdoClientInfo}
use Rattle.protocol.specs.declared.SdoClientInfo.TheVariants.{Asnd}
use Rattle.protocol.specs.declared.SequenceLayerHeader.{SequenceLayerHeader}
use Rattle.protocol.specs.declared.CommandLayerHeader.{CommandLayerHeader}
use Rattle.protocol.specs.declared.SdoCommand.{SdoCommand}
use Rattle.protocol.specs.declared.Segmentation.{Segmentation}
use Rattle.protocol.specs.declared.Segmentation.TheVariants.{Expedited, Initiate, Segment, Complete}
use Rattle.protocol.specs.SequenceHeader.{receive_mark, send_mark}
use Rattle.protocol.specs.Command.{segmentation_number, id_byte, total_number}
use Rattle.reading.specs.declared.frame.Frame.{Frame}
use Rattle.reading.specs.declared.frame.Frame.TheVariants.{Short, Empty, Unreadable, Command}
use Rattle.reading.specs.Frame.{payload_in}
use Rattle.reading.specs.declared.Reading.{Reading}
use Rattle.reading.specs.declared.Piece.{Piece}
use Rattle.reading.specs.declared.Piece.TheVariants.{Other, Whole, First, Next, Last, Again, Abort}

-- CRC-32 as zlib has it: the register's low bit decides whether the polynomial is taken off
abbrev pub POLYNOMIAL : ℕ
POLYNOMIAL = 0xEDB88320

abbrev pub REGISTER : ℕ
REGISTER = 0xFFFFFFFF

unfoldable pub crc_bit : ℕ → ℕ
crc_bit r = pick (eqb (r % 2) 1) (bit_xor (r / 2) POLYNOMIAL) (r / 2)

unfoldable pub crc_bits : ℕ → ℕ → ℕ
crc_bits zero r = r
crc_bits (suc n) r = crc_bit (crc_bits n r)

abbrev pub crc_byte : ℕ → ℕ → ℕ
crc_byte r b = crc_bits 4 (crc_bits 4 (bit_xor r b))

abbrev pub crc_of : List ℕ → ℕ
crc_of bytes = REGISTER - fold crc_byte REGISTER bytes

-- a request that asks for an object: a command ReadByIndex that names one, and not behind an error response
abbrev pub is_read : Frame → Bool
is_read Short = false
is_read (Empty h) = false
is_read (Unreadable h) = false
is_read (Command h c) =
    eqb (id_byte c.header.id) 2 && ltb 3 c.header.size && not c.header.aborted && not (eqb (receive_mark h.rcon) 3)

abbrev pub segment_piece : Segmentation → ℕ → Piece
segment_piece Expedited total = Other
segment_piece Initiate total = First total
segment_piece Segment total = Next
segment_piece Complete total = Last

-- a piece under send mark 3 was sent before
unfoldable pub upload_piece : SequenceLayerHeader → SdoCommand → Piece
upload_piece h c =
    pick (eqb (send_mark h.scon) 3) Again (segment_piece c.header.segmentation (total_number c.total))

unfoldable pub short_piece : Frame → CommandLayerHeader → Piece
short_piece q c =
    pick (is_read q && eqb (id_byte c.id) 0 && eqb (segmentation_number c.segmentation) 0 && c.response) Whole Other

unfoldable pub command_piece : Frame → SequenceLayerHeader → SdoCommand → List ℕ → Piece
command_piece q h c payload =
    pick c.header.aborted (Abort (le (take 4 (drop 0 payload))))
    (pick (eqb (id_byte c.header.id) 2) (upload_piece h c) (short_piece q c.header))

abbrev pub piece_of : Frame → Frame → List ℕ → Piece
piece_of q Short bytes = Other
piece_of q (Empty h) bytes = Other
piece_of q (Unreadable h) bytes = Other
piece_of q (Command h c) bytes = command_piece q h c (payload_in (Command h c) bytes)

abbrev pub named : SdoClientInfo → List ℕ → Reading
named client payload =
    record { running = false; client = client; index = le (take 2 (drop 0 payload)); sub = get_or payload 2 0; total = 0; sent = 0; register = REGISTER }

abbrev pub nobody : Reading
nobody =
    record { running = false; client = Asnd 0 0; index = 0; sub = 0; total = 0; sent = 0; register = REGISTER }

abbrev pub about_of : Reading → SdoClientInfo → Piece → List ℕ → Reading
about_of r client Other payload = r
about_of r client Whole payload = named client payload
about_of r client (First total) payload = named client payload
about_of r client Next payload = r
about_of r client Last payload = r
about_of r client Again payload = r
about_of r client (Abort code) payload = r

abbrev pub afresh : Reading → ℕ → Reading
afresh r total = record r { running = true; total = total; sent = 0; register = REGISTER }

abbrev pub begun : Reading → Bool → ℕ → List ℕ → Reading
begun r running total bytes =
    record r { running = running; total = total; sent = min (0 + length bytes) REGISTER; register = fold crc_byte REGISTER bytes }

abbrev pub further : Reading → Bool → List ℕ → Reading
further r running bytes =
    record r { running = running; sent = min (r.sent + length bytes) REGISTER; register = fold crc_byte r.register bytes }

abbrev pub over : Reading → Reading
over r = record r { running = false }

-- a whole value and a first piece begin a reading, the later ones go on, and a piece sent before adds nothing
abbrev pub reading_after : Reading → Piece → List ℕ → Reading
reading_after r Other bytes = r
reading_after r Whole bytes = begun r false (min (0 + length bytes) REGISTER) bytes
reading_after r (First total) bytes = begun r true total bytes
reading_after r Next bytes = further r r.running bytes
reading_after r Last bytes = further r false bytes
reading_after r Again bytes = r
reading_after r (Abort code) bytes = over r

-- a reading after a series of answers, each with its payload
pub record Part : Type 0 where
  pub piece : Piece
  pub payload : List ℕ

abbrev pub reading_over : Reading → List Part → Reading
reading_over r parts = fold (λ s p. reading_after s p.piece p.payload) r parts

-- between the first piece and the last one: later pieces, pieces sent again, and answers that are none
abbrev pub is_between : Piece → Bool
is_between Other = true
is_between Whole = false
is_between (First total) = false
is_between Next = true
is_between Last = false
is_between Again = true
is_between (Abort code) = false

-- the bytes between them, those of pieces sent again left out
abbrev pub bytes_of : Piece → List ℕ → List ℕ
bytes_of Other bytes = []
bytes_of Whole bytes = []
bytes_of (First total) bytes = []
bytes_of Next bytes = bytes
bytes_of Last bytes = []
bytes_of Again bytes = []
bytes_of (Abort code) bytes = []

unfoldable pub joined : List Part → List ℕ
joined [] = []
joined (p ∷ parts) = bytes_of p.piece p.payload ++ joined parts
