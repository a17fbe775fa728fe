-- Demand 3, the claim: "every finished upload in the series spells the value held when it began".
use Rattle.std.specs.Prelude.{ℕ, ◌≡◌, Bool, true, false, ◌&&◌, not, List, [], ◌∷◌, ◌++◌, length, eqb, Some}
use Rattle.std.proofs.Math.Option.{Option, none, some}
use Rattle.picks.specs.Pick.{pick}
use Rattle.protocol.specs.declared.SequenceLayerHeader.{SequenceLayerHeader}
use Rattle.protocol.specs.declared.Segmentation.{Segmentation}
use Rattle.protocol.specs.declared.SdoClientInfo.{SdoClientInfo}
use Rattle.protocol.specs.Coding.{Answer, refused, value}
use Rattle.protocol.specs.SequenceHeader.{send_mark, decode_header, command_part}
use Rattle.protocol.specs.Command.{Command, Decoding, decoded, undecodable, flag_places, segmentation_number, is_initiate, decode_command}
use Rattle.protocol.specs.ConnectionTable.{same_client}
use Rattle.protocol.specs.Series.{Call, Sent, is_read, start, run}

-- "decoded by the definitions …; bytes 4 on are the command"
pub record Frame : Type 0 where
  pub header : SequenceLayerHeader
  pub command : Command
  pub held : Option (List ℕ)

unfoldable pub decodes : Answer SequenceLayerHeader → Answer Decoding → Option (List ℕ) → List Frame
decodes (value h) (value (decoded m)) held = record { header = h; command = m; held = held } ∷ []
decodes (value h) (value undecodable) held = []
decodes (value h) (refused n) held = []
decodes (refused k) (value (decoded m)) held = []
decodes (refused k) (value undecodable) held = []
decodes (refused k) (refused n) held = []

abbrev pub decode_sent : Sent → List Frame
decode_sent s = decodes (decode_header s.bytes) (decode_command flag_places (command_part s.bytes)) s.held

-- "A client's frames", newest first
unfoldable pub frames_of : SdoClientInfo → List Sent → List Frame
frames_of c [] = []
frames_of c (s ∷ log) = pick (same_client s.client c) (decode_sent s ++ frames_of c log) (frames_of c log)

-- "every answer decodes: that is part of the claim"
unfoldable pub AllDecode : List Sent → Type 0
AllDecode [] = Unit {0}
AllDecode (s ∷ log) = (length (decode_sent s) ≡ 1) × AllDecode log

-- ReadByIndex frames: those under send mark 3 are dropped
abbrev pub is_piece : Frame → Bool
is_piece f = is_read f.command

abbrev pub is_repeat : Frame → Bool
is_repeat f = eqb (send_mark f.header.scon) 3

abbrev pub is_kept : Frame → Bool
is_kept f = is_piece f && not (is_repeat f)

abbrev pub is_dropped : Frame → Bool
is_dropped f = is_piece f && is_repeat f

abbrev pub is_complete : Segmentation → Bool
is_complete s = eqb (segmentation_number s) 3

-- "join in order the payloads of that client's ReadByIndex frames from the last Initiate not under send mark 3 before a Complete up to that Complete, dropping those with send mark 3": walking back from a Complete, `joined` is what came after
pub record Spelled : Type 0 where
  pub initiate : Frame
  pub bytes : List ℕ

unfoldable pub spell : List Frame → List ℕ → Option Spelled
spell [] joined = none
spell (f ∷ older) joined =
    let bytes = f.command.payload ++ joined in
    pick (is_kept f) (pick (is_initiate f.command.header.segmentation) (some (record { initiate = f; bytes = bytes })) (spell older bytes)) (spell older joined)

-- the command of the last kept frame
unfoldable pub last_kept : List Frame → Option Command
last_kept [] = none
last_kept (f ∷ older) = pick (is_kept f) (some f.command) (last_kept older)

-- "Each ReadByIndex Complete finishes an upload and has such an Initiate before it": what is spelled is the value held, and "The joined length is the size in Initiate"
pub record Finishes (k : Frame) (older : List Frame) : Type 0 where
  pub kept : is_repeat k ≡ false
  pub initiate : Frame
  pub bytes : List ℕ
  pub spelled : spell older k.command.payload ≡ some (record { initiate = initiate; bytes = bytes })
  pub held : initiate.held ≡ some bytes
  pub size : initiate.command.total ≡ Some (length bytes)

-- "each dropped frame repeats the command of the last kept one"
pub record Spells (k : Frame) (older : List Frame) : Type 0 where
  pub finishes : is_piece k ≡ true → is_complete k.command.header.segmentation ≡ true → Finishes k older
  pub repeats : is_dropped k ≡ true → last_kept older ≡ some k.command

unfoldable pub AllSpell : List Frame → Type 0
AllSpell [] = Unit {0}
AllSpell (k ∷ older) = Spells k older × AllSpell older

-- the claim, of a series and an area
pub record Claim (calls : List Call) (area : List ℕ) : Type 0 where
  pub decodes : AllDecode (run (start area) calls [])
  pub spells : (c : SdoClientInfo) → AllSpell (frames_of c (run (start area) calls []))
