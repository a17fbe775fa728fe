-- Document 01, 'Connection table'.
use Rattle.std.specs.Prelude.{ℕ, ◌*◌, ◌-◌, ◌%◌, max, Bool, true, false, ◌&&◌, ◌||◌, not, length, get_or, set, take, drop, ltb, leb, eqb, Option, Some, None}
use mathlib.Core.List.{List, [], ◌∷◌, ◌++◌, map, tail}
use Rattle.picks.specs.Pick.{pick, first, fold, every, count, keep}
use Rattle.octets.specs.Octets.{splice}
use Rattle.protocol.specs.declared.ReceiveConnState.TheVariants as R
use Rattle.protocol.specs.declared.SendConnState.TheVariants as S
use Rattle.protocol.specs.declared.SdoClientInfo.{SdoClientInfo}
use Rattle.protocol.specs.declared.SdoClientInfo.TheVariants.{Asnd, Udp}
use Rattle.protocol.specs.declared.SdoTransferState.{SdoTransferState}
use Rattle.protocol.specs.declared.SdoServerState.{SdoServerState}
use Rattle.protocol.specs.declared.SdoServerState.TheVariants.{Closed, Opening, Established, SegmentedDownload, SegmentedUpload}
use Rattle.protocol.specs.declared.Connection.{Connection}
use Rattle.protocol.specs.declared.Left.{Left}
use Rattle.protocol.specs.declared.SdoResponseData.{SdoResponseData}
use Rattle.protocol.specs.Constants.{PIECE, SHARE, RECORDS, FIRST_MAX, TIMED_OUT}
use Rattle.protocol.specs.TransferRecord.{with_state, reset, abort_command, stored_piece, deadline_after}
use Rattle.protocol.specs.ConnectionRecord.{Reply, told_reply}

-- "ASnd by node and MAC, then UDP by four-byte address and port; the repository's derived order decides."
abbrev pub before : SdoClientInfo → SdoClientInfo → Bool
before (Asnd n m) (Asnd n' m') = ltb n n' || (eqb n n' && ltb m m')
before (Asnd n m) (Udp a p) = true
before (Udp a p) (Asnd n m) = false
before (Udp a p) (Udp a' p') = ltb a a' || (eqb a a' && ltb p p')

abbrev pub same_client : SdoClientInfo → SdoClientInfo → Bool
same_client (Asnd n m) (Asnd n' m') = eqb n n' && eqb m m'
same_client (Asnd n m) (Udp a p) = false
same_client (Udp a p) (Asnd n m) = false
same_client (Udp a p) (Udp a' p') = eqb a a' && eqb p p'

-- "A fresh record has send number 0 and receive number 63."; "Unused ones are fresh, client ASnd with zeros, but for their area number."
abbrev pub fresh : ℕ → Connection
fresh n = record { used = false; client = Asnd 0 0; area = n; send = 0; receive = 63; state = Closed }

-- "An empty table at the start has 0 to 7 in order."
unfoldable pub empty_table : List Connection
empty_table = fresh 0 ∷ fresh 1 ∷ fresh 2 ∷ fresh 3 ∷ fresh 4 ∷ fresh 5 ∷ fresh 6 ∷ fresh 7 ∷ []

abbrev pub is_used : Connection → Bool
is_used r = r.used

abbrev pub is_unused : Connection → Bool
is_unused r = not r.used

abbrev pub used_of : List Connection → List Connection
used_of t = keep is_used t

abbrev pub unused_of : List Connection → List Connection
unused_of t = keep is_unused t

abbrev pub is_closed : SdoServerState → Bool
is_closed Closed = true
is_closed Opening = false
is_closed Established = false
is_closed (SegmentedDownload t) = false
is_closed (SegmentedUpload t) = false

abbrev pub is_fresh : Connection → Bool
is_fresh r = not r.used && same_client r.client (Asnd 0 0) && eqb r.send 0 && eqb r.receive 63 && is_closed r.state

-- "Used records come first, clients strictly ascending"; behind them unused ones are fresh
abbrev pub ascends : Connection → List Connection → Bool
ascends r [] = true
ascends r (x ∷ xs) = not x.used || before r.client x.client

unfoldable pub ordered : List Connection → Bool
ordered [] = true
ordered (r ∷ rs) = pick r.used (ascends r rs && ordered rs) (is_fresh r && every is_fresh rs)

-- "area numbers 0 to 7 each once"
abbrev pub has_area : ℕ → Connection → Bool
has_area n r = eqb r.area n

unfoldable pub areas_once : List Connection → Bool
areas_once t = every (λ r. ltb r.area RECORDS && eqb (count (has_area r.area) t) 1) t

-- "an upload has total 1,453 to 8,192, offset a positive multiple of 1,452 below total, deadline and stored piece both there or both absent (retries then 0); a download has total 1 to 8,192, offset at most the larger of total and 1,480, and a deadline"
abbrev pub has_deadline : Option ℕ → Bool
has_deadline None = false
has_deadline (Some n) = true

unfoldable pub sound_upload : SdoTransferState → Bool
sound_upload t =
    ltb PIECE t.total && leb t.total SHARE && ltb 0 t.offset && ltb t.offset t.total && eqb (t.offset % PIECE) 0 && pick t.stored (has_deadline t.deadline) (not (has_deadline t.deadline) && eqb t.retries 0)

unfoldable pub sound_download : SdoTransferState → Bool
sound_download t =
    leb 1 t.total && leb t.total SHARE && leb t.offset (max t.total FIRST_MAX) && has_deadline t.deadline

abbrev pub sound_state : SdoServerState → Bool
sound_state Closed = true
sound_state Opening = true
sound_state Established = true
sound_state (SegmentedDownload t) = sound_download t
sound_state (SegmentedUpload t) = sound_upload t

-- "sequence numbers at most 63"
unfoldable pub sound_record : Connection → Bool
sound_record r = leb r.send 63 && leb r.receive 63 && sound_state r.state

unfoldable pub sound_table : List Connection → Bool
sound_table t = ordered t && areas_once t && every sound_record t

-- a client's record and its place, which is the table's length where it has none
abbrev pub holds : SdoClientInfo → Connection → Bool
holds c r = r.used && same_client r.client c

unfoldable pub place_of : SdoClientInfo → List Connection → ℕ
place_of c t = first (holds c) t

abbrev pub record_of : SdoClientInfo → List Connection → Connection
record_of c t = get_or t (place_of c t) (fresh 0)

abbrev pub is_known : SdoClientInfo → List Connection → Bool
is_known c t = ltb (place_of c t) (length t)

unfoldable pub update : SdoClientInfo → Connection → List Connection → List Connection
update c r t = set t (place_of c t) r

-- "A joining client takes the first unused record's number"
abbrev pub joining : SdoClientInfo → ℕ → Connection
joining c n = record { used = true; client = c; area = n; send = 0; receive = 63; state = Closed }

unfoldable pub insert : Connection → List Connection → List Connection
insert r [] = r ∷ []
insert r (x ∷ xs) = pick (before x.client r.client) (x ∷ insert r xs) (r ∷ x ∷ xs)

unfoldable pub join : SdoClientInfo → List Connection → List Connection
join c t = insert (joining c (get_or (unused_of t) 0 (fresh 0)).area) (used_of t) ++ tail (unused_of t)

-- "a dropped record's number goes to the last unused one, several in client order"
unfoldable pub release : (Connection → Bool) → List Connection → List Connection
release gone t =
    keep (λ r. not (gone r)) (used_of t) ++ unused_of t ++ map (λ r. fresh r.area) (keep gone (used_of t))

-- "each record's own 8,192 bytes, which begin at 8,192 times its area number"
abbrev pub share_of : List ℕ → ℕ → List ℕ
share_of area n = take SHARE (drop (SHARE * n) area)

abbrev pub with_share : List ℕ → ℕ → List ℕ → List ℕ
with_share area n share = splice (SHARE * n) share area

-- when a record is due, and the place of the first that is; "Tick answers the first due client in that order"
abbrev pub transfer_deadline : SdoServerState → Option ℕ
transfer_deadline Closed = None
transfer_deadline Opening = None
transfer_deadline Established = None
transfer_deadline (SegmentedDownload t) = t.deadline
transfer_deadline (SegmentedUpload t) = t.deadline

abbrev pub is_past : ℕ → Option ℕ → Bool
is_past clock None = false
is_past clock (Some n) = leb n clock

abbrev pub is_due : ℕ → Connection → Bool
is_due clock r = r.used && is_past clock (transfer_deadline r.state)

unfoldable pub chosen : List Connection → ℕ → ℕ
chosen t clock = first (is_due clock) t

-- the earlier of two deadlines, and the earliest of a table
abbrev pub earlier : Option ℕ → Option ℕ → Option ℕ
earlier None d = d
earlier (Some n) None = Some n
earlier (Some n) (Some m) = Some (pick (ltb m n) m n)

abbrev pub deadline_of : Connection → Option ℕ
deadline_of r = pick r.used (transfer_deadline r.state) None

unfoldable pub earliest : List Connection → Option ℕ
earliest t = fold (λ d r. earlier d (deadline_of r)) None t

-- what a tick does to a due record: "With retries left, an upload's stored piece is resent under send mark 3 with one retry less and a new deadline; otherwise abort 05040000."
pub data Ticking : Type 0 where
  idle : Ticking
  ticks : Connection → Reply → Ticking

-- the values of the code's answer, whose piece stands in the share
abbrev pub told_record_ticked : Option (Left SdoResponseData) → List ℕ → List ℕ → Ticking
told_record_ticked None share image = idle
told_record_ticked (Some l) share image = ticks l.connection (told_reply l.said share image)

abbrev pub times_out : Connection → SdoTransferState → Ticking
times_out r t =
    ticks (reset r) (record { header = record { receive = 63; rcon = R.ConnectionValid; send = 0; scon = S.NoConnection }; command = abort_command t.transaction TIMED_OUT })

abbrev pub retried : SdoTransferState → List ℕ → ℕ → SdoTransferState
retried t image clock = record { transaction = t.transaction; total = t.total; offset = t.offset; index = t.index; sub = t.sub; deadline = Some (deadline_after image clock); retries = t.retries - 1; stored = t.stored }

unfoldable pub tick_upload : Connection → List ℕ → List ℕ → ℕ → SdoTransferState → Ticking
tick_upload r share image clock t =
    pick (ltb 0 t.retries)
    (ticks (with_state r (SegmentedUpload (retried t image clock))) (record { header = record { receive = r.receive; rcon = R.ConnectionValid; send = r.send; scon = S.ConnectionValidAckRequest }; command = stored_piece t share }))
    (times_out r t)

unfoldable pub tick_in : SdoServerState → Connection → List ℕ → List ℕ → ℕ → Ticking
tick_in Closed r share image clock = idle
tick_in Opening r share image clock = idle
tick_in Established r share image clock = idle
tick_in (SegmentedDownload t) r share image clock = times_out r t
tick_in (SegmentedUpload t) r share image clock = tick_upload r share image clock t

unfoldable pub tick_record : Connection → List ℕ → List ℕ → ℕ → Ticking
tick_record r share image clock = tick_in r.state r share image clock
