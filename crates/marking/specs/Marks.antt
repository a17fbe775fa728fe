-- The mark of an exercise: what each call says of it, what the events come to, and the mark.
use Rattle.std.specs.Prelude.{ℕ, Bool, true, false, not, ◌&&◌, ◌||◌, Option, Some, None, unwrap_or, List, [], ◌∷◌, position, fold, get_or, take, drop, eqb, ltb}
use Rattle.std.specs.Bool.{then_some}
use Rattle.std.specs.Option.{option_or}
use Rattle.picks.specs.Pick.{pick}
use Rattle.octets.specs.Octets.{le}
use Rattle.protocol.specs.declared.SdoClientInfo.{SdoClientInfo}
use Rattle.protocol.specs.declared.SequenceLayerHeader.{SequenceLayerHeader}
use Rattle.protocol.specs.SequenceHeader.{receive_mark, send_mark}
use Rattle.reading.specs.declared.frame.Frame.{Frame}
use Rattle.reading.specs.declared.frame.Frame.TheVariants.{Short, Empty, Unreadable, Command}
use Rattle.reading.specs.declared.Reading.{Reading}
use Rattle.reading.specs.declared.Piece.{Piece}
use Rattle.reading.specs.declared.Piece.TheVariants.{Other, Whole, First, Next, Last, Again, Abort}
use Rattle.marking.specs.declared.Exercise.{Exercise}
use Rattle.marking.specs.declared.Event.{Event}
use Rattle.marking.specs.declared.Event.TheVariants as E
use Rattle.marking.specs.declared.Denial.{Denial}
use Rattle.marking.specs.declared.Denial.TheVariants as D
use Rattle.marking.specs.declared.Marks.{Marks}
use Rattle.marking.specs.declared.Book.{Book}
use Rattle.marking.specs.declared.Noted.{Noted}
use Rattle.marking.specs.declared.Mark.{Mark}
use Rattle.marking.specs.declared.Mark.TheVariants.{Passed, OtherLength, NotOpened, NotAsked, DeniedBy, RefusedWith, NotAnswered, Stopped}
use Rattle.reading.specs.Frame.{frame_of, payload_in}
use Rattle.reading.specs.Reading.{is_read, piece_of, about_of, reading_after}
use Rattle.reading.specs.Rows.{is_own, place_for, reading_at, with_reading, no_readings}

-- a request for the exercise's object
abbrev pub asks_of : Exercise → Frame → List ℕ → Bool
asks_of e f bytes =
    is_read f && eqb (le (take 2 (drop 0 (payload_in f bytes)))) e.index && eqb (get_or (payload_in f bytes) 2 0) e.sub

-- a last piece finishes a reading where all bytes of the size in Initiate were sent
unfoldable pub last_event : Reading → Event
last_event r = pick (eqb r.sent r.total) (E.Finished r.sent) (E.Sent r.sent r.total)

-- later pieces and an abort count for a reading whose beginning was seen
abbrev pub reading_event : Bool → Reading → Piece → Option Event
reading_event ran r Other = None
reading_event ran r Whole = Some (E.Finished r.sent)
reading_event ran r (First total) = Some (E.Sent r.sent r.total)
reading_event ran r Next = then_some ran (E.Sent r.sent r.total)
reading_event ran r Last = then_some ran (last_event r)
reading_event ran r Again = None
reading_event ran r (Abort code) = then_some ran (E.Ended code)

-- of the exercise's object
unfoldable pub piece_event : Exercise → Bool → Reading → Piece → Option Event
piece_event e ran r p = pick (eqb r.index e.index && eqb r.sub e.sub) (reading_event ran r p) None

abbrev pub denial_event : Bool → Piece → Option Event
denial_event asked Other = None
denial_event asked Whole = None
denial_event asked (First total) = None
denial_event asked Next = None
denial_event asked Last = None
denial_event asked Again = None
denial_event asked (Abort code) = then_some asked (E.Aborted code)

-- the first denial counts
abbrev pub denied : Marks → Denial → Marks
denied m d = record m { denial = option_or m.denial (Some d) }

-- the reading that came furthest counts
unfoldable pub further_of : ℕ × ℕ → ℕ × ℕ → ℕ × ℕ
further_of before now = pick (ltb before.0 now.0) now before

abbrev pub with_piece : Marks → ℕ → ℕ → Marks
with_piece m sent total =
    record m { furthest = Some (further_of (unwrap_or m.furthest (0, 0)) (sent, total)); ended = None }

-- an abort without a code confirms the client's own
abbrev pub with_end : Marks → ℕ → Marks
with_end m code = record m { ended = then_some (not (eqb code 0)) code }

abbrev pub passes : Marks → Marks
passes m = record m { passed = true }

abbrev pub with_other : Marks → ℕ → Marks
with_other m length = record m { other = option_or m.other (Some length) }

-- a finish passes where it has the exercise's length; of the others the first counts
unfoldable pub with_finish : Marks → Exercise → ℕ → Marks
with_finish m e n = pick (eqb n e.length) (passes m) (with_other m n)

abbrev pub opens : Marks → Marks
opens m = record m { opened = true }

abbrev pub asked : Marks → Marks
asked m = record m { asked = true }

abbrev pub event_marks : Exercise → Marks → Event → Marks
event_marks e m E.Opened = opens m
event_marks e m E.Asked = asked m
event_marks e m (E.Aborted code) = denied m (D.Code code)
event_marks e m (E.Refused number) = denied m (D.Number number)
event_marks e m (E.Sent sent total) = with_piece m sent total
event_marks e m (E.Ended code) = with_end m code
event_marks e m (E.Finished n) = with_finish m e n

abbrev pub marks_after : Exercise → Marks → Option Event → Marks
marks_after e m None = m
marks_after e m (Some event) = event_marks e m event

-- the events of an answer, and of a refusal, in their order
abbrev pub answered_marks : Marks → Exercise → Bool → Bool → Piece → Option Event → Marks
answered_marks m e opened asked p event =
    marks_after e (marks_after e (marks_after e (marks_after e m (then_some opened E.Opened)) (then_some asked E.Asked)) (denial_event asked p)) event

abbrev pub refused_marks : Marks → Exercise → Bool → ℕ → Marks
refused_marks m e asked number =
    marks_after e (marks_after e m (then_some asked E.Asked)) (then_some asked (E.Refused number))

abbrev pub unmarked_of : Marks
unmarked_of =
    record { opened = false; asked = false; denial = None; furthest = None; ended = None; other = None; passed = false }

-- the steps of the procedure: the connection is opened, the object asked for, the object sent, the pieces acknowledged to the end
abbrev pub denial_mark : Option Denial → Mark
denial_mark None = NotAnswered
denial_mark (Some (D.Code code)) = DeniedBy code
denial_mark (Some (D.Number number)) = RefusedWith number

abbrev pub stopped_mark : Option (ℕ × ℕ) → Option Denial → Mark
stopped_mark None d = denial_mark d
stopped_mark (Some far) d = Stopped far.0 far.1

unfoldable pub unfinished_mark : Marks → Mark
unfinished_mark m =
    pick (not m.opened) NotOpened (pick (not m.asked) NotAsked (stopped_mark m.furthest m.denial))

abbrev pub finished_mark : Option ℕ → Mark → Mark
finished_mark None missing = missing
finished_mark (Some length) missing = OtherLength length

unfoldable pub mark_of : Marks → Mark
mark_of m = pick m.passed Passed (finished_mark m.other (unfinished_mark m))

-- a book of the marks and of each client's reading, and an answer's entry in it
abbrev pub empty_book : Book
empty_book = record { marks = unmarked_of; readings = no_readings }

abbrev pub anew_book : Book → Book
anew_book b = record { marks = b.marks; readings = no_readings }

-- an answer under initialisation opens a connection
abbrev pub initialised : SequenceLayerHeader → Bool
initialised h = eqb (receive_mark h.rcon) 1 && eqb (send_mark h.scon) 1

abbrev pub opens_in : Frame → Bool
opens_in Short = false
opens_in (Empty h) = initialised h
opens_in (Unreadable h) = initialised h
opens_in (Command h c) = initialised h

-- a client's reading is the running one that is its own, or a new one
unfoldable pub noted_of : Book → Exercise → Frame → List ℕ → Frame → Option ℕ → Piece → Reading → Noted
noted_of b e q request a own p r =
    let event = piece_event e (reading_at b.readings own).running r p in
    record { piece = p; reading = r; event = event; book = record { marks = answered_marks b.marks e (opens_in a) (asks_of e q request) p event; readings = with_reading b.readings (place_for b.readings own) r } }

abbrev pub answered_book : Book → Exercise → SdoClientInfo → List ℕ → List ℕ → Noted
answered_book b e client request answer =
    let q = frame_of request in
    let a = frame_of answer in
    let p = piece_of q a answer in
    let own = position (is_own client) b.readings in
    noted_of b e q request a own p (reading_after (about_of (reading_at b.readings own) client p (payload_in q request)) p (payload_in a answer))

abbrev pub refused_book : Book → Exercise → List ℕ → ℕ → Book
refused_book b e request number = record { marks = refused_marks b.marks e (asks_of e (frame_of request) request) number; readings = b.readings }

-- what a recording's events come to
abbrev pub marks_of : Exercise → List (Option Event) → Marks
marks_of e events = fold (marks_after e) unmarked_of events

-- a finish of the exercise's object with the exercise's length
unfoldable pub is_pass : Exercise → Option Event → Bool
is_pass e None = false
is_pass e (Some E.Opened) = false
is_pass e (Some E.Asked) = false
is_pass e (Some (E.Aborted code)) = false
is_pass e (Some (E.Refused number)) = false
is_pass e (Some (E.Sent sent total)) = false
is_pass e (Some (E.Ended code)) = false
is_pass e (Some (E.Finished n)) = eqb n e.length

-- there is one among the events
unfoldable pub passes_in : Exercise → List (Option Event) → Bool
passes_in e [] = false
passes_in e (event ∷ events) = is_pass e event || passes_in e events
