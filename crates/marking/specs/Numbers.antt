-- The marks of an exercise as flags with numbers beside them, of which each may be any: what the events come to, and the mark. What a call says is as in Marks.
use Rattle.std.specs.Prelude.{ℕ, Bool, true, false, not, Option, Some, None, unwrap_or, List, position, fold, eqb, ltb}
use Rattle.std.specs.Bool.{then_some}
use Rattle.std.specs.Option.{is_some, option_or}
use Rattle.picks.specs.Pick.{pick}
use Rattle.protocol.specs.declared.SdoClientInfo.{SdoClientInfo}
use Rattle.reading.specs.declared.frame.Frame.{Frame}
use Rattle.reading.specs.declared.Reading.{Reading}
use Rattle.reading.specs.declared.Piece.{Piece}
use Rattle.reading.specs.Frame.{frame_of, payload_in}
use Rattle.reading.specs.Reading.{piece_of, about_of, reading_after}
use Rattle.reading.specs.Rows.{is_own, place_for, reading_at, with_reading, no_readings}
use Rattle.marking.specs.declared.Exercise.{Exercise}
use Rattle.marking.specs.declared.Event.{Event}
use Rattle.marking.specs.declared.Event.TheVariants as E
use Rattle.marking.specs.declared.Denial.{Denial}
use Rattle.marking.specs.declared.Denial.TheVariants as D
use Rattle.marking.specs.declared.Mark.{Mark}
use Rattle.marking.specs.declared.Mark.TheVariants.{Passed, OtherLength, NotOpened, NotAsked, Stopped}
use Rattle.marking.specs.declared.Marks as Optional
use Rattle.marking.specs.declared.numbers.Marks.{Marks}
use Rattle.marking.specs.declared.numbers.Book.{Book}
use Rattle.marking.specs.declared.numbers.Noted.{Noted}
use Rattle.marking.specs.Marks.{asks_of, piece_event, denial_event, denial_mark, opens_in}

-- the first denial counts
abbrev pub denied : Marks → Denial → Marks
denied m d = record m { denial = option_or m.denial (Some d) }

abbrev pub at_piece : Marks → ℕ → ℕ → Marks
at_piece m sent total = record m { begun = true; sent = sent; total = total; ended = 0 }

-- the reading that came furthest counts
unfoldable pub with_piece : Marks → ℕ → ℕ → Marks
with_piece m sent total = pick (ltb m.sent sent) (at_piece m sent total) (at_piece m m.sent m.total)

abbrev pub with_end : Marks → ℕ → Marks
with_end m code = record m { ended = code }

abbrev pub passes : Marks → Marks
passes m = record m { passed = true }

abbrev pub with_other : Marks → ℕ → Marks
with_other m length = record m { finished = true; other = length }

-- a finish passes where it has the exercise's length; of the others the first counts
unfoldable pub with_finish : Marks → Exercise → ℕ → Marks
with_finish m e n = pick (eqb n e.length) (passes m) (pick m.finished m (with_other m n))

abbrev pub opens : Marks → Marks
opens m = record m { opened = true }

abbrev pub asked : Marks → Marks
asked m = record m { asked = true }

abbrev pub event_marks : Exercise → Marks → Event → Marks
event_marks e m E.Opened = opens m
event_marks e m E.Asked = asked m
event_marks e m (E.Aborted code) = denied m (D.Code code)
event_marks e m (E.Refused number) = denied m (D.Number number)
event_marks e m (E.Sent sent total) = with_piece m sent total
event_marks e m (E.Ended code) = with_end m code
event_marks e m (E.Finished n) = with_finish m e n

abbrev pub marks_after : Exercise → Marks → Option Event → Marks
marks_after e m None = m
marks_after e m (Some event) = event_marks e m event

-- the events of an answer, and of a refusal, in their order
abbrev pub answered_marks : Marks → Exercise → Bool → Bool → Piece → Option Event → Marks
answered_marks m e opened asked p event =
    marks_after e (marks_after e (marks_after e (marks_after e m (then_some opened E.Opened)) (then_some asked E.Asked)) (denial_event asked p)) event

abbrev pub refused_marks : Marks → Exercise → Bool → ℕ → Marks
refused_marks m e asked number =
    marks_after e (marks_after e m (then_some asked E.Asked)) (then_some asked (E.Refused number))

abbrev pub unmarked_of : Marks
unmarked_of =
    record { opened = false; asked = false; denial = None; begun = false; sent = 0; total = 0; ended = 0; finished = false; other = 0; passed = false }

-- the steps of the procedure: the connection is opened, the object asked for, the object sent, the pieces acknowledged to the end
unfoldable pub unfinished_mark : Marks → Mark
unfinished_mark m =
    pick (not m.opened) NotOpened
    (pick (not m.asked) NotAsked
    (pick m.begun (Stopped m.sent m.total) (denial_mark m.denial)))

unfoldable pub mark_of : Marks → Mark
mark_of m = pick m.passed Passed (pick m.finished (OtherLength m.other) (unfinished_mark m))

-- a book of the marks and of each client's reading, and an answer's entry in it
abbrev pub empty_book : Book
empty_book = record { marks = unmarked_of; readings = no_readings }

abbrev pub anew_book : Book → Book
anew_book b = record { marks = b.marks; readings = no_readings }

-- a client's reading is the running one that is its own, or a new one
unfoldable pub noted_of : Book → Exercise → Frame → List ℕ → Frame → Option ℕ → Piece → Reading → Noted
noted_of b e q request a own p r =
    let event = piece_event e (reading_at b.readings own).running r p in
    record { piece = p; reading = r; event = event; book = record { marks = answered_marks b.marks e (opens_in a) (asks_of e q request) p event; readings = with_reading b.readings (place_for b.readings own) r } }

abbrev pub answered_book : Book → Exercise → SdoClientInfo → List ℕ → List ℕ → Noted
answered_book b e client request answer =
    let q = frame_of request in
    let a = frame_of answer in
    let p = piece_of q a answer in
    let own = position (is_own client) b.readings in
    noted_of b e q request a own p (reading_after (about_of (reading_at b.readings own) client p (payload_in q request)) p (payload_in a answer))

abbrev pub refused_book : Book → Exercise → List ℕ → ℕ → Book
refused_book b e request number = record { marks = refused_marks b.marks e (asks_of e (frame_of request) request) number; readings = b.readings }

-- what a recording's events come to
abbrev pub marks_of : Exercise → List (Option Event) → Marks
marks_of e events = fold (marks_after e) unmarked_of events

-- the numbers of marks that have Options: 0, and a flag that is false, where there is none
abbrev pub numbers_of : Optional.Marks → Marks
numbers_of m =
    let far = unwrap_or m.furthest (0, 0) in
    record { opened = m.opened; asked = m.asked; denial = m.denial; begun = is_some m.furthest; sent = far.0; total = far.1; ended = unwrap_or m.ended 0; finished = is_some m.other; other = unwrap_or m.other 0; passed = m.passed }
