-- Marks as numbers are the marks with Options: after the same events their mark is the same.
use mathlib.Core.Path.{◌≡◌, refl, sym, ap, ◌∙◌}
use mathlib.Core.Bool.{Bool, true, false, not}
use mathlib.Core.List.{List, [], ◌∷◌}
use lib.Dec.{eqb, ltb}
use borrow.Author.Tests.{eqb-true}
use Rattle.std.specs.Prelude.{ℕ, Option, Some, None, unwrap_or, fold}
use Rattle.std.specs.Bool.{then_some}
use Rattle.std.specs.Option.{is_some}
use Rattle.picks.specs.Pick.{pick}
use Rattle.marking.specs.declared.Exercise.{Exercise}
use Rattle.marking.specs.declared.Event.{Event}
use Rattle.marking.specs.declared.Event.TheVariants as E
use Rattle.marking.specs.declared.Mark.TheVariants.{Passed, OtherLength, NotOpened, NotAsked, Stopped}
use Rattle.marking.specs.declared.Marks.{Marks}
use Rattle.marking.specs.Marks.{passes, with_other, with_piece, with_finish, further_of, marks_after, marks_of, denial_mark, stopped_mark, unfinished_mark, finished_mark, mark_of, unmarked_of, passes_in}
use Rattle.marking.specs.Numbers as N
use Rattle.marking.proofs.Laws.{passed_exactly}

missing_numbers : (m : Marks) → N.unfinished_mark (N.numbers_of m) ≡ unfinished_mark m
unfolding unfinished_mark N.unfinished_mark pick
missing_numbers m = go m.opened m.asked m.furthest
  where
    go : (o a : Bool) (far : Option (ℕ × ℕ)) → pick (not o) NotOpened (pick (not a) NotAsked (pick (is_some far) (Stopped (unwrap_or far (0, 0)).0 (unwrap_or far (0, 0)).1) (denial_mark m.denial))) ≡ pick (not o) NotOpened (pick (not a) NotAsked (stopped_mark far m.denial))
    go false a far = refl
    go true false far = refl
    go true true None = refl
    go true true (Some far) = refl

-- the mark of its numbers is that of the marks
pub mark_numbers : (m : Marks) → N.mark_of (N.numbers_of m) ≡ mark_of m
unfolding mark_of N.mark_of pick
mark_numbers m = go m.passed m.other
  where
    go : (p : Bool) (other : Option ℕ) → pick p Passed (pick (is_some other) (OtherLength (unwrap_or other 0)) (N.unfinished_mark (N.numbers_of m))) ≡ pick p Passed (finished_mark other (unfinished_mark m))
    go true other = refl
    go false (Some length) = refl
    go false None = missing_numbers m

piece_numbers : (m : Marks) (sent total : ℕ) → N.with_piece (N.numbers_of m) sent total ≡ N.numbers_of (with_piece m sent total)
unfolding further_of N.with_piece pick
piece_numbers m sent total = go (ltb (unwrap_or m.furthest (0, 0)).0 sent)
  where
    go : (b : Bool) → pick b (N.at_piece (N.numbers_of m) sent total) (N.at_piece (N.numbers_of m) (unwrap_or m.furthest (0, 0)).0 (unwrap_or m.furthest (0, 0)).1) ≡ N.numbers_of (record m { furthest = Some (pick b (sent, total) (unwrap_or m.furthest (0, 0))); ended = None })
    go true = refl
    go false = refl

-- an abort's code is its number, and 0 is that of none
ended_number : (code : ℕ) → code ≡ unwrap_or (then_some (not (eqb code 0)) code) 0
ended_number code = go (eqb code 0) refl
  where
    go : (b : Bool) → eqb code 0 ≡ b → code ≡ unwrap_or (then_some (not b) code) 0
    go true e = eqb-true code 0 e
    go false e = refl

finish_numbers : (m : Marks) (e : Exercise) (n : ℕ) → N.with_finish (N.numbers_of m) e n ≡ N.numbers_of (with_finish m e n)
unfolding with_finish N.with_finish pick
finish_numbers m e n = go (eqb n e.length) m.other
  where
    go : (b : Bool) (other : Option ℕ) → pick b (N.passes (N.numbers_of (record m { other = other }))) (pick (is_some other) (N.numbers_of (record m { other = other })) (N.with_other (N.numbers_of m) n)) ≡ N.numbers_of (pick b (passes (record m { other = other })) (with_other (record m { other = other }) n))
    go true other = refl
    go false (Some length) = refl
    go false None = refl

-- its numbers after an event are those of the marks after it
pub after_numbers : (e : Exercise) (m : Marks) (event : Option Event) → N.marks_after e (N.numbers_of m) event ≡ N.numbers_of (marks_after e m event)
after_numbers e m None = refl
after_numbers e m (Some E.Opened) = refl
after_numbers e m (Some E.Asked) = refl
after_numbers e m (Some (E.Aborted code)) = refl
after_numbers e m (Some (E.Refused number)) = refl
after_numbers e m (Some (E.Sent sent total)) = piece_numbers m sent total
after_numbers e m (Some (E.Ended code)) = ap (λ (n : ℕ). record (N.numbers_of m) { ended = n }) (ended_number code)
after_numbers e m (Some (E.Finished n)) = finish_numbers m e n

over_numbers : (e : Exercise) (m : Marks) (events : List (Option Event)) → fold (N.marks_after e) (N.numbers_of m) events ≡ N.numbers_of (fold (marks_after e) m events)
over_numbers e m [] = refl
over_numbers e m (event ∷ events) =
    ap (λ s. fold (N.marks_after e) s events) (after_numbers e m event) ∙ over_numbers e (marks_after e m event) events

-- the mark of a recording is the same
pub recording_numbers : (e : Exercise) (events : List (Option Event)) → N.mark_of (N.marks_of e events) ≡ mark_of (marks_of e events)
recording_numbers e events = ap N.mark_of (over_numbers e unmarked_of events) ∙ mark_numbers (marks_of e events)

-- the mark is passed exactly if a reading of the exercise's object finished with the exercise's length
pub numbers_passed_exactly : (e : Exercise) (events : List (Option Event)) → (N.mark_of (N.marks_of e events) ≡ Passed → passes_in e events ≡ true) × (passes_in e events ≡ true → N.mark_of (N.marks_of e events) ≡ Passed)
numbers_passed_exactly e events =
    let same = recording_numbers e events in
    let exactly = passed_exactly e events in
    (λ p. exactly.0 (sym same ∙ p), λ p. same ∙ exactly.1 p)
