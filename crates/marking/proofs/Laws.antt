-- What the marking's definitions come to.
use mathlib.Core.Path.{◌≡◌, refl, sym, ap, ◌∙◌}
use mathlib.Core.Bool.{Bool, true, false, ◌||◌, not, or-false, or-true, or_assoc}
use mathlib.Core.List.{List, [], ◌∷◌}
use lib.Dec.{eqb}
use Rattle.std.specs.Prelude.{ℕ, Option, Some, None, fold}
use Rattle.picks.specs.Pick.{pick}
use Rattle.picks.proofs.Picks.{pick_t}
use Rattle.marking.specs.declared.Exercise.{Exercise}
use Rattle.marking.specs.declared.Event.{Event}
use Rattle.marking.specs.declared.Event.TheVariants as E
use Rattle.marking.specs.declared.Denial.{Denial}
use Rattle.marking.specs.declared.Denial.TheVariants as D
use Rattle.marking.specs.declared.Marks.{Marks}
use Rattle.marking.specs.declared.Mark.{Mark}
use Rattle.marking.specs.declared.Mark.TheVariants.{Passed, OtherLength, NotOpened, NotAsked, DeniedBy, RefusedWith, NotAnswered, Stopped}
use Rattle.marking.specs.Marks.{marks_after, marks_of, passes, with_other, with_finish, is_pass, passes_in, denial_mark, stopped_mark, unfinished_mark, finished_mark, mark_of, unmarked_of}

-- an event passes, or leaves what was
pub passed_after : (e : Exercise) (m : Marks) (event : Option Event) → (marks_after e m event).passed ≡ m.passed || is_pass e event
unfolding is_pass with_finish pick
passed_after e m None = sym (or-false m.passed)
passed_after e m (Some E.Opened) = sym (or-false m.passed)
passed_after e m (Some E.Asked) = sym (or-false m.passed)
passed_after e m (Some (E.Aborted code)) = sym (or-false m.passed)
passed_after e m (Some (E.Refused number)) = sym (or-false m.passed)
passed_after e m (Some (E.Sent sent total)) = sym (or-false m.passed)
passed_after e m (Some (E.Ended code)) = sym (or-false m.passed)
passed_after e m (Some (E.Finished n)) = go (eqb n e.length)
  where
    go : (b : Bool) → (pick b (passes m) (with_other m n)).passed ≡ m.passed || b
    go true = sym (or-true m.passed)
    go false = sym (or-false m.passed)

pub passed_over : (e : Exercise) (m : Marks) (events : List (Option Event)) → (fold (marks_after e) m events).passed ≡ m.passed || passes_in e events
unfolding passes_in
passed_over e m [] = sym (or-false m.passed)
passed_over e m (event ∷ events) =
    passed_over e (marks_after e m event) events ∙ ap (λ (b : Bool). b || passes_in e events) (passed_after e m event) ∙ or_assoc m.passed (is_pass e event) (passes_in e events)

is_passed : Mark → Bool
is_passed Passed = true
is_passed (OtherLength n) = false
is_passed NotOpened = false
is_passed NotAsked = false
is_passed (DeniedBy code) = false
is_passed (RefusedWith number) = false
is_passed NotAnswered = false
is_passed (Stopped sent total) = false

missing_denial : (d : Option Denial) → is_passed (denial_mark d) ≡ false
unfolding is_passed
missing_denial None = refl
missing_denial (Some (D.Code code)) = refl
missing_denial (Some (D.Number number)) = refl

missing_end : (far : Option (ℕ × ℕ)) (d : Option Denial) → is_passed (stopped_mark far d) ≡ false
unfolding is_passed
missing_end None d = missing_denial d
missing_end (Some far) d = refl

missing_step : (m : Marks) → is_passed (unfinished_mark m) ≡ false
unfolding is_passed unfinished_mark pick
missing_step m = go m.opened m.asked
  where
    go : (o a : Bool) → is_passed (pick (not o) NotOpened (pick (not a) NotAsked (stopped_mark m.furthest m.denial))) ≡ false
    go false a = refl
    go true false = refl
    go true true = missing_end m.furthest m.denial

mark_passed : (m : Marks) → is_passed (mark_of m) ≡ m.passed
unfolding is_passed mark_of pick
mark_passed m = go m.passed m.other
  where
    go : (p : Bool) (f : Option ℕ) → is_passed (pick p Passed (finished_mark f (unfinished_mark m))) ≡ p
    go true f = refl
    go false (Some length) = refl
    go false None = missing_step m

-- the mark is passed exactly if a reading of the exercise's object finished with the exercise's length
pub passed_exactly : (e : Exercise) (events : List (Option Event)) → (mark_of (marks_of e events) ≡ Passed → passes_in e events ≡ true) × (passes_in e events ≡ true → mark_of (marks_of e events) ≡ Passed)
unfolding is_passed mark_of
passed_exactly e events =
    let m = marks_of e events in
    (λ p. sym (passed_over e unmarked_of events) ∙ sym (mark_passed m) ∙ ap is_passed p, λ p. sym (pick_t _ _ _ _ (passed_over e unmarked_of events ∙ p) refl))
