-- A tick that finds nobody due and no Closed record leaves the records as they are.
use Prim.Native.Nat.{ℕ, ◌≤◌, ◌<◌}
use mathlib.Core.Path.{◌≡◌, refl, sym, ap, ◌∙◌}
use mathlib.Core.Bool.{Bool, true, false, ◌&&◌, not}
use mathlib.Core.List.{List}
use lib.ListN.{length, get_or, get_or-eq_default}
use lib.Dec.{ltb}
use borrow.Author.Tests.{ltb-true, ltb-false}
use Rattle.picks.specs.Pick.{pick, every, first}
use Rattle.picks.proofs.Keep.{by_test, not_both, of_both, every_at, every_follows, first_at}
use Rattle.protocol.specs.declared.Connection.{Connection}
use Rattle.protocol.specs.Coding.{value}
use Rattle.protocol.specs.ConnectionTable.{fresh, is_closed, is_due, chosen, sound_table, release, tick_in, tick_record, share_of}
use Rattle.protocol.specs.Calls.{Called, accept, verdict}
use Rattle.protocol.specs.Tick.{Told, nobody, tick_tests, tick_told, ticked, on_tick_verdict, tick_of}
use Rattle.format.specs.Format.{table_bytes, table_of}
use Rattle.connection.specs.Among.{is_gone}
use Rattle.table.proofs.Release.{release_none, gone_used}
use Rattle.table.proofs.Sound.{sound_used_first}
use Rattle.packed.specs.Packed.{is_quiet}
use Rattle.outcomes.specs.declared.SdoAnswer.{SdoAnswer}
use Rattle.outcomes.specs.Outcomes.{only, tick_answer, table_left}
use Rattle.export.specs.Exported.{left, left_by}

module _ (clock : ℕ) (image answer : List ℕ) (row : List Connection) (area : List ℕ) (sound : sound_table row ≡ true) (quiet : every (is_quiet clock) row ≡ true) where
  nobody_due : length row ≤ chosen row clock
  unfolding chosen
  nobody_due =
      by_test (ltb (first (is_due clock) row) (length row))
      (λ e.
      let i = first (is_due clock) row in
      let l : i < length row = ltb-true i (length row) e in
      let q = of_both (not (is_due clock (get_or row i (fresh 0)))) (not (is_gone (get_or row i (fresh 0)))) (every_at (is_quiet clock) row i (fresh 0) quiet l) in
      not_both (first_at (is_due clock) row (fresh 0) l) (not_true_of (is_due clock (get_or row i (fresh 0))) q.0))
      (λ e. ltb-false (first (is_due clock) row) (length row) e)
    where
      not_true_of : (b : Bool) → not b ≡ true → b ≡ false
      not_true_of true e = not_both refl (sym e)
      not_true_of false e = refl

  none_gone : every (λ r. not (is_gone r)) row ≡ true
  none_gone = every_follows (is_quiet clock) (λ r. not (is_gone r)) row (λ r e. (of_both (not (is_due clock r)) (not (is_gone r)) e).1) quiet

  kept : release (λ r. r.used && is_closed r.state) row ≡ row
  kept = release_none is_gone gone_used row (sound_used_first row sound) none_gone

  pub quiet_ticked : ◌≡◌ {A = Called Told} (record { returned = value nobody; answer = answer; table = row; area = area; image = image }) (ticked clock image answer row area)
  unfolding ticked tick_told tick_record tick_in
  quiet_ticked =
      let f : fresh 0 ≡ get_or row (chosen row clock) (fresh 0) = sym (get_or-eq_default row (fresh 0) nobody_due) in
      ap (λ t. record { returned = value nobody; answer = answer; table = t; area = area; image = image }) (sym kept) ∙ ap (λ r. tick_told clock image answer row area (chosen row clock) r (tick_record r (share_of area r.area) image clock)) f

-- the table's bytes are then those of its records
pub quiet_left : (clock : ℕ) (image answer area bytes bytes' : List ℕ) (row : List Connection) (told : SdoAnswer) → row ≡ table_of bytes → every (is_quiet clock) (table_of bytes) ≡ true → sound_table row ≡ true → accept ≡ verdict (tick_tests clock image answer row area) → bytes' ≡ table_bytes (table_of bytes) → told ≡ only 255 → left told bytes' area image answer ≡ left_by tick_answer bytes (tick_of clock image answer row area)
unfolding tick_of on_tick_verdict table_left pick
quiet_left clock image answer area bytes bytes' row told er quiet sound v eb et =
    let q = quiet_ticked clock image answer row area sound (ap (every (is_quiet clock)) er ∙ quiet) in
    let b : bytes' ≡ table_bytes row = eb ∙ ap table_bytes (sym er) in
    ap (λ r. left r bytes' area image answer) et ∙ ap (λ x. left (only 255) x area image answer) b ∙ ap (left_by tick_answer bytes) q ∙ ap (λ w. left_by tick_answer bytes (on_tick_verdict clock image answer row area w)) v
