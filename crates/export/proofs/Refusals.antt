-- What refusals leave, and which bytes are refused by what number.
use Prim.Native.Nat.{ℕ, ◌<◌}
use native.Mathlib.Omega.{arith}
use mathlib.Core.Bool.{Bool, true, false, ◌&&◌, not}
use mathlib.Core.Path.{◌≡◌, refl, sym, ap, ◌∙◌}
use mathlib.Core.List.{List}
use lib.ListN.{length}
use lib.Dec.{eqb}
use borrow.Author.Tests.{lt-ltb, eq-eqb}
use Rattle.picks.specs.Pick.{pick}
use Rattle.picks.proofs.Picks.{pick_elim, pick_t, pick_f}
use Rattle.picks.proofs.Keep.{both}
use Rattle.octets.specs.Octets.{le_bytes}
use Rattle.protocol.specs.declared.Refusal.TheVariants as N
use Rattle.protocol.specs.declared.SdoClientInfo.{SdoClientInfo}
use Rattle.protocol.specs.declared.Connection.{Connection}
use Rattle.protocol.specs.Constants.{RECORDS}
use Rattle.protocol.specs.Coding.{Answer, refused, value, refusal_number}
use Rattle.protocol.specs.DictionaryImage.{sound_image}
use Rattle.protocol.specs.Calls.{Called, To, Verdict, refuse, accept, verdict, lent_wrong}
use Rattle.protocol.specs.Request.{request_tests, accepted, on_verdict, request_of}
use Rattle.protocol.specs.Tick.{tick_tests, tick_told, ticked, on_tick_verdict, tick_of}
use Rattle.protocol.specs.ConnectionTable.{Ticking, idle, ticks}
use Rattle.protocol.specs.DeadlineQuery.{query_tests, query_of}
use Rattle.protocol.proofs.Requests.{accepted_by}
use Rattle.protocol.proofs.StaysSound.{accepted_numbers}
use Rattle.server.proofs.Accepting.{late_kept}
use Rattle.format.specs.Format.{client_of, is_client, is_table, table_bytes}
use Rattle.outcomes.specs.Outcomes.{only, request_answer, tick_answer, query_answer, no_table, row_of, table_left}
use Rattle.outcomes.proofs.Rows.{no_table_unsound}
use Rattle.export.specs.Exported.{Left, left, left_by, request_bytes, tick_bytes, query_bytes}

-- a table of another length than 320 is refused with 1, and all is left
pub request_other_length : (client clock : ℕ) (request image answer table area : List ℕ) → eqb (length table) 320 ≡ false → left (only 1) table area image answer ≡ request_bytes client clock request image answer table area
unfolding request_bytes
request_other_length client clock request image answer table area e = pick_f _ _ _ _ e refl

pub tick_other_length : (clock : ℕ) (image answer table area : List ℕ) → eqb (length table) 320 ≡ false → left (only 1) table area image answer ≡ tick_bytes clock image answer table area
unfolding tick_bytes
tick_other_length clock image answer table area e = pick_f _ _ _ _ e refl

pub query_other_length : (table : List ℕ) → eqb (length table) 320 ≡ false → record { outcome = 1; at = 0 } ≡ query_bytes table
unfolding query_bytes
query_other_length table e = pick_f _ _ _ _ e refl

-- an outcome from 1 to 7 leaves all
abbrev pub LeavesAll : List ℕ → List ℕ → List ℕ → List ℕ → Left → Type 0
LeavesAll table area image answer x = 0 < x.returned.outcome → x.returned.outcome < 8 → x ≡ left x.returned table area image answer

left_by_number : (n : ℕ) (row : List Connection) (table : List ℕ) → 0 < n → n < 8 → table_left n row table ≡ table
unfolding table_left
left_by_number n row table a b = sym (pick_t _ _ _ _ (both (lt-ltb 0 n a) (lt-ltb n 8 b)) refl)

-- a late refusal and an answer leave the bytes of the records
pub late_left : (n : ℕ) (row : List Connection) (bytes : List ℕ) → 7 < n → table_bytes row ≡ table_left n row bytes
unfolding table_left
late_left n row bytes h = sym (late_kept n bytes (table_bytes row) h)

module _ (client : SdoClientInfo) (clock : ℕ) (request image answer : List ℕ) (row : List Connection) (table area : List ℕ) where
  answered_or_late : (x : Called To) → ((n : ℕ) → x.returned ≡ refused n → 7 < n) → LeavesAll table area image answer (left_by request_answer table x)
  answered_or_late x late = by_answer x.returned refl
    where
      by_answer : (a : Answer To) → x.returned ≡ a → LeavesAll table area image answer (left_by request_answer table x)
      by_answer (value y) e = λ l h. absurd (let z : (request_answer x.returned).outcome ≡ 0 = rw e in omega (arith, z))
      by_answer (refused n) e = λ l h. absurd (let z : (request_answer x.returned).outcome ≡ n = rw e in omega (arith, z, late n e))

  request_leaves : LeavesAll table area image answer (left_by request_answer table (request_of client clock request image answer row area))
  unfolding request_of on_verdict
  request_leaves = by_verdict (verdict (request_tests client clock request image answer row area)) refl
    where
      by_verdict : (v : Verdict) → verdict (request_tests client clock request image answer row area) ≡ v → LeavesAll table area image answer (left_by request_answer table (on_verdict client clock request image answer row area v))
      by_verdict (refuse x) e = λ l h. rw (left_by_number (refusal_number x) row table l h)
      by_verdict accept e = answered_or_late (accepted client clock request image answer row area) (λ n f. (accepted_numbers client clock request image answer row area (accepted_by client clock request image answer row area e) n f).0)

pub request_refusal_leaves : (client clock : ℕ) (request image answer table area : List ℕ) → LeavesAll table area image answer (request_bytes client clock request image answer table area)
unfolding request_bytes
request_refusal_leaves client clock request image answer table area =
    pick_elim (LeavesAll table area image answer) (eqb (length table) 320) _ _ (λ e. request_leaves (client_of (le_bytes 8 client)) clock request image answer (row_of (is_client (le_bytes 8 client)) table) table area) (λ e l h. refl)

module _ (clock : ℕ) (image answer : List ℕ) (row : List Connection) (table area : List ℕ) where
  told_late : (i : ℕ) (r : Connection) (x : Ticking) → LeavesAll table area image answer (left_by tick_answer table (tick_told clock image answer row area i r x))
  unfolding tick_told
  told_late i r idle = λ l h. absurd (omega arith)
  told_late i r (ticks r' reply) = λ l h. absurd (omega arith)

  tick_leaves : LeavesAll table area image answer (left_by tick_answer table (tick_of clock image answer row area))
  unfolding tick_of on_tick_verdict ticked
  tick_leaves = by_verdict (verdict (tick_tests clock image answer row area))
    where
      by_verdict : (v : Verdict) → LeavesAll table area image answer (left_by tick_answer table (on_tick_verdict clock image answer row area v))
      by_verdict (refuse x) = λ l h. rw (left_by_number (refusal_number x) row table l h)
      by_verdict accept = told_late _ _ _

pub tick_refusal_leaves : (clock : ℕ) (image answer table area : List ℕ) → LeavesAll table area image answer (tick_bytes clock image answer table area)
unfolding tick_bytes
tick_refusal_leaves clock image answer table area =
    pick_elim (LeavesAll table area image answer) (eqb (length table) 320) _ _ (λ e. tick_leaves clock image answer (row_of true table) table area) (λ e l h. refl)

-- 320 bytes that are no table, or a client that is none: 3, after 1 and 2, and all is left
abbrev pub no_table_number : List ℕ → List ℕ → List ℕ → ℕ
no_table_number image answer area = pick (lent_wrong no_table area answer) 1 (pick (not (sound_image image)) 2 3)

three_tests : (a b : Bool) (v : Verdict) (f : Verdict → Left) (g : ℕ → Left) → f (refuse N.Lent) ≡ g 1 → f (refuse N.Image) ≡ g 2 → f (refuse N.Table) ≡ g 3 → f (pick a (refuse N.Lent) (pick b (refuse N.Image) (pick true (refuse N.Table) v))) ≡ g (pick a 1 (pick b 2 3))
unfolding pick
three_tests true b v f g h1 h2 h3 = h1
three_tests false true v f g h1 h2 h3 = h2
three_tests false false v f g h1 h2 h3 = h3

module _ (clock : ℕ) (image answer table area : List ℕ) where
  abbrev left_with : ℕ → Left
  left_with n = left (only n) table area image answer

  request_of_none : (client : SdoClientInfo) (request : List ℕ) → left_by request_answer table (request_of client clock request image answer no_table area) ≡ left_with (no_table_number image answer area)
  unfolding request_of request_tests verdict on_verdict table_left pick
  request_of_none client request =
      rw no_table_unsound (three_tests (lent_wrong no_table area answer) (not (sound_image image)) accept (λ v. left_by request_answer table (on_verdict client clock request image answer no_table area v)) left_with refl refl refl)

  tick_of_none : left_by tick_answer table (tick_of clock image answer no_table area) ≡ left_with (no_table_number image answer area)
  unfolding tick_of tick_tests verdict on_tick_verdict table_left pick
  tick_of_none =
      rw no_table_unsound (three_tests (lent_wrong no_table area answer) (not (sound_image image)) accept (λ v. left_by tick_answer table (on_tick_verdict clock image answer no_table area v)) left_with refl refl refl)

  pub request_no_table : (client : ℕ) (request : List ℕ) → length table ≡ 320 → (is_client (le_bytes 8 client) && is_table table) ≡ false → left (only (no_table_number image answer area)) table area image answer ≡ request_bytes client clock request image answer table area
  unfolding request_bytes row_of
  request_no_table client request l e =
      let r : no_table ≡ row_of (is_client (le_bytes 8 client)) table = pick_f _ _ _ _ e refl in
      pick_t _ _ _ _ (eq-eqb _ _ l) (sym (request_of_none (client_of (le_bytes 8 client)) request) ∙ ap (λ t. left_by request_answer table (request_of (client_of (le_bytes 8 client)) clock request image answer t area)) r)

  pub tick_no_table : length table ≡ 320 → is_table table ≡ false → left (only (no_table_number image answer area)) table area image answer ≡ tick_bytes clock image answer table area
  unfolding tick_bytes row_of
  tick_no_table l e =
      let r : no_table ≡ row_of true table = pick_f _ _ _ _ e refl in
      pick_t _ _ _ _ (eq-eqb _ _ l) (sym tick_of_none ∙ ap (λ t. left_by tick_answer table (tick_of clock image answer t area)) r)

pub query_no_table : (table : List ℕ) → length table ≡ 320 → is_table table ≡ false → record { outcome = 3; at = 0 } ≡ query_bytes table
unfolding query_bytes row_of query_of query_tests verdict pick RECORDS
query_no_table table l e =
    let r : no_table ≡ row_of true table = pick_f _ _ _ _ e refl in
    let q : query_of no_table ≡ refused 3 = rw no_table_unsound in
    pick_t _ _ _ _ (eq-eqb _ _ l) (ap query_answer (sym q ∙ ap query_of r))
