-- A record's own part of the area, lent on and back; tests in order.
use Prim.Native.Nat.{ℕ, ◌+◌, ◌*◌, ◌≤◌}
use native.Mathlib.Omega.{arith}
use mathlib.Core.Bool.{Bool, true, false, not, ◌||◌, ◌&&◌}
use mathlib.Core.Path.{◌≡◌, refl, sym, ap, ◌∙◌}
use mathlib.Core.List.{List, [], ◌∷◌, ◌++◌}
use lib.ListN.{length, take, drop}
use lib.Dec.{eqb, ltb}
use Rattle.picks.specs.Pick.{pick}
use Rattle.octets.proofs.Splice.{store_part, part_splice}
use Rattle.protocol.specs.declared.Refusal.{Refusal}
use Rattle.protocol.specs.declared.SdoClientInfo.{SdoClientInfo}
use Rattle.protocol.specs.declared.Connection.{Connection}
use Rattle.protocol.specs.Constants.{SHARE, RECORDS, ANSWER_MIN, AREA}
use Rattle.protocol.specs.ConnectionTable.{sound_table, is_known, unused_of, share_of, with_share}
use Rattle.protocol.specs.Request.{request_tests}
use Rattle.protocol.specs.Tick.{tick_tests}
use Rattle.refusals.specs.Tests.{lent_tests, frame_tests}
use Rattle.protocol.specs.Calls.{Test, Verdict, refuse, accept, verdict}

module _ (n k : ℕ) (area z : List ℕ) (whole : k ≡ SHARE) (long : length z ≡ k) (inside : SHARE * n + SHARE ≤ length area) where
  -- the part put back is the share laid in the area
  pub laid_back : take (SHARE * n) area ++ (z ++ drop k (drop (SHARE * n) area)) ≡ with_share area n z
  laid_back = store_part (SHARE * n) k z area long (omega arith)

  -- and is then the record's own
  pub own_again : share_of (with_share area n z) n ≡ z
  own_again = ap (λ m. take m (drop (SHARE * n) (with_share area n z))) (let q : SHARE ≡ length z = omega arith in q) ∙ part_splice (SHARE * n) z area (omega arith)

-- a row of eight has the right length
pub lent_test : (b : Bool) (t : List Connection) (v : Bool) → length t ≡ 8 → b ≡ v → b || not (eqb (length t) RECORDS) ≡ v
unfolding RECORDS
lent_test true t v e f = f
lent_test false t v e f = rw e f

-- the tests of one list, and then those of another
abbrev pub and_then : Verdict → Verdict → Verdict
and_then (refuse x) v = refuse x
and_then accept v = v

joined_tests : (b : Bool) (x : Refusal) (u v w : Verdict) → u ≡ and_then v w → pick b (refuse x) u ≡ and_then (pick b (refuse x) v) w
unfolding pick
joined_tests true x u v w e = refl
joined_tests false x u v w e = e

pub verdict_append : (xs ys : List Test) → verdict (xs ++ ys) ≡ and_then (verdict xs) (verdict ys)
unfolding verdict
verdict_append [] ys = refl
verdict_append (t ∷ ts) ys = joined_tests t.holds t.refusal (verdict (ts ++ ys)) (verdict ts) (verdict ys) (verdict_append ts ys)

-- the tests by what is told of a table of eight are those of the table
module _ (clock : ℕ) (image answer : List ℕ) (t : List Connection) (area : List ℕ) (e : length t ≡ 8) (b : Bool) (s : b ≡ sound_table t) where
  pub tick_tests_lem : verdict (lent_tests b clock image answer area) ≡ verdict (tick_tests clock image answer t area)
  unfolding tick_tests
  tick_tests_lem =
      let x = ltb (length answer) ANSWER_MIN || not (eqb (length area) AREA) in
      let l : x || not (eqb (length t) RECORDS) ≡ x = lent_test x t x e refl in
      rw (l, s)

  pub request_tests_lem : (client : SdoClientInfo) (request : List ℕ) (full : Bool) → full ≡ (not (is_known client t) && eqb (length (unused_of t)) 0) → and_then (verdict (lent_tests b clock image answer area)) (verdict (frame_tests (length request) full)) ≡ verdict (request_tests client clock request image answer t area)
  unfolding request_tests tick_tests
  request_tests_lem client request full f =
      let ts = tick_tests clock image answer t area in
      ap (λ v. and_then v (verdict (frame_tests (length request) full))) tick_tests_lem ∙ ap (λ y. and_then (verdict ts) (verdict (frame_tests (length request) y))) f ∙ sym (verdict_append ts (frame_tests (length request) (not (is_known client t) && eqb (length (unused_of t)) 0)))
