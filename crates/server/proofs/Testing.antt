-- The tests of a request by the places that were found; the numbers by which a test refuses.
use Prim.Native.Nat.{ℕ, ◌<◌}
use mathlib.Core.Path.{◌≡◌, refl, sym, ap, ◌∙◌}
use mathlib.Core.Bool.{Bool, true, false, ◌&&◌, not}
use mathlib.Core.List.{List, [], ◌∷◌}
use lib.ListN.{length}
use lib.Dec.{ltb, eqb}
use Rattle.picks.specs.Pick.{first, every}
use Rattle.picks.proofs.Picks.{pick_t, pick_f}
use Rattle.picks.proofs.Keep.{by_test, not_both, of_both}
use Rattle.protocol.specs.declared.Refusal.{Refusal}
use Rattle.protocol.specs.declared.Refusal.TheVariants as N
use Rattle.protocol.specs.declared.SdoClientInfo.{SdoClientInfo}
use Rattle.protocol.specs.declared.Connection.{Connection}
use Rattle.protocol.specs.Coding.{refusal_number}
use Rattle.protocol.specs.ConnectionTable.{sound_table, place_of, is_known, is_unused, unused_of}
use Rattle.std.specs.Prelude.{Option, IfSome, is_some}
use Rattle.row.specs.Row.{place_in}
use Rattle.table.specs.Row.{unused_place}
use Rattle.table.proofs.Walk.{none_left, told_past}
use Rattle.protocol.specs.Calls.{Test, Verdict, refuse, accept, verdict}
use Rattle.protocol.specs.Request.{request_tests}
use Rattle.protocol.specs.Tick.{tick_tests}
use Rattle.refusals.specs.Tests.{frame_tests}
use Rattle.server.proofs.Laws.{and_then, tick_tests_lem, request_tests_lem}

-- a refusal that a list of tests gives is that of one of them
abbrev refuses : Verdict → Bool
refuses (refuse x) = true
refuses accept = false

abbrev reason : Verdict → Refusal
reason (refuse x) = x
reason accept = N.Lent

pub in_tests : (p : Refusal → Bool) (ts : List Test) (x : Refusal) → every (λ t. p t.refusal) ts ≡ true → verdict ts ≡ refuse x → p x ≡ true
unfolding every verdict
in_tests p [] x e v = not_both (ap refuses v) refl
in_tests p (t ∷ ts) x e v =
    let w = of_both (p t.refusal) (every (λ u. p u.refusal) ts) e in
    by_test t.holds
    (λ h. ap p (ap reason (sym v ∙ sym (pick_t _ _ _ _ h refl))) ∙ w.0)
    (λ h. in_tests p ts x w.1 (pick_f _ _ _ _ h refl ∙ v))

-- the numbers that leave the table
abbrev pub early : Refusal → Bool
early x = ltb 0 (refusal_number x) && ltb (refusal_number x) 8

module _ (clock : ℕ) (image answer : List ℕ) (row : List Connection) (area : List ℕ) where
  pub request_small : (client : SdoClientInfo) (request : List ℕ) → every (λ t. early t.refusal) (request_tests client clock request image answer row area) ≡ true
  unfolding every request_tests
  request_small client request = refl

  pub tick_small : every (λ t. early t.refusal) (tick_tests clock image answer row area) ≡ true
  unfolding every tick_tests
  tick_small = refl

  -- with what is lent accepted, the request's own tests decide
  pub frame_verdict : length row ≡ 8 → verdict (tick_tests clock image answer row area) ≡ accept → (client : SdoClientInfo) (request : List ℕ) (full : Bool) → full ≡ (not (is_known client row) && eqb (length (unused_of row)) 0) → verdict (frame_tests (length request) full) ≡ verdict (request_tests client clock request image answer row area)
  frame_verdict l v client request full f =
      let w = verdict (frame_tests (length request) full) in
      ap (λ u. and_then u w) (sym (tick_tests_lem clock image answer row area l (sound_table row) refl ∙ v)) ∙ request_tests_lem clock image answer row area l (sound_table row) refl client request full f

  -- refused by a test of what is lent, a request is refused by its tests
  pub lent_verdict : length row ≡ 8 → (client : SdoClientInfo) (request : List ℕ) (x : Refusal) → refuse x ≡ verdict (tick_tests clock image answer row area) → refuse x ≡ verdict (request_tests client clock request image answer row area)
  lent_verdict l client request x v =
      let full = not (is_known client row) && eqb (length (unused_of row)) 0 in
      let w = verdict (frame_tests (length request) full) in
      ap (λ u. and_then u w) (v ∙ sym (tick_tests_lem clock image answer row area l (sound_table row) refl)) ∙ request_tests_lem clock image answer row area l (sound_table row) refl client request full refl

-- a row of eight is full by its places
pub full_is : (client : SdoClientInfo) (row : List Connection) (place free : Option ℕ) (a b : Bool) → length row ≡ 8 → place_in place ≡ place_of client row → IfSome place (λ i. i < 8) → place_in free ≡ unused_place row → IfSome free (λ i. i < 8) → is_some place ≡ not a → is_some free ≡ not b → (a && b) ≡ (not (is_known client row) && eqb (length (unused_of row)) 0)
unfolding unused_place
full_is client row place free a b l ep hp ef hf na nb =
    rw (told_past place (place_of client row) a ep hp na, told_past free (first is_unused row) b ef hf nb, none_left is_unused row, l)
