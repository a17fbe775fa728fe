-- What a test refuses leaves all, and what a request leaves of a table of bytes.
use Prim.Native.Nat.{ℕ}
use mathlib.Core.Path.{◌≡◌, refl, sym, ap, ◌∙◌}
use mathlib.Core.Bool.{true, ◌&&◌}
use mathlib.Core.List.{List}
use lib.Dec.{ltb}
use Rattle.picks.specs.Pick.{pick}
use Rattle.picks.proofs.Picks.{pick_t}
use Rattle.protocol.specs.declared.Refusal.{Refusal}
use Rattle.protocol.specs.declared.Connection.{Connection}
use Rattle.protocol.specs.Coding.{Answer, refused, value, refusal_number}
use Rattle.protocol.specs.Calls.{refuse, verdict, To, Called}
use Rattle.protocol.specs.Tick.{tick_tests, on_tick_verdict, tick_of}
use Rattle.server.specs.Tables.{LeftIn, number_of, kept_or_made}
use Rattle.server.proofs.Testing.{early, in_tests, tick_small}
use Rattle.format.specs.Format.{table_bytes}
use Rattle.outcomes.specs.declared.SdoAnswer.{SdoAnswer}
use Rattle.outcomes.specs.Outcomes.{only, request_answer, tick_answer, table_left}
use Rattle.export.specs.Exported.{Left, left, left_by}

-- the numbers that leave the table's bytes
early_left : (x : Refusal) (row : List Connection) (bytes : List ℕ) → early x ≡ true → bytes ≡ table_left (refusal_number x) row bytes
unfolding table_left
early_left x row bytes e = pick_t _ _ _ _ e refl

-- refused by a test, a tick leaves all
module _ (clock : ℕ) (image answer : List ℕ) (row : List Connection) (area bytes : List ℕ) where
  pub tick_refused_early : (x : Refusal) (told : SdoAnswer) → refuse x ≡ verdict (tick_tests clock image answer row area) → told ≡ only (refusal_number x) → left told bytes area image answer ≡ left_by tick_answer bytes (tick_of clock image answer row area)
  unfolding tick_of on_tick_verdict
  tick_refused_early x told v e =
      let k = in_tests early (tick_tests clock image answer row area) x (tick_small clock image answer row area) (sym v) in
      ap (λ r. left r bytes area image answer) e ∙ ap (λ b. left (only (refusal_number x)) b area image answer) (early_left x row bytes k) ∙ ap (λ w. left_by tick_answer bytes (on_tick_verdict clock image answer row area w)) v

-- what a request leaves of a table of bytes
abbrev pub left_of : LeftIn (List ℕ) → Left
left_of l = left (request_answer l.returned) l.table l.area l.image l.answer

pub kept_is : (bytes : List ℕ) (r : Called To) → left_of (kept_or_made table_bytes bytes r) ≡ left_by request_answer bytes r
unfolding table_left
kept_is bytes r =
    ap (λ n. left (request_answer r.returned) (pick (ltb 0 n && ltb n 8) bytes (table_bytes r.table)) r.area r.image r.answer) (number_is r.returned)
  where
    number_is : (a : Answer To) → number_of a ≡ (request_answer a).outcome
    number_is (refused n) = refl
    number_is (value x) = refl
