-- Which number a call returns.
use Prim.Native.Nat.{ℕ, suc, ◌<◌, ◌≤◌}
use native.Mathlib.Omega.{arith}
use mathlib.Core.Path.{◌≡◌, refl}
use mathlib.Core.Bool.{Bool, true, false}
use mathlib.Core.List.{List, [], ◌∷◌, map}
use lib.ListN.{length, get_or}
use Rattle.picks.specs.Pick.{pick, first}
use Rattle.protocol.specs.declared.SdoClientInfo.{SdoClientInfo}
use Rattle.protocol.specs.declared.Connection.{Connection}
use Rattle.protocol.specs.Coding.{refusal_number}
use Rattle.protocol.specs.Calls.{Test, refuse, accept, verdict}
use Rattle.protocol.specs.Request.{request_tests}
use Rattle.protocol.specs.Tick.{tick_tests}
use Rattle.protocol.specs.DeadlineQuery.{query_tests}

abbrev fails : Test → Bool
fails t = t.holds

-- the verdict is that of the first test that holds; it accepts where none does
pub verdict_first : (ts : List Test) (z : Test) → first fails ts < length ts → verdict ts ≡ refuse (get_or ts (first fails ts) z).refusal
unfolding verdict first pick
verdict_first [] z h = absurd (omega arith)
verdict_first (t ∷ ts) z h = go t.holds refl (verdict_first ts z)
  where
    go : (b : Bool) → t.holds ≡ b → (first fails ts < length ts → verdict ts ≡ refuse (get_or ts (first fails ts) z).refusal) → verdict (t ∷ ts) ≡ refuse (get_or (t ∷ ts) (first fails (t ∷ ts)) z).refusal
    go true e r = rw e
    go false e r = rw e (r (let l : first fails (t ∷ ts) ≡ suc (first fails ts) = rw e in omega arith))

pub verdict_none : (ts : List Test) → length ts ≤ first fails ts → verdict ts ≡ accept
unfolding verdict first pick
verdict_none [] h = refl
verdict_none (t ∷ ts) h = go t.holds refl (verdict_none ts)
  where
    go : (b : Bool) → t.holds ≡ b → (length ts ≤ first fails ts → verdict ts ≡ accept) → verdict (t ∷ ts) ≡ accept
    go true e r = absurd (let l : first fails (t ∷ ts) ≡ 0 = rw e in omega arith)
    go false e r = rw e (r (let l : first fails (t ∷ ts) ≡ suc (first fails ts) = rw e in omega arith))

-- where a call is accepted, each test came out false
pub accepted_head : (t : Test) (ts : List Test) → verdict (t ∷ ts) ≡ accept → (t.holds ≡ false) × (verdict ts ≡ accept)
unfolding verdict pick
accepted_head t ts e = go t.holds refl
  where
    go : (b : Bool) → t.holds ≡ b → (t.holds ≡ false) × (verdict ts ≡ accept)
    go true f = absurd (let z : ◌≡◌ {A = ℕ} 0 1 = cc (rw f at e) in omega arith)
    go false f = (f, rw f at e)

-- the numbers of the base's tests ascend, so that the first that holds is the lowest
pub request_ascends : (client : SdoClientInfo) (clock : ℕ) (request image answer : List ℕ) (table : List Connection) (area : List ℕ) → map (λ t. refusal_number t.refusal) (request_tests client clock request image answer table area) ≡ 1 ∷ 2 ∷ 3 ∷ 4 ∷ 5 ∷ 6 ∷ 7 ∷ []
unfolding request_tests
request_ascends client clock request image answer table area = refl

pub tick_ascends : (clock : ℕ) (image answer : List ℕ) (table : List Connection) (area : List ℕ) → map (λ t. refusal_number t.refusal) (tick_tests clock image answer table area) ≡ 1 ∷ 2 ∷ 3 ∷ 4 ∷ []
unfolding tick_tests
tick_ascends clock image answer table area = refl

pub query_ascends : (table : List Connection) → map (λ t. refusal_number t.refusal) (query_tests table) ≡ 1 ∷ 3 ∷ []
unfolding query_tests
query_ascends table = refl
