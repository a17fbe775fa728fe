-- Laws of answers, and of coding into a lent buffer.
use Prim.Native.Nat.{ℕ, ◌≤◌, ◌<◌}
use native.Mathlib.Omega.{arith}
use mathlib.Core.Path.{◌≡◌, refl, sym, ap, ◌∙◌}
use mathlib.Core.Bool.{Bool, true, false}
use mathlib.Core.List.{List}
use lib.ListN.{length}
use borrow.Author.Tests.{lt-ltb, le-ltb}
use Rattle.picks.specs.Pick.{pick}
use Rattle.octets.specs.Octets.{splice}
use Rattle.protocol.specs.Coding.{Answer, refused, value, written, put}

-- two values that are one answer are one
pub value_one : {A : Type 0} {x y : A} → value x ≡ value y → x ≡ y
value_one e = cc

-- no refusal is a value
pub refused_none : {A : Type 0} {n : ℕ} {x : A} → refused n ≡ value x → ⊥
refused_none e = let z : ◌≡◌ {A = ℕ} 0 1 = cc in omega arith

-- where a test that refuses came out as a value, the test was false
pub past_test : {A : Type 0} (t : Bool) (n : ℕ) (x : Answer A) (v : A) → pick t (refused n) x ≡ value v → (t ≡ false) × (x ≡ value v)
unfolding pick
past_test true n x v e = absurd (refused_none e)
past_test false n x v e = (refl, e)

-- coding into a buffer that is too short, and into one that is not
pub written_short : (bytes buffer : List ℕ) → length buffer < length bytes → written bytes buffer ≡ refused 1
unfolding pick
written_short bytes buffer h = rw (lt-ltb _ _ h)

pub left_short : (bytes buffer : List ℕ) → length buffer < length bytes → put bytes buffer ≡ buffer
unfolding pick
left_short bytes buffer h = rw (lt-ltb _ _ h)

pub written_fits : (bytes buffer : List ℕ) → length bytes ≤ length buffer → written bytes buffer ≡ value (length bytes)
unfolding pick
written_fits bytes buffer h = rw (le-ltb _ _ h)

pub left_fits : (bytes buffer : List ℕ) → length bytes ≤ length buffer → put bytes buffer ≡ splice 0 bytes buffer
unfolding pick
left_fits bytes buffer h = rw (le-ltb _ _ h)

-- both together, of what is told and what is left
pub put_short : (bytes buffer : List ℕ) → length buffer < length bytes → (refused 1 ≡ written bytes buffer) × (buffer ≡ put bytes buffer)
put_short bytes buffer h = (sym (written_short bytes buffer h), sym (left_short bytes buffer h))

pub put_fits : (bytes buffer : List ℕ) (n : ℕ) (d : List ℕ) → length bytes ≤ length buffer → n ≡ length bytes → d ≡ splice 0 bytes buffer → (value n ≡ written bytes buffer) × (d ≡ put bytes buffer)
put_fits bytes buffer n d h e f = (ap value e ∙ sym (written_fits bytes buffer h), f ∙ sym (left_fits bytes buffer h))
