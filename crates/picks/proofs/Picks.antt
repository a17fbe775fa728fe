-- Laws of `pick`: which case a value is, from the test that led there.
use mathlib.Core.Path.{◌≡◌, refl, sym, ap, ◌∙◌}
use mathlib.Core.Bool.{Bool, true, false}
use borrow.Author.Tests.{lt-ltb, le-ltb, le-leb, lt-leb, eq-eqb, ne_eqb}
use Rattle.picks.specs.Pick.{pick}

pub pick_t : {A : Type 0} (b : Bool) (x a d : A) → b ≡ true → x ≡ a → x ≡ pick b a d
unfolding pick
pick_t b x a d e p = rw e p

pub pick_f : {A : Type 0} (b : Bool) (x a d : A) → b ≡ false → x ≡ d → x ≡ pick b a d
unfolding pick
pick_f b x a d e p = rw e p

-- what holds of both choices, each under its test, holds of the choice
pub pick_elim : {A : Type 0} (P : A → Type 0) (b : Bool) (x y : A) → (b ≡ true → P x) → (b ≡ false → P y) → P (pick b x y)
unfolding pick
pick_elim P true x y t f = t refl
pick_elim P false x y t f = f refl

-- a function of a choice is the choice of its values
pub pick_ap : {A B : Type 0} (f : A → B) (b : Bool) (x y : A) → f (pick b x y) ≡ pick b (f x) (f y)
unfolding pick
pick_ap f true x y = refl
pick_ap f false x y = refl

-- what a callee's result says of the test that it is, once it is known
pub flag : {r b v : Bool} → r ≡ b → r ≡ v → b ≡ v
flag p q = sym p ∙ q

-- a definition by cases, at the case that an arm was told
pub at_case : {A R : Type 0} {r : R} (f : A → R) {x y : A} → x ≡ y → r ≡ f y → r ≡ f x
at_case f e p = p ∙ sym (ap f e)

pub ruleset picks = (pick_t, pick_f, flag, lt-ltb, le-ltb, le-leb, lt-leb, eq-eqb, ne_eqb)
