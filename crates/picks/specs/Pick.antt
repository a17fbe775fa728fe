-- The choice by a test, and the walks along a list, that definitions use.
use Rattle.std.specs.Prelude.{ℕ, suc, Bool, true, false, ◌&&◌, List, [], ◌∷◌}

-- a where the test holds, else b
unfoldable pub pick : {A : Type 0} → Bool → A → A → A
pick true a b = a
pick false a b = b

-- the place of the first element that passes the test, or the length where none does
unfoldable pub first : {A : Type 0} → (A → Bool) → List A → ℕ
first f [] = 0
first f (x ∷ xs) = pick (f x) 0 (suc (first f xs))

-- what a list leads to, element after element, from a start
unfoldable pub fold : {S A : Type 0} → (S → A → S) → S → List A → S
fold f s [] = s
fold f s (x ∷ xs) = fold f (f s x) xs

-- each element passes the test at the state that those before it lead to
unfoldable pub checks : {S A : Type 0} → (S → A → Bool) → (S → A → S) → S → List A → Bool
checks ok next s [] = true
checks ok next s (x ∷ xs) = ok s x && checks ok next (next s x) xs

-- every element passes the test; how many do
unfoldable pub every : {A : Type 0} → (A → Bool) → List A → Bool
every f [] = true
every f (x ∷ xs) = f x && every f xs

unfoldable pub count : {A : Type 0} → (A → Bool) → List A → ℕ
count f [] = 0
count f (x ∷ xs) = pick (f x) (suc (count f xs)) (count f xs)

-- the elements that pass the test, in their order
unfoldable pub keep : {A : Type 0} → (A → Bool) → List A → List A
keep f [] = []
keep f (x ∷ xs) = pick (f x) (x ∷ keep f xs) (keep f xs)
