-- Laws of the walks along a list: keep, every, count and first, among themselves and over ++, set and map.
use Prim.Native.Nat.{ℕ, zero, suc, ◌+◌, ◌≤◌, ◌<◌}
use native.Mathlib.Omega.{arith}
use native.Mathlib.Nat.{zero-add, suc-add}
use mathlib.Core.Path.{◌≡◌, refl, sym, ap, ◌∙◌}
use mathlib.Core.Bool.{Bool, true, false, not, ◌&&◌, and_assoc}
use mathlib.Core.List.{List, [], ◌∷◌, ◌++◌, map, tail}
use lib.ListN.{length, get_or, set}
use lib.Dec.{ltb, leb-suc-suc}
use borrow.Author.Tests.{lt-ltb, not-true}
use Rattle.std.specs.List.{list_all}
use Rattle.picks.specs.Pick.{pick, first, every, count, keep}

-- std's test of a whole list is the definitions'
pub all_every : {A : Type 0} (f : A → Bool) (xs : List A) → list_all f xs ≡ every f xs
unfolding every
all_every f [] = refl
all_every f (x ∷ xs) = rw (all_every f xs)

-- what holds whichever way a test goes
pub by_test : {P : Type 0} (b : Bool) → (b ≡ true → P) → (b ≡ false → P) → P
by_test true t f = t refl
by_test false t f = f refl

-- no test goes both ways
pub not_both : {P : Type 0} {b : Bool} → b ≡ true → b ≡ false → P
not_both {b} t f = let z : ◌≡◌ {A = ℕ} 0 1 = cc in absurd (omega arith)

-- both tests, and each of them
pub both : {a b : Bool} → a ≡ true → b ≡ true → (a && b) ≡ true
both p q = rw (p, q)

pub of_both : (a b : Bool) → (a && b) ≡ true → (a ≡ true) × (b ≡ true)
of_both true true e = (refl, refl)
of_both true false e = (refl, e)
of_both false b e = not_both e refl

pub left : (a b : Bool) → (a && b) ≡ true → a ≡ true
left a b e = (of_both a b e).0

pub right : (a b : Bool) → (a && b) ≡ true → b ≡ true
right a b e = (of_both a b e).1

module _ {A : Type 0} (f : A → Bool) where
  -- the first element, by its test
  pub keep_yes : (x : A) (xs : List A) → f x ≡ true → keep f (x ∷ xs) ≡ x ∷ keep f xs
  unfolding keep pick
  keep_yes x xs h = rw h

  pub keep_no : (x : A) (xs : List A) → f x ≡ false → keep f (x ∷ xs) ≡ keep f xs
  unfolding keep pick
  keep_no x xs h = rw h

  pub count_yes : (x : A) (xs : List A) → f x ≡ true → count f (x ∷ xs) ≡ suc (count f xs)
  unfolding count pick
  count_yes x xs h = rw h

  pub count_no : (x : A) (xs : List A) → f x ≡ false → count f (x ∷ xs) ≡ count f xs
  unfolding count pick
  count_no x xs h = rw h

  pub first_yes : (x : A) (xs : List A) → f x ≡ true → first f (x ∷ xs) ≡ 0
  unfolding first pick
  first_yes x xs h = rw h

  pub first_no : (x : A) (xs : List A) → f x ≡ false → first f (x ∷ xs) ≡ suc (first f xs)
  unfolding first pick
  first_no x xs h = rw h

  pub every_cons : (x : A) (xs : List A) → f x ≡ true → every f xs ≡ true → every f (x ∷ xs) ≡ true
  unfolding every
  every_cons x xs h e = both h e

  pub of_every : (x : A) (xs : List A) → every f (x ∷ xs) ≡ true → (f x ≡ true) × (every f xs ≡ true)
  unfolding every
  of_every x xs e = of_both (f x) (every f xs) e

  -- over ++
  pub keep_append : (xs ys : List A) → keep f (xs ++ ys) ≡ keep f xs ++ keep f ys
  unfolding keep
  keep_append [] ys = refl
  keep_append (x ∷ xs) ys =
      by_test (f x) (λ h. rw (keep_yes x (xs ++ ys) h, keep_yes x xs h, keep_append xs ys)) (λ h. rw (keep_no x (xs ++ ys) h, keep_no x xs h) (keep_append xs ys))

  pub every_append : (xs ys : List A) → every f (xs ++ ys) ≡ (every f xs && every f ys)
  unfolding every
  every_append [] ys = refl
  every_append (x ∷ xs) ys = rw (every_append xs ys) (sym (and_assoc (f x) (every f xs) (every f ys)))

  pub count_append : (xs ys : List A) → count f (xs ++ ys) ≡ count f xs + count f ys
  unfolding count
  count_append [] ys = sym (zero-add _)
  count_append (x ∷ xs) ys =
      by_test (f x) (λ h. rw (count_yes x (xs ++ ys) h, count_yes x xs h, count_append xs ys) (sym (suc-add _ _))) (λ h. rw (count_no x (xs ++ ys) h, count_no x xs h) (count_append xs ys))

  -- what is kept passes, and there are as many as the count says
  pub every_kept : (xs : List A) → every f (keep f xs) ≡ true
  unfolding keep every
  every_kept [] = refl
  every_kept (x ∷ xs) =
      by_test (f x) (λ h. rw (keep_yes x xs h) (every_cons x (keep f xs) h (every_kept xs))) (λ h. rw (keep_no x xs h) (every_kept xs))

  pub length_keep : (xs : List A) → length (keep f xs) ≡ count f xs
  unfolding keep count
  length_keep [] = refl
  length_keep (x ∷ xs) =
      by_test (f x) (λ h. rw (keep_yes x xs h, count_yes x xs h, length_keep xs)) (λ h. rw (keep_no x xs h, count_no x xs h) (length_keep xs))

  -- where all pass all are kept, and where none does none is
  pub keep_all : (xs : List A) → every f xs ≡ true → keep f xs ≡ xs
  unfolding keep every
  keep_all [] e = refl
  keep_all (x ∷ xs) e = let p = of_every x xs e in rw (keep_yes x xs p.0, keep_all xs p.1)

  pub keep_none : (xs : List A) → every (λ x. not (f x)) xs ≡ true → keep f xs ≡ []
  unfolding keep every
  keep_none [] e = refl
  keep_none (x ∷ xs) e =
      let p = of_both (not (f x)) (every (λ y. not (f y)) xs) e in
      rw (keep_no x xs (not-true (f x) p.0)) (keep_none xs p.1)

  pub keep_again : (xs : List A) → keep f (keep f xs) ≡ keep f xs
  keep_again xs = keep_all (keep f xs) (every_kept xs)

  pub count_none : (xs : List A) → every (λ x. not (f x)) xs ≡ true → count f xs ≡ 0
  count_none xs e = sym (length_keep xs) ∙ ap length (keep_none xs e)

  -- a test that every element passes
  pub every_always : (xs : List A) → ((x : A) → f x ≡ true) → every f xs ≡ true
  unfolding every
  every_always [] h = refl
  every_always (x ∷ xs) h = every_cons x xs (h x) (every_always xs h)

  -- at a place
  pub every_at : (xs : List A) (i : ℕ) (d : A) → every f xs ≡ true → i < length xs → f (get_or xs i d) ≡ true
  unfolding every
  every_at [] i d e h = absurd (omega arith)
  every_at (x ∷ xs) zero d e h = (of_every x xs e).0
  every_at (x ∷ xs) (suc i) d e h = every_at xs i d (of_every x xs e).1 (omega arith)

  pub every_by_place : (xs : List A) (d : A) → ((i : ℕ) → i < length xs → f (get_or xs i d) ≡ true) → every f xs ≡ true
  unfolding every
  every_by_place [] d h = refl
  every_by_place (x ∷ xs) d h = every_cons x xs (h 0 (omega arith)) (every_by_place xs d (λ i l. h (suc i) (omega arith)))

  pub count_at : (xs : List A) (i : ℕ) (d : A) → i < length xs → f (get_or xs i d) ≡ true → 0 < count f xs
  count_at [] i d h e = absurd (omega arith)
  count_at (x ∷ xs) zero d h e = omega (arith, count_yes x xs e)
  count_at (x ∷ xs) (suc i) d h e =
      let r = count_at xs i d (omega arith) e in
      by_test (f x) (λ t. omega (arith, count_yes x xs t)) (λ t. omega (arith, count_no x xs t))

  -- where at most one element passes, its place is the only one
  pub one_place : (xs : List A) (i j : ℕ) (d : A) → count f xs ≤ 1 → i < length xs → j < length xs → f (get_or xs i d) ≡ true → f (get_or xs j d) ≡ true → i ≡ j
  one_place [] i j d c hi hj ei ej = absurd (omega arith)
  one_place (x ∷ xs) zero zero d c hi hj ei ej = refl
  one_place (x ∷ xs) zero (suc j) d c hi hj ei ej = absurd (omega (arith, count_yes x xs ei, count_at xs j d (omega arith) ej))
  one_place (x ∷ xs) (suc i) zero d c hi hj ei ej = absurd (omega (arith, count_yes x xs ej, count_at xs i d (omega arith) ei))
  one_place (x ∷ xs) (suc i) (suc j) d c hi hj ei ej =
      let c' : count f xs ≤ 1 = by_test (f x) (λ t. omega (arith, count_yes x xs t)) (λ t. omega (arith, count_no x xs t)) in
      ap suc (one_place xs i j d c' (omega arith) (omega arith) ei ej)

  -- over set
  pub every_set : (xs : List A) (i : ℕ) (a : A) → every f xs ≡ true → f a ≡ true → every f (set xs i a) ≡ true
  unfolding every
  every_set [] i a e h = refl
  every_set (x ∷ xs) zero a e h = every_cons a xs h (of_every x xs e).1
  every_set (x ∷ xs) (suc i) a e h = every_cons x (set xs i a) (of_every x xs e).0 (every_set xs i a (of_every x xs e).1 h)

  pub count_set : (xs : List A) (i : ℕ) (a d : A) → f a ≡ f (get_or xs i d) → count f (set xs i a) ≡ count f xs
  unfolding count
  count_set [] i a d e = refl
  count_set (x ∷ xs) zero a d e = rw e
  count_set (x ∷ xs) (suc i) a d e = rw (count_set xs i a d e)

  pub first_set : (xs : List A) (i : ℕ) (a d : A) → f a ≡ f (get_or xs i d) → first f (set xs i a) ≡ first f xs
  unfolding first
  first_set [] i a d e = refl
  first_set (x ∷ xs) zero a d e = rw e
  first_set (x ∷ xs) (suc i) a d e = rw (first_set xs i a d e)

  pub keep_set : (xs : List A) (i : ℕ) (a d : A) → f a ≡ false → f (get_or xs i d) ≡ false → keep f (set xs i a) ≡ keep f xs
  unfolding keep
  keep_set [] i a d h e = refl
  keep_set (x ∷ xs) zero a d h e = keep_no a xs h ∙ sym (keep_no x xs e)
  keep_set (x ∷ xs) (suc i) a d h e = rw (keep_set xs i a d h e)

  -- the first that passes: it does, none before it does, and where there is none no element passes
  pub first_at : (xs : List A) (d : A) → first f xs < length xs → f (get_or xs (first f xs) d) ≡ true
  first_at [] d h = absurd (omega arith)
  first_at (x ∷ xs) d h =
      by_test (f x) (λ t. rw (first_yes x xs t) t) (λ t. rw (first_no x xs t) (first_at xs d (omega (arith, first_no x xs t))))

  pub first_before : (xs : List A) (i : ℕ) (d : A) → i < first f xs → f (get_or xs i d) ≡ false
  unfolding first
  first_before [] i d h = absurd (omega arith)
  first_before (x ∷ xs) zero d h = by_test (f x) (λ t. absurd (omega (arith, first_yes x xs t))) (λ t. t)
  first_before (x ∷ xs) (suc i) d h =
      by_test (f x) (λ t. absurd (omega (arith, first_yes x xs t))) (λ t. first_before xs i d (omega (arith, first_no x xs t)))

  pub first_le : (xs : List A) → first f xs ≤ length xs
  unfolding first
  first_le [] = omega arith
  first_le (x ∷ xs) =
      by_test (f x) (λ t. omega (arith, first_yes x xs t)) (λ t. omega (arith, first_no x xs t, first_le xs))

  pub first_out : (xs : List A) → length xs ≤ first f xs → every (λ x. not (f x)) xs ≡ true
  unfolding every
  first_out [] h = refl
  first_out (x ∷ xs) h =
      by_test (f x) (λ t. absurd (omega (arith, first_yes x xs t))) (λ t. both (ap not t) (first_out xs (omega (arith, first_no x xs t))))

  pub first_counted : (xs : List A) → 0 < count f xs → first f xs < length xs
  unfolding count
  first_counted [] h = absurd (omega arith)
  first_counted (x ∷ xs) h =
      by_test (f x) (λ t. omega (arith, first_yes x xs t)) (λ t. omega (arith, first_no x xs t, first_counted xs (omega (arith, count_no x xs t))))

  -- the first that passes is the first of those kept
  pub first_kept : (xs : List A) (d : A) → get_or xs (first f xs) d ≡ get_or (keep f xs) 0 d
  unfolding first keep
  first_kept [] d = refl
  first_kept (x ∷ xs) d =
      by_test (f x) (λ t. rw (first_yes x xs t, keep_yes x xs t)) (λ t. rw (first_no x xs t, keep_no x xs t) (first_kept xs d))

  pub first_there : (xs : List A) → ltb (first f xs) (length xs) ≡ ltb 0 (length (keep f xs))
  unfolding first keep
  first_there [] = refl
  first_there (x ∷ xs) =
      by_test (f x) (λ t. rw (first_yes x xs t, keep_yes x xs t) (lt-ltb 0 (suc (length xs)) (omega arith) ∙ sym (lt-ltb 0 (suc (length (keep f xs))) (omega arith)))) (λ t. rw (first_no x xs t, keep_no x xs t, leb-suc-suc (suc (first f xs)) (length xs)) (first_there xs))

module _ {A : Type 0} (f g : A → Bool) where
  -- a test that follows from another
  pub every_follows : (xs : List A) → ((x : A) → f x ≡ true → g x ≡ true) → every f xs ≡ true → every g xs ≡ true
  unfolding every
  every_follows [] h e = refl
  every_follows (x ∷ xs) h e = let p = of_every f x xs e in every_cons g x xs (h x p.0) (every_follows xs h p.1)

  -- what all pass, those kept pass
  pub every_keep : (xs : List A) → every g xs ≡ true → every g (keep f xs) ≡ true
  unfolding every keep
  every_keep [] e = refl
  every_keep (x ∷ xs) e =
      let p = of_every g x xs e in
      by_test (f x) (λ t. rw (keep_yes f x xs t) (every_cons g x (keep f xs) p.0 (every_keep xs p.1))) (λ t. rw (keep_no f x xs t) (every_keep xs p.1))

  -- those kept and those not kept are all
  pub count_split : (xs : List A) → count g (keep f xs) + count g (keep (λ x. not (f x)) xs) ≡ count g xs
  unfolding count keep pick
  count_split [] = refl
  count_split (x ∷ xs) =
      let r = count_split xs in
      by_test (f x) (λ t. rw t (by_test (g x) (λ s. rw s (omega arith)) (λ s. rw s r))) (λ t. rw t (by_test (g x) (λ s. rw s (omega arith)) (λ s. rw s r)))

  -- keeping twice: one test may take in the other, and the order does not matter
  pub keep_within : (xs : List A) → ((x : A) → f x ≡ true → g x ≡ true) → keep f (keep g xs) ≡ keep f xs
  unfolding keep pick
  keep_within [] h = refl
  keep_within (x ∷ xs) h =
      let r = keep_within xs h in
      by_test (f x) (λ t. rw (h x t, t, r)) (λ t. by_test (g x) (λ s. rw (s, t) r) (λ s. rw (s, t) r))

  pub keep_swap : (xs : List A) → keep f (keep g xs) ≡ keep g (keep f xs)
  unfolding keep pick
  keep_swap [] = refl
  keep_swap (x ∷ xs) =
      let r = keep_swap xs in
      by_test (f x) (λ t. by_test (g x) (λ s. simp (s, t, r)) (λ s. simp (s, t) r)) (λ t. by_test (g x) (λ s. simp (s, t) r) (λ s. simp (s, t) r))

-- all are counted where all pass
pub count_all : {A : Type 0} (xs : List A) → count (λ x. true) xs ≡ length xs
unfolding count pick
count_all [] = refl
count_all (x ∷ xs) = ap suc (count_all xs)

-- a list's first element, and the others
pub every_tail : {A : Type 0} (f : A → Bool) (xs : List A) → every f xs ≡ true → every f (tail xs) ≡ true
every_tail f [] e = e
every_tail f (x ∷ xs) e = (of_every f x xs e).1

pub head_tail : {A : Type 0} (xs : List A) (d : A) → 0 < length xs → xs ≡ get_or xs 0 d ∷ tail xs
head_tail [] d h = absurd (omega arith)
head_tail (x ∷ xs) d h = refl

-- over map
module _ {A B : Type 0} (f : B → Bool) (h : A → B) where
  pub every_map : (xs : List A) → every f (map h xs) ≡ every (λ x. f (h x)) xs
  unfolding every
  every_map [] = refl
  every_map (x ∷ xs) = rw (every_map xs)

  pub count_map : (xs : List A) → count f (map h xs) ≡ count (λ x. f (h x)) xs
  unfolding count
  count_map [] = refl
  count_map (x ∷ xs) = rw (count_map xs)
