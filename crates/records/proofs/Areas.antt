-- `areas_once` as one pass with the numbers seen so far.
use Prim.Native.Nat.{ℕ, zero, suc, ◌<◌, ◌≤◌}
use native.Mathlib.Omega.{arith}
use mathlib.Core.Path.{◌≡◌, refl, sym, ap, ◌∙◌}
use mathlib.Core.Bool.{Bool, true, false, ◌&&◌, not}
use mathlib.Core.List.{List, [], ◌∷◌}
use lib.ListN.{length, get_or, set, replicate, length-set}
use lib.Seq.{get_or-set_same}
use lib.Dec.{ltb, eqb}
use borrow.Author.Tests.{lt-ltb, le-ltb, eq-eqb, ne_eqb, eqb-true, ltb-true, not-true}
use Rattle.std.proofs.Math.Bool.{and-false}
use Rattle.picks.specs.Pick.{every, count, checks}
use Rattle.picks.proofs.Keep.{by_test, not_both, left, both, of_every, count_yes, count_no, every_always}
use Rattle.protocol.specs.declared.Connection.{Connection}
use Rattle.protocol.specs.Constants.{RECORDS}
use Rattle.protocol.specs.ConnectionTable.{has_area, areas_once}

-- the area number is below 8 and not yet seen; it is seen from then on
abbrev pub unseen : List Bool → Connection → Bool
unseen seen r = ltb r.area 8 && not (get_or seen r.area false)

abbrev pub mark : List Bool → Connection → List Bool
mark seen r = set seen r.area true

-- a number that is seen, one past the end, and one that is unseen
pub seen_not : (seen : List Bool) (n : ℕ) → true ≡ get_or seen n false → (ltb n 8 && not (get_or seen n false)) ≡ false
seen_not seen n e = rw (← e) (and-false (ltb n 8))

pub past_not : (seen : List Bool) (n : ℕ) → length seen ≡ 8 → length seen ≤ n → (ltb n 8 && not (get_or seen n false)) ≡ false
past_not seen n l h = rw (le-ltb n 8 (omega (arith, l, h)))

pub unseen_so : (seen : List Bool) (n : ℕ) → length seen ≡ 8 → n < length seen → false ≡ get_or seen n false → (ltb n 8 && not (get_or seen n false)) ≡ true
unseen_so seen n l h e = rw (lt-ltb n 8 (omega (arith, l, h)), ← e)

-- none passes a test that none is counted for
pub none_counted : {A : Type 0} (f : A → Bool) (t : List A) → count f t ≤ 0 → every (λ x. not (f x)) t ≡ true
unfolding every
none_counted f [] h = refl
none_counted f (x ∷ xs) h =
    by_test (f x) (λ t. absurd (omega (arith, count_yes f x xs t))) (λ t. both (ap not t) (none_counted f xs (omega (arith, count_no f x xs t))))

-- tests that agree wherever another holds, and a test that fails somewhere
every_same : {A : Type 0} (p f g : A → Bool) (xs : List A) → every p xs ≡ true → ((x : A) → p x ≡ true → f x ≡ g x) → every f xs ≡ every g xs
unfolding every
every_same p f g [] e h = refl
every_same p f g (x ∷ xs) e h = let q = of_every p x xs e in rw (h x q.0, every_same p f g xs q.1 h)

every_fails : {A : Type 0} (p f : A → Bool) (xs : List A) → 0 < count p xs → ((x : A) → p x ≡ true → f x ≡ false) → every f xs ≡ false
unfolding every count
every_fails p f [] c h = absurd (omega arith)
every_fails p f (x ∷ xs) c h =
    by_test (p x)
    (λ t. rw (h x t))
    (λ t. rw (every_fails p f xs (omega (arith, count_no p x xs t)) h) (and-false (f x)))

get_d_set_other : {A : Type 0} (xs : List A) (i j : ℕ) (a d : A) → (i ≡ j → ⊥) → get_or (set xs i a) j d ≡ get_or xs j d
get_d_set_other [] i j a d n = refl
get_d_set_other (x ∷ xs) zero zero a d n = absurd (n refl)
get_d_set_other (x ∷ xs) zero (suc j) a d n = refl
get_d_set_other (x ∷ xs) (suc i) zero a d n = refl
get_d_set_other (x ∷ xs) (suc i) (suc j) a d n = get_d_set_other xs i j a d (λ e. n (ap suc e))

get_d_replicate : {A : Type 0} (n i : ℕ) (a : A) → get_or (replicate n a) i a ≡ a
get_d_replicate zero i a = refl
get_d_replicate (suc n) zero a = refl
get_d_replicate (suc n) (suc i) a = get_d_replicate n i a

-- a record's number is unseen, and no other record's of the list
abbrev single : List Bool → List Connection → Connection → Bool
single seen xs r = unseen seen r && eqb (count (has_area r.area) xs) 1

eqb_suc : (n : ℕ) → eqb (suc n) 1 ≡ eqb n 0
eqb_suc zero = refl
eqb_suc (suc n) = ne_eqb (suc (suc n)) 1 (λ e. absurd (omega arith)) ∙ sym (ne_eqb (suc n) 0 (λ e. absurd (omega arith)))

module _ (seen : List Bool) (x : Connection) (xs : List Connection) (ok : unseen seen x ≡ true) (eight : length seen ≡ 8) where
  own : has_area x.area x ≡ true
  own = eq-eqb x.area x.area refl

  -- no other has the number: what is seen of the others does not change
  apart : (r : Connection) → not (has_area x.area r) ≡ true → single (mark seen x) xs r ≡ single seen (x ∷ xs) r
  apart r t =
      let d : x.area ≡ r.area → ⊥ = λ e. not_both (eq-eqb r.area x.area (sym e)) (not-true (has_area x.area r) t) in
      rw (get_d_set_other seen x.area r.area true false d, count_no (has_area r.area) x xs (ne_eqb x.area r.area d))

  -- another has it: it is seen there
  again : (r : Connection) → has_area x.area r ≡ true → single (mark seen x) xs r ≡ false
  again r t =
      let h : x.area < length seen = rw eight (ltb-true x.area 8 (left (ltb x.area 8) (not (get_or seen x.area false)) ok)) in
      rw (eqb-true r.area x.area t, get_or-set_same seen x.area true false h, and-false (ltb x.area 8))

  step : every (single (mark seen x) xs) xs ≡ every (single seen (x ∷ xs)) (x ∷ xs)
  unfolding every
  step =
      let n = x.area in
      let c : eqb (count (has_area n) (x ∷ xs)) 1 ≡ eqb (count (has_area n) xs) 0 = rw (count_yes (has_area n) x xs own) (eqb_suc (count (has_area n) xs)) in
      by_test (eqb (count (has_area n) xs) 0)
      (λ t. rw (ok, c, t) (every_same (λ r. not (has_area n r)) (single (mark seen x) xs) (single seen (x ∷ xs)) xs (none_counted (has_area n) xs (omega (arith, eqb-true (count (has_area n) xs) 0 t))) apart))
      (λ t. rw (ok, c, t) (every_fails (has_area n) (single (mark seen x) xs) xs (some (count (has_area n) xs) t) again))
    where
      some : (k : ℕ) → eqb k 0 ≡ false → 0 < k
      some zero e = not_both refl e
      some (suc k) e = omega arith

one_pass : (seen : List Bool) (xs : List Connection) → length seen ≡ 8 → checks unseen mark seen xs ≡ every (single seen xs) xs
unfolding checks every
one_pass seen [] l = refl
one_pass seen (x ∷ xs) l =
    by_test (unseen seen x)
    (λ t. rw t (one_pass (mark seen x) xs (length-set seen x.area true ∙ l) ∙ (step seen x xs t l ∙ (rw t))))
    (λ t. rw t)

pub areas_pass : (t : List Connection) → areas_once t ≡ checks unseen mark (replicate 8 false) t
unfolding areas_once RECORDS
areas_pass t =
    sym (one_pass (replicate 8 false) t refl ∙ every_same (λ r. true) (single (replicate 8 false) t) (λ r. ltb r.area 8 && eqb (count (has_area r.area) t) 1) t (every_always (λ r. true) t (λ r. refl)) (λ r h. at_start r))
  where
    and_true : (a : Bool) → (a && true) ≡ a
    and_true true = refl
    and_true false = refl

    at_start : (r : Connection) → single (replicate 8 false) t r ≡ (ltb r.area 8 && eqb (count (has_area r.area) t) 1)
    at_start r = rw (get_d_replicate 8 r.area false, and_true (ltb r.area 8))
