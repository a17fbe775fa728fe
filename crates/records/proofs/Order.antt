-- `ordered`, two records by two, and a test of every two neighbours.
use Prim.Native.Nat.{ℕ, zero, suc, ◌+◌, ◌<◌}
use native.Mathlib.Omega.{arith}
use native.Mathlib.Numerals.{add-one}
use mathlib.Core.Path.{◌≡◌, refl, sym, ap, ◌∙◌}
use mathlib.Core.Bool.{Bool, true, false, ◌&&◌, ◌||◌, not}
use mathlib.Core.List.{List, [], ◌∷◌}
use lib.ListN.{length, get_or, drop, drop_of_length-le}
use lib.Seq.{drop-cons}
use lib.Dec.{eqb}
use borrow.Author.Tests.{not-true}
use Rattle.std.proofs.Math.Bool.{and-false}
use Rattle.std.specs.List.{IsAllAdjacentAnswer}
use Rattle.picks.specs.Pick.{pick, every}
use Rattle.picks.proofs.Keep.{by_test, not_both, left}
use Rattle.protocol.specs.declared.SdoClientInfo.TheVariants.{Asnd}
use Rattle.protocol.specs.declared.Connection.{Connection}
use Rattle.protocol.specs.ConnectionTable.{same_client, is_unused, is_closed, is_fresh, ordered}
use Rattle.connection.specs.Among.{follows}

pub fresh_unused : (r : Connection) → is_fresh r ≡ true → is_unused r ≡ true
fresh_unused r e =
    let a = is_unused r in
    let b = same_client r.client (Asnd 0 0) in
    let c = eqb r.send 0 in
    let d = eqb r.receive 63 in
    left a b (left (a && b) c (left (a && b && c) d (left (a && b && c && d) (is_closed r.state) e)))

used_not_fresh : (r : Connection) → r.used ≡ true → is_fresh r ≡ false
used_not_fresh r u = by_test (is_fresh r) (λ t. not_both u (not-true r.used (fresh_unused r t))) (λ t. t)

-- u, v: the two are used; b: their clients ascend; f, g: they are fresh; e, o: what is behind
two : (u v b f g e o : Bool) → (v ≡ true → g ≡ false) → pick u ((not v || b) && pick v o (g && e)) (f && (g && e)) ≡ (pick u (not v || b) (f && not v) && pick v o (g && e))
unfolding pick
two true v b f g e o h = refl
two false true b true g e o h = rw (h refl)
two false true b false g e o h = refl
two false false b true g e o h = refl
two false false b false g e o h = refl

pub ordered_two : (x y : Connection) (ys : List Connection) → ordered (x ∷ y ∷ ys) ≡ (follows x y && ordered (y ∷ ys))
unfolding ordered every
ordered_two x y ys = two x.used y.used _ (is_fresh x) (is_fresh y) _ _ (used_not_fresh y)

pub ordered_one : (x : Connection) → ordered (x ∷ []) ≡ (x.used || is_fresh x)
unfolding ordered every pick
ordered_one x = one x.used (is_fresh x)
  where
    one : (u f : Bool) → pick u (true && true) (f && true) ≡ (u || f)
    one true f = refl
    one false true = refl
    one false false = refl

module _ (xs : List Connection) (i : ℕ) (d : Connection) (inv : ordered xs ≡ ordered (drop i xs)) where
  here : i + 1 < length xs → ordered xs ≡ (follows (get_or xs i d) (get_or xs (i + 1) d) && ordered (drop (i + 1) xs))
  here h = rw (add-one i) (inv ∙ rw (drop-cons xs i d (omega arith), drop-cons xs (suc i) d (omega arith)) (ordered_two _ _ _))

  order_more : i + 1 < length xs → follows (get_or xs i d) (get_or xs (i + 1) d) ≡ true → ordered xs ≡ ordered (drop (i + 1) xs)
  order_more h t = here h ∙ ap (λ (b : Bool). b && ordered (drop (i + 1) xs)) t

  order_end : length xs ≡ suc i → ((get_or xs i d).used || is_fresh (get_or xs i d)) ≡ ordered xs
  order_end h =
      let e : drop i xs ≡ get_or xs i d ∷ [] = rw (drop-cons xs i d (omega arith), drop_of_length-le xs {i = suc i} (omega arith)) in
      sym (inv ∙ (ap ordered e ∙ ordered_one (get_or xs i d)))

-- every two neighbours and the last record: a row of n + 1 records
up_to : (xs : List Connection) (d : Connection) → ((k : ℕ) → k + 1 < length xs → true ≡ follows (get_or xs k d) (get_or xs (k + 1) d)) → (i : ℕ) → i < length xs → ordered xs ≡ ordered (drop i xs)
up_to xs d h zero l = refl
up_to xs d h (suc i) l =
    rw (← add-one i) (order_more xs i d (up_to xs d h i (omega arith)) (omega arith) (sym (h i (omega arith))))

fails_at : (xs : List Connection) (d : Connection) (k : ℕ) → suc k < length xs → false ≡ follows (get_or xs k d) (get_or xs (suc k) d) → false ≡ ordered xs
fails_at [] d k l e = absurd (omega arith)
fails_at (x ∷ []) d k l e = absurd (omega arith)
fails_at (x ∷ y ∷ ys) d zero l e = rw (ordered_two x y ys, ← e)
fails_at (x ∷ y ∷ ys) d (suc k) l e = rw (ordered_two x y ys, ← fails_at (y ∷ ys) d k (omega arith) e) (sym (and-false (follows x y)))

pub ordered_sorted : (xs : List Connection) (n : ℕ) (d : Connection) (r : Bool) → length xs ≡ suc n → IsAllAdjacentAnswer (λ x y b. b ≡ follows x y) xs r → (r && ((get_or xs n d).used || is_fresh (get_or xs n d))) ≡ ordered xs
ordered_sorted xs n d true l h = order_end xs n d (up_to xs d (λ k i. h k d i) n (omega arith)) l
ordered_sorted xs n d false l h = fails_at xs d h.0 (rw (← add-one h.0) h.1) (rw (← add-one h.0) (h.2 d))
