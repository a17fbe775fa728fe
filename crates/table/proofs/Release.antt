-- Where a row's used records come first, records dropped one by one by their places are `release`.
use Prim.Native.Nat.{ℕ, zero, suc, ◌<◌, ◌≤◌}
use native.Mathlib.Omega.{arith}
use mathlib.Core.Path.{◌≡◌, refl, sym, ap, ◌∙◌}
use mathlib.Core.Bool.{Bool, true, false, ◌&&◌, not}
use mathlib.Core.List.{List, [], ◌∷◌, ◌++◌, map, append_assoc, append-nil}
use lib.ListN.{length, get_or, set, take, drop, take-append-drop}
use lib.Seq.{drop-cons}
use lib.Dec.{ltb}
use borrow.Author.Tests.{lt-ltb, le-ltb, ltb-true, ltb-false, not-true}
use Rattle.picks.specs.Pick.{pick, first, every, count, keep}
use Rattle.picks.proofs.Picks.{pick_t, pick_f}
use Rattle.picks.proofs.Keep.{by_test, not_both, both, of_both, of_every, every_cons, every_append, every_keep, keep_append, keep_yes, keep_no, keep_all, keep_none, count_append, count_yes, count_no, first_yes, first_no, first_at, first_out, count_none, every_set, every_at}
use Rattle.protocol.specs.declared.SdoClientInfo.{SdoClientInfo}
use Rattle.protocol.specs.declared.Connection.{Connection}
use Rattle.protocol.specs.ConnectionTable.{fresh, is_used, is_unused, used_of, unused_of, is_closed, holds, place_of, release}
use Rattle.protocol.proofs.ConnectionTable.{of_holds}
use Rattle.connection.specs.Among.{is_gone}
use Rattle.table.specs.Row.{used_first, dropped_at, drops_first}
use Rattle.records.proofs.Areas.{none_counted}
use Rattle.table.proofs.Walk.{get_d_any}
use Rattle.table.proofs.Join.{used_then, unused_then}

-- used records first, made
used_made : (r : Connection) (rs : List Connection) → r.used ≡ true → used_first rs ≡ true → used_first (r ∷ rs) ≡ true
unfolding used_first
used_made r rs u e = sym (pick_t _ _ _ _ u (sym e))

unused_made : (t : List Connection) → every is_unused t ≡ true → used_first t ≡ true
unfolding used_first
unused_made [] e = refl
unused_made (r ∷ rs) e = let p = of_every is_unused r rs e in sym (pick_f _ _ _ _ (not-true r.used p.0) (sym p.1))

pub used_split : (t : List Connection) → used_first t ≡ true → t ≡ used_of t ++ unused_of t
unfolding keep
used_split [] e = refl
used_split (r ∷ rs) e =
    by_test r.used
    (λ u. rw (keep_yes is_used r rs u, keep_no is_unused r rs (ap not u)) (ap (λ (l : List Connection). r ∷ l) (used_split rs (used_then r rs u e))))
    (λ u. let f = unused_then r rs u e in rw (keep_none is_used (r ∷ rs) f, keep_all is_unused (r ∷ rs) f))

used_append : (t u : List Connection) → used_first t ≡ true → every is_unused u ≡ true → used_first (t ++ u) ≡ true
used_append [] u e f = unused_made u f
used_append (r ∷ rs) u e f =
    by_test r.used
    (λ h. used_made r (rs ++ u) h (used_append rs u (used_then r rs h e) f))
    (λ h. unused_made (r ∷ (rs ++ u)) (rw (every_append is_unused (r ∷ rs) u) (both (unused_then r rs h e) f)))

-- a used record out of the row, and an unused one behind it
used_out : (a : List Connection) (x : Connection) (b : List Connection) (n : ℕ) → x.used ≡ true → used_first (a ++ (x ∷ b)) ≡ true → used_first (a ++ b ++ (fresh n ∷ [])) ≡ true
unfolding every
used_out [] x b n u e = used_append b (fresh n ∷ []) (used_then x b u e) refl
used_out (r ∷ a) x b n u e =
    by_test r.used
    (λ h. used_made r (a ++ b ++ (fresh n ∷ [])) h (used_out a x b n u (used_then r (a ++ (x ∷ b)) h e)))
    (λ h. let f = of_both (every is_unused (r ∷ a)) (every is_unused (x ∷ b)) (sym (every_append is_unused (r ∷ a) (x ∷ b)) ∙ unused_then r (a ++ (x ∷ b)) h e) in
    not_both u (not-true x.used (of_every is_unused x b f.1).0))

split_at : {A : Type 0} (t : List A) (i : ℕ) (d : A) → i < length t → t ≡ take i t ++ (get_or t i d ∷ drop (suc i) t)
split_at t i d h = sym (take-append-drop i t) ∙ ap (λ l. take i t ++ l) (drop-cons t i d h)

-- none before the first
before_first : {A : Type 0} (f : A → Bool) (t : List A) → every (λ x. not (f x)) (take (first f t) t) ≡ true
unfolding every first
before_first f [] = refl
before_first f (x ∷ xs) =
    by_test (f x) (λ h. rw (first_yes f x xs h)) (λ h. rw (first_no f x xs h) (both (ap not h) (before_first f xs)))

abbrev area : Connection → Connection
area r = fresh r.area

-- a place in the row, and one past its end
pub dropped_in : (t : List Connection) (i : ℕ) → i < length t → dropped_at i t ≡ take i t ++ drop (suc i) t ++ (area (get_or t i (fresh 0)) ∷ [])
unfolding dropped_at
dropped_in t i h = sym (pick_t _ _ _ _ (lt-ltb i (length t) h) refl)

pub dropped_out : (t : List Connection) (i : ℕ) → length t ≤ i → dropped_at i t ≡ t
unfolding dropped_at
dropped_out t i h = sym (pick_f _ _ _ _ (le-ltb i (length t) h) refl)

pub dropped_made : (t r : List Connection) (i : ℕ) (x d : Connection) → i < length t → x ≡ fresh (get_or t i d).area → r ≡ take i t ++ drop (suc i) t ++ (x ∷ []) → r ≡ dropped_at i t
dropped_made t r i x d h e p = p ∙ (rw (e, get_d_any t i d (fresh 0) h) (sym (dropped_in t i h)))

module _ (gone : Connection → Bool) (within : (r : Connection) → gone r ≡ true → r.used ≡ true) where
  abbrev stays : Connection → Bool
  stays r = not (gone r)

  fresh_stays : (n : ℕ) → gone (fresh n) ≡ false
  fresh_stays n = by_test (gone (fresh n)) (λ t. not_both (within (fresh n) t) refl) (λ t. t)

  -- nothing to drop
  pub release_none : (t : List Connection) → used_first t ≡ true → every (λ r. not (gone r)) t ≡ true → release gone t ≡ t
  unfolding release
  release_none t e n =
      let k = every_keep is_used stays t n in
      rw (keep_all stays (used_of t) k, keep_none gone (used_of t) k, append-nil (used_of t ++ unused_of t)) (sym (used_split t e))

  -- one to drop, and none before it
  module _ (a b : List Connection) (x : Connection) (g : gone x ≡ true) (n : every (λ r. not (gone r)) a ≡ true) where
    kept : keep gone (used_of a) ≡ []
    kept = keep_none gone (used_of a) (every_keep is_used stays a n)

    before_drop : release gone (a ++ (x ∷ b)) ≡ (keep stays (used_of a) ++ keep stays (used_of b)) ++ (unused_of a ++ unused_of b) ++ (area x ∷ map area (keep gone (used_of b)))
    unfolding release
    before_drop =
        rw (keep_append is_used a (x ∷ b), keep_append is_unused a (x ∷ b), keep_yes is_used x b (within x g), keep_no is_unused x b (ap not (within x g)), keep_append stays (used_of a) (x ∷ used_of b), keep_append gone (used_of a) (x ∷ used_of b), keep_no stays x (used_of b) (ap not g), keep_yes gone x (used_of b) g, kept)

    after_drop : release gone (a ++ b ++ (area x ∷ [])) ≡ (keep stays (used_of a) ++ keep stays (used_of b)) ++ (unused_of a ++ unused_of b ++ (area x ∷ [])) ++ map area (keep gone (used_of b))
    unfolding release keep pick
    after_drop =
        rw (keep_append is_used (a ++ b) (area x ∷ []), keep_append is_unused (a ++ b) (area x ∷ []), keep_append is_used a b, keep_append is_unused a b, append-nil (used_of a ++ used_of b), keep_append stays (used_of a) (used_of b), keep_append gone (used_of a) (used_of b), kept)

    release_one : release gone (a ++ b ++ (area x ∷ [])) ≡ release gone (a ++ (x ∷ b))
    release_one =
        let u = keep stays (used_of a) ++ keep stays (used_of b) in
        let v = unused_of a ++ unused_of b in
        let m = map area (keep gone (used_of b)) in
        after_drop ∙ (rw (← append_assoc u v (area x ∷ [])) (append_assoc (u ++ v) (area x ∷ []) m)) ∙ sym before_drop

    count_one : suc (count gone (a ++ b ++ (area x ∷ []))) ≡ count gone (a ++ (x ∷ b))
    unfolding count
    count_one =
        omega (arith, count_append gone (a ++ b) (area x ∷ []), count_append gone a b, count_append gone a (x ∷ b), count_yes gone x b g, count_no gone (area x) [] (fresh_stays x.area))

  -- the first to drop, by its place
  module _ (t : List Connection) (h : first gone t < length t) where
    abbrev place : ℕ
    place = first gone t

    abbrev dropped : Connection
    dropped = get_or t place (fresh 0)

    whole : t ≡ take place t ++ (dropped ∷ drop (suc place) t)
    whole = split_at t place (fresh 0) h

    first_gone : gone dropped ≡ true
    first_gone = first_at gone t (fresh 0) h

    pub drop_releases : release gone (dropped_at (first gone t) t) ≡ release gone t
    drop_releases =
        ap (release gone) (dropped_in t place h) ∙ release_one (take place t) (drop (suc place) t) dropped first_gone (before_first gone t) ∙ ap (release gone) (sym whole)

    pub drop_counts : suc (count gone (dropped_at (first gone t) t)) ≡ count gone t
    drop_counts =
        ap (λ (l : List Connection). suc (count gone l)) (dropped_in t place h) ∙ count_one (take place t) (drop (suc place) t) dropped first_gone (before_first gone t) ∙ ap (count gone) (sym whole)

    pub drop_used_first : used_first t ≡ true → used_first (dropped_at (first gone t) t) ≡ true
    drop_used_first e =
        ap used_first (dropped_in t place h) ∙ used_out (take place t) dropped (drop (suc place) t) dropped.area (within dropped first_gone) (sym (ap used_first whole) ∙ e)

  -- as many turns as there are records to drop, or more
  pub drops_release : (n : ℕ) (t : List Connection) → used_first t ≡ true → count gone t ≤ n → drops_first n gone t ≡ release gone t
  unfolding drops_first
  drops_release zero t e h = sym (release_none t e (none_counted gone t h))
  drops_release (suc n) t e h =
      by_test (ltb (first gone t) (length t))
      (λ b. let k = ltb-true (first gone t) (length t) b in drops_release n (dropped_at (first gone t) t) (drop_used_first t k e) (omega (arith, drop_counts t k)) ∙ drop_releases t k)
      (λ b. let k = ltb-false (first gone t) (length t) b in rw (dropped_out t (first gone t) k) (drops_release n t e (omega (arith, count_none gone t (first_out gone t k)))))

  -- a turn more drops nothing where there are as many turns as records to drop
  drops_enough : (n : ℕ) (t : List Connection) → count gone t ≤ n → drops_first n gone t ≡ drops_first (suc n) gone t
  unfolding drops_first
  drops_enough zero t h =
      by_test (ltb (first gone t) (length t))
      (λ b. absurd (omega (arith, drop_counts t (ltb-true (first gone t) (length t) b))))
      (λ b. sym (dropped_out t (first gone t) (ltb-false (first gone t) (length t) b)))
  drops_enough (suc n) t h =
      by_test (ltb (first gone t) (length t))
      (λ b. drops_enough n (dropped_at (first gone t) t) (omega (arith, drop_counts t (ltb-true (first gone t) (length t) b))))
      (λ b. let k = ltb-false (first gone t) (length t) b in drops_enough n (dropped_at (first gone t) t) (rw (dropped_out t (first gone t) k) (omega (arith, count_none gone t (first_out gone t k)))))

  -- so that a turn leaves what is dropped in all
  pub drops_more : (n : ℕ) (t : List Connection) → count gone t ≤ n → drops_first n gone t ≡ drops_first n gone (dropped_at (first gone t) t)
  unfolding drops_first
  drops_more n t h = drops_enough n t h

  -- no turn changes a row that has none to drop
  pub drops_none : (n : ℕ) (t : List Connection) → length t ≤ first gone t → drops_first n gone t ≡ t
  unfolding drops_first
  drops_none zero t h = refl
  drops_none (suc n) t h = rw (dropped_out t (first gone t) h) (drops_none n t h)

pub count_most : {A : Type 0} (f : A → Bool) (t : List A) → count f t ≤ length t
unfolding count
count_most f [] = omega arith
count_most f (x ∷ xs) =
    by_test (f x) (λ h. omega (arith, count_yes f x xs h, count_most f xs)) (λ h. omega (arith, count_no f x xs h, count_most f xs))

-- a client that has at most one record
pub release_client : (c : SdoClientInfo) (t : List Connection) → used_first t ≡ true → count (holds c) t ≤ 1 → release (holds c) t ≡ dropped_at (place_of c t) t
unfolding place_of drops_first
release_client c t e h = sym (drops_release (holds c) (λ r k. (of_holds c r k).0) 1 t e h)

-- all closed records
pub gone_used : (r : Connection) → is_gone r ≡ true → r.used ≡ true
gone_used r k = (of_both r.used (is_closed r.state) k).0

pub release_closed : (n : ℕ) (t : List Connection) → used_first t ≡ true → length t ≤ n → release (λ r. r.used && is_closed r.state) t ≡ drops_first n is_gone t
release_closed n t e h = sym (drops_release is_gone gone_used n t e (omega (arith, count_most is_gone t)))

-- a record put in place of one that is used where it is keeps used records first
pub set_used_first : (t : List Connection) (i : ℕ) (r d : Connection) → used_first t ≡ true → i < length t → r.used ≡ (get_or t i d).used → used_first (set t i r) ≡ true
set_used_first [] i r d e h u = absurd (omega arith)
set_used_first (x ∷ xs) zero r d e h u =
    by_test x.used
    (λ v. used_made r xs (u ∙ v) (used_then x xs v e))
    (λ v. unused_made (r ∷ xs) (every_cons is_unused r xs (ap not (u ∙ v)) (of_every is_unused x xs (unused_then x xs v e)).1))
set_used_first (x ∷ xs) (suc i) r d e h u =
    by_test x.used
    (λ v. used_made x (set xs i r) v (set_used_first xs i r d (used_then x xs v e) (omega arith) u))
    (λ v. let n = unused_then x xs v e in
    unused_made (x ∷ set xs i r) (every_set is_unused (x ∷ xs) (suc i) r n (ap not u ∙ every_at is_unused (x ∷ xs) (suc i) d n h)))
