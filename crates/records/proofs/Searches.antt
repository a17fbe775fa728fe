-- What tests and searches along records in any form say of the records that they are.
use Prim.Native.Nat.{ℕ, zero, suc, ◌+◌, ◌<◌, ◌≤◌}
use native.Mathlib.Omega.{arith}
use mathlib.Core.Path.{◌≡◌, refl, sym, ap, ◌∙◌}
use mathlib.Core.Bool.{Bool, true, false, cond, not, ◌&&◌, ◌||◌}
use mathlib.Core.List.{List, [], ◌∷◌, ◌++◌, map}
use lib.ListN.{length, length-map, get_or, take}
use Rattle.std.specs.Prelude.{Option, None, position, min}
use Rattle.std.specs.List.{list_all, prefix_len, filter_map, cons_option, reduce, IsAllAdjacentAnswer}
use Rattle.std.proofs.lemmas.List.{get_or_past}
use Rattle.picks.specs.Pick.{every, fold}
use Rattle.picks.proofs.Keep.{by_test, every_follows}
use Rattle.protocol.specs.declared.Connection.{Connection}
use Rattle.protocol.specs.ConnectionTable.{is_fresh, ordered, sound_record, deadline_of, earlier, earliest}
use Rattle.protocol.proofs.ConnectionTable.{fresh_eq, unused_first, ordered_rest}
use Rattle.connection.specs.Among.{follows}
use Rattle.row.proofs.Walk.{least_earliest}
use Rattle.records.proofs.Order.{ordered_sorted}

fresh_sound : (r : Connection) → is_fresh r ≡ true → sound_record r ≡ true
unfolding sound_record
fresh_sound r e = ap sound_record (fresh_eq r e)

module _ {R : Type 0} (value : R → Connection) where
  -- the earliest deadline of the first records, and of one more
  abbrev pub earliest_in : Option ℕ → List R → Option ℕ
  earliest_in d xs = fold (λ e r. earlier e (deadline_of r)) d (map value xs)

  pub earliest_none : None ≡ earliest_in None []
  unfolding fold
  earliest_none = refl

  earliest_then : (d : Option ℕ) (xs : List R) (x : R) → earliest_in d (xs ++ x ∷ []) ≡ earlier (earliest_in d xs) (deadline_of (value x))
  unfolding fold
  earliest_then d [] x = refl
  earliest_then d (y ∷ ys) x = earliest_then (earlier d (deadline_of (value y))) ys x

  pub earliest_more : (xs : List R) (x : R) (a b : Option ℕ) → a ≡ earliest_in None xs → b ≡ earlier a (deadline_of (value x)) → b ≡ earliest_in None (xs ++ x ∷ [])
  earliest_more xs x a b j k = k ∙ ap (λ e. earlier e (deadline_of (value x))) j ∙ sym (earliest_then None xs x)

  -- the record at a place
  pub map_at : (xs : List R) (i : ℕ) (d : Connection) (e : R) → i < length xs → get_or (map value xs) i d ≡ value (get_or xs i e)
  map_at [] i d e h = absurd (omega arith)
  map_at (x ∷ xs) zero d e h = refl
  map_at (x ∷ xs) (suc i) d e h = map_at xs i d e (omega arith)

  -- each record and the next
  abbrev pub both_follow : R → R → Bool
  both_follow x y = follows (value x) (value y)

  adjacent_map : (xs : List R) (e : R) (r : Bool) → IsAllAdjacentAnswer (λ x y b. b ≡ both_follow x y) xs r → IsAllAdjacentAnswer (λ x y b. b ≡ follows x y) (map value xs) r
  adjacent_map xs e true h = λ k d l. let n : k + 1 < length xs = rw (length-map xs value) at l in rw (map_at xs k d e (omega arith), map_at xs (k + 1) d e n) (h k e n)
  adjacent_map xs e false h = (h.0, rw (length-map xs value) h.1, λ d. rw (map_at xs h.0 d e (omega (arith, h.1)), map_at xs (h.0 + 1) d e h.1) (h.2 e))

  -- in order the records behind the used ones are fresh, and so sound
  abbrev used : R → Bool
  used x = (value x).used

  abbrev sound : R → Bool
  sound x = sound_record (value x)

  used_first : (x : R) (xs : List R) → used x ≡ true → list_all sound (take (prefix_len used (x ∷ xs)) (x ∷ xs)) ≡ (sound x && list_all sound (take (prefix_len used xs) xs))
  used_first x xs u =
      let n : prefix_len used (x ∷ xs) ≡ suc (prefix_len used xs) = ap (λ (b : Bool). cond b (1 + prefix_len used xs) 0) u ∙ omega arith in
      ap (λ (k : ℕ). list_all sound (take k (x ∷ xs))) n

  unused_none : (x : R) (xs : List R) → used x ≡ false → list_all sound (take (prefix_len used (x ∷ xs)) (x ∷ xs)) ≡ true
  unused_none x xs u = ap (λ (b : Bool). list_all sound (take (cond b (1 + prefix_len used xs) 0) (x ∷ xs))) u

  used_sound : (xs : List R) → ordered (map value xs) ≡ true → list_all sound (take (prefix_len used xs) xs) ≡ every sound_record (map value xs)
  unfolding every
  used_sound [] o = refl
  used_sound (x ∷ xs) o =
      by_test (used x)
      (λ u. used_first x xs u ∙ ap (λ (b : Bool). sound x && b) (used_sound xs (ordered_rest (value x) (map value xs) o)))
      (λ u. unused_none x xs u ∙ sym (every_follows is_fresh sound_record (map value (x ∷ xs)) fresh_sound (unused_first (value x) (map value xs) u o)))

  prefix_map : (p : Connection → Bool) (xs : List R) → prefix_len p (map value xs) ≡ prefix_len (λ x. p (value x)) xs
  prefix_map p [] = refl
  prefix_map p (x ∷ xs) = rw (prefix_map p xs)

  position_map : (f : Connection → Bool) (xs : List R) → position f (map value xs) ≡ position (λ x. f (value x)) xs
  position_map f xs = rw (prefix_map (λ r. not (f r)) xs, length-map xs value)

  deadline_map : (xs : List R) → filter_map (λ x. deadline_of (value x)) xs ≡ filter_map deadline_of (map value xs)
  deadline_map [] = refl
  deadline_map (x ∷ xs) = ap (cons_option (deadline_of (value x))) (deadline_map xs)

  -- the records that they are, by any name
  module _ (xs : List R) (rs : List Connection) (same : map value xs ≡ rs) where
    -- the first that passes a test
    pub place_found : (f : Connection → Bool) (r : Option ℕ) → r ≡ position (λ x. f (value x)) xs → r ≡ position f rs
    place_found f r e = rw (← same, position_map f xs) e

    pub order_by_rows : (e : R) (r : Bool) → length xs ≡ 8 → IsAllAdjacentAnswer (λ x y b. b ≡ both_follow x y) xs r → (r && ((value (get_or xs 7 e)).used || is_fresh (value (get_or xs 7 e)))) ≡ ordered rs
    order_by_rows e r l h =
        rw (← same, ← map_at xs 7 (value e) e (omega arith)) (ordered_sorted (map value xs) 7 (value e) r (length-map xs value ∙ l) (adjacent_map xs e r h))

    pub sound_rows : ordered rs ≡ true → list_all sound (take (prefix_len used xs) xs) ≡ every sound_record rs
    sound_rows o = rw (← same) (used_sound xs (ap ordered same ∙ o))

    -- the least of the deadlines is the earliest
    pub earliest_row : reduce min (filter_map (λ x. deadline_of (value x)) xs) ≡ earliest rs
    earliest_row = rw (← same) (ap (reduce min) (deadline_map xs) ∙ least_earliest (map value xs))

    -- the record at a place, and past the end
    pub record_in : (i : ℕ) (d : Connection) (e : R) → i < length xs → get_or rs i d ≡ value (get_or xs i e)
    record_in i d e h = rw (← same) (map_at xs i d e h)

    pub record_past : (i : ℕ) (d : Connection) → length xs ≤ i → get_or rs i d ≡ d
    record_past i d h = rw (← same) (get_or_past (map value xs) i d (let l = length-map xs value in omega arith))

    pub long : length rs ≡ length xs
    long = rw (← same) (length-map xs value)
