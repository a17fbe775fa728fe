-- Laws of the connection table: what a sound one says, what keeps it sound, and what each client sees of a change.
use Prim.Native.Nat.{ℕ, zero, suc, ◌+◌, ◌*◌, ◌%◌, ◌≤◌, ◌<◌}
use native.Mathlib.Omega.{arith}
use native.Mathlib.Nat.{mul-suc, mul_comm, mul-le-mul_left}
use mathlib.Core.Path.{◌≡◌, refl, sym, ap, ◌∙◌}
use mathlib.Core.Logic.{◌≢◌}
use mathlib.Core.Bool.{Bool, true, false, ◌&&◌, ◌||◌, not}
use mathlib.Core.List.{List, [], ◌∷◌, ◌++◌, map, tail, append-nil}
use lib.ListN.{length, get_or, set, take, drop, length-set}
use lib.Seq.{get_or-set_same}
use lib.Dec.{ltb, leb, eqb}
use borrow.Author.Tests.{ltb-true, ltb-false, eqb-true, not-true, lt-ltb, le-ltb, le-leb, lt-leb, eq-eqb}
use Rattle.picks.specs.Pick.{pick, first, every, count, keep}
use Rattle.picks.proofs.Picks.{pick_t, pick_f}
use Rattle.picks.proofs.Keep.{by_test, not_both, both, of_both, keep_yes, keep_no, count_yes, count_no, every_cons, of_every, keep_append, every_append, count_append, every_kept, length_keep, keep_all, keep_none, count_none, every_always, every_at, every_by_place, count_at, one_place, every_set, count_set, first_set, keep_set, first_at, first_before, first_out, first_counted, first_kept, first_there, every_follows, every_keep, count_split, count_all, keep_within, keep_swap, every_map, count_map, every_tail, head_tail}
use Rattle.octets.proofs.Splice.{length_splice, part_splice, part_before, part_behind}
use Rattle.protocol.specs.declared.SdoClientInfo.{SdoClientInfo}
use Rattle.protocol.specs.declared.SdoClientInfo.TheVariants.{Asnd, Udp}
use Rattle.std.specs.Prelude.{Option, None, Some}
use Rattle.protocol.specs.declared.SdoTransferState.{SdoTransferState}
use Rattle.protocol.specs.declared.SdoServerState.{SdoServerState}
use Rattle.protocol.specs.declared.SdoServerState.TheVariants.{Closed, Opening, Established, SegmentedDownload, SegmentedUpload}
use Rattle.protocol.specs.declared.Connection.{Connection}
use Rattle.protocol.specs.Constants.{PIECE, SHARE, RECORDS, AREA}
use Rattle.protocol.specs.ConnectionTable.{before, same_client, fresh, empty_table, is_used, is_unused, used_of, unused_of, is_closed, is_fresh, ascends, ordered, has_area, areas_once, has_deadline, sound_upload, sound_state, sound_record, sound_table, holds, place_of, record_of, is_known, update, joining, insert, join, release, share_of, with_share, transfer_deadline, is_past, is_due, chosen}

-- two numbers in order, the first counting most
abbrev less : ℕ → ℕ → ℕ → ℕ → Bool
less a p b q = ltb a b || (eqb a b && ltb p q)

less_first : (a p b q : ℕ) → a < b → less a p b q ≡ true
less_first a p b q h = rw (lt-ltb a b h)

less_second : (a p b q : ℕ) → a ≡ b → p < q → less a p b q ≡ true
less_second a p b q e h = rw (le-ltb a b (omega arith), eq-eqb a b e, lt-ltb p q h)

less_cases : {P : Type 0} (a p b q : ℕ) → less a p b q ≡ true → (a < b → P) → (a ≡ b → p < q → P) → P
less_cases {P} a p b q e f g = by_test (ltb a b) (λ t. f (ltb-true a b t)) (λ t. second (of_both (eqb a b) (ltb p q) (rw t at e)))
  where
    second : (eqb a b ≡ true) × (ltb p q ≡ true) → P
    second h = g (eqb-true a b h.0) (ltb-true p q h.1)

less_irreflexive : (a p : ℕ) → less a p a p ≡ false
less_irreflexive a p =
    by_test (less a p a p) (λ t. less_cases a p a p t (λ h. absurd (omega arith)) (λ e h. absurd (omega arith))) (λ t. t)

less_trans : (a p b q c r : ℕ) → less a p b q ≡ true → less b q c r ≡ true → less a p c r ≡ true
less_trans a p b q c r x y =
    less_cases a p b q x
    (λ h. less_cases b q c r y (λ k. less_first a p c r (omega arith)) (λ e k. less_first a p c r (omega arith)))
    (λ d h. less_cases b q c r y (λ k. less_first a p c r (omega arith)) (λ e k. less_second a p c r (omega arith) (omega arith)))

less_total : (a p b q : ℕ) → less a p b q ≡ false → (eqb a b && eqb p q) ≡ false → less b q a p ≡ true
less_total a p b q x y =
    by_test (ltb b a) (λ t. less_first b q a p (ltb-true b a t))
    (λ t. by_test (ltb a b) (λ u. not_both (less_first a p b q (ltb-true a b u)) x) (λ u. same_first (omega (arith, ltb-false b a t, ltb-false a b u))))
  where
    same_first : a ≡ b → less b q a p ≡ true
    same_first e =
        by_test (ltb q p) (λ t. less_second b q a p (sym e) (ltb-true q p t))
        (λ t. by_test (ltb p q) (λ u. not_both (less_second a p b q e (ltb-true p q u)) x) (λ u. not_both (both (eq-eqb a b e) (eq-eqb p q (omega (arith, ltb-false q p t, ltb-false p q u)))) y))

-- `same_client` is the test for one client
pub same_client_eq : (a b : SdoClientInfo) → same_client a b ≡ true → a ≡ b
same_client_eq (Asnd n m) (Asnd n' m') e =
    let p = of_both (eqb n n') (eqb m m') e in rw (eqb-true n n' p.0, eqb-true m m' p.1)
same_client_eq (Asnd n m) (Udp a p) e = not_both e refl
same_client_eq (Udp a p) (Asnd n m) e = not_both e refl
same_client_eq (Udp a p) (Udp a' p') e =
    let h = of_both (eqb a a') (eqb p p') e in rw (eqb-true a a' h.0, eqb-true p p' h.1)

pub same_client_refl : (a : SdoClientInfo) → same_client a a ≡ true
same_client_refl (Asnd n m) = both (eq-eqb n n refl) (eq-eqb m m refl)
same_client_refl (Udp a p) = both (eq-eqb a a refl) (eq-eqb p p refl)

pub same_client_sym : (a b : SdoClientInfo) → same_client a b ≡ same_client b a
same_client_sym a b =
    by_test (same_client a b)
    (λ t. let e = same_client_eq a b t in rw e)
    (λ t. by_test (same_client b a) (λ u. not_both (rw (same_client_eq b a u) (same_client_refl a)) t) (λ u. t ∙ sym u))

-- `before` is a strict order of clients
pub before_irreflexive : (a : SdoClientInfo) → before a a ≡ false
before_irreflexive (Asnd n m) = less_irreflexive n m
before_irreflexive (Udp a p) = less_irreflexive a p

pub before_trans : (a b c : SdoClientInfo) → before a b ≡ true → before b c ≡ true → before a c ≡ true
before_trans (Asnd n m) (Asnd n' m') (Asnd n'' m'') p q = less_trans n m n' m' n'' m'' p q
before_trans (Asnd n m) (Asnd n' m') (Udp a p) h k = refl
before_trans (Asnd n m) (Udp a p) (Asnd n' m') h k = not_both k refl
before_trans (Asnd n m) (Udp a p) (Udp a' p') h k = refl
before_trans (Udp a p) (Asnd n m) c h k = not_both h refl
before_trans (Udp a p) (Udp a' p') (Asnd n m) h k = k
before_trans (Udp a p) (Udp a' p') (Udp a'' p'') h k = less_trans a p a' p' a'' p'' h k

pub before_total : (a b : SdoClientInfo) → before a b ≡ false → same_client a b ≡ false → before b a ≡ true
before_total (Asnd n m) (Asnd n' m') h k = less_total n m n' m' h k
before_total (Asnd n m) (Udp a p) h k = sym h
before_total (Udp a p) (Asnd n m) h k = refl
before_total (Udp a p) (Udp a' p') h k = less_total a p a' p' h k

-- a used record in the place behind another has the later client
abbrev behind : Connection → Connection → Bool
behind r x = not x.used || before r.client x.client

behind_by : (r x : Connection) → (x.used ≡ true → before r.client x.client ≡ true) → behind r x ≡ true
behind_by r x h = go x.used h
  where
    go : (u : Bool) → (u ≡ true → before r.client x.client ≡ true) → (not u || before r.client x.client) ≡ true
    go true k = k refl
    go false k = refl

behind_used : (r x : Connection) → behind r x ≡ true → x.used ≡ true → before r.client x.client ≡ true
behind_used r x e h = rw (ap not h) at e

behind_trans : (r x y : Connection) → before r.client x.client ≡ true → behind x y ≡ true → behind r y ≡ true
behind_trans r x y h e = behind_by r y (λ u. before_trans r.client x.client y.client h (behind_used x y e u))

-- a fresh record has nothing but its area number
closed_eq : (s : SdoServerState) → is_closed s ≡ true → s ≡ Closed
closed_eq Closed e = refl
closed_eq Opening e = not_both e refl
closed_eq Established e = not_both e refl
closed_eq (SegmentedDownload t) e = not_both e refl
closed_eq (SegmentedUpload t) e = not_both e refl

pub fresh_eq : (r : Connection) → is_fresh r ≡ true → r ≡ fresh r.area
fresh_eq r e =
    let a = is_unused r in
    let b = same_client r.client (Asnd 0 0) in
    let c = eqb r.send 0 in
    let d = eqb r.receive 63 in
    let p = of_both (a && b && c && d) (is_closed r.state) e in
    let q = of_both (a && b && c) d p.0 in
    let s = of_both (a && b) c q.0 in
    let u = of_both a b s.0 in
    make r.used r.client r.send r.receive r.state (not-true r.used u.0) (same_client_eq r.client (Asnd 0 0) u.1) (eqb-true r.send 0 s.1) (eqb-true r.receive 63 q.1) (closed_eq r.state p.1)
  where
    make : (u : Bool) (c : SdoClientInfo) (n m : ℕ) (s : SdoServerState) → u ≡ false → c ≡ Asnd 0 0 → n ≡ 0 → m ≡ 63 → s ≡ Closed → ◌≡◌ {A = Connection} (record { used = u; client = c; area = r.area; send = n; receive = m; state = s }) (fresh r.area)
    make u c n m s h₁ h₂ h₃ h₄ h₅ = rw (h₁, h₂, h₃, h₄, h₅)

fresh_unused : (r : Connection) → is_fresh r ≡ true → is_unused r ≡ true
fresh_unused r e = ap is_unused (fresh_eq r e)

fresh_behind : (r x : Connection) → is_fresh x ≡ true → behind r x ≡ true
fresh_behind r x e = behind_by r x (λ u. not_both u (not-true x.used (fresh_unused x e)))

-- the order of a table, by its first record
pub unused_first : (r : Connection) (rs : List Connection) → r.used ≡ false → ordered (r ∷ rs) ≡ true → every is_fresh (r ∷ rs) ≡ true
unfolding ordered
unused_first r rs h e = let p = of_both (is_fresh r) (every is_fresh rs) (pick_f _ _ _ _ h refl ∙ e) in every_cons is_fresh r rs p.0 p.1

used_first_lem : (r : Connection) (rs : List Connection) → r.used ≡ true → ordered (r ∷ rs) ≡ true → (ascends r rs ≡ true) × (ordered rs ≡ true)
unfolding ordered
used_first_lem r rs h e = of_both (ascends r rs) (ordered rs) (pick_t _ _ _ _ h refl ∙ e)

fresh_ordered : (t : List Connection) → every is_fresh t ≡ true → ordered t ≡ true
unfolding ordered
fresh_ordered [] e = refl
fresh_ordered (r ∷ rs) e =
    let p = of_every is_fresh r rs e in
    sym (pick_f _ _ _ _ (not-true r.used (fresh_unused r p.0)) (sym (both p.0 p.1)))

-- all used records behind a used one have later clients
ordered_behind : (r : Connection) (rs : List Connection) → r.used ≡ true → ordered (r ∷ rs) ≡ true → every (behind r) rs ≡ true
unfolding every
ordered_behind r [] h e = refl
ordered_behind r (x ∷ xs) h e =
    let p = used_first_lem r (x ∷ xs) h e in
    by_test x.used
    (λ u. every_cons (behind r) x xs p.0 (every_follows (behind x) (behind r) xs (λ y b. behind_trans r x y (behind_used r x p.0 u) b) (ordered_behind x xs u p.1)))
    (λ u. every_follows is_fresh (behind r) (x ∷ xs) (fresh_behind r) (unused_first x xs u p.1))

behind_ordered : (r : Connection) (rs : List Connection) → r.used ≡ true → every (behind r) rs ≡ true → ordered rs ≡ true → ordered (r ∷ rs) ≡ true
unfolding ordered
behind_ordered r rs h b e = sym (pick_t _ _ _ _ h (sym (both (first_behind rs b) e)))
  where
    first_behind : (xs : List Connection) → every (behind r) xs ≡ true → ascends r xs ≡ true
    first_behind [] k = refl
    first_behind (x ∷ xs) k = (of_every (behind r) x xs k).0

-- used records come first, and the others are fresh
ordered_split : (t : List Connection) → ordered t ≡ true → t ≡ used_of t ++ unused_of t
unfolding keep
ordered_split [] e = refl
ordered_split (r ∷ rs) e =
    by_test r.used
    (λ u. rw (keep_yes is_used r rs u, keep_no is_unused r rs (ap not u)) (ap (λ (l : List Connection). r ∷ l) (ordered_split rs (used_first_lem r rs u e).1)))
    (λ u. let f = every_follows is_fresh is_unused (r ∷ rs) fresh_unused (unused_first r rs u e) in rw (keep_none is_used (r ∷ rs) f, keep_all is_unused (r ∷ rs) f))

ordered_fresh : (t : List Connection) → ordered t ≡ true → every is_fresh (unused_of t) ≡ true
unfolding keep every
ordered_fresh [] e = refl
ordered_fresh (r ∷ rs) e =
    by_test r.used
    (λ u. rw (keep_no is_unused r rs (ap not u)) (ordered_fresh rs (used_first_lem r rs u e).1))
    (λ u. every_keep is_unused is_fresh (r ∷ rs) (unused_first r rs u e))

-- what keeps the order: to keep some records, fresh ones behind, and a record in place of one of the same client
ordered_keep : (f : Connection → Bool) (t : List Connection) → ordered t ≡ true → ordered (keep f t) ≡ true
unfolding keep ordered
ordered_keep f [] e = refl
ordered_keep f (r ∷ rs) e =
    by_test r.used
    (λ u. by_test (f r)
    (λ k. rw (keep_yes f r rs k) (behind_ordered r (keep f rs) u (every_keep f (behind r) rs (ordered_behind r rs u e)) (ordered_keep f rs (used_first_lem r rs u e).1)))
    (λ k. rw (keep_no f r rs k) (ordered_keep f rs (used_first_lem r rs u e).1)))
    (λ u. fresh_ordered (keep f (r ∷ rs)) (every_keep f is_fresh (r ∷ rs) (unused_first r rs u e)))

ordered_append : (t u : List Connection) → ordered t ≡ true → every is_fresh u ≡ true → ordered (t ++ u) ≡ true
ordered_append [] u e f = fresh_ordered u f
ordered_append (r ∷ rs) u e f =
    by_test r.used
    (λ h. behind_ordered r (rs ++ u) h (rw (every_append (behind r) rs u) (both (ordered_behind r rs h e) (every_follows is_fresh (behind r) u (fresh_behind r) f))) (ordered_append rs u (used_first_lem r rs h e).1 f))
    (λ h. fresh_ordered (r ∷ (rs ++ u)) (rw (every_append is_fresh (r ∷ rs) u) (both (unused_first r rs h e) f)))

ordered_set : (t : List Connection) (i : ℕ) (r d : Connection) → ordered t ≡ true → i < length t → (get_or t i d).used ≡ true → r.used ≡ true → r.client ≡ (get_or t i d).client → ordered (set t i r) ≡ true
ordered_set [] i r d e h u v c = absurd (omega arith)
ordered_set (x ∷ xs) zero r d e h u v c =
    behind_ordered r xs v (every_follows (behind x) (behind r) xs (λ y b. rw c b) (ordered_behind x xs u e)) (used_first_lem x xs u e).1
ordered_set (x ∷ xs) (suc i) r d e h u v c =
    by_test x.used
    (λ k. behind_ordered x (set xs i r) k
    (every_set (behind x) xs i r (ordered_behind x xs k e) (behind_by x r (λ w. rw c (behind_used x (get_or xs i d) (every_at (behind x) xs i d (ordered_behind x xs k e) (omega arith)) u))))
    (ordered_set xs i r d (used_first_lem x xs k e).1 (omega arith) u v c))
    (λ k. not_both u (not-true (get_or xs i d).used (fresh_unused (get_or xs i d) (every_at is_fresh xs i d (of_every is_fresh x xs (unused_first x xs k e)).1 (omega arith)))))

pub ordered_rest : (r : Connection) (rs : List Connection) → ordered (r ∷ rs) ≡ true → ordered rs ≡ true
ordered_rest r rs e =
    by_test r.used (λ u. (used_first_lem r rs u e).1) (λ u. fresh_ordered rs (of_every is_fresh r rs (unused_first r rs u e)).1)

-- a record that holds a client
pub of_holds : (c : SdoClientInfo) (r : Connection) → holds c r ≡ true → (r.used ≡ true) × (r.client ≡ c)
of_holds c r e = let p = of_both r.used (same_client r.client c) e in (p.0, same_client_eq r.client c p.1)

pub holds_by : (c : SdoClientInfo) (r : Connection) → r.used ≡ true → r.client ≡ c → holds c r ≡ true
holds_by c r u e = both u (ap (λ (x : SdoClientInfo). same_client x c) e ∙ same_client_refl c)

pub holds_other : (c c' : SdoClientInfo) (r : Connection) → holds c r ≡ true → same_client c' c ≡ false → holds c' r ≡ false
holds_other c c' r h n =
    by_test (holds c' r) (λ k. not_both (rw (← (of_holds c r h).1, (of_holds c' r k).1) (same_client_refl c')) n) (λ k. k)

-- no two records hold one client
holds_once : (c : SdoClientInfo) (t : List Connection) → ordered t ≡ true → count (holds c) t ≤ 1
unfolding count
holds_once c [] e = omega arith
holds_once c (r ∷ rs) e =
    by_test (holds c r)
    (λ h. omega (arith, count_yes (holds c) r rs h, count_none (holds c) rs (every_follows (behind r) (λ x. not (holds c x)) rs (alone h) (ordered_behind r rs (of_holds c r h).0 e))))
    (λ h. omega (arith, count_no (holds c) r rs h, holds_once c rs (ordered_rest r rs e)))
  where
    alone : holds c r ≡ true → (x : Connection) → behind r x ≡ true → not (holds c x) ≡ true
    alone h x b =
        by_test (holds c x)
        (λ k. not_both (rw ((of_holds c r h).1, (of_holds c x k).1) at (behind_used r x b (of_holds c x k).0)) (before_irreflexive c))
        (λ k. ap not k)

-- area numbers, by their counts
area_facts : (t : List Connection) (i : ℕ) → areas_once t ≡ true → i < length t → ((get_or t i (fresh 0)).area < RECORDS) × (count (has_area (get_or t i (fresh 0)).area) t ≡ 1)
unfolding areas_once
area_facts t i e h =
    let n = (get_or t i (fresh 0)).area in
    let p = of_both (ltb n RECORDS) (eqb (count (has_area n) t) 1) (every_at (λ r. ltb r.area RECORDS && eqb (count (has_area r.area) t) 1) t i (fresh 0) e h) in
    (ltb-true n RECORDS p.0, eqb-true (count (has_area n) t) 1 p.1)

area_counted : (t : List Connection) (n : ℕ) → areas_once t ≡ true → 0 < count (has_area n) t → (n < RECORDS) × (count (has_area n) t ≡ 1)
area_counted t n e h =
    let i = first (has_area n) t in
    let l = first_counted (has_area n) t h in
    rw (eqb-true (get_or t i (fresh 0)).area n (first_at (has_area n) t (fresh 0) l)) at (area_facts t i e l)

areas_by : (t : List Connection) → ((n : ℕ) → 0 < count (has_area n) t → (n < RECORDS) × (count (has_area n) t ≡ 1)) → areas_once t ≡ true
unfolding areas_once
areas_by t h =
    every_by_place (λ r. ltb r.area RECORDS && eqb (count (has_area r.area) t) 1) t (fresh 0) at_place
  where
    at_place : (i : ℕ) → i < length t → (ltb (get_or t i (fresh 0)).area RECORDS && eqb (count (has_area (get_or t i (fresh 0)).area) t) 1) ≡ true
    at_place i l =
        let n = (get_or t i (fresh 0)).area in
        let p = h n (count_at (has_area n) t i (fresh 0) l (eq-eqb n n refl)) in
        both (lt-ltb n RECORDS p.0) (eq-eqb (count (has_area n) t) 1 p.1)

areas_same : (t u : List Connection) → ((n : ℕ) → count (has_area n) u ≡ count (has_area n) t) → areas_once t ≡ true → areas_once u ≡ true
areas_same t u s e = areas_by u (λ n h. rw (s n) (area_counted t n e (rw (s n) at h)))

-- the parts of a sound table
pub of_sound : (t : List Connection) → sound_table t ≡ true → (ordered t ≡ true) × (areas_once t ≡ true) × (every sound_record t ≡ true)
unfolding sound_table
of_sound t e =
    let p = of_both (ordered t && areas_once t) (every sound_record t) e in
    let q = of_both (ordered t) (areas_once t) p.0 in
    (q.0, q.1, p.1)

pub sound_by : (t : List Connection) → ordered t ≡ true → areas_once t ≡ true → every sound_record t ≡ true → sound_table t ≡ true
unfolding sound_table
sound_by t o a r = both (both o a) r

module _ (t : List Connection) (sound : sound_table t ≡ true) where
  -- used records come first, and unused ones are fresh
  pub sound_split : t ≡ used_of t ++ unused_of t
  sound_split = ordered_split t (of_sound t sound).0

  pub unused_are_fresh : every is_fresh (unused_of t) ≡ true
  unused_are_fresh = ordered_fresh t (of_sound t sound).0

  pub unused_fresh : (i : ℕ) → i < length t → (get_or t i (fresh 0)).used ≡ false → get_or t i (fresh 0) ≡ fresh (get_or t i (fresh 0)).area
  unused_fresh i h u = fresh_eq (get_or t i (fresh 0)) (at_place t i (of_sound t sound).0 h u)
    where
      at_place : (xs : List Connection) (j : ℕ) → ordered xs ≡ true → j < length xs → (get_or xs j (fresh 0)).used ≡ false → is_fresh (get_or xs j (fresh 0)) ≡ true
      at_place [] j o l k = absurd (omega arith)
      at_place (r ∷ rs) zero o l k = (of_every is_fresh r rs (unused_first r rs k o)).0
      at_place (r ∷ rs) (suc j) o l k = at_place rs j (ordered_rest r rs o) (omega arith) k

  -- a client has one record
  pub client_once : (c : SdoClientInfo) → count (holds c) t ≤ 1
  client_once c = holds_once c t (of_sound t sound).0

  pub client_unique : (c : SdoClientInfo) (i j : ℕ) → i < length t → j < length t → holds c (get_or t i (fresh 0)) ≡ true → holds c (get_or t j (fresh 0)) ≡ true → i ≡ j
  client_unique c i j hi hj ei ej = one_place (holds c) t i j (fresh 0) (client_once c) hi hj ei ej

  -- area numbers are in range and different
  pub area_below : (i : ℕ) → i < length t → (get_or t i (fresh 0)).area < RECORDS
  area_below i h = (area_facts t i (of_sound t sound).1 h).0

  pub areas_distinct : (i j : ℕ) → i < length t → j < length t → (get_or t i (fresh 0)).area ≡ (get_or t j (fresh 0)).area → i ≡ j
  areas_distinct i j hi hj e =
      let n = (get_or t j (fresh 0)).area in
      one_place (has_area n) t i j (fresh 0) (omega (arith, (area_facts t j (of_sound t sound).1 hj).1)) hi hj (eq-eqb _ n e) (eq-eqb n n refl)

  pub record_sound : (i : ℕ) → i < length t → sound_record (get_or t i (fresh 0)) ≡ true
  record_sound i h = every_at sound_record t i (fresh 0) (of_sound t sound).2 h

-- an upload that is due has its stored piece
past_deadline : (clock : ℕ) (d : Option ℕ) → is_past clock d ≡ true → has_deadline d ≡ true
past_deadline clock None e = e
past_deadline clock (Some n) e = refl

upload_deadline : (u : SdoTransferState) → sound_upload u ≡ true → pick u.stored (has_deadline u.deadline) (not (has_deadline u.deadline) && eqb u.retries 0) ≡ true
unfolding sound_upload
upload_deadline u e =
    (of_both (ltb PIECE u.total && leb u.total SHARE && ltb 0 u.offset && ltb u.offset u.total && eqb (u.offset % PIECE) 0) (pick u.stored (has_deadline u.deadline) (not (has_deadline u.deadline) && eqb u.retries 0)) e).1

pub due_stored : (r : Connection) (clock : ℕ) (u : SdoTransferState) → sound_record r ≡ true → r.state ≡ SegmentedUpload u → is_due clock r ≡ true → u.stored ≡ true
unfolding sound_record
due_stored r clock u s e d =
    let state : sound_upload u ≡ true = sym (ap sound_state e) ∙ (of_both (leb r.send 63 && leb r.receive 63) (sound_state r.state) s).1 in
    let past : is_past clock u.deadline ≡ true = sym (ap (λ (x : SdoServerState). is_past clock (transfer_deadline x)) e) ∙ (of_both r.used (is_past clock (transfer_deadline r.state)) d).1 in
    let there = past_deadline clock u.deadline past in
    let a = has_deadline u.deadline in
    by_test u.stored (λ k. k) (λ k. not_both there (not-true a (of_both (not a) (eqb u.retries 0) (pick_f _ _ _ _ k refl ∙ upload_deadline u state)).0))

pub due_upload_stored : (t : List Connection) (i clock : ℕ) (u : SdoTransferState) → sound_table t ≡ true → i < length t → (get_or t i (fresh 0)).state ≡ SegmentedUpload u → is_due clock (get_or t i (fresh 0)) ≡ true → u.stored ≡ true
due_upload_stored t i clock u s h e d = due_stored (get_or t i (fresh 0)) clock u (record_sound t s i h) e d

-- a joining client's record and a fresh one are sound, and so is the empty table
joining_sound : (c : SdoClientInfo) (n : ℕ) → sound_record (joining c n) ≡ true
unfolding sound_record
joining_sound c n = refl

fresh_sound : (n : ℕ) → sound_record (fresh n) ≡ true
unfolding sound_record
fresh_sound n = refl

pub empty_sound : sound_table empty_table ≡ true
unfolding sound_table empty_table ordered areas_once sound_record every count pick RECORDS
empty_sound = refl

-- a record in place of one with the same client and area keeps a table sound; an unused one would have to be fresh
module _ (t : List Connection) (i : ℕ) (r : Connection) where
  pub set_sound : sound_table t ≡ true → i < length t → (get_or t i (fresh 0)).used ≡ true → r.used ≡ true → r.client ≡ (get_or t i (fresh 0)).client → r.area ≡ (get_or t i (fresh 0)).area → sound_record r ≡ true → sound_table (set t i r) ≡ true
  set_sound s h u v c a k =
      let p = of_sound t s in
      sound_by (set t i r)
      (ordered_set t i r (fresh 0) p.0 h u v c)
      (areas_same t (set t i r) (λ n. count_set (has_area n) t i r (fresh 0) (ap (λ (m : ℕ). eqb m n) a)) p.1)
      (every_set sound_record t i r p.2 k)

-- a known client's record
module _ (c : SdoClientInfo) (t : List Connection) where
  pub known_place : is_known c t ≡ true → place_of c t < length t
  known_place k = ltb-true (place_of c t) (length t) k

  pub known_holds : is_known c t ≡ true → holds c (record_of c t) ≡ true
  unfolding place_of
  known_holds k = first_at (holds c) t (fresh 0) (known_place k)

  pub unknown_none : is_known c t ≡ false → every (λ r. not (holds c r)) t ≡ true
  unfolding place_of
  unknown_none k = first_out (holds c) t (ltb-false (place_of c t) (length t) k)

-- in a sound table a known client's record is sound, and its area number in range and no other client's
module _ (c : SdoClientInfo) (t : List Connection) (sound : sound_table t ≡ true) (known : is_known c t ≡ true) where
  pub known_sound : sound_record (record_of c t) ≡ true
  known_sound = record_sound t sound (place_of c t) (known_place c t known)

  pub known_area : (record_of c t).area < RECORDS
  known_area = area_below t sound (place_of c t) (known_place c t known)

  pub known_areas_distinct : (c' : SdoClientInfo) → is_known c' t ≡ true → same_client c' c ≡ false → (record_of c t).area ≢ (record_of c' t).area
  known_areas_distinct c' k n e =
      let i : place_of c t ≡ place_of c' t = areas_distinct t sound (place_of c t) (place_of c' t) (known_place c t known) (known_place c' t k) e in
      not_both (rw (← i) at (known_holds c' t k)) (holds_other c c' (record_of c t) (known_holds c t known) n)

-- the place of a used record is its client's, so a record put there is an update
pub place_unique : (c : SdoClientInfo) (t : List Connection) (i : ℕ) → sound_table t ≡ true → i < length t → holds c (get_or t i (fresh 0)) ≡ true → place_of c t ≡ i
unfolding place_of
place_unique c t i s h e =
    let l = first_counted (holds c) t (count_at (holds c) t i (fresh 0) h e) in
    client_unique t s c (first (holds c) t) i l h (first_at (holds c) t (fresh 0) l) e

pub set_update : (c : SdoClientInfo) (t : List Connection) (i : ℕ) (r : Connection) → sound_table t ≡ true → i < length t → holds c (get_or t i (fresh 0)) ≡ true → set t i r ≡ update c r t
unfolding update
set_update c t i r s h e = rw (place_unique c t i s h e)

module _ (c : SdoClientInfo) (r : Connection) (t : List Connection) where
  -- the update of a known client's record keeps a table sound
  pub update_sound : sound_table t ≡ true → is_known c t ≡ true → r.used ≡ (record_of c t).used → r.client ≡ (record_of c t).client → r.area ≡ (record_of c t).area → sound_record r ≡ true → sound_table (update c r t) ≡ true
  unfolding update
  update_sound s k v e a o =
      let u = (of_holds c (record_of c t) (known_holds c t k)).0 in
      set_sound t (place_of c t) r s (known_place c t k) u (v ∙ u) e a o

  pub update_length : length (update c r t) ≡ length t
  unfolding update
  update_length = length-set t (place_of c t) r

  -- the client has the new record
  pub update_own : is_known c t ≡ true → holds c r ≡ true → (is_known c (update c r t) ≡ true) × (record_of c (update c r t) ≡ r)
  unfolding update place_of
  update_own k h =
      let i = first (holds c) t in
      let e : first (holds c) (set t i r) ≡ i = first_set (holds c) t i r (fresh 0) (h ∙ sym (known_holds c t k)) in
      (rw (e, length-set t i r) k, rw e (get_or-set_same t i r (fresh 0) (known_place c t k)))

-- what a client sees of a table is the records that hold it
module _ (c : SdoClientInfo) (t : List Connection) where
  pub view_record : record_of c t ≡ get_or (keep (holds c) t) 0 (fresh 0)
  unfolding place_of
  view_record = first_kept (holds c) t (fresh 0)

  pub view_known : is_known c t ≡ ltb 0 (length (keep (holds c) t))
  unfolding place_of
  view_known = first_there (holds c) t

  view_used : keep (holds c) (used_of t) ≡ keep (holds c) t
  view_used = keep_within (holds c) is_used t (λ r h. (of_holds c r h).0)

  view_unused : every is_unused t ≡ true → keep (holds c) t ≡ []
  view_unused e = keep_none (holds c) t (every_follows is_unused (λ r. not (holds c r)) t unheld e)
    where
      unheld : (r : Connection) → is_unused r ≡ true → not (holds c r) ≡ true
      unheld r u = rw (not-true r.used u)

  -- it is known where there is one, which is then its record
  pub view_first : (r : Connection) (rs : List Connection) → keep (holds c) t ≡ r ∷ rs → (is_known c t ≡ true) × (record_of c t ≡ r)
  view_first r rs e = (view_known ∙ rw e (lt-ltb 0 (suc (length rs)) (omega arith)), view_record ∙ rw e)

  pub view_none : keep (holds c) t ≡ [] → is_known c t ≡ false
  view_none e = view_known ∙ rw e

pub same_view : (c : SdoClientInfo) (t u : List Connection) → keep (holds c) u ≡ keep (holds c) t → (is_known c u ≡ is_known c t) × (record_of c u ≡ record_of c t)
same_view c t u e = (view_known c u ∙ (rw e (sym (view_known c t))), view_record c u ∙ (rw e (sym (view_record c t))))

pub unknown_view : (c : SdoClientInfo) (t : List Connection) → is_known c t ≡ false → keep (holds c) t ≡ []
unknown_view c t k = keep_none (holds c) t (unknown_none c t k)

pub known_view : (c : SdoClientInfo) (t : List Connection) → sound_table t ≡ true → is_known c t ≡ true → keep (holds c) t ≡ record_of c t ∷ []
known_view c t s k = rw (view_record c t) (single (keep (holds c) t) (sym (view_known c t) ∙ k) (rw (length_keep (holds c) t) (client_once t s c)))
  where
    single : (v : List Connection) → ltb 0 (length v) ≡ true → length v ≤ 1 → v ≡ get_or v 0 (fresh 0) ∷ []
    single [] e h = not_both e refl
    single (x ∷ []) e h = refl
    single (x ∷ y ∷ v) e h = absurd (omega arith)

-- another client sees nothing of an update
pub update_other : (c c' : SdoClientInfo) (r : Connection) (t : List Connection) → is_known c t ≡ true → holds c r ≡ true → same_client c' c ≡ false → (is_known c' (update c r t) ≡ is_known c' t) × (record_of c' (update c r t) ≡ record_of c' t)
unfolding update
update_other c c' r t k h n =
    same_view c' t (set t (place_of c t) r) (keep_set (holds c') t (place_of c t) r (fresh 0) (holds_other c c' r h n) (holds_other c c' (record_of c t) (known_holds c t k) n))

-- a record put in its place by its client
module _ (r x : Connection) (xs : List Connection) where
  insert_later : before x.client r.client ≡ true → insert r (x ∷ xs) ≡ x ∷ insert r xs
  unfolding insert
  insert_later h = sym (pick_t _ _ _ _ h refl)

  insert_here : before x.client r.client ≡ false → insert r (x ∷ xs) ≡ r ∷ x ∷ xs
  unfolding insert
  insert_here h = sym (pick_f _ _ _ _ h refl)

module _ (f : Connection → Bool) (r : Connection) where
  insert_every : (xs : List Connection) → f r ≡ true → every f xs ≡ true → every f (insert r xs) ≡ true
  unfolding insert
  insert_every [] h e = every_cons f r [] h e
  insert_every (x ∷ xs) h e =
      by_test (before x.client r.client)
      (λ b. rw (insert_later r x xs b) (every_cons f x (insert r xs) (of_every f x xs e).0 (insert_every xs h (of_every f x xs e).1)))
      (λ b. rw (insert_here r x xs b) (every_cons f r (x ∷ xs) h e))

  insert_count : (xs : List Connection) → count f (insert r xs) ≡ count f (r ∷ xs)
  unfolding insert count pick
  insert_count [] = refl
  insert_count (x ∷ xs) =
      by_test (before x.client r.client)
      (λ b. rw (insert_later r x xs b, insert_count xs) (by_test (f x) (λ p. by_test (f r) (λ q. simp (p, q)) (λ q. simp (p, q))) (λ p. by_test (f r) (λ q. simp (p, q)) (λ q. simp (p, q)))))
      (λ b. rw (insert_here r x xs b))

  insert_other : (xs : List Connection) → f r ≡ false → keep f (insert r xs) ≡ keep f xs
  unfolding insert
  insert_other [] h = keep_no f r [] h
  insert_other (x ∷ xs) h =
      by_test (before x.client r.client)
      (λ b. rw (insert_later r x xs b) (by_test (f x) (λ p. rw (keep_yes f x (insert r xs) p, keep_yes f x xs p, insert_other xs h)) (λ p. rw (keep_no f x (insert r xs) p, keep_no f x xs p) (insert_other xs h))))
      (λ b. rw (insert_here r x xs b) (keep_no f r (x ∷ xs) h))

  insert_own : (xs : List Connection) → f r ≡ true → every (λ x. not (f x)) xs ≡ true → keep f (insert r xs) ≡ r ∷ []
  unfolding insert keep
  insert_own [] h e = keep_yes f r [] h
  insert_own (x ∷ xs) h e =
      let p = of_every (λ y. not (f y)) x xs e in
      by_test (before x.client r.client)
      (λ b. rw (insert_later r x xs b, keep_no f x (insert r xs) (not-true (f x) p.0)) (insert_own xs h p.1))
      (λ b. rw (insert_here r x xs b, keep_yes f r (x ∷ xs) h, keep_none f (x ∷ xs) e))

insert_ordered : (r : Connection) (xs : List Connection) → r.used ≡ true → every is_used xs ≡ true → every (λ x. not (holds r.client x)) xs ≡ true → ordered xs ≡ true → ordered (insert r xs) ≡ true
unfolding insert every
insert_ordered r [] u v n e = behind_ordered r [] u refl e
insert_ordered r (x ∷ xs) u v n e =
    let p = of_every is_used x xs v in
    let q = of_every (λ y. not (holds r.client y)) x xs n in
    let b = ordered_behind x xs p.0 e in
    by_test (before x.client r.client)
    (λ h. rw (insert_later r x xs h) (behind_ordered x (insert r xs) p.0 (insert_every (behind x) r xs (behind_by x r (λ w. h)) b) (insert_ordered r xs u p.1 q.1 (ordered_rest x xs e))))
    (λ h. rw (insert_here r x xs h) (earlier h p.0 (not-true (holds r.client x) q.0) b))
  where
    earlier : before x.client r.client ≡ false → x.used ≡ true → holds r.client x ≡ false → every (behind x) xs ≡ true → ordered (r ∷ x ∷ xs) ≡ true
    earlier h w k b =
        let other : same_client x.client r.client ≡ false = by_test (same_client x.client r.client) (λ s. not_both (both w s) k) (λ s. s) in
        let l = before_total x.client r.client h other in
        behind_ordered r (x ∷ xs) u (every_cons (behind r) x xs (behind_by r x (λ y. l)) (every_follows (behind x) (behind r) xs (λ y z. behind_trans r x y l z) b)) e

-- the number that a joining client takes
abbrev pub free_area : List Connection → ℕ
free_area t = (get_or (unused_of t) 0 (fresh 0)).area

module _ (c : SdoClientInfo) (t : List Connection) where
  -- a joining client's record takes the place of the first unused one in every count that does not tell them apart
  join_count : (f : Connection → Bool) → 0 < length (unused_of t) → f (joining c (free_area t)) ≡ f (get_or (unused_of t) 0 (fresh 0)) → count f (join c t) ≡ count f t
  unfolding join
  join_count f h e =
      let us = used_of t in
      let ns = unused_of t in
      let x = get_or ns 0 (fresh 0) in
      let j = joining c (free_area t) in
      let a = count_append f (insert j us) (tail ns) in
      let b = insert_count f j us in
      let d = count_split is_used f t in
      let g = ap (count f) (head_tail ns (fresh 0) h) in
      by_test (f x)
      (λ k. omega (arith, a, b, d, g, count_yes f j us (e ∙ k), count_yes f x (tail ns) k))
      (λ k. omega (arith, a, b, d, g, count_no f j us (e ∙ k), count_no f x (tail ns) k))

  pub join_length : 0 < length (unused_of t) → length (join c t) ≡ length t
  join_length h = sym (count_all (join c t)) ∙ join_count (λ r. true) h refl ∙ count_all t

  pub join_sound : sound_table t ≡ true → is_known c t ≡ false → 0 < length (unused_of t) → sound_table (join c t) ≡ true
  unfolding join
  join_sound s k h =
      let us = used_of t in
      let ns = unused_of t in
      let j = joining c (free_area t) in
      let p = of_sound t s in
      sound_by (join c t)
      (ordered_append (insert j us) (tail ns)
      (insert_ordered j us refl (every_kept is_used t) (every_keep is_used (λ r. not (holds c r)) t (unknown_none c t k)) (ordered_keep is_used t p.0))
      (every_tail is_fresh ns (unused_are_fresh t s)))
      (areas_same t (join c t) (λ n. join_count (has_area n) h refl) p.1)
      (rw (every_append sound_record (insert j us) (tail ns)) (both (insert_every sound_record j us (joining_sound c (free_area t)) (every_keep is_used sound_record t p.2)) (every_tail sound_record ns (every_keep is_unused sound_record t p.2))))

  -- the joining client has its record, and another client sees nothing
  join_view : (c' : SdoClientInfo) → keep (holds c') (join c t) ≡ keep (holds c') (insert (joining c (free_area t)) (used_of t))
  unfolding join
  join_view c' =
      let ns = unused_of t in
      keep_append (holds c') (insert (joining c (free_area t)) (used_of t)) (tail ns) ∙ (rw (view_unused c' (tail ns) (every_tail is_unused ns (every_kept is_unused t))) (append-nil _))

  pub join_own : is_known c t ≡ false → (is_known c (join c t) ≡ true) × (record_of c (join c t) ≡ joining c (free_area t))
  join_own k =
      let j = joining c (free_area t) in
      view_first c (join c t) j [] (join_view c ∙ insert_own (holds c) j (used_of t) (holds_by c j refl refl) (every_keep is_used (λ r. not (holds c r)) t (unknown_none c t k)))

  pub join_other : (c' : SdoClientInfo) → same_client c' c ≡ false → (is_known c' (join c t) ≡ is_known c' t) × (record_of c' (join c t) ≡ record_of c' t)
  join_other c' n =
      let j = joining c (free_area t) in
      same_view c' t (join c t) (join_view c' ∙ insert_other (holds c') j (used_of t) (holds_other c c' j (holds_by c j refl refl) n) ∙ view_used c' t)

-- what stays of the used records where some are dropped, and what those leave
abbrev left : (Connection → Bool) → List Connection → List Connection
left gone t = keep (λ r. not (gone r)) (used_of t)

abbrev freed : List Connection → List Connection
freed rs = map (λ r. fresh r.area) rs

every_freed : (f : Connection → Bool) (rs : List Connection) → ((n : ℕ) → f (fresh n) ≡ true) → every f (freed rs) ≡ true
every_freed f rs h = every_map f (λ r. fresh r.area) rs ∙ every_always (λ r. f (fresh r.area)) rs (λ r. h r.area)

module _ (gone : Connection → Bool) (t : List Connection) where
  -- the freed records take the places of the dropped ones in every count by area numbers
  release_count : (f : Connection → Bool) → ((rs : List Connection) → count f (freed rs) ≡ count f rs) → count f (release gone t) ≡ count f t
  unfolding release
  release_count f e =
      let us = used_of t in
      omega (arith, count_append f (left gone t ++ unused_of t) (freed (keep gone us)), count_append f (left gone t) (unused_of t), e (keep gone us), count_split gone f us, count_split is_used f t)

  pub release_length : length (release gone t) ≡ length t
  release_length = sym (count_all (release gone t)) ∙ release_count (λ r. true) (count_map (λ r. true) (λ r. fresh r.area)) ∙ count_all t

  pub release_sound : sound_table t ≡ true → sound_table (release gone t) ≡ true
  unfolding release
  release_sound s =
      let us = used_of t in
      let p = of_sound t s in
      let dropped = keep gone us in
      let front = left gone t ++ unused_of t in
      sound_by (release gone t)
      (ordered_append front (freed dropped)
      (ordered_append (left gone t) (unused_of t) (ordered_keep (λ r. not (gone r)) us (ordered_keep is_used t p.0)) (unused_are_fresh t s))
      (every_freed is_fresh dropped (λ n. refl)))
      (areas_same t (release gone t) (λ n. release_count (has_area n) (count_map (has_area n) (λ r. fresh r.area))) p.1)
      (rw (every_append sound_record front (freed dropped), every_append sound_record (left gone t) (unused_of t)) (both (both (every_keep (λ r. not (gone r)) sound_record us (every_keep is_used sound_record t p.2)) (every_keep is_unused sound_record t p.2)) (every_freed sound_record dropped fresh_sound)))

  -- a client sees its record, unless that is dropped
  release_view : (c : SdoClientInfo) → keep (holds c) (release gone t) ≡ keep (λ r. not (gone r)) (keep (holds c) t)
  unfolding release
  release_view c =
      let us = used_of t in
      let rs = freed (keep gone us) in
      let a = view_unused c (unused_of t) (every_kept is_unused t) in
      let b = view_unused c rs (every_freed is_unused (keep gone us) (λ n. refl)) in
      let k = keep (holds c) (left gone t) in
      keep_append (holds c) (left gone t ++ unused_of t) rs ∙ (rw (keep_append (holds c) (left gone t) (unused_of t), a, b, append-nil k, append-nil k) (keep_swap (holds c) (λ r. not (gone r)) us ∙ (rw (view_used c t))))

  pub release_unknown : (c : SdoClientInfo) → is_known c t ≡ false → is_known c (release gone t) ≡ false
  unfolding keep
  release_unknown c k = view_none c (release gone t) (release_view c ∙ (rw (unknown_view c t k)))

  pub release_kept : (c : SdoClientInfo) → is_known c t ≡ true → gone (record_of c t) ≡ false → (is_known c (release gone t) ≡ true) × (record_of c (release gone t) ≡ record_of c t)
  release_kept c k g =
      let v = keep (holds c) t in
      let h : v ≡ record_of c t ∷ tail v = rw (view_record c t) (head_tail v (fresh 0) (ltb-true 0 (length v) (sym (view_known c t) ∙ k))) in
      let stays : Connection → Bool = λ r. not (gone r) in
      view_first c (release gone t) (record_of c t) (keep stays (tail v)) (release_view c ∙ ap (keep stays) h ∙ keep_yes stays (record_of c t) (tail v) (ap not g))

  pub release_gone : (c : SdoClientInfo) → sound_table t ≡ true → is_known c t ≡ true → gone (record_of c t) ≡ true → is_known c (release gone t) ≡ false
  unfolding keep
  release_gone c s k g =
      view_none c (release gone t) (release_view c ∙ (rw (known_view c t s k) (keep_no (λ r. not (gone r)) (record_of c t) [] (ap not g))))

-- each record's share of the area is its own
area_shares : AREA ≡ SHARE * RECORDS
unfolding AREA
area_shares = mul_comm RECORDS SHARE

share_end : (n m : ℕ) → n < m → SHARE * n + SHARE ≤ SHARE * m
share_end n m h = omega (arith, mul-suc SHARE n, mul-le-mul_left {m = suc n} {n = m} SHARE h)

module _ (area share : List ℕ) (n : ℕ) where
  pub share_length : length (with_share area n share) ≡ length area
  share_length = length_splice (SHARE * n) share area

  pub share_own : length area ≡ AREA → n < RECORDS → length share ≡ SHARE → share_of (with_share area n share) n ≡ share
  share_own a h l =
      ap (λ (k : ℕ). take k (drop (SHARE * n) (with_share area n share))) (sym l) ∙ part_splice (SHARE * n) share area (omega (arith, share_end n RECORDS h, area_shares))

  pub share_other : (m : ℕ) → n ≢ m → length share ≡ SHARE → share_of (with_share area n share) m ≡ share_of area m
  share_other m d l =
      by_test (ltb n m)
      (λ t. part_behind (SHARE * m) SHARE (SHARE * n) share area (omega (arith, share_end n m (ltb-true n m t))))
      (λ t. part_before (SHARE * m) SHARE (SHARE * n) share area (share_end m n (omega (arith, ltb-false n m t))))

-- the record that a tick takes is due, none before it is, and where it takes none no record is due
module _ (t : List Connection) (clock : ℕ) where
  pub chosen_due : chosen t clock < length t → is_due clock (get_or t (chosen t clock) (fresh 0)) ≡ true
  unfolding chosen
  chosen_due h = first_at (is_due clock) t (fresh 0) h

  pub chosen_first : (i : ℕ) → i < chosen t clock → is_due clock (get_or t i (fresh 0)) ≡ false
  unfolding chosen
  chosen_first i h = first_before (is_due clock) t i (fresh 0) h

  pub chosen_none : length t ≤ chosen t clock → every (λ r. not (is_due clock r)) t ≡ true
  unfolding chosen
  chosen_none h = first_out (is_due clock) t h

-- A record is due from the clock on that is its deadline, and not before: the bench card's "deadline 1,000,000 …, clock 999,999; 1,000,000".
module _ (clock n : ℕ) (r : Connection) (used : r.used ≡ true) (deadline : transfer_deadline r.state ≡ Some n) where
  pub due_from_deadline : n ≤ clock → is_due clock r ≡ true
  due_from_deadline h = both used (ap (is_past clock) deadline ∙ le-leb n clock h)

  pub not_due_before : clock < n → is_due clock r ≡ false
  not_due_before h = rw used (ap (is_past clock) deadline ∙ lt-leb n clock h)
