-- Plain bytes are those that are written of what they say: law by law for the parts of a record, then for a record and a table.
use Prim.Native.Nat.{ℕ, zero, suc, ◌+◌, ◌*◌, ◌/◌, ◌%◌, ◌<◌, ◌≤◌}
use native.Mathlib.Omega.{arith}
use mathlib.Core.Path.{◌≡◌, refl, sym, ap, ◌∙◌}
use mathlib.Core.Bool.{Bool, true, false, ◌||◌}
use mathlib.Core.List.{List, [], ◌∷◌, ◌++◌, append_assoc, map}
use lib.ListN.{length, get_or, take, drop, length-drop}
use lib.Dec.{eqb}
use lib.Seq.{take-suc, take-add, take_all, take-take, drop-drop, drop-cons, length-take-le, get_or-drop}
use borrow.Author.Tests.{eqb-true}
use Rattle.picks.specs.Pick.{pick}
use Rattle.picks.proofs.Keep.{by_test, not_both}
use Rattle.octets.specs.Octets.{le_bytes, AllBytes}
use Rattle.octets.proofs.Bytes.{bytes_drop, bytes_take}
use Rattle.octets.proofs.Little.{le_bytes_le}
use Rattle.std.specs.Prelude.{None, Some}
use Rattle.std.specs.Bool.{MatchBool}
use Rattle.std.specs.List.{AllWithin}
use Rattle.format.specs.Format.{byte_at, number_at, flag, big, big_bytes, client_bytes, client_of, deadline_flag, deadline_time, transfer_bytes, transfer_of, state_number, state_bytes, state_of, record_bytes, record_of, rows, table_bytes, table_of}
use Rattle.format.proofs.Reading.{state_is}
use Rattle.packing.specs.Plain.{SameClient, NoTransfer, SameTransfer, SameState, SameRecord}

-- a part of a list by its first byte, and by its first n
part_byte : (m k : ℕ) (r : List ℕ) → k < length r → take (suc m) (drop k r) ≡ byte_at k r ∷ take m (drop (suc k) r)
part_byte m k r h = rw (drop-cons r k 0 h)

part_more : (n m k : ℕ) (r : List ℕ) → take (n + m) (drop k r) ≡ take n (drop k r) ++ take m (drop (k + n) r)
part_more n m k r = take-add n m (drop k r) ∙ rw (drop-drop n k r)

-- the bytes of the number that n bytes are, the first the most significant, and the first the lowest
big_same : (n : ℕ) (s : List ℕ) → n ≤ length s → AllBytes s → big_bytes n (big n s) ≡ take n s
unfolding big big_bytes
big_same zero s h b = refl
big_same (suc n) s h b =
    let x = b n in
    let q : (256 * big n s + byte_at n s) / 256 ≡ big n s = omega arith in
    let m : (256 * big n s + byte_at n s) % 256 ≡ byte_at n s = omega arith in
    rw (q, m, big_same n s (omega arith) b, take-suc s n 0 (omega arith))

number_same : (n k : ℕ) (r : List ℕ) → AllBytes r → k + n ≤ length r → le_bytes n (number_at n k r) ≡ take n (drop k r)
number_same n k r b h =
    let d = drop k r in
    let l : n ≤ length d = simp length-drop (omega arith) in
    le_bytes_le n (take n d) (length-take-le n d l) (bytes_take n d (bytes_drop k r b))

zeros_same : (n k : ℕ) (r : List ℕ) → AllBytes r → k + n ≤ length r → number_at n k r ≡ 0 → take n (drop k r) ≡ le_bytes n 0
zeros_same n k r b h e = sym (number_same n k r b h) ∙ ap (le_bytes n) e

-- a flag
flag_same : (x : ℕ) → x < 2 → flag (eqb x 1) ≡ x
flag_same zero h = refl
flag_same (suc zero) h = refl
flag_same (suc (suc x)) h = absurd (omega arith)

-- a client of eight bytes, by its kind
module _ (u : List ℕ) (b : AllBytes u) (h : 8 ≤ length u) where
  asnd_same : byte_at 0 u ≡ 0 → client_bytes (client_of u) ≡ take 8 u
  unfolding client_of client_bytes pick
  asnd_same e =
      let l : 6 ≤ length (drop 2 u) = simp length-drop (omega arith) in
      rw (part_byte 7 0 u (omega arith), part_byte 6 1 u (omega arith), e, big_same 6 (drop 2 u) l (bytes_drop 2 u b))

  udp_same : byte_at 0 u ≡ 1 → byte_at 7 u ≡ 0 → client_bytes (client_of u) ≡ take 8 u
  unfolding client_of client_bytes pick
  udp_same e z =
      let l : 4 ≤ length (drop 1 u) = simp length-drop (omega arith) in
      rw (part_byte 7 0 u (omega arith), part_more 4 3 1 u, part_more 2 1 5 u, part_byte 0 7 u (omega arith), z, e, big_same 4 (drop 1 u) l (bytes_drop 1 u b), number_same 2 5 u b (omega arith))
      (ap (λ (x : List ℕ). 1 ∷ x) (append_assoc (take 4 (drop 1 u)) (take 2 (drop 5 u)) (0 ∷ [])))

-- a deadline by its flag
deadline_told : (x n : ℕ) → deadline_flag (pick (eqb x 1) (Some n) None) ≡ flag (eqb x 1)
unfolding pick
deadline_told x n = by_test (eqb x 1) (λ e. rw e) (λ e. rw e)

time_told : (x n : ℕ) → (eqb x 1 || eqb n 0) ≡ true → deadline_time (pick (eqb x 1) (Some n) None) ≡ n
unfolding pick
time_told x n t = by_test (eqb x 1) (λ e. rw e) (λ e. rw e (sym (eqb-true n 0 (rw e at t))))

-- the parts of a record's 40 bytes
module _ (r : List ℕ) (b : AllBytes r) (l : length r ≡ 40) where
  client_long : 8 ≤ length (drop 1 r)
  client_long = simp length-drop (omega arith)

  pub same_asnd : byte_at 1 r ≡ 0 → SameClient r
  same_asnd e = asnd_same (drop 1 r) (bytes_drop 1 r b) client_long (rw (get_or-drop 1 r 0 0) e)

  pub same_udp : byte_at 1 r ≡ 1 → byte_at 8 r ≡ 0 → SameClient r
  same_udp e z = udp_same (drop 1 r) (bytes_drop 1 r b) client_long (rw (get_or-drop 1 r 0 0) e) (rw (get_or-drop 1 r 7 0) z)

  -- the third number and the fourth have five bytes in common
  pub no_transfer : number_at 8 13 r ≡ 0 → number_at 8 21 r ≡ 0 → number_at 8 29 r ≡ 0 → number_at 8 32 r ≡ 0 → NoTransfer r
  unfolding le_bytes
  no_transfer e f g h =
      let z : take 3 (drop 29 r) ≡ le_bytes 3 0 = sym (take-take 3 8 (drop 29 r) (omega arith)) ∙ ap (take 3) (zeros_same 8 29 r b (omega arith) g) in
      rw (part_more 8 19 13 r, part_more 8 11 21 r, part_more 3 8 29 r, zeros_same 8 13 r b (omega arith) e, zeros_same 8 21 r b (omega arith) f, z, zeros_same 8 32 r b (omega arith) h)

  transfer_written : byte_at 38 r ≤ 1 → byte_at 25 r ≤ 1 → (eqb (byte_at 25 r) 1 || eqb (number_at 8 26 r) 0) ≡ true → transfer_bytes (transfer_of r) ≡ take 26 (drop 13 r)
  unfolding transfer_bytes transfer_of
  transfer_written f g t =
      rw (
        deadline_told (byte_at 25 r) (number_at 8 26 r),
        time_told (byte_at 25 r) (number_at 8 26 r) t,
        flag_same (byte_at 25 r) (omega arith),
        flag_same (byte_at 38 r) (omega arith),
        number_same 4 14 r b (omega arith),
        number_same 4 18 r b (omega arith),
        number_same 2 22 r b (omega arith),
        number_same 8 26 r b (omega arith),
        number_same 4 34 r b (omega arith),
        part_byte 25 13 r (omega arith),
        part_more 4 21 14 r,
        part_more 4 17 18 r,
        part_more 2 15 22 r,
        part_byte 14 24 r (omega arith),
        part_byte 13 25 r (omega arith),
        part_more 8 5 26 r,
        part_more 4 1 34 r,
        part_byte 0 38 r (omega arith),
      )
      (simp append_assoc)

  pub same_transfer : byte_at 39 r ≡ 0 → byte_at 38 r ≤ 1 → byte_at 25 r ≤ 1 → (eqb (byte_at 25 r) 1 || eqb (number_at 8 26 r) 0) ≡ true → SameTransfer r
  same_transfer z f g t =
      let y : take 1 (drop 39 r) ≡ 0 ∷ [] = part_byte 0 39 r (omega arith) ∙ ap (λ (x : ℕ). x ∷ []) z in
      rw (transfer_written f g t, ← y) (sym (part_more 26 1 13 r))

  -- a state by its number
  state_blank : (n : ℕ) → n ≡ byte_at 12 r → n < 3 → NoTransfer r → state_number (state_of r) ∷ (state_bytes (state_of r) ++ (0 ∷ [])) ≡ n ∷ take 27 (drop 13 r)
  unfolding state_bytes pick
  state_blank zero e h z = rw (state_is r 0 e) (ap (λ (x : List ℕ). 0 ∷ x) z)
  state_blank (suc zero) e h z = rw (state_is r 1 e) (ap (λ (x : List ℕ). 1 ∷ x) z)
  state_blank (suc (suc zero)) e h z = rw (state_is r 2 e) (ap (λ (x : List ℕ). 2 ∷ x) z)
  state_blank (suc (suc (suc n))) e h z = absurd (omega arith)

  state_busy : (n : ℕ) → n ≡ byte_at 12 r → 3 ≤ n → n < 5 → SameTransfer r → state_number (state_of r) ∷ (state_bytes (state_of r) ++ (0 ∷ [])) ≡ n ∷ take 27 (drop 13 r)
  unfolding state_bytes pick
  state_busy zero e h g z = absurd (omega arith)
  state_busy (suc zero) e h g z = absurd (omega arith)
  state_busy (suc (suc zero)) e h g z = absurd (omega arith)
  state_busy (suc (suc (suc zero))) e h g z = rw (state_is r 3 e) (ap (λ (x : List ℕ). 3 ∷ x) z)
  state_busy (suc (suc (suc (suc zero)))) e h g z = rw (state_is r 4 e) (ap (λ (x : List ℕ). 4 ∷ x) z)
  state_busy (suc (suc (suc (suc (suc n))))) e h g z = absurd (omega arith)

  pub same_state_blank : byte_at 12 r < 3 → NoTransfer r → SameState r
  same_state_blank h z = rw (part_byte 27 12 r (omega arith)) (state_blank (byte_at 12 r) refl h z)

  pub same_state_busy : 3 ≤ byte_at 12 r → byte_at 12 r < 5 → SameTransfer r → SameState r
  same_state_busy h g z = rw (part_byte 27 12 r (omega arith)) (state_busy (byte_at 12 r) refl h g z)

  pub same_record : byte_at 0 r ≤ 1 → SameClient r → SameState r → SameRecord r
  unfolding record_bytes record_of
  same_record h k s =
      let w : take 40 (drop 0 r) ≡ r = take_all 40 r (omega arith) in
      rw (flag_same (byte_at 0 r) (omega arith), k) (
      simp append_assoc (
      ap (λ (x : List ℕ). byte_at 0 r ∷ (take 8 (drop 1 r) ++ (byte_at 9 r ∷ byte_at 10 r ∷ byte_at 11 r ∷ x))) s ∙ (rw (← part_byte 28 11 r (omega arith), ← part_byte 29 10 r (omega arith), ← part_byte 30 9 r (omega arith), ← part_more 8 31 1 r, ← part_byte 39 0 r (omega arith)) w)
      )
      )

-- a table whose records are such
rows_same : (n at : ℕ) (s : List ℕ) → ((j : ℕ) (d : List ℕ) → j < n → SameRecord (get_or (rows n at s) j d)) → table_bytes (map record_of (rows n at s)) ≡ take (40 * n) (drop at s)
unfolding rows table_bytes
rows_same zero at s h = refl
rows_same (suc n) at s h =
    let f : record_bytes (record_of (take 40 (drop at s))) ≡ take 40 (drop at s) = h 0 [] (omega arith) in
    let e : 40 * suc n ≡ 40 + 40 * n = omega arith in
    rw (f, rows_same n (at + 40) s (λ j d i. h (suc j) d (omega arith)), e) (sym (part_more 40 (40 * n) at s))

pub same_table : (s : List ℕ) → length s ≡ 320 → AllWithin SameRecord (rows 8 0 s) 0 (length (rows 8 0 s)) → table_bytes (table_of s) ≡ s
unfolding table_of rows
same_table s l h = rows_same 8 0 s (λ j d i. h j d (omega arith) i) ∙ take_all 320 s (omega arith)

-- what a test that passed says
pub true_case : {P : Type 0} (Q : Type 0) (b : Bool) → MatchBool b P Q → b ≡ true → P
true_case Q true h e = h
true_case Q false h e = not_both e refl
