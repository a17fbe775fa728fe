-- What is read from bytes: eight records, whose numbers fit their bytes.
use Prim.Native.Nat.{ℕ, zero, suc, ◌+◌, ◌/◌, ◌%◌, ◌^◌, ◌<◌}
use native.Mathlib.Omega.{arith}
use native.Mathlib.Nat.{pow-succ'}
use mathlib.Core.Path.{◌≡◌, refl}
use mathlib.Core.List.{List, [], ◌∷◌, ◌++◌, map}
use lib.ListN.{length, take, drop}
use lib.Dec.{eqb, lit<}
use Rattle.picks.proofs.Picks.{pick_elim}
use Rattle.octets.specs.Octets.{AllBytes, le_bytes}
use Rattle.octets.proofs.Bytes.{bytes_drop, bytes_take, bytes_append, bytes_le_bytes}
use Rattle.octets.proofs.Little.{le_bound}
use Rattle.format.specs.Format.{byte_at, number_at, big, big_bytes, client_bytes, client_of, deadline_of, transfer_of, state_of, record_of, rows, table_of}
use Rattle.format.specs.Fits.{FitsClient, FitsDeadline, FitsTransfer, FitsState, FitsRecord, FitsTable}

big_bound : (n : ℕ) (s : List ℕ) → AllBytes s → big n s < 256 ^ n
unfolding big
big_bound zero s h = lit< tt
big_bound (suc n) s h = omega (arith, h n, big_bound n s h, pow-succ' 256 n)

number_bound : (n at : ℕ) (s : List ℕ) → AllBytes s → number_at n at s < 256 ^ n
number_bound n at s h = le_bound n (drop at s) (bytes_drop at s h)

pub client_fits : (s : List ℕ) → AllBytes s → FitsClient (client_of s)
unfolding client_of
client_fits s h =
    pick_elim FitsClient (eqb (byte_at 0 s) 0) _ _ (λ e. omega (arith, big_bound 6 (drop 2 s) (bytes_drop 2 s h))) (λ e. (big_bound 4 (drop 1 s) (bytes_drop 1 s h), number_bound 2 5 s h))

deadline_fits : (s : List ℕ) → AllBytes s → FitsDeadline (deadline_of s)
deadline_fits s h = pick_elim FitsDeadline (eqb (byte_at 25 s) 1) _ _ (λ e. number_bound 8 26 s h) (λ e. tt)

transfer_fits : (s : List ℕ) → AllBytes s → FitsTransfer (transfer_of s)
unfolding transfer_of
transfer_fits s h = record { total = number_bound 4 14 s h; offset = number_bound 4 18 s h; index = number_bound 2 22 s h; deadline = deadline_fits s h; retries = number_bound 4 34 s h }

state_fits : (s : List ℕ) → AllBytes s → FitsState (state_of s)
unfolding state_of
state_fits s h =
    let t = transfer_fits s h in
    pick_elim FitsState (eqb (byte_at 12 s) 0) _ _ (λ e. tt)
    (λ e. pick_elim FitsState (eqb (byte_at 12 s) 1) _ _ (λ f. tt)
    (λ f. pick_elim FitsState (eqb (byte_at 12 s) 2) _ _ (λ g. tt)
    (λ g. pick_elim FitsState (eqb (byte_at 12 s) 3) _ _ (λ i. t) (λ i. t))))

record_fits : (s : List ℕ) → AllBytes s → FitsRecord (record_of s)
unfolding record_of
record_fits s h = (client_fits (drop 1 s) (bytes_drop 1 s h), state_fits s h)

rows_fit : (n at : ℕ) (s : List ℕ) → AllBytes s → FitsTable (map record_of (rows n at s))
unfolding rows
rows_fit zero at s h = tt
rows_fit (suc n) at s h = (record_fits (take 40 (drop at s)) (bytes_take 40 (drop at s) (bytes_drop at s h)), rows_fit n (at + 40) s h)

pub table_fits : (s : List ℕ) → AllBytes s → FitsTable (table_of s)
unfolding table_of
table_fits s h = rows_fit 8 0 s h

-- a table that is read has eight records
pub length_table_of : (s : List ℕ) → length (table_of s) ≡ 8
unfolding table_of rows
length_table_of s = refl

-- the bytes of a client that was read from bytes are bytes
bytes_one : (x : ℕ) → x < 256 → AllBytes (x ∷ [])
bytes_one x h zero = h
bytes_one x h (suc i) = lit< tt

bytes_cons : (x : ℕ) (xs : List ℕ) → x < 256 → AllBytes xs → AllBytes (x ∷ xs)
bytes_cons x xs h g zero = h
bytes_cons x xs h g (suc i) = g i

bytes_big : (n v : ℕ) → AllBytes (big_bytes n v)
unfolding big_bytes
bytes_big zero v = λ i. lit< tt
bytes_big (suc n) v = bytes_append (big_bytes n (v / 256)) (v % 256 ∷ []) (bytes_big n (v / 256)) (bytes_one (v % 256) (omega arith))

pub bytes_client : (s : List ℕ) → AllBytes s → AllBytes (client_bytes (client_of s))
unfolding client_of client_bytes
bytes_client s h =
    let m = big_bytes 6 (big 6 (drop 2 s)) in
    let a = big_bytes 4 (big 4 (drop 1 s)) in
    let p = le_bytes 2 (number_at 2 5 s) in
    pick_elim (λ k. AllBytes (client_bytes k)) (eqb (byte_at 0 s) 0) _ _
    (λ e. bytes_cons 0 (byte_at 1 s ∷ m) (lit< tt) (bytes_cons (byte_at 1 s) m (h 1) (bytes_big 6 (big 6 (drop 2 s)))))
    (λ e. bytes_cons 1 (a ++ p ++ (0 ∷ [])) (lit< tt) (bytes_append (a ++ p) (0 ∷ []) (bytes_append a p (bytes_big 4 (big 4 (drop 1 s))) (bytes_le_bytes 2 (number_at 2 5 s))) (bytes_one 0 (lit< tt))))
