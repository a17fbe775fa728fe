-- What is read depends on the bytes that are looked at alone, so that bytes may be padded with 0 before they are read.
use Prim.Native.Nat.{ℕ, zero, suc, ◌+◌, ◌*◌, ◌<◌, ◌≤◌}
use native.Mathlib.Omega.{arith}
use native.Mathlib.Nat.{zero-add, add-zero}
use mathlib.Core.Path.{◌≡◌, refl, sym, ap, ◌∙◌}
use mathlib.Core.Bool.{Bool, true, false, ◌&&◌, ◌||◌}
use mathlib.Core.List.{List, [], ◌∷◌, ◌++◌, append-nil, map}
use lib.ListN.{length, take, drop, replicate, length-replicate}
use lib.Dec.{ltb, eqb, lit<}
use lib.Seq.{take-nil, get_or-take, get_or-drop}
use Rattle.picks.specs.Pick.{pick, every}
use Rattle.octets.specs.Octets.{le, splice}
use Rattle.protocol.specs.declared.SdoServerState.TheVariants.{Closed, Opening, Established, SegmentedDownload, SegmentedUpload}
use Rattle.format.specs.Format.{byte_at, number_at, big, client_of, transfer_of, state_of, record_of, rows, table_of, is_record, is_table}

-- the same bytes at the first n places
abbrev pub Agree : ℕ → List ℕ → List ℕ → Type 0
Agree n xs ys = (i : ℕ) → i < n → byte_at i xs ≡ byte_at i ys

pub agree_drop : (k n : ℕ) (xs ys : List ℕ) → Agree (k + n) xs ys → Agree n (drop k xs) (drop k ys)
agree_drop k n xs ys h i l = rw (get_or-drop k xs i 0, get_or-drop k ys i 0) (h (k + i) (omega arith))

pub agree_take : (n : ℕ) (xs ys : List ℕ) → Agree n xs ys → Agree n (take n xs) (take n ys)
agree_take n xs ys h i l = rw (get_or-take n xs i 0 l, get_or-take n ys i 0 l) (h i l)

pub agree_less : (m n : ℕ) (xs ys : List ℕ) → m ≤ n → Agree n xs ys → Agree m xs ys
agree_less m n xs ys e h i l = h i (omega arith)

big_agrees : (n : ℕ) (xs ys : List ℕ) → Agree n xs ys → big n xs ≡ big n ys
unfolding big
big_agrees zero xs ys h = refl
big_agrees (suc n) xs ys h = rw (big_agrees n xs ys (agree_less n (suc n) xs ys (omega arith) h), h n (omega arith))

-- a number by its first byte
pub number_more : (n : ℕ) (xs : List ℕ) → le (take (suc n) xs) ≡ byte_at 0 xs + 256 * le (take n (drop 1 xs))
unfolding le
number_more n [] = rw (take-nil n)
number_more n (x ∷ xs) = refl

le_agrees : (n : ℕ) (xs ys : List ℕ) → Agree n xs ys → le (take n xs) ≡ le (take n ys)
le_agrees zero xs ys h = refl
le_agrees (suc n) xs ys h =
    rw (number_more n xs, number_more n ys, h 0 (omega arith), le_agrees n (drop 1 xs) (drop 1 ys) (agree_drop 1 n xs ys (agree_less (1 + n) (suc n) xs ys (omega arith) h)))

number_agrees : (n at : ℕ) (xs ys : List ℕ) → Agree (at + n) xs ys → number_at n at xs ≡ number_at n at ys
number_agrees n at xs ys h = le_agrees n (drop at xs) (drop at ys) (agree_drop at n xs ys h)

pub client_agrees : (xs ys : List ℕ) → Agree 8 xs ys → client_of xs ≡ client_of ys
unfolding client_of
client_agrees xs ys h =
    rw (
      h 0 (omega arith),
      h 1 (omega arith),
      big_agrees 6 (drop 2 xs) (drop 2 ys) (agree_drop 2 6 xs ys h),
      big_agrees 4 (drop 1 xs) (drop 1 ys) (agree_drop 1 4 xs ys (agree_less 5 8 xs ys (omega arith) h)),
      number_agrees 2 5 xs ys (agree_less 7 8 xs ys (omega arith) h),
    )

transfer_agrees : (xs ys : List ℕ) → Agree 40 xs ys → transfer_of xs ≡ transfer_of ys
unfolding transfer_of
transfer_agrees xs ys h =
    rw (
      h 13 (omega arith),
      number_agrees 4 14 xs ys (agree_less 18 40 xs ys (omega arith) h),
      number_agrees 4 18 xs ys (agree_less 22 40 xs ys (omega arith) h),
      number_agrees 2 22 xs ys (agree_less 24 40 xs ys (omega arith) h),
      h 24 (omega arith),
      h 25 (omega arith),
      number_agrees 8 26 xs ys (agree_less 34 40 xs ys (omega arith) h),
      number_agrees 4 34 xs ys (agree_less 38 40 xs ys (omega arith) h),
      h 38 (omega arith),
    )

pub record_agrees : (xs ys : List ℕ) → Agree 40 xs ys → record_of xs ≡ record_of ys
unfolding record_of state_of
record_agrees xs ys h =
    rw (
      h 0 (omega arith),
      client_agrees (drop 1 xs) (drop 1 ys) (agree_drop 1 8 xs ys (agree_less 9 40 xs ys (omega arith) h)),
      h 9 (omega arith),
      h 10 (omega arith),
      h 11 (omega arith),
      h 12 (omega arith),
      transfer_agrees xs ys h,
    )

records_agree : (n at : ℕ) (xs ys : List ℕ) → Agree (at + 40 * n) xs ys → map record_of (rows n at xs) ≡ map record_of (rows n at ys)
unfolding rows
records_agree zero at xs ys h = refl
records_agree (suc n) at xs ys h =
    let a = agree_drop at 40 xs ys (agree_less (at + 40) (at + 40 * suc n) xs ys (omega arith) h) in
    let b = agree_less (at + 40 + 40 * n) (at + 40 * suc n) xs ys (omega arith) h in
    rw (record_agrees (take 40 (drop at xs)) (take 40 (drop at ys)) (agree_take 40 (drop at xs) (drop at ys) a), records_agree n (at + 40) xs ys b)

pub table_agrees : (xs ys : List ℕ) → Agree 320 xs ys → table_of xs ≡ table_of ys
unfolding table_of
table_agrees xs ys h = records_agree 8 0 xs ys h

-- bytes laid over n zeros
zeros_past : (n i : ℕ) → byte_at i (replicate n 0) ≡ 0
zeros_past zero i = refl
zeros_past (suc n) zero = refl
zeros_past (suc n) (suc i) = zeros_past n i

append_zeros : (n i : ℕ) (xs : List ℕ) → byte_at i (xs ++ drop (length xs) (replicate n 0)) ≡ byte_at i xs
append_zeros n i [] = zeros_past n i
append_zeros zero i (x ∷ xs) = ap (byte_at i) (append-nil (x ∷ xs))
append_zeros (suc n) zero (x ∷ xs) = refl
append_zeros (suc n) (suc i) (x ∷ xs) = append_zeros n i xs

pub padded_agrees : (n : ℕ) (xs : List ℕ) → Agree n (splice 0 xs (replicate n 0)) xs
unfolding splice
padded_agrees n xs i l =
    let zs : List ℕ = replicate n 0 in
    let e : length zs ≡ n = length-replicate {A = ℕ} n 0 in
    rw (e, zero-add (length xs), get_or-take n (xs ++ drop (length xs) zs) i 0 l) (append_zeros n i xs)

-- the record's bytes at a place, one by one
pub byte_in : (at k : ℕ) (s : List ℕ) → k < 40 → byte_at k (take 40 (drop at s)) ≡ byte_at (at + k) s
byte_in at k s h = get_or-take 40 (drop at s) k 0 h ∙ get_or-drop at s k 0

-- a record's tests are those of its bytes
pub record_test : (at : ℕ) (s : List ℕ) → is_record (take 40 (drop at s)) ≡ (ltb (byte_at at s) 2 && ltb (byte_at (at + 1) s) 2 && (ltb (byte_at (at + 12) s) 3 || (ltb (byte_at (at + 12) s) 5 && (ltb (byte_at (at + 25) s) 2 && ltb (byte_at (at + 38) s) 2))))
unfolding is_record
record_test at s =
    rw (
      byte_in at 0 s (lit< tt),
      add-zero at,
      get_or-drop 1 (take 40 (drop at s)) 0 0,
      byte_in at 1 s (lit< tt),
      byte_in at 12 s (lit< tt),
      byte_in at 25 s (lit< tt),
      byte_in at 38 s (lit< tt),
    )

pub and_true : (b : Bool) → b ≡ (b && true)
and_true false = refl
and_true true = refl

-- eight tests, one behind the other
nested : (a b c d e f g h : Bool) → (a && b && c && d && e && f && g && h) ≡ (a && (b && (c && (d && (e && (f && (g && (h && true))))))))
nested false b c d e f g h = refl
nested true false c d e f g h = refl
nested true true false d e f g h = refl
nested true true true false e f g h = refl
nested true true true true false f g h = refl
nested true true true true true false g h = refl
nested true true true true true true false h = refl
nested true true true true true true true false = refl
nested true true true true true true true true = refl

pub eight_tests : (s : List ℕ) → length s ≡ 320 → (is_record (take 40 (drop 0 s)) && is_record (take 40 (drop 40 s)) && is_record (take 40 (drop 80 s)) && is_record (take 40 (drop 120 s)) && is_record (take 40 (drop 160 s)) && is_record (take 40 (drop 200 s)) && is_record (take 40 (drop 240 s)) && is_record (take 40 (drop 280 s))) ≡ is_table s
unfolding is_table every rows
eight_tests s e =
    let r : ℕ → Bool = λ at. is_record (take 40 (drop at s)) in
    rw e (nested (r 0) (r 40) (r 80) (r 120) (r 160) (r 200) (r 240) (r 280))

-- the state by its number
pub state_is : (s : List ℕ) (n : ℕ) → n ≡ byte_at 12 s → state_of s ≡ pick (eqb n 0) Closed (pick (eqb n 1) Opening (pick (eqb n 2) Established (pick (eqb n 3) (SegmentedUpload (transfer_of s)) (SegmentedDownload (transfer_of s)))))
unfolding state_of
state_is s n e = rw e

-- eight bytes of a record one by one are the eight from place 1 on
spread_agrees : (s : List ℕ) → Agree 8 (byte_at 1 s ∷ byte_at 2 s ∷ byte_at 3 s ∷ byte_at 4 s ∷ byte_at 5 s ∷ byte_at 6 s ∷ byte_at 7 s ∷ byte_at 8 s ∷ []) (drop 1 s)
spread_agrees s zero l = sym (get_or-drop 1 s 0 0)
spread_agrees s (suc zero) l = sym (get_or-drop 1 s 1 0)
spread_agrees s (suc (suc zero)) l = sym (get_or-drop 1 s 2 0)
spread_agrees s (suc (suc (suc zero))) l = sym (get_or-drop 1 s 3 0)
spread_agrees s (suc (suc (suc (suc zero)))) l = sym (get_or-drop 1 s 4 0)
spread_agrees s (suc (suc (suc (suc (suc zero))))) l = sym (get_or-drop 1 s 5 0)
spread_agrees s (suc (suc (suc (suc (suc (suc zero)))))) l = sym (get_or-drop 1 s 6 0)
spread_agrees s (suc (suc (suc (suc (suc (suc (suc zero))))))) l = sym (get_or-drop 1 s 7 0)
spread_agrees s (suc (suc (suc (suc (suc (suc (suc (suc i)))))))) l = absurd (omega arith)

pub client_spread : (s : List ℕ) → client_of (byte_at 1 s ∷ byte_at 2 s ∷ byte_at 3 s ∷ byte_at 4 s ∷ byte_at 5 s ∷ byte_at 6 s ∷ byte_at 7 s ∷ byte_at 8 s ∷ []) ≡ client_of (drop 1 s)
client_spread s = client_agrees _ (drop 1 s) (spread_agrees s)
