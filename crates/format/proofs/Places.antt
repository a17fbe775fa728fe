-- Where a number and a record stand: within a record's 40 bytes, and within a table's.
use Prim.Native.Nat.{ℕ, zero, suc, ◌+◌, ◌*◌, ◌<◌, ◌≤◌}
use native.Mathlib.Omega.{arith}
use mathlib.Core.Path.{◌≡◌, ap, ◌∙◌}
use mathlib.Core.List.{List, map}
use lib.ListN.{get_or, take, drop, get_or-eq_default}
use lib.Seq.{drop-drop}
use Rattle.octets.specs.Octets.{le}
use Rattle.octets.proofs.Parts.{part_within}
use Rattle.protocol.specs.declared.Connection.{Connection}
use Rattle.format.specs.Format.{number_at, record_of, rows, table_of}
use Rattle.format.proofs.Ranges.{length_table_of}

-- a number within a record
pub number_in : (n k at : ℕ) (s : List ℕ) → k + n ≤ 40 → number_at n k (take 40 (drop at s)) ≡ number_at n (at + k) s
number_in n k at s h = ap le (part_within n k 40 (drop at s) h ∙ ap (take n) (drop-drop k at s))

-- the record at a place
row_at : (n at i : ℕ) (s : List ℕ) (d : Connection) → i < n → get_or (map record_of (rows n at s)) i d ≡ record_of (take 40 (drop (at + 40 * i) s))
unfolding rows
row_at zero at i s d h = absurd (omega arith)
row_at (suc n) at zero s d h = let e : at + 40 * 0 ≡ at = omega arith in rw e
row_at (suc n) at (suc i) s d h = let e : at + 40 * suc i ≡ at + 40 + 40 * i = omega arith in rw e (row_at n (at + 40) i s d (omega arith))

pub record_at : (s : List ℕ) (d : Connection) (i : ℕ) → i < 8 → get_or (table_of s) i d ≡ record_of (take 40 (drop (40 * i) s))
unfolding table_of
record_at s d i h = let e : 0 + 40 * i ≡ 40 * i = omega arith in rw e at (row_at 8 0 i s d h)

pub record_past : (s : List ℕ) (d : Connection) (i : ℕ) → 8 ≤ i → get_or (table_of s) i d ≡ d
record_past s d i h = get_or-eq_default (table_of s) d {n = i} (omega (arith, length_table_of s))
