-- Where the records of a table stand among its bytes, and what stores of whole records make of them.
use Prim.Native.Nat.{ℕ, suc, ◌+◌, ◌*◌, ◌-◌, ◌<◌, ◌≤◌}
use native.Mathlib.Omega.{arith}
use mathlib.Core.Path.{◌≡◌, refl, sym, ap, ◌∙◌}
use mathlib.Core.List.{List, [], ◌∷◌, ◌++◌, append_assoc}
use lib.ListN.{length, get_or, take, drop, set, length-drop, take-append-drop}
use lib.Dec.{ltb}
use lib.Seq.{paste, take_at, drop_at, length-take-le, set_split, set_out, length-paste}
use mathlib.Core.Bool.{Bool, true, false}
use borrow.Author.Tests.{ltb-true, ltb-false}
use Rattle.octets.specs.Octets.{splice}
use Rattle.octets.proofs.Splice.{splice_fits, splice_out}
use Rattle.picks.proofs.Shift.{shift_down}
use Rattle.protocol.specs.declared.Connection.{Connection}
use Rattle.protocol.specs.ConnectionTable.{fresh}
use Rattle.row.specs.Row.{put_in}
use Rattle.table.specs.Row.{dropped_at}
use Rattle.table.proofs.Moves.{shift_in}
use Rattle.table.proofs.Release.{dropped_made}
use Rattle.format.specs.Format.{byte_at, record_bytes, record_of, table_bytes, table_of}
use Rattle.format.proofs.Reading.{byte_in}
use Rattle.format.proofs.Writing.{length_record, length_table}
use Rattle.format.proofs.Ranges.{length_table_of}
use Rattle.format.proofs.Places.{record_at}

-- the bytes of records one behind the other
table_append : (a b : List Connection) → table_bytes (a ++ b) ≡ table_bytes a ++ table_bytes b
unfolding table_bytes
table_append [] b = refl
table_append (c ∷ a) b = rw (table_append a b) (sym (append_assoc (record_bytes c) (table_bytes a) (table_bytes b)))

-- the first k records are the first 40 k bytes, and the others the rest
module _ (k : ℕ) (t : List Connection) (h : k ≤ length t) where
  front : length (table_bytes (take k t)) ≡ 40 * k
  front = rw (length_table (take k t), length-take-le k t h)

  split : table_bytes t ≡ table_bytes (take k t) ++ table_bytes (drop k t)
  split = ap table_bytes (sym (take-append-drop k t)) ∙ table_append (take k t) (drop k t)

  table_take : take (40 * k) (table_bytes t) ≡ table_bytes (take k t)
  table_take = ap (take (40 * k)) split ∙ take_at (table_bytes (take k t)) (table_bytes (drop k t)) (40 * k) front

  table_drop : drop (40 * k) (table_bytes t) ≡ table_bytes (drop k t)
  table_drop = ap (drop (40 * k)) split ∙ drop_at (table_bytes (take k t)) (table_bytes (drop k t)) (40 * k) front

-- the bytes of n records over those of as many from place k on
pasted : (k n : ℕ) (x t : List Connection) → k + n ≤ length t → n ≤ length x → splice (40 * k) (take (40 * n) (table_bytes x)) (table_bytes t) ≡ table_bytes (paste t k x n)
pasted k n x t h g =
    let y = table_bytes (take n x) in
    let l : length y ≡ 40 * n = front n x g in
    let e : 40 * k + length y ≡ 40 * (k + n) = omega arith in
    let f : 40 * k + length y ≤ length (table_bytes t) = omega (arith, length_table t) in
    rw (table_take n x g, splice_fits (40 * k) y (table_bytes t) f, e, table_take k t (omega arith), table_drop (k + n) t h, table_append (take k t ++ take n x) (drop (k + n) t), table_append (take k t) (take n x))

-- one record over another
pub placed : (i : ℕ) (c : Connection) (t : List Connection) → i < length t → splice (40 * i) (record_bytes c) (table_bytes t) ≡ table_bytes (set t i c)
unfolding table_bytes
placed i c t h =
    let b = record_bytes c in
    let l = length_record c in
    let e : 40 * i + length b ≡ 40 * suc i = omega arith in
    let f : 40 * i + length b ≤ length (table_bytes t) = omega (arith, length_table t) in
    rw (splice_fits (40 * i) b (table_bytes t) f, e, table_take i t (omega arith), table_drop (suc i) t (omega arith), set_split t i c h, table_append (take i t) (c ∷ drop (suc i) t))
    (append_assoc (table_bytes (take i t)) b (table_bytes (drop (suc i) t)))

-- the same at any place: past the end nothing is stored
by_test : (i : ℕ) (c : Connection) (t : List Connection) (b : Bool) → ltb i (length t) ≡ b → splice (40 * i) (record_bytes c) (table_bytes t) ≡ table_bytes (set t i c)
by_test i c t true e = placed i c t (ltb-true _ _ e)
by_test i c t false e =
    let h = ltb-false _ _ e in
    splice_out (40 * i) (record_bytes c) (table_bytes t) (omega (arith, h, length_table t)) ∙ ap table_bytes (sym (set_out t i c h))

pub placed_any : (i : ℕ) (c : Connection) (t : List Connection) → splice (40 * i) (record_bytes c) (table_bytes t) ≡ table_bytes (set t i c)
placed_any i c t = by_test i c t (ltb i (length t)) refl

-- a record put at a place, and one dropped
pub inserted : (at n : ℕ) (c : Connection) (t : List Connection) → at ≤ n → n < length t → splice (40 * at) (record_bytes c) (splice (40 * at + 40) (take (40 * n - 40 * at) (drop (40 * at) (table_bytes t))) (table_bytes t)) ≡ table_bytes (put_in at n c t)
unfolding put_in
inserted at n c t h l =
    let d = drop at t in
    let m = n - at in
    let e : 40 * at + 40 ≡ 40 * (at + 1) = omega arith in
    let f : 40 * n - 40 * at ≡ 40 * m = omega arith in
    let hm : m ≤ length d = simp length-drop (omega arith) in
    let hp : at + 1 + m ≤ length t = omega arith in
    let lp : at < length (paste t (at + 1) d m) = simp (length-paste t (at + 1) d m hp hm) (omega arith) in
    rw (e, f, table_drop at t (omega arith), pasted (at + 1) m d t hp hm, placed at c (paste t (at + 1) d m) lp, shift_in t at n c h l)

-- the area number of the record at a place
area_at : (i : ℕ) (s : List ℕ) (d : Connection) → i < 8 → (get_or (table_of s) i d).area ≡ byte_at (40 * i + 9) s
unfolding record_of
area_at i s d h = ap (λ (c : Connection). c.area) (record_at s d i h) ∙ byte_in (40 * i) 9 s (omega arith)

pub dropped : (i : ℕ) (s : List ℕ) → i < 8 → splice 280 (record_bytes (fresh (byte_at (40 * i + 9) s))) (splice (40 * i) (take (280 - 40 * i) (drop (40 * i + 40) (table_bytes (table_of s)))) (table_bytes (table_of s))) ≡ table_bytes (dropped_at i (table_of s))
dropped i s h =
    let t = table_of s in
    let l = length_table_of s in
    let x = fresh (byte_at (40 * i + 9) s) in
    let d = drop (i + 1) t in
    let m = 7 - i in
    let e : 40 * i + 40 ≡ 40 * (i + 1) = omega arith in
    let f : 280 - 40 * i ≡ 40 * m = omega arith in
    let hm : m ≤ length d = simp (length-drop, l) (omega arith) in
    let hp : i + m ≤ length t = omega arith in
    let p = paste t i d m in
    let lp : 7 < length p = simp (length-paste t i d m hp hm) (omega arith) in
    rw (e, f, table_drop (i + 1) t (omega arith), pasted i m d t hp hm)
    (placed 7 x p lp ∙ ap table_bytes (dropped_made t (set p 7 x) i x (fresh 0) (omega arith) (ap fresh (sym (area_at i s (fresh 0) h))) (shift_down t 7 i x l (omega arith))))
