-- Laws of pieces, over any size above 0.
use Prim.Native.Nat.{ℕ, zero, suc, ◌+◌, ◌%◌, ◌≤◌, ◌<◌}
use native.Mathlib.Omega.{arith}
use native.Mathlib.Nat.{add-mod_right}
use mathlib.Core.Path.{◌≡◌, refl, sym, ap, ◌∙◌}
use mathlib.Core.Bool.{Bool, true, false}
use mathlib.Core.List.{List, [], ◌∷◌, ◌++◌}
use lib.ListN.{length, take, drop, length-take, length-drop}
use lib.Seq.{take-add, take-take}
use lib.Dec.{leb, eqb}
use borrow.Author.Tests.{le-leb, lt-leb, eq-eqb, ne_eqb}
use Rattle.picks.specs.Pick.{pick}
use Rattle.protocol.specs.declared.Segmentation.TheVariants.{Initiate, Segment, Complete}
use Rattle.std.specs.Prelude.{None, Some}
use Rattle.protocol.specs.Command.{WellFormed, is_present, is_initiate, total_number}
use Rattle.protocol.specs.TransferRecord.{piece_length, piece_kind, piece}

module _ (size total offset : ℕ) (inside : offset < total) where
  -- a piece is no longer than the rest, and not empty
  pub piece_within : offset + piece_length size total offset ≤ total
  piece_within = omega arith

  pub piece_some : 0 < size → 0 < piece_length size total offset
  piece_some h = omega arith

  -- a piece that does not reach the end has the whole size
  pub piece_whole : offset + piece_length size total offset < total → piece_length size total offset ≡ size
  piece_whole h = omega arith

  -- which kind it is
  pub piece_complete : total ≤ offset + size → piece_kind size total offset ≡ Complete
  unfolding pick
  piece_complete h = rw (le-leb total (offset + piece_length size total offset) (omega arith))

  pub piece_initiate : offset ≡ 0 → size < total → piece_kind size total offset ≡ Initiate
  unfolding pick
  piece_initiate e h = rw (lt-leb total (offset + piece_length size total offset) (omega arith), eq-eqb offset 0 e)

  pub piece_segment : 0 < offset → offset + size < total → piece_kind size total offset ≡ Segment
  unfolding pick
  piece_segment p h = rw (lt-leb total (offset + piece_length size total offset) (omega arith), ne_eqb offset 0 (λ e. omega arith))

-- what was sent and a piece join to what is sent after it
pub piece_joins : (size transaction total offset : ℕ) (bytes : List ℕ) → take offset bytes ++ (piece size transaction total offset bytes).payload ≡ take (offset + piece_length size total offset) bytes
unfolding piece
piece_joins size transaction total offset bytes = sym (take-add offset (piece_length size total offset) bytes)

-- a part of what comes before a place is the same part of the whole
pub part_of_take : (offset n total : ℕ) (a : List ℕ) → offset + n ≤ total → take n (drop offset (take total a)) ≡ take n (drop offset a)
part_of_take zero n total a h = take-take n total a (omega arith)
part_of_take (suc offset) n zero a h = absurd (omega arith)
part_of_take (suc offset) n (suc total) [] h = refl
part_of_take (suc offset) n (suc total) (x ∷ a) h = part_of_take offset n total a (omega arith)

-- pieces of two lists that agree up to the total are the same
pub piece_agrees : (size transaction total offset : ℕ) (a b : List ℕ) → offset ≤ total → take total a ≡ take total b → piece size transaction total offset a ≡ piece size transaction total offset b
unfolding piece
piece_agrees size transaction total offset a b l e =
    let n = piece_length size total offset in
    let h : offset + n ≤ total = omega arith in
    let f : take n (drop offset a) ≡ take n (drop offset b) = sym (part_of_take offset n total a h) ∙ ap (λ x. take n (drop offset x)) e ∙ part_of_take offset n total b h in
    rw f

-- an offset stays a multiple of the size
pub piece_multiple : (size offset : ℕ) → offset % size ≡ 0 → (offset + size) % size ≡ 0
piece_multiple size offset e = add-mod_right offset size ∙ e

-- the total stands in the first piece alone, which is an Initiate where the total is above the size
first_alone : (size total offset : ℕ) → size < total → is_present (pick (eqb offset 0) (Some total) None) ≡ is_initiate (piece_kind size total offset)
unfolding pick
first_alone size total zero h = rw (lt-leb total (0 + piece_length size total 0) (omega arith))
first_alone size total (suc o) h = rw (ne_eqb (suc o) 0 (λ e. omega arith)) (go (leb total (suc o + piece_length size total (suc o))))
  where
    go : (t : Bool) → false ≡ is_initiate (pick t Complete Segment)
    go true = refl
    go false = refl

total_number_lem : (total : ℕ) (t : Bool) → total_number (pick t (Some total) None) ≤ total
unfolding pick
total_number_lem total true = omega arith
total_number_lem total false = omega arith

-- a piece of a value is a whole command
pub piece_formed : (size transaction total offset : ℕ) (bytes : List ℕ) → size < 65536 → size < total → total < 4294967296 → offset < total → total ≤ length bytes → WellFormed (piece size transaction total offset bytes)
unfolding piece
piece_formed size transaction total offset bytes k l m i n = record {
  size = sym (simp (length-take, length-drop) (omega arith));
  narrow = omega arith;
  present = first_alone size total offset l;
  total = omega (arith, total_number_lem total (eqb offset 0));
}

-- and carries no more than the size
pub piece_short : (size transaction total offset : ℕ) (bytes : List ℕ) → length (piece size transaction total offset bytes).payload ≤ size
unfolding piece
piece_short size transaction total offset bytes = simp length-take (omega arith)
