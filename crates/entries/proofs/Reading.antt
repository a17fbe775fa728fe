-- The bytes of an entry, wherever they are read from.
use Prim.Native.Nat.{ℕ}
use native.Mathlib.Omega.{arith}
use mathlib.Core.Path.{◌≡◌}
use mathlib.Core.List.{List}
use lib.ListN.{take, drop}
use lib.Seq.{drop-drop, get_or-drop, get_or-take, take-take}
use Rattle.octets.proofs.Parts.{part_within}
use Rattle.protocol.specs.DictionaryImage.{entry_at}
use Rattle.entries.specs.Reading.{entry_in}

-- an entry is read from its place on
pub entry_there : (image : List ℕ) (at : ℕ) → entry_in at (drop at image) ≡ entry_at image at
unfolding entry_at
entry_there image at = rw (get_or-drop at image 2 0, get_or-drop at image 3 0, drop-drop 4 at image, drop-drop 8 at image, drop-drop 10 at image)

-- and from its twelve bytes
pub entry_part : (place : ℕ) (b : List ℕ) → entry_in place (take 12 b) ≡ entry_in place b
entry_part place b =
    rw (take-take 2 12 b (omega arith), get_or-take 12 b 2 0 (omega arith), get_or-take 12 b 3 0 (omega arith), part_within 4 4 12 b (omega arith), part_within 2 8 12 b (omega arith), part_within 2 10 12 b (omega arith))
