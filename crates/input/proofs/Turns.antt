-- One turn more, and that an item that is passed leaves the window within the buffer.
use Rattle.std.proofs.Common.{◌≡◌, ℕ, ◌-◌, ◌<◌, ◌≤◌, Bool, true, false, List, length, take, drop, Option, arith, length-take}
use Rattle.picks.specs.Pick.{pick}
use Rattle.std.specs.Io.KnownBytes.{Consumes}
use Rattle.input.specs.declared.Window.{Window}
use Rattle.input.specs.Runs.{unplayed_of, behind, Read, refilled_bytes, refilled_window, Within}
use Rattle.input.specs.Turns.{Run, run, Turns}
use Rattle.input.specs.Turns.Turn.{reads, plays}
use Rattle.input.specs.Turns.Turns.{and}

-- an item that is all there ends before what is unplayed does
within_passed : (size : ℕ) (input : List ℕ) (w : Window) (n : ℕ) (known : Bool) → Within w size → n ≤ length (unplayed_of input w) → Within (behind w n known) size
unfolding unplayed_of behind pick
within_passed size input w n true (ordered, fits) there =
    let long = length-take (w.end - w.start) (drop w.start input) in
    (omega arith, fits)
within_passed size input w n false inside there = inside

pub passed_within : (size : ℕ) (input : List ℕ) (w : Window) → Within w size → (bytes : List ℕ) → bytes ≡ unplayed_of input w → (n : ℕ) → n ≤ length bytes → (known : Bool) (w' : Window) → w' ≡ behind w n known → Within w' size
passed_within size input w inside bytes there n enough known w' ew = rw ew (within_passed size input w n known inside (rw there at enough))

module _ {P : Type 0} (IsLong : P → List ℕ → ℕ → Type 0) (Plays : P → List ℕ → Bool → P → Type 0) (s : Run P) (p : P) (left : Option (List ℕ)) (input : List ℕ) (w : Window) (so_far : Turns IsLong Plays s (run p left input w)) (bytes : List ℕ) (there : bytes ≡ unplayed_of input w) (n : ℕ) (long : IsLong p bytes n) where
  pub reads_more : (left' : Option (List ℕ)) (input' : List ℕ) (w' : Window) → length bytes < n → (f : Read) × (input' ≡ refilled_bytes f input w) × (w' ≡ refilled_window f input w) × Consumes left left' f.got → Turns IsLong Plays s (run p left' input' w')
  reads_more left' input' w' few (f, ei, ew, came) =
      rw (ei, ew) (and s _ _ so_far (reads p left left' input w n f (rw there at long) (rw there at few) came))

  pub plays_one : (p' : P) (known : Bool) (w' : Window) (item : List ℕ) → n ≤ length bytes → item ≡ take n bytes → Plays p item known p' → w' ≡ behind w n known → Turns IsLong Plays s (run p' left input w')
  plays_one p' known w' item enough ei played ew =
      rw ew (and s _ _ so_far (plays p p' left input w n known (rw there at long) (rw there at enough) (rw (ei, there) at played)))
