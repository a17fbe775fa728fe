-- A run, turn by turn. "The script ends at the end of the file. An item that is cut short, has another number, … ends the run".
use Rattle.std.specs.Prelude.{ℕ, ◌<◌, ◌≤◌, Bool, List, length, take, Option}
use Rattle.std.specs.Io.KnownBytes.{Consumes}
use Rattle.input.specs.declared.Window.{Window}
use Rattle.input.specs.Runs.{unplayed_of, behind, Read, refilled_bytes, refilled_window}

-- where a run is: the state of what plays the items, what the reader has left where that is known, the input's buffer, and how far it is played
pub record Run (P : Type 0) : Type 0 where
  pub player : P
  pub left : Option (List ℕ)
  pub input : List ℕ
  pub window : Window

abbrev pub run : {P : Type 0} → P → Option (List ℕ) → List ℕ → Window → Run P
run p left input w = record { player = p; left = left; input = input; window = w }

-- under what a player says of an item's length, and of a play of an item and whether that is known
module _ {P : Type 0} (IsLong : P → List ℕ → ℕ → Type 0) (Plays : P → List ℕ → Bool → P → Type 0) where
  -- a turn: where fewer bytes are there than the item is long, a read gets more; else the item is played, and passed as far as it is known
  pub data Turn : Run P → Run P → Type 0 where
    reads : (p : P) (left left' : Option (List ℕ)) (input : List ℕ) (w : Window) (n : ℕ) (f : Read) → IsLong p (unplayed_of input w) n → length (unplayed_of input w) < n → Consumes left left' f.got → Turn (run p left input w) (run p left' (refilled_bytes f input w) (refilled_window f input w))
    plays : (p p' : P) (left : Option (List ℕ)) (input : List ℕ) (w : Window) (n : ℕ) (known : Bool) → IsLong p (unplayed_of input w) n → n ≤ length (unplayed_of input w) → Plays p (take n (unplayed_of input w)) known p' → Turn (run p left input w) (run p' left input (behind w n known))

  -- one turn behind the other
  pub data Turns : Run P → Run P → Type 0 where
    none : (r : Run P) → Turns r r
    and : (q r s : Run P) → Turns q r → Turn r s → Turns q s
