-- How far a run is. "The script ends at the end of the file. An item that is cut short, has another number, … ends the run: a line … names the byte at which the item begins (the first is 0)".
use Rattle.std.specs.Prelude.{ℕ, ◌+◌, ◌-◌, ◌%◌, ◌^◌, ◌≤◌, Bool, true, false, List, ◌++◌, length, take, drop, nat_lt}
use Rattle.picks.specs.Pick.{pick}
use Rattle.input.specs.declared.Window.{Window}

-- nothing is read yet, and the first item begins at byte 0
abbrev pub at_start : Window
at_start = record { start = 0; end = 0; at = 0; going = true }

-- how far a run is lies within a buffer of n bytes
abbrev pub Within : Window → ℕ → Type 0
Within w n = (w.start ≤ w.end) × (w.end ≤ n)

-- the input buffer's bytes from start to end
unfoldable pub unplayed_of : List ℕ → Window → List ℕ
unplayed_of input w = take (w.end - w.start) (drop w.start input)

-- behind an item of n bytes, numbers of 64 bits; an item that is not known ends the run where it begins
unfoldable pub behind : Window → ℕ → Bool → Window
behind w n known =
    pick known
    (record { start = (w.start + n) % 2 ^ 64; end = w.end; at = (w.at + n) % 2 ^ 64; going = w.going })
    (record { start = w.start; end = w.end; at = w.at; going = false })

-- a read of the input: the bytes that it got, and what stands in the buffer past them. Both are free here; the contract of a refill says of the bytes that it got that the reader gave them, where it is known which bytes a reader has.
pub record Read : Type 0 where
  pub got : List ℕ
  pub past : List ℕ

-- after it the unplayed bytes stand at the front, and what the read got behind them; the run goes on if that is any
unfoldable pub refilled_bytes : Read → List ℕ → Window → List ℕ
refilled_bytes f input w = unplayed_of input w ++ (f.got ++ f.past)

unfoldable pub refilled_window : Read → List ℕ → Window → Window
refilled_window f input w =
    record { start = 0; end = length (unplayed_of input w) + length f.got; at = w.at; going = nat_lt 0 (length f.got) }
