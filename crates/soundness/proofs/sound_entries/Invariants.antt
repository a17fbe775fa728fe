-- The entries are sound if those from the turn's on are, at the key and the start reached. A start within the limit and a capacity for each turn fits a u32.
use Prim.Native.Nat.{◌+◌, ◌*◌, ◌-◌, ◌≤◌}
use mathlib.Core.Path.{◌≡◌}
use mathlib.Core.Bool.{true}
use lib.ListN.{length}
use Rattle.protocol.specs.DictionaryImage.{sound_entries, entries_from}
use Rattle.soundness.proofs.sound_entries.Given as goal

abbrev pub invariant-loop-i : goal.invariant-loop-i
invariant-loop-i l =
    (l.sound ≡ true) × (l.start ≤ 65536 + 65535 * l.i) × (sound_entries (length l.image) 0 (2 + 12 * l.n) (entries_from l.image 2 l.n) ≡ sound_entries (length l.image) l.least l.start (entries_from l.image (2 + 12 * l.i) (l.n - l.i)))
