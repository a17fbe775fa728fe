-- What is looked up is what the entries from the turn's on give, and whether the index was seen before them. What a turn skips changes nothing.
use Prim.Native.Nat.{◌-◌}
use mathlib.Core.Path.{◌≡◌}
use mathlib.Core.Bool.{false}
use Rattle.dictionary.specs.Skipping.{lookup_from}
use Rattle.dictionary.proofs.Missing.{is_seen}
use Rattle.dictionary.proofs.Entries.lookup_from.Given as goal

abbrev pub invariant-loop-i : goal.invariant-loop-i
invariant-loop-i l = lookup_from l.self.image.now l.self.n l.from l.index l.sub false ≡ lookup_from l.self.image.now l.self.n l.i l.index l.sub (is_seen l.missing)

abbrev pub decreases-loop-i : goal.decreases-loop-i
decreases-loop-i l = l.self.n - l.i
