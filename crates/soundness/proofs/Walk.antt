-- The walk through the entries of an image: what each turn makes of the soundness.
use Prim.Native.Nat.{ℕ, ◌+◌, ◌*◌, ◌-◌, ◌<◌}
use mathlib.Core.Path.{◌≡◌, sym, ◌∙◌}
use mathlib.Core.Bool.{Bool, true, false}
use mathlib.Core.List.{List}
use lib.Dec.{eqb}
use Rattle.protocol.specs.declared.Entry.{Entry}
use Rattle.protocol.specs.DictionaryImage.{entry_at, entries_from, key, sound_entry, sound_entries}
use Rattle.entries.proofs.Walk.{here}

-- a turn at the entry e, which is the one at position i of n: a sound entry leaves the rest, and one that is not sound ends the walk
module _ (image : List ℕ) (n i : ℕ) (e : Entry) (h : i < n) (is : e ≡ entry_at image (2 + 12 * i)) (end least start : ℕ) {all : Bool} (inv : all ≡ sound_entries end least start (entries_from image (2 + 12 * i) (n - i))) where
  pub sound_more : (k : ℕ) → k ≡ key e → sound_entry least start e ≡ true → all ≡ sound_entries end (k + 1) (start + e.capacity) (entries_from image (2 + 12 * (i + 1)) (n - (i + 1)))
  unfolding sound_entries
  sound_more k p t = inv ∙ (rw (here image n i e h is, t, p))

  pub sound_not : sound_entry least start e ≡ false → false ≡ all
  unfolding sound_entries
  sound_not t = sym (inv ∙ (rw (here image n i e h is, t)))

-- at the end of the entries
pub sound_end : (image : List ℕ) (at n : ℕ) → n ≡ 0 → (end least start : ℕ) {all : Bool} → all ≡ sound_entries end least start (entries_from image at n) → eqb start end ≡ all
unfolding sound_entries entries_from
sound_end image at n none end least start inv = sym (inv ∙ (rw none))
