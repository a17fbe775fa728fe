-- A walk through the entries of an image, one turn.
use Prim.Native.Nat.{ℕ, suc, ◌+◌, ◌*◌, ◌-◌, ◌<◌}
use native.Mathlib.Omega.{arith}
use mathlib.Core.Path.{◌≡◌}
use mathlib.Core.List.{List, ◌∷◌}
use Rattle.protocol.specs.declared.Entry.{Entry}
use Rattle.protocol.specs.DictionaryImage.{entry_at, entries_from}

-- the entries from position i on, of n, are the one there and those behind it
pub here : (image : List ℕ) (n i : ℕ) (e : Entry) → i < n → e ≡ entry_at image (2 + 12 * i) → entries_from image (2 + 12 * i) (n - i) ≡ e ∷ entries_from image (2 + 12 * (i + 1)) (n - (i + 1))
unfolding entries_from
here image n i e h is =
    let p : n - i ≡ suc (n - (i + 1)) = omega arith in
    let q : 2 + 12 * (i + 1) ≡ 2 + 12 * i + 12 = omega arith in
    rw (is, p, q)
