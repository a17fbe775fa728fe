-- Which entries a look-up may skip, and what it makes of those from a position on.
use Rattle.std.specs.Prelude.{ℕ, ◌+◌, ◌*◌, ◌-◌, Bool, ◌&&◌, List, take, leb, Result}
use Rattle.std.specs.List.{list_any}
use Rattle.std.specs.Simd.{first_chunks}
use Rattle.octets.specs.Octets.{le}
use Rattle.protocol.specs.declared.Entry.{Entry}
use Rattle.protocol.specs.declared.LookupError.{LookupError}
use Rattle.protocol.specs.DictionaryImage.{entries_from, lookup_in}

-- an entry's bytes with an index of a range
abbrev pub is_near : ℕ → ℕ → List ℕ → Bool
is_near low high entry = leb low (le (take 2 entry)) && leb (le (take 2 entry)) high

-- four entries' bytes, one of them with such an index
abbrev pub is_near_four : ℕ → ℕ → List ℕ → Bool
is_near_four low high four = list_any (is_near low high) (first_chunks 12 4 four)

-- what the entries from position i on, of n, say of an index and sub-index
abbrev pub lookup_from : List ℕ → ℕ → ℕ → ℕ → ℕ → Bool → Result Entry LookupError
lookup_from image n i index sub seen = lookup_in (entries_from image (2 + 12 * i) (n - i)) index sub seen
