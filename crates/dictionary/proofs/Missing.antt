-- What is missing so far, and whether the index was seen.
use mathlib.Core.Path.{◌≡◌, refl}
use mathlib.Core.Bool.{Bool, true, false, ◌||◌, or-true, or-false}
use Rattle.std.proofs.Common.{ℕ}
use lib.Dec.{eqb}
use borrow.Author.Tests.{eq-eqb, ne_eqb}
use Rattle.std.specs.Prelude.{Result, Err}
use Rattle.picks.specs.Pick.{pick}
use Rattle.protocol.specs.declared.Entry.{Entry}
use Rattle.protocol.specs.declared.LookupError.{LookupError}
use Rattle.protocol.specs.DictionaryImage.{is_at}
use Rattle.protocol.specs.declared.LookupError.TheVariants.{NoObject, NoSubIndex}

abbrev pub is_seen : LookupError → Bool
is_seen NoObject = false
is_seen NoSubIndex = true

pub as_told : (m : LookupError) → pick {A = Result Entry LookupError} (is_seen m) (Err NoSubIndex) (Err NoObject) ≡ Err m
unfolding pick
as_told NoObject = refl
as_told NoSubIndex = refl

-- an entry of another sub-index, or of another index
module _ (e : Entry) (index sub : ℕ) (before now : LookupError) where
  pub other_sub : e.index ≡ index → (e.sub ≡ sub → ⊥) → now ≡ NoSubIndex → (is_at index sub e ≡ false) × (is_seen now ≡ (is_seen before || eqb e.index index))
  other_sub h k m = (rw (eq-eqb e.index index h, ne_eqb e.sub sub k), rw (m, eq-eqb e.index index h, or-true))

  pub other_index : (e.index ≡ index → ⊥) → now ≡ before → (is_at index sub e ≡ false) × (is_seen now ≡ (is_seen before || eqb e.index index))
  other_index h m = (rw (ne_eqb e.index index h), rw (m, ne_eqb e.index index h, or-false))
