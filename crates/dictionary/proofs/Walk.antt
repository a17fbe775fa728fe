-- The walk through the entries of an image: what each turn makes of the look-up.
use Prim.Native.Nat.{ℕ, zero, suc, ◌+◌, ◌*◌, ◌-◌, ◌≤◌, ◌<◌}
use native.Mathlib.Omega.{arith}
use mathlib.Core.Path.{◌≡◌, refl, sym, ap, ◌∙◌}
use mathlib.Core.Bool.{Bool, true, false, ◌&&◌, ◌||◌}
use mathlib.Core.List.{List}
use lib.ListN.{length, drop_of_length-le, get_or-eq_default}
use lib.Dec.{eqb}
use Rattle.picks.specs.Pick.{pick}
use Rattle.octets.specs.Octets.{le}
use Rattle.protocol.specs.declared.Entry.{Entry}
use Rattle.std.specs.Prelude.{Result, Ok, Err}
use Rattle.protocol.specs.declared.LookupError.{LookupError}
use Rattle.protocol.specs.declared.LookupError.TheVariants.{NoObject, NoSubIndex}
use Rattle.protocol.specs.DictionaryImage.{entry_at, entries_from, is_at, lookup_in}
use Rattle.entries.proofs.Walk.{here}

-- an entry behind the end is one of zeros
past_index : (image : List ℕ) (at : ℕ) → length image ≤ at → (entry_at image at).index ≡ 0
unfolding entry_at le
past_index image at h = rw (drop_of_length-le image {i = at} h)

past_sub : (image : List ℕ) (at : ℕ) → length image ≤ at → (entry_at image at).sub ≡ 0
unfolding entry_at
past_sub image at h = get_or-eq_default image 0 (omega arith)

-- behind the end nothing more is found, once an entry of zeros was not it
lookup_zeros : (image : List ℕ) (at n index sub : ℕ) (seen : Bool) → length image ≤ at → (eqb 0 index && eqb 0 sub) ≡ false → (seen || eqb 0 index) ≡ seen → lookup_in (entries_from image at n) index sub seen ≡ pick seen (Err NoSubIndex) (Err NoObject)
unfolding lookup_in entries_from pick
lookup_zeros image at zero index sub seen h f q = refl
lookup_zeros image at (suc n) index sub seen h f q = rw (past_index image at h, past_sub image at h, f, q) (lookup_zeros image (at + 12) n index sub seen (omega arith) f q)

seen_again : (a b : Bool) → (a || b || b) ≡ (a || b)
seen_again true b = refl
seen_again false true = refl
seen_again false false = refl

-- a turn at the entry e, which is the one at position i of n
module _ (image : List ℕ) (n i : ℕ) (e : Entry) (h : i < n) (is : e ≡ entry_at image (2 + 12 * i)) where
  module _ (index sub : ℕ) (seen : Bool) {all : Result Entry LookupError} (inv : all ≡ lookup_in (entries_from image (2 + 12 * i) (n - i)) index sub seen) where
    -- the entry that was asked for ends the walk, and another leaves the rest
    pub lookup_here : is_at index sub e ≡ true → Ok e ≡ all
    unfolding lookup_in pick
    lookup_here t = sym (inv ∙ (rw (here image n i e h is, t)))

    pub lookup_more : is_at index sub e ≡ false → all ≡ lookup_in (entries_from image (2 + 12 * (i + 1)) (n - (i + 1))) index sub (seen || eqb e.index index)
    unfolding lookup_in pick
    lookup_more t = inv ∙ (rw (here image n i e h is, t))

    -- an entry behind the end that is not it ends the walk too
    pub lookup_past : length image ≤ 2 + 12 * i → is_at index sub e ≡ false → pick (seen || eqb e.index index) (Err NoSubIndex) (Err NoObject) ≡ all
    lookup_past l t =
        let p : e.index ≡ 0 = ap (λ (x : Entry). x.index) is ∙ past_index image (2 + 12 * i) l in
        let q : e.sub ≡ 0 = ap (λ (x : Entry). x.sub) is ∙ past_sub image (2 + 12 * i) l in
        let f : (eqb 0 index && eqb 0 sub) ≡ false = rw (p, q) at t in
        sym (lookup_more t ∙ rw p (lookup_zeros image (2 + 12 * (i + 1)) (n - (i + 1)) index sub (seen || eqb 0 index) (omega arith) f (seen_again seen (eqb 0 index))))

-- at the end of the entries
pub lookup_end : (image : List ℕ) (at n : ℕ) → n ≡ 0 → (index sub : ℕ) (seen : Bool) {all : Result Entry LookupError} → all ≡ lookup_in (entries_from image at n) index sub seen → pick seen (Err NoSubIndex) (Err NoObject) ≡ all
unfolding lookup_in entries_from
lookup_end image at n none index sub seen inv = sym (inv ∙ (rw none))
