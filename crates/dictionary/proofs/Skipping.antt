-- A look-up may skip entries whose indices lie outside a range that the one asked for lies in.
use Prim.Native.Nat.{ℕ, zero, suc, ◌+◌, ◌*◌, ◌-◌, ◌/◌, ◌%◌, ◌≤◌, ◌<◌}
use lib.ListN.{get_or, take, drop}
use lib.Seq.{drop-drop, take-take, get_or-take}
use Rattle.std.specs.Simd.{first_chunks}
use Rattle.std.specs.List.{position_or_len, list_any}
use Rattle.std.proofs.lemmas.List.Sums.{fails_before_first}
use Rattle.octets.specs.Octets.{le}
use Rattle.octets.proofs.Parts.{part_within}
use native.Mathlib.Omega.{arith}
use native.Mathlib.Nat.{zero-add, suc-add, sub-zero}
use mathlib.Core.Path.{◌≡◌, refl, ap, subst, ◌∙◌}
use mathlib.Core.Bool.{Bool, true, false, ◌&&◌, ◌||◌, or-false}
use mathlib.Core.List.{List, []}
use lib.Dec.{eqb, leb}
use borrow.Author.Tests.{le-leb, ne_eqb}
use Rattle.picks.specs.Pick.{pick}
use Rattle.picks.proofs.Keep.{not_both, both}
use Rattle.protocol.specs.DictionaryImage.{entry_count, entry_at, entries, entries_from, lookup_in, lookup}
use Rattle.dictionary.specs.Skipping.{is_near, is_near_four, lookup_from}

-- a chunk of a list is a part of it
chunk_at : (size m j : ℕ) (xs : List ℕ) → j < m → get_or (first_chunks size m xs) j [] ≡ take size (drop (size * j) xs)
chunk_at size zero j xs h = absurd (omega arith)
chunk_at size (suc m) zero xs h = let p : size * zero ≡ 0 = omega arith in rw p
chunk_at size (suc m) (suc j) xs h = let q : size + size * j ≡ size * suc j = omega arith in chunk_at size m j (drop size xs) (omega arith) ∙ rw (drop-drop (size * j) size xs) (ap (λ k. take size (drop k xs)) q)

-- an index outside the range is not one in it
outside : (low high index n : ℕ) → (leb low n && leb n high) ≡ false → low ≤ index → index ≤ high → eqb n index ≡ false
outside low high index n t l h = ne_eqb n index (λ p. not_both (both (le-leb low n (rw p l)) (le-leb n high (rw p h))) t)

-- neither of two tests
neither : (a b : Bool) → (a || b) ≡ false → (a ≡ false) × (b ≡ false)
neither true b e = not_both refl e
neither false b e = (refl, e)

module _ (image : List ℕ) (low high : ℕ) where
  -- one of the first four entries of a list
  one_far : (x : List ℕ) (s : ℕ) → s < 4 → is_near low high x ≡ false → is_near low high (drop 12 x) ≡ false → is_near low high (drop 24 x) ≡ false → is_near low high (drop 36 x) ≡ false → is_near low high (drop (12 * s) x) ≡ false
  one_far x zero h a b c d = a
  one_far x (suc zero) h a b c d = b
  one_far x (suc (suc zero)) h a b c d = c
  one_far x (suc (suc (suc zero))) h a b c d = d
  one_far x (suc (suc (suc (suc s)))) h a b c d = absurd (omega arith)

  -- k entries that are not near, before others
  skips : (index sub : ℕ) (seen : Bool) → low ≤ index → index ≤ high → (k r at : ℕ) → ((j : ℕ) → j < k → is_near low high (drop (at + 12 * j) image) ≡ false) → lookup_in (entries_from image at (k + r)) index sub seen ≡ lookup_in (entries_from image (at + 12 * k) r) index sub seen
  unfolding entries_from entry_at lookup_in pick
  skips index sub seen l h zero r at f = let q : at + 12 * 0 ≡ at = omega arith in rw (zero-add r, q)
  skips index sub seen l h (suc k) r at f =
      let z : at + 12 * 0 ≡ at = omega arith in
      let p : is_near low high (drop at image) ≡ false = subst (λ (n : ℕ). is_near low high (drop n image) ≡ false) z (f 0 (omega arith)) in
      let q : at + 12 * suc k ≡ at + 12 + 12 * k = omega arith in
      let g : (j : ℕ) → j < k → is_near low high (drop (at + 12 + 12 * j) image) ≡ false = λ j b. (let e : at + 12 + 12 * j ≡ at + 12 * (j + 1) = omega arith in rw e (f (j + 1) (omega arith))) in
      rw (suc-add k r, outside low high index (le (take 2 (drop at image))) p l h, or-false seen, q) (skips index sub seen l h k r (at + 12) g)

  -- each of four entries that are not near
  each_far : (x : List ℕ) (s : ℕ) → s < 4 → is_near_four low high x ≡ false → is_near low high (drop (12 * s) x) ≡ false
  each_far x s h t =
      let near = is_near low high in
      let y = drop 12 x in
      let z = drop 12 y in
      let p = neither (near (take 12 x)) (list_any near (first_chunks 12 3 y)) t in
      let q = neither (near (take 12 y)) (list_any near (first_chunks 12 2 z)) p.1 in
      let r = neither (near (take 12 z)) (list_any near (first_chunks 12 1 (drop 12 z))) q.1 in
      let u = neither (near (take 12 (drop 12 z))) false r.1 in
      one_far x s h (rw (take-take 2 12 x (omega arith)) at p.0) (rw (take-take 2 12 (drop 12 x) (omega arith)) at q.0) (rw (drop-drop 12 12 x, take-take 2 12 (drop 24 x) (omega arith)) at r.0) (rw (drop-drop 12 12 x, drop-drop 12 24 x, take-take 2 12 (drop 36 x) (omega arith)) at u.0)

  -- the entries before the first four that are near
  pub skip_far : (n from most m r : ℕ) → r ≡ position_or_len (is_near_four low high) (take most (first_chunks 48 m (drop (2 + 12 * from) image))) → r ≤ most → r ≤ m → 4 * r ≤ n - from → (index sub : ℕ) (seen : Bool) → low ≤ index → index ≤ high → lookup_from image n from index sub seen ≡ lookup_from image n (from + 4 * r) index sub seen
  skip_far n from most m r e a b d index sub seen l h =
      let at = 2 + 12 * from in
      let all = first_chunks 48 m (drop at image) in
      let p : n - from ≡ 4 * r + (n - (from + 4 * r)) = omega arith in
      let q : 2 + 12 * (from + 4 * r) ≡ at + 12 * (4 * r) = omega arith in
      let far : (k s : ℕ) → k < r → s < 4 → is_near low high (drop (at + 12 * (4 * k + s)) image) ≡ false = λ k s g w.
      let four = drop (at + 48 * k) image in
      let z : at + 48 * k + 12 * s ≡ at + 12 * (4 * k + s) = omega arith in
      let f : is_near_four low high (take 48 four) ≡ false = rw (get_or-take most all k [] (omega arith), chunk_at 48 m k (drop at image) (omega arith), drop-drop (48 * k) at image) at (fails_before_first (is_near_four low high) (take most all) k [] (rw e at g)) in
      rw (part_within 2 (12 * s) 48 four (omega arith), drop-drop (12 * s) (at + 48 * k) image, z) at (each_far (take 48 four) s w f) in
      let each : (j : ℕ) → j < 4 * r → is_near low high (drop (at + 12 * j) image) ≡ false = λ j g.
      let z : 4 * (j / 4) + j % 4 ≡ j = omega arith in
      subst (λ (i : ℕ). is_near low high (drop (at + 12 * i) image) ≡ false) z (far (j / 4) (j % 4) (omega arith) (omega arith)) in
      rw (p, q) (skips index sub seen l h (4 * r) (n - (from + 4 * r)) at each)

-- a look-up is one from the first entry on
pub lookup_whole : (image : List ℕ) (n index sub : ℕ) → n ≡ entry_count image → lookup image index sub ≡ lookup_from image n 0 index sub false
unfolding lookup entries
lookup_whole image n index sub e = rw (sub-zero n, e)
