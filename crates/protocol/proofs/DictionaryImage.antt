-- Laws of the dictionary image: what a sound image says of its entries, the look-up, and a write.
use Prim.Native.Nat.{ℕ, zero, suc, ◌+◌, ◌*◌, ◌≤◌, ◌<◌}
use native.Mathlib.Omega.{arith}
use mathlib.Core.Path.{◌≡◌, refl, sym, ap, subst, ◌∙◌}
use mathlib.Core.Logic.{◌≢◌}
use mathlib.Core.Bool.{Bool, true, false, ◌&&◌, ◌||◌, not, and-eq-true_iff}
use mathlib.Core.List.{List, [], ◌∷◌}
use lib.ListN.{length, get_or, take, drop, set, length-drop, length-set}
use lib.Seq.{length-take-le, get_or-set_same, get_or-set_other, ext_get_or}
use lib.Dec.{ltb, leb, eqb, lit<}
use borrow.Author.Tests.{leb-true, le-leb, eqb-true, eqb-false, eq-eqb, ltb-true, ltb-false}
use Rattle.picks.specs.Pick.{pick}
use Rattle.picks.proofs.Picks.{pick_elim}
use Rattle.octets.specs.Octets.{le, le_bytes, splice, AllBytes}
use Rattle.octets.proofs.Splice.{length_splice, part_splice, part_behind}
use Rattle.octets.proofs.Little.{le_bound, le_le_bytes_below, length_le_bytes}
use Rattle.octets.proofs.Bytes.{bytes_drop, bytes_splice, bytes_le_bytes}
use Rattle.protocol.specs.declared.Entry.{Entry}
use Rattle.std.specs.Prelude.{Result, Ok, Err}
use Rattle.protocol.specs.declared.LookupError.{LookupError}
use Rattle.protocol.specs.declared.LookupError.TheVariants.{NoObject, NoSubIndex}
use Rattle.protocol.specs.declared.AbortCode.{AbortCode}
use Rattle.protocol.specs.Constants.{CAPACITY_MAX, IMAGE_MAX, DEFAULT_TIMEOUT, DEFAULT_RETRIES}
use Rattle.protocol.specs.DictionaryImage.{entry_count, entry_at, entries_from, entries, is_variable, is_read_only, contents_end, key, sound_entry, sound_entries, sound_image, is_at, lookup_in, lookup, value_of, parameter_of, timeout_of, retries_of, writable, write_image}
use Rattle.protocol.proofs.Lists.{get_d_outside, same_part}

-- The list of the entries.

-- as many entries as were asked for, each twelve bytes behind the one before
length_entries_from : (image : List ℕ) (at n : ℕ) → length (entries_from image at n) ≡ n
unfolding entries_from
length_entries_from image at zero = refl
length_entries_from image at (suc n) = ap suc (length_entries_from image (at + 12) n)

entries_from_at : (image : List ℕ) (at n i : ℕ) (z : Entry) → i < n → get_or (entries_from image at n) i z ≡ entry_at image (at + 12 * i)
unfolding entries_from
entries_from_at image at zero i z l = absurd (omega arith)
entries_from_at image at (suc n) zero z l = let e : at + 12 * 0 ≡ at = omega arith in rw e
entries_from_at image at (suc n) (suc i) z l =
    let e : at + 12 * suc i ≡ at + 12 + 12 * i = omega arith in
    rw e (entries_from_at image (at + 12) n i z (omega arith))

-- the image lists as many entries as it counts
pub entries_length : (image : List ℕ) → length (entries image) ≡ entry_count image
unfolding entries
entries_length image = length_entries_from image 2 (entry_count image)

-- the entry at a list position is read at its place in the contents
pub entries_at : (image : List ℕ) (i : ℕ) (z : Entry) → i < entry_count image → get_or (entries image) i z ≡ entry_at image (2 + 12 * i)
unfolding entries
entries_at image i z l = entries_from_at image 2 (entry_count image) i z l

-- e is the entry at a list position of the image
pub record Listed (image : List ℕ) (e : Entry) : Type 0 where
  pub position : ℕ
  pub below : position < entry_count image
  pub entry : e ≡ entry_at image (2 + 12 * position)

-- the entry at each position below the count is listed
abbrev pub listed : (image : List ℕ) (i : ℕ) → i < entry_count image → Listed image (entry_at image (2 + 12 * i))
listed image i l = record { position = i; below = l; entry = refl }

-- a listed entry's position is in the list
pub listed_below : {image : List ℕ} {e : Entry} (m : Listed image e) → m.position < length (entries image)
listed_below {image} m = rw (entries_length image) m.below

-- a listed entry is the list's at its position
pub listed_at : {image : List ℕ} {e : Entry} (m : Listed image e) (z : Entry) → get_or (entries image) m.position z ≡ e
listed_at {image} m z = entries_at image m.position z m.below ∙ sym m.entry

-- a listed entry stands at its place in the contents, twelve bytes to an entry
pub listed_place : {image : List ℕ} {e : Entry} (m : Listed image e) → e.place ≡ 2 + 12 * m.position
unfolding entry_at
listed_place m = ap (λ (x : Entry). x.place) m.entry

-- a listed entry is what is read at its own place
pub listed_here : {image : List ℕ} {e : Entry} → Listed image e → entry_at image e.place ≡ e
listed_here {image} m = ap (entry_at image) (listed_place m) ∙ sym m.entry

-- the entry with another length
abbrev pub resized : Entry → ℕ → Entry
resized e n =
    record { place = e.place; index = e.index; sub = e.sub; flags = e.flags; body = e.body; capacity = e.capacity; length = n }

-- What soundness says.

-- what the test of one entry says
record Passes (least start : ℕ) (e : Entry) : Type 0 where
  ordered : least ≤ key e
  flags : e.flags ≤ 3
  some : 1 ≤ e.capacity
  most : e.capacity ≤ CAPACITY_MAX
  body : e.body ≡ start
  length : e.length ≤ e.capacity
  fixed : is_variable e ≡ false → e.length ≡ e.capacity

either : (a b : Bool) → (a || b) ≡ true → a ≡ false → b ≡ true
either true b e f = cc
either false b e f = e

neither : (a b : Bool) → (a ≡ false → b ≡ true) → (a || b) ≡ true
neither true b h = refl
neither false b h = h refl

passes : (least start : ℕ) (e : Entry) → sound_entry least start e ≡ true → Passes least start e
passes least start e t =
    let t6 = (and-eq-true_iff _ _).0 t in
    let t5 = (and-eq-true_iff _ _).0 t6.0 in
    let t4 = (and-eq-true_iff _ _).0 t5.0 in
    let t3 = (and-eq-true_iff _ _).0 t4.0 in
    let t2 = (and-eq-true_iff _ _).0 t3.0 in
    let t1 = (and-eq-true_iff _ _).0 t2.0 in
    record {
      ordered = leb-true _ _ t1.0;
      flags = leb-true _ _ t1.1;
      some = leb-true _ _ t2.1;
      most = leb-true _ _ t3.1;
      body = eqb-true _ _ t4.1;
      length = leb-true _ _ t5.1;
      fixed = λ f. eqb-true _ _ (either _ _ t6.1 f);
    }

passed : (least start : ℕ) (e : Entry) → Passes least start e → sound_entry least start e ≡ true
passed least start e p =
    rw (
      le-leb least (key e) p.ordered,
      le-leb e.flags 3 p.flags,
      le-leb 1 e.capacity p.some,
      le-leb e.capacity CAPACITY_MAX p.most,
      eq-eqb e.body start p.body,
      le-leb e.length e.capacity p.length,
    )
    (neither _ _ (λ f. eq-eqb _ _ (p.fixed f)))

-- a sound list's first entry, and its rest
first_passes : (end least start : ℕ) (e : Entry) (es : List Entry) → sound_entries end least start (e ∷ es) ≡ true → Passes least start e
unfolding sound_entries
first_passes end least start e es t = passes least start e ((and-eq-true_iff _ _).0 t).0

rest_sound : (end least start : ℕ) (e : Entry) (es : List Entry) → sound_entries end least start (e ∷ es) ≡ true → sound_entries end (key e + 1) (start + e.capacity) es ≡ true
unfolding sound_entries
rest_sound end least start e es t = ((and-eq-true_iff (sound_entry least start e) _).0 t).1

-- the bodies end where the image does
start_inside : (end least start : ℕ) (es : List Entry) → sound_entries end least start es ≡ true → start ≤ end
unfolding sound_entries
start_inside end least start [] t = omega (arith, eqb-true start end t)
start_inside end least start (e ∷ es) t =
    omega (arith, start_inside end (key e + 1) (start + e.capacity) es (rest_sound end least start e es t))

-- an entry of a sound list passes the test at a key and a start no less than the first's, and its body ends in the image
record Passes-later (end least start : ℕ) (e : Entry) : Type 0 where
  least' : ℕ
  start' : ℕ
  later_key : least ≤ least'
  later_start : start ≤ start'
  passes : Passes least' start' e
  inside : e.body + e.capacity ≤ end

passes_at : (end least start : ℕ) (es : List Entry) (i : ℕ) (z : Entry) → sound_entries end least start es ≡ true → i < length es → Passes-later end least start (get_or es i z)
passes_at end least start [] i z t l = absurd (omega arith)
passes_at end least start (e ∷ es) zero z t l =
    let p = first_passes end least start e es t in
    let s = start_inside end (key e + 1) (start + e.capacity) es (rest_sound end least start e es t) in
    record {
      least' = least;
      start' = start;
      later_key = omega arith;
      later_start = omega arith;
      passes = p;
      inside = omega arith;
    }
passes_at end least start (e ∷ es) (suc i) z t l =
    let p = first_passes end least start e es t in
    let r = passes_at end (key e + 1) (start + e.capacity) es i z (rest_sound end least start e es t) (omega arith) in
    record {
      least' = r.least';
      start' = r.start';
      later_key = omega arith;
      later_start = omega arith;
      passes = r.passes;
      inside = r.inside;
    }

-- of two entries of a sound list the later has the greater key, and its body lies behind
record Ascend (e f : Entry) : Type 0 where
  keys : key e < key f
  bodies : e.body + e.capacity ≤ f.body

ascend_at : (end least start : ℕ) (es : List Entry) (i j : ℕ) (z : Entry) → sound_entries end least start es ≡ true → i < j → j < length es → Ascend (get_or es i z) (get_or es j z)
ascend_at end least start [] i j z t h l = absurd (omega arith)
ascend_at end least start (e ∷ es) i zero z t h l = absurd (omega arith)
ascend_at end least start (e ∷ es) zero (suc j) z t h l =
    let p = first_passes end least start e es t in
    let r = passes_at end (key e + 1) (start + e.capacity) es j z (rest_sound end least start e es t) (omega arith) in
    omega (arith, r.passes.ordered, r.passes.body)
ascend_at end least start (e ∷ es) (suc i) (suc j) z t h l =
    ascend_at end (key e + 1) (start + e.capacity) es i j z (rest_sound end least start e es t) (omega arith) (omega arith)

-- an entry that gets another length that fits leaves a list sound
resized_sound : (end least start : ℕ) (es : List Entry) (i n : ℕ) (e : Entry) → sound_entries end least start es ≡ true → i < length es → get_or es i e ≡ e → n ≤ e.capacity → (is_variable e ≡ false → n ≡ e.capacity) → sound_entries end least start (set es i (resized e n)) ≡ true
unfolding sound_entries
resized_sound end least start [] i n e t l q h g = absurd (omega arith)
resized_sound end least start (x ∷ es) zero n e t l q h g =
    let p = rw q at (first_passes end least start x es t) in
    let r = rw q at (rest_sound end least start x es t) in
    let s : Passes least start (resized e n) = record {
      ordered = p.ordered;
      flags = p.flags;
      some = p.some;
      most = p.most;
      body = p.body;
      length = h;
      fixed = g;
    } in
    (and-eq-true_iff (sound_entry least start (resized e n)) _).1 (passed least start (resized e n) s, r)
resized_sound end least start (x ∷ es) (suc i) n e t l q h g =
    (and-eq-true_iff (sound_entry least start x) _).1 (
      ((and-eq-true_iff (sound_entry least start x) _).0 t).0,
      resized_sound end (key x + 1) (start + x.capacity) es i n e (rest_sound end least start x es t) (omega arith) q h g,
    )

-- the tests of a whole image
record Passes-image (image : List ℕ) : Type 0 where
  counted : 2 ≤ length image
  small : length image ≤ IMAGE_MAX
  contents : contents_end image ≤ length image
  listed : sound_entries (length image) 0 (contents_end image) (entries image) ≡ true

passes_image : (image : List ℕ) → sound_image image ≡ true → Passes-image image
unfolding sound_image
passes_image image t =
    let t3 = (and-eq-true_iff (leb 2 (length image) && leb (length image) IMAGE_MAX && leb (contents_end image) (length image)) _).0 t in
    let t2 = (and-eq-true_iff _ _).0 t3.0 in
    let t1 = (and-eq-true_iff _ _).0 t2.0 in
    record { counted = leb-true _ _ t1.0; small = leb-true _ _ t1.1; contents = leb-true _ _ t2.1; listed = t3.1 }

image_passed : (image : List ℕ) → Passes-image image → sound_image image ≡ true
unfolding sound_image
image_passed image p =
    rw (
      le-leb 2 (length image) p.counted,
      le-leb (length image) IMAGE_MAX p.small,
      le-leb (contents_end image) (length image) p.contents,
    )
    p.listed

-- "Sound: ..." as it is of each entry
pub record Sound-entry (image : List ℕ) (e : Entry) : Type 0 where
  pub flags_known : e.flags ≤ 3
  pub capacity_some : 1 ≤ e.capacity
  pub capacity_most : e.capacity ≤ CAPACITY_MAX
  pub body_after_contents : contents_end image ≤ e.body
  pub body_inside : e.body + e.capacity ≤ length image
  pub length_fits : e.length ≤ e.capacity
  pub fixed_full : is_variable e ≡ false → e.length ≡ e.capacity

module _ (image : List ℕ) (t : sound_image image ≡ true) where
  -- a sound image is within its limit
  pub image_small : length image ≤ IMAGE_MAX
  image_small = (passes_image image t).small

  -- a sound image holds its contents
  pub contents_inside : contents_end image ≤ length image
  contents_inside = (passes_image image t).contents

  -- each entry of a sound image is sound
  pub sound_entry_lem : {e : Entry} → Listed image e → Sound-entry image e
  sound_entry_lem {e} m =
      let r = rw (listed_at m e) at (passes_at (length image) 0 (contents_end image) (entries image) m.position e (passes_image image t).listed (listed_below m)) in
      let p = r.passes in
      record {
        flags_known = p.flags;
        capacity_some = p.some;
        capacity_most = p.most;
        body_after_contents = omega (arith, p.body, r.later_start);
        body_inside = r.inside;
        length_fits = p.length;
        fixed_full = p.fixed;
      }

  ascend : {e f : Entry} (m : Listed image e) (o : Listed image f) → m.position < o.position → Ascend e f
  ascend {e} {f} m o h =
      rw (← listed_at m e, ← listed_at o e) (ascend_at (length image) 0 (contents_end image) (entries image) m.position o.position e (passes_image image t).listed h (listed_below o))

  -- the bodies of two entries lie apart
  pub bodies_apart : {e f : Entry} (m : Listed image e) (o : Listed image f) → m.position < o.position → e.body + e.capacity ≤ f.body
  bodies_apart m o h = (ascend m o h).bodies

  -- the keys ascend strictly
  pub keys_ascend : {e f : Entry} (m : Listed image e) (o : Listed image f) → m.position < o.position → key e < key f
  keys_ascend m o h = (ascend m o h).keys

  -- a value is as long as its entry says
  pub value_length : {e : Entry} → Listed image e → length (value_of image e) ≡ e.length
  value_length {e} m =
      let s = sound_entry_lem m in
      length-take-le e.length (drop e.body image) (simp length-drop (omega arith))

  -- a value is no longer than the largest capacity
  pub value_small : {e : Entry} → Listed image e → length (value_of image e) ≤ CAPACITY_MAX
  value_small m = let s = sound_entry_lem m in omega (arith, value_length m)

-- The look-up.

-- an entry with the index and the sub-index that were asked for
record At (es : List Entry) (index sub : ℕ) (e : Entry) : Type 0 where
  position : ℕ
  below : position < length es
  entry : get_or es position e ≡ e
  same_index : e.index ≡ index
  same_sub : e.sub ≡ sub

found_at : (es : List Entry) (index sub : ℕ) (seen : Bool) (e : Entry) → lookup_in es index sub seen ≡ Ok e → At es index sub e
unfolding lookup_in pick
found_at [] index sub true e f = absurd (let z : ◌≡◌ {A = ℕ} 0 1 = cc in omega arith)
found_at [] index sub false e f = absurd (let z : ◌≡◌ {A = ℕ} 0 1 = cc in omega arith)
found_at (x ∷ es) index sub seen e f = go (is_at index sub x) refl (found_at es index sub (seen || eqb x.index index) e)
  where
    go : (b : Bool) → is_at index sub x ≡ b → (lookup_in es index sub (seen || eqb x.index index) ≡ Ok e → At es index sub e) → At (x ∷ es) index sub e
    go true t r =
        let q : x ≡ e = cc (rw t at f) in
        let h = (and-eq-true_iff (eqb x.index index) (eqb x.sub sub)).0 t in
        record {
          position = zero;
          below = omega arith;
          entry = q;
          same_index = rw q at (eqb-true x.index index h.0);
          same_sub = rw q at (eqb-true x.sub sub h.1);
        }
    go false t r =
        let a = r (rw t at f) in
        record {
          position = suc a.position;
          below = omega arith;
          entry = a.entry;
          same_index = a.same_index;
          same_sub = a.same_sub;
        }

-- a listed entry that has the index and the sub-index that were asked for
pub record Found-entry (image : List ℕ) (index sub : ℕ) (e : Entry) : Type 0 where
  pub listed : Listed image e
  pub same_index : e.index ≡ index
  pub same_sub : e.sub ≡ sub

-- what is found is listed and has the index and the sub-index that were asked for
pub lookup_found : (image : List ℕ) (index sub : ℕ) (e : Entry) → lookup image index sub ≡ Ok e → Found-entry image index sub e
unfolding lookup
lookup_found image index sub e f =
    let a = found_at (entries image) index sub false e f in
    let l : a.position < entry_count image = rw (entries_length image) at a.below in
    record {
      listed = record { position = a.position; below = l; entry = sym a.entry ∙ entries_at image a.position e l };
      same_index = a.same_index;
      same_sub = a.same_sub;
    }

-- an entry is found that no entry before it hides
lookup_at : (es : List Entry) (i index sub : ℕ) (seen : Bool) (z : Entry) → i < length es → ((j : ℕ) → j < i → is_at index sub (get_or es j z) ≡ false) → is_at index sub (get_or es i z) ≡ true → lookup_in es index sub seen ≡ Ok (get_or es i z)
unfolding lookup_in pick
lookup_at [] i index sub seen z l h t = absurd (omega arith)
lookup_at (x ∷ es) zero index sub seen z l h t = rw t
lookup_at (x ∷ es) (suc i) index sub seen z l h t =
    rw (h 0 (omega arith)) (lookup_at es i index sub (seen || eqb x.index index) z (omega arith) (λ j k. h (suc j) (omega arith)) t)

-- an entry is at its own index and sub-index, and one with another key is not
own_at : (e : Entry) → is_at e.index e.sub e ≡ true
own_at e = rw (eq-eqb e.index e.index refl, eq-eqb e.sub e.sub refl)

other_not_at : (e f : Entry) → key e < key f → is_at f.index f.sub e ≡ false
other_not_at e f h = go (is_at f.index f.sub e) refl
  where
    go : (b : Bool) → is_at f.index f.sub e ≡ b → is_at f.index f.sub e ≡ false
    go false t = t
    go true t =
        let p = (and-eq-true_iff (eqb e.index f.index) (eqb e.sub f.sub)).0 t in
        absurd (omega (arith, eqb-true e.index f.index p.0, eqb-true e.sub f.sub p.1))

-- no entry before a listed one of a sound image has its index and sub-index
not_before : (image : List ℕ) → sound_image image ≡ true → {e : Entry} (m : Listed image e) (j : ℕ) → j < m.position → is_at e.index e.sub (get_or (entries image) j e) ≡ false
not_before image t {e} m j h =
    let b : j < entry_count image = omega (arith, m.below) in
    rw (entries_at image j e b) (other_not_at (entry_at image (2 + 12 * j)) e (keys_ascend image t (listed image j b) m h))

-- in a sound image each listed entry is found at its own index and sub-index
pub lookup_listed : (image : List ℕ) → sound_image image ≡ true → {e : Entry} → Listed image e → lookup image e.index e.sub ≡ Ok e
unfolding lookup
lookup_listed image t {e} m =
    let q = listed_at m e in
    lookup_at (entries image) m.position e.index e.sub false e (listed_below m) (not_before image t m) (rw q (own_at e)) ∙ ap Ok q

-- entries with another index or sub-index stand at other positions
pub other_position : {image : List ℕ} {e f : Entry} (m : Listed image e) (o : Listed image f) → (f.index ≡ e.index → f.sub ≡ e.sub → ⊥) → o.position ≢ m.position
other_position {image} {e} {f} m o d q =
    let same : f ≡ e = o.entry ∙ ap (λ (i : ℕ). entry_at image (2 + 12 * i)) q ∙ sym m.entry in
    d (ap (λ (x : Entry). x.index) same) (ap (λ (x : Entry). x.sub) same)

-- where an entry was not what was found, it may be another
not_this : (b : Bool) (f g : Entry) (x y r : Result Entry LookupError) → ((e : Entry) → r ≡ Ok e → ⊥) → pick b (Ok f) x ≡ r → (x ≡ r → y ≡ r) → pick b (Ok g) y ≡ r
unfolding pick
not_this true f g x y r d h k = absurd (d f (sym h))
not_this false f g x y r d h k = k h

-- what was missing is missing when an entry has another length
resized_missing : (es : List Entry) (i n index sub : ℕ) (seen : Bool) (e : Entry) (r : Result Entry LookupError) → get_or es i e ≡ e → ((f : Entry) → r ≡ Ok f → ⊥) → lookup_in es index sub seen ≡ r → lookup_in (set es i (resized e n)) index sub seen ≡ r
unfolding lookup_in pick
resized_missing [] i n index sub seen e r q d h = h
resized_missing (x ∷ es) zero n index sub seen e r q d h =
    let l = lookup_in es index sub (seen || eqb e.index index) in
    not_this (is_at index sub e) e (resized e n) l l r d (rw q at h) (λ k. k)
resized_missing (x ∷ es) (suc i) n index sub seen e r q d h =
    let seen' = seen || eqb x.index index in
    not_this (is_at index sub x) x x (lookup_in es index sub seen') (lookup_in (set es i (resized e n)) index sub seen') r d h (resized_missing es i n index sub seen' e r q d)

-- The two parameters.

-- a value of four bytes, or a default below 2^32
parameter_below : (image : List ℕ) (default : ℕ) (r : Result Entry LookupError) → AllBytes image → default < 4294967296 → parameter_of image default r < 4294967296
unfolding parameter_of
parameter_below image default (Err missing) g l = l
parameter_below image default (Ok e) g l = pick_elim (λ (n : ℕ). n < 4294967296) _ _ _ four (λ _. l)
  where
    four : (eqb e.length 4 && not (is_variable e)) ≡ true → le (value_of image e) < 4294967296
    four t = rw (eqb-true e.length 4 ((and-eq-true_iff _ _).0 t).0) (le_bound 4 (drop e.body image) (bytes_drop e.body image g))

-- the timeout is a number of four bytes
pub timeout_below : (image : List ℕ) → AllBytes image → timeout_of image < 4294967296
unfolding timeout_of DEFAULT_TIMEOUT
timeout_below image g = parameter_below image DEFAULT_TIMEOUT _ g (lit< tt)

-- the retries are a number of four bytes
pub retries_below : (image : List ℕ) → AllBytes image → retries_of image < 4294967296
unfolding retries_of DEFAULT_RETRIES
retries_below image g = parameter_below image DEFAULT_RETRIES _ g (lit< tt)

-- A write.

-- what a granted write of n bytes says of the entry
pub record Grants (r : Result Entry LookupError) (n : ℕ) (e : Entry) : Type 0 where
  pub found : r ≡ Ok e
  pub fits : n ≤ e.capacity
  pub full : is_variable e ≡ false → n ≡ e.capacity
  pub open_to_writes : is_read_only e ≡ false

past_denial : (b : Bool) (code : AbortCode) (x : Result Entry AbortCode) (e : Entry) → pick b (Err code) x ≡ Ok e → (b ≡ false) × (x ≡ Ok e)
unfolding pick
past_denial true code x e g = absurd (let z : ◌≡◌ {A = ℕ} 0 1 = cc in omega arith)
past_denial false code x e g = (refl, g)

-- a write is granted only to an entry that was found, that the data fit and that is not read-only
pub writable_granted : (r : Result Entry LookupError) (n : ℕ) (e : Entry) → writable r n ≡ Ok e → Grants r n e
unfolding writable
writable_granted (Err NoObject) n e g = absurd (let z : ◌≡◌ {A = ℕ} 0 1 = cc in omega arith)
writable_granted (Err NoSubIndex) n e g = absurd (let z : ◌≡◌ {A = ℕ} 0 1 = cc in omega arith)
writable_granted (Ok x) n e g =
    let a = past_denial _ _ _ _ g in
    let b = past_denial _ _ _ _ a.1 in
    let c = past_denial _ _ _ _ b.1 in
    let q : x ≡ e = cc c.1 in
    subst (λ (y : Entry). Grants (Ok x) n y) q (the_grant a.0 b.0 c.0)
  where
    the_grant : (not (is_variable x) && ltb n x.capacity) ≡ false → ltb x.capacity n ≡ false → is_read_only x ≡ false → Grants (Ok x) n x
    the_grant a b c =
        let h = ltb-false x.capacity n b in
        record {
          found = refl;
          fits = h;
          full = λ f. let k : ltb n x.capacity ≡ false = rw f at a in omega (arith, ltb-false n x.capacity k);
          open_to_writes = c;
        }

module _ (image : List ℕ) (e : Entry) (bytes : List ℕ) where
  -- the image keeps its length
  pub write_length : length (write_image image e bytes) ≡ length image
  unfolding write_image
  write_length =
      let inner = splice e.body bytes image in
      length_splice (e.place + 10) (le_bytes 2 (length bytes)) inner ∙ length_splice e.body bytes image

  -- a byte that is neither of the data nor of the length is as before
  pub write_outside : (k : ℕ) → (e.body ≤ k → k < e.body + length bytes → ⊥) → (e.place + 10 ≤ k → k < e.place + 12 → ⊥) → get_or (write_image image e bytes) k 0 ≡ get_or image k 0
  unfolding write_image
  write_outside k h g =
      let two = length_le_bytes 2 (length bytes) in
      get_d_outside k (e.place + 10) (le_bytes 2 (length bytes)) (splice e.body bytes image) (λ a b. g a (omega arith))
      ∙ get_d_outside k e.body bytes image h

  -- bytes stay bytes
  pub write_bytes : AllBytes bytes → AllBytes image → AllBytes (write_image image e bytes)
  unfolding write_image
  write_bytes g h =
      bytes_splice (e.place + 10) (le_bytes 2 (length bytes)) (splice e.body bytes image) (bytes_le_bytes 2 (length bytes)) (bytes_splice e.body bytes image g h)

-- an entry is read the same, but for its length, where its first ten bytes are, and wholly where its twelve are
module _ (image image' : List ℕ) (at : ℕ) (l : length image' ≡ length image) where
  same_but_length : ((k : ℕ) → at ≤ k → k < at + 10 → get_or image' k 0 ≡ get_or image k 0) → entry_at image' at ≡ resized (entry_at image at) (le (take 2 (drop (at + 10) image')))
  unfolding entry_at
  same_but_length h =
      rw (
        same_part at 2 image' image l (λ k a b. h k a (omega arith)),
        h (at + 2) (omega arith) (omega arith),
        h (at + 3) (omega arith) (omega arith),
        same_part (at + 4) 4 image' image l (λ k a b. h k (omega arith) (omega arith)),
        same_part (at + 8) 2 image' image l (λ k a b. h k (omega arith) (omega arith)),
      )

  same_entry : ((k : ℕ) → at ≤ k → k < at + 12 → get_or image' k 0 ≡ get_or image k 0) → entry_at image' at ≡ entry_at image at
  unfolding entry_at
  same_entry h =
      same_but_length (λ k a b. h k a (omega arith))
      ∙ (rw (same_part (at + 10) 2 image' image l (λ k a b. h k (omega arith) (omega arith))))

-- a write of bytes that fit to a listed entry of a sound image
pub record Write (image : List ℕ) (e : Entry) (bytes : List ℕ) : Type 0 where
  pub sound : sound_image image ≡ true
  pub listed : Listed image e
  pub fits : length bytes ≤ e.capacity
  pub full : is_variable e ≡ false → length bytes ≡ e.capacity

-- each write that is granted is such a write
pub granted_write : (image : List ℕ) (index sub : ℕ) (e : Entry) (bytes : List ℕ) → sound_image image ≡ true → writable (lookup image index sub) (length bytes) ≡ Ok e → Write image e bytes
granted_write image index sub e bytes t g =
    let w = writable_granted _ _ _ g in
    record { sound = t; listed = (lookup_found image index sub e w.found).listed; fits = w.fits; full = w.full }

-- a write's places: the entry stands in the contents, the data in the body behind them
record Places (image : List ℕ) (e : Entry) (bytes : List ℕ) : Type 0 where
  after_count : 2 ≤ e.place
  before_bodies : e.place + 12 ≤ contents_end image
  after_contents : contents_end image ≤ e.body
  data_inside : e.body + length bytes ≤ length image
  short : length bytes < 65536

module _ {image : List ℕ} {e : Entry} {bytes : List ℕ} (w : Write image e bytes) where
  -- where the entry and the data stand
  places : Places image e bytes
  unfolding CAPACITY_MAX
  places = let s = sound_entry_lem image w.sound w.listed in omega (arith, listed_place w.listed, w.listed.below, w.fits)

  -- the number of entries stays
  pub write_count : entry_count (write_image image e bytes) ≡ entry_count image
  write_count =
      let p = places in
      ap le (same_part 0 2 (write_image image e bytes) image (write_length image e bytes) (λ k a b. write_outside image e bytes k (omega arith) (omega arith)))

  -- the length that is read again is the data's
  length_back : le (take 2 (drop (e.place + 10) (write_image image e bytes))) ≡ length bytes
  unfolding write_image
  length_back =
      let p = places in
      let n = length bytes in
      let inner = splice e.body bytes image in
      let two = length_le_bytes 2 n in
      let h : e.place + 10 + length (le_bytes 2 n) ≤ length inner = omega (arith, length_splice e.body bytes image) in
      ap le (rw two at (part_splice (e.place + 10) (le_bytes 2 n) inner h)) ∙ le_le_bytes_below 2 n p.short

  -- the entry written to has the data's length, and is else as before
  pub entry_written : entry_at (write_image image e bytes) e.place ≡ resized e (length bytes)
  entry_written =
      let p = places in
      same_but_length image (write_image image e bytes) e.place (write_length image e bytes) (λ k a b. write_outside image e bytes k (omega arith) (omega arith))
      ∙ ap (λ (x : Entry). resized x (le (take 2 (drop (e.place + 10) (write_image image e bytes))))) (listed_here w.listed)
      ∙ ap (resized e) length_back

  -- every other entry is as before
  pub entry_kept : (i : ℕ) → i < entry_count image → i ≢ w.listed.position → entry_at (write_image image e bytes) (2 + 12 * i) ≡ entry_at image (2 + 12 * i)
  entry_kept i l o =
      let p = places in
      let q = listed_place w.listed in
      same_entry image (write_image image e bytes) (2 + 12 * i) (write_length image e bytes) (λ k a b. write_outside image e bytes k (omega arith) (omega arith))

  -- the list after the write, at each position
  entry_after : (i : ℕ) → i < entry_count image → get_or (entries (write_image image e bytes)) i e ≡ get_or (set (entries image) w.listed.position (resized e (length bytes))) i e
  entry_after i l = entries_at (write_image image e bytes) i e (rw write_count l) ∙ go (eqb i w.listed.position) refl
    where
      go : (b : Bool) → eqb i w.listed.position ≡ b → entry_at (write_image image e bytes) (2 + 12 * i) ≡ get_or (set (entries image) w.listed.position (resized e (length bytes))) i e
      go true t =
          let q : i ≡ w.listed.position = eqb-true i w.listed.position t in
          let r : 2 + 12 * i ≡ e.place = omega (arith, listed_place w.listed) in
          ap (entry_at (write_image image e bytes)) r ∙ entry_written ∙ rw q (sym (get_or-set_same (entries image) w.listed.position (resized e (length bytes)) e (listed_below w.listed)))
      go false t =
          let o = eqb-false i w.listed.position t in
          entry_kept i l o ∙ sym (get_or-set_other (entries image) w.listed.position i (resized e (length bytes)) e o ∙ entries_at image i e l)

  -- the entries stay, but for the length of the one written to
  pub write_entries : entries (write_image image e bytes) ≡ set (entries image) w.listed.position (resized e (length bytes))
  write_entries =
      let new = resized e (length bytes) in
      let n : length (entries (write_image image e bytes)) ≡ entry_count image = entries_length (write_image image e bytes) ∙ write_count in
      ext_get_or e (entries (write_image image e bytes)) (set (entries image) w.listed.position new) (n ∙ sym (length-set (entries image) w.listed.position new ∙ entries_length image)) (λ i l. entry_after i (rw n at l))

  -- the entry written to is listed with its new length, where it was
  abbrev pub write_listed : Listed (write_image image e bytes) (resized e (length bytes))
  write_listed = record {
    position = w.listed.position;
    below = rw write_count w.listed.below;
    entry = sym entry_written ∙ ap (entry_at (write_image image e bytes)) (listed_place w.listed);
  }

  -- every other entry is listed as before, where it was
  abbrev pub write_listed_other : (f : Entry) (o : Listed image f) → o.position ≢ w.listed.position → Listed (write_image image e bytes) f
  write_listed_other f o d = record {
    position = o.position;
    below = rw write_count o.below;
    entry = o.entry ∙ sym (entry_kept o.position o.below d);
  }

  -- the image stays sound
  pub write_keeps_sound : sound_image (write_image image e bytes) ≡ true
  write_keeps_sound =
      let p = passes_image image w.sound in
      let m = w.listed in
      image_passed (write_image image e bytes) (record {
        counted = rw (write_length image e bytes) p.counted;
        small = rw (write_length image e bytes) p.small;
        contents = rw (write_length image e bytes, write_count) p.contents;
        listed = rw (write_length image e bytes, write_count, write_entries) (resized_sound (length image) 0 (contents_end image) (entries image) m.position (length bytes) e p.listed (listed_below m) (listed_at m e) w.fits w.full);
      })

  -- the value read again is the data
  pub write_value : value_of (write_image image e bytes) (resized e (length bytes)) ≡ bytes
  unfolding write_image
  write_value =
      let p = places in
      let two = length_le_bytes 2 (length bytes) in
      part_behind e.body (length bytes) (e.place + 10) (le_bytes 2 (length bytes)) (splice e.body bytes image) (omega arith)
      ∙ part_splice e.body bytes image p.data_inside

  -- every other entry's value is as before
  pub write_others : (f : Entry) (o : Listed image f) → o.position ≢ w.listed.position → value_of (write_image image e bytes) f ≡ value_of image f
  write_others f o d =
      let p = places in
      let s = sound_entry_lem image w.sound o in
      same_part f.body f.length (write_image image e bytes) image (write_length image e bytes) (λ k a b. write_outside image e bytes k (not_data k a b (ltb o.position w.listed.position) refl) (omega arith))
    where
      not_data : (k : ℕ) → f.body ≤ k → k < f.body + f.length → (b : Bool) → ltb o.position w.listed.position ≡ b → e.body ≤ k → k < e.body + length bytes → ⊥
      not_data k h g true t i j =
          omega (arith, bodies_apart image w.sound o w.listed (ltb-true _ _ t), (sound_entry_lem image w.sound o).length_fits)
      not_data k h g false t i j =
          let n = ltb-false o.position w.listed.position t in
          omega (arith, bodies_apart image w.sound w.listed o (omega arith), w.fits)

  -- the entry written to is found with its new length
  pub write_lookup : lookup (write_image image e bytes) e.index e.sub ≡ Ok (resized e (length bytes))
  write_lookup = lookup_listed (write_image image e bytes) write_keeps_sound write_listed

  -- every other entry is found as before
  pub write_lookup_other : (f : Entry) (o : Listed image f) → o.position ≢ w.listed.position → lookup (write_image image e bytes) f.index f.sub ≡ Ok f
  write_lookup_other f o d = lookup_listed (write_image image e bytes) write_keeps_sound (write_listed_other f o d)

  -- what was missing is missing as before
  pub write_lookup_missing : (index sub : ℕ) (r : Result Entry LookupError) → ((f : Entry) → r ≡ Ok f → ⊥) → lookup image index sub ≡ r → lookup (write_image image e bytes) index sub ≡ r
  unfolding lookup
  write_lookup_missing index sub r d h =
      rw write_entries (resized_missing (entries image) w.listed.position (length bytes) index sub false e r (listed_at w.listed e) d h)
