-- Laws of a command's single bytes: flags, over their places, segmentation and ids.
use Prim.Native.Nat.{ℕ, zero, suc, ◌*◌, ◌/◌, ◌%◌, ◌<◌}
use native.Mathlib.Omega.{arith}
use mathlib.Core.Path.{◌≡◌, refl, sym}
use mathlib.Core.Bool.{Bool, true, false}
use mathlib.Core.List.{List, [], ◌∷◌}
use lib.Dec.{eqb, lit<}
use borrow.Author.Tests.{eqb-true}
use Rattle.picks.specs.Pick.{pick}
use Rattle.protocol.specs.declared.CommandId.{CommandId}
use Rattle.protocol.specs.declared.CommandId.TheVariants.{Nil, WriteByIndex, ReadByIndex, WriteAllByIndex, ReadAllByIndex, WriteByName, ReadByName, FileWrite, FileRead, WriteMultipleParamByIndex, ReadMultipleParamByIndex, Abort, MaxSegmentSize}
use Rattle.protocol.specs.declared.Segmentation.{Segmentation}
use Rattle.protocol.specs.declared.Segmentation.TheVariants.{Expedited, Initiate, Segment, Complete}
use Rattle.std.specs.Prelude.{Ok}
use Rattle.protocol.specs.Command.{FlagPlaces, flag_places, bit, flags_byte, kept_flags, Separate, segmentation_number, segmentation_of, id_byte, known_ids, id_among, id_of}

-- a flag and its bit
bit_back : (r : Bool) → eqb (bit r) 1 ≡ r
bit_back false = refl
bit_back true = refl

pub bit_number : (x : ℕ) → x < 2 → bit (eqb x 1) ≡ x
bit_number zero h = refl
bit_number (suc zero) h = refl
bit_number (suc (suc x)) h = absurd (omega arith)

-- a segmentation and its number
pub segmentation_back : (s : Segmentation) → segmentation_of (segmentation_number s) ≡ s
unfolding segmentation_of pick
segmentation_back Expedited = refl
segmentation_back Initiate = refl
segmentation_back Segment = refl
segmentation_back Complete = refl

pub segmentation_number_lem : (k : ℕ) → k < 4 → segmentation_number (segmentation_of k) ≡ k
unfolding segmentation_of pick
segmentation_number_lem zero h = refl
segmentation_number_lem (suc zero) h = refl
segmentation_number_lem (suc (suc zero)) h = refl
segmentation_number_lem (suc (suc (suc zero))) h = refl
segmentation_number_lem (suc (suc (suc (suc k)))) h = absurd (omega arith)

-- an id and its byte
pub id_back : (i : CommandId) → id_of (id_byte i) ≡ Ok i
unfolding id_of id_among known_ids pick
id_back Nil = refl
id_back WriteByIndex = refl
id_back ReadByIndex = refl
id_back WriteAllByIndex = refl
id_back ReadAllByIndex = refl
id_back WriteByName = refl
id_back ReadByName = refl
id_back FileWrite = refl
id_back FileRead = refl
id_back WriteMultipleParamByIndex = refl
id_back ReadMultipleParamByIndex = refl
id_back Abort = refl
id_back MaxSegmentSize = refl

pub id_number : (is : List CommandId) (b : ℕ) (i : CommandId) → id_among is b ≡ Ok i → id_byte i ≡ b
unfolding id_among pick
id_number [] b i e = absurd (let z : ◌≡◌ {A = ℕ} 0 1 = cc in omega arith)
id_number (x ∷ is) b i e = go (eqb b (id_byte x)) refl (id_number is b i)
  where
    go : (t : Bool) → eqb b (id_byte x) ≡ t → (id_among is b ≡ Ok i → id_byte i ≡ b) → id_byte i ≡ b
    go true f r = let s : x ≡ i = cc (rw f at e) in rw s at (sym (eqb-true b (id_byte x) f))
    go false f r = r (rw f at e)

module _ (P : FlagPlaces) (apart : Separate P) (r a : Bool) (s : Segmentation) where
  pub response_back : eqb (flags_byte P r a s / P.response % 2) 1 ≡ r
  response_back = rw (apart.response r a s) (bit_back r)

  pub aborted_back : eqb (flags_byte P r a s / P.aborted % 2) 1 ≡ a
  aborted_back = rw (apart.aborted r a s) (bit_back a)

  pub segmentation_flag_back : segmentation_of (flags_byte P r a s / P.segmentation % 4) ≡ s
  segmentation_flag_back = rw (apart.segmentation r a s) (segmentation_back s)

-- byte 2 of the flags that a byte holds is that byte with its reserved bits 0
pub flags_kept : (P : FlagPlaces) (f : ℕ) → flags_byte P (eqb (f / P.response % 2) 1) (eqb (f / P.aborted % 2) 1) (segmentation_of (f / P.segmentation % 4)) ≡ kept_flags P f
flags_kept P f =
    rw (
      bit_number (f / P.response % 2) (omega arith),
      bit_number (f / P.aborted % 2) (omega arith),
      segmentation_number_lem (f / P.segmentation % 4) (omega arith),
    )

-- document 01's places are separate, and so are DS 301's (response 80, aborted 40, segmentation 30 hex)
pub bit_lt : (r : Bool) → bit r < 2
bit_lt false = lit< tt
bit_lt true = lit< tt

pub number_lt : (s : Segmentation) → segmentation_number s < 4
number_lt Expedited = lit< tt
number_lt Initiate = lit< tt
number_lt Segment = lit< tt
number_lt Complete = lit< tt

pub places_separate : Separate flag_places
unfolding flag_places
places_separate = record {
  response = λ r a s. omega (arith, bit_lt r);
  aborted = λ r a s. omega (arith, bit_lt r, bit_lt a);
  segmentation = λ r a s. omega (arith, bit_lt r, bit_lt a, number_lt s);
}

abbrev pub standard_places : FlagPlaces
standard_places = record { response = 128; aborted = 64; segmentation = 16 }

pub standard_separate : Separate standard_places
standard_separate = record {
  response = λ r a s. omega (arith, bit_lt r, bit_lt a, number_lt s);
  aborted = λ r a s. omega (arith, bit_lt r, bit_lt a, number_lt s);
  segmentation = λ r a s. omega (arith, bit_lt r, bit_lt a, number_lt s);
}

-- in document 01's places the reserved bits of byte 2 are the low four
pub kept_low_four : (f : ℕ) → f < 256 → kept_flags flag_places f ≡ f / 16 * 16
unfolding flag_places
kept_low_four f h = omega arith
