-- Document 01, 'Dictionary image'.
use Rattle.std.specs.Prelude.{ℕ, zero, suc, ◌+◌, ◌*◌, ◌/◌, ◌%◌, Bool, false, ◌&&◌, ◌||◌, not, List, [], ◌∷◌, length, get_or, take, drop, ltb, leb, eqb, Result, Ok, Err}
use Rattle.picks.specs.Pick.{pick}
use Rattle.octets.specs.Octets.{le, le_bytes, splice}
use Rattle.protocol.specs.declared.Entry.{Entry}
use Rattle.protocol.specs.declared.LookupError.{LookupError}
use Rattle.protocol.specs.declared.LookupError.TheVariants.{NoObject, NoSubIndex}
use Rattle.protocol.specs.declared.AbortCode.{AbortCode}
use Rattle.protocol.specs.declared.AbortCode.TheVariants as A
use Rattle.protocol.specs.Constants.{CAPACITY_MAX, IMAGE_MAX, TIMEOUT_INDEX, RETRIES_INDEX, DEFAULT_TIMEOUT, DEFAULT_RETRIES}

-- "Contents first: u16 count; per entry index u16, sub u8, flags u8 (1 variable length, 2 read-only), body offset u32, capacity u16 (1 to 8,192), length u16."
abbrev pub entry_count : List ℕ → ℕ
entry_count image = le (take 2 image)

unfoldable pub entry_at : List ℕ → ℕ → Entry
entry_at image at =
    record { place = at; index = le (take 2 (drop at image)); sub = get_or image (at + 2) 0; flags = get_or image (at + 3) 0; body = le (take 4 (drop (at + 4) image)); capacity = le (take 2 (drop (at + 8) image)); length = le (take 2 (drop (at + 10) image)) }

unfoldable pub entries_from : List ℕ → ℕ → ℕ → List Entry
entries_from image at zero = []
entries_from image at (suc n) = entry_at image at ∷ entries_from image (at + 12) n

unfoldable pub entries : List ℕ → List Entry
entries image = entries_from image 2 (entry_count image)

abbrev pub is_variable : Entry → Bool
is_variable e = eqb (e.flags % 2) 1

abbrev pub is_read_only : Entry → Bool
is_read_only e = eqb (e.flags / 2 % 2) 1

-- "Then the bodies."
abbrev pub contents_end : List ℕ → ℕ
contents_end image = 2 + 12 * entry_count image

-- (index, sub) as one number
abbrev pub key : Entry → ℕ
key e = e.index * 256 + e.sub

-- "Sound: entries strictly ascending by (index, sub), flags at most 3, each body takes its capacity and starts where the one before ended (the first after the contents), length at most capacity and equal to it when not variable": an entry whose key is at least `least` and whose body starts at `start`
abbrev pub sound_entry : ℕ → ℕ → Entry → Bool
sound_entry least start e =
    leb least (key e) && leb e.flags 3 && leb 1 e.capacity && leb e.capacity CAPACITY_MAX && eqb e.body start && leb e.length e.capacity && (is_variable e || eqb e.length e.capacity)

-- "image at most 65,536 bytes and ending with the last body (with none, the contents)"
unfoldable pub sound_entries : ℕ → ℕ → ℕ → List Entry → Bool
sound_entries end least start [] = eqb start end
sound_entries end least start (e ∷ es) = sound_entry least start e && sound_entries end (key e + 1) (start + e.capacity) es

unfoldable pub sound_image : List ℕ → Bool
sound_image image =
    leb 2 (length image) && leb (length image) IMAGE_MAX && leb (contents_end image) (length image) && sound_entries (length image) 0 (contents_end image) (entries image)

-- the entry of an index and sub-index, or which of the two is missing
abbrev pub is_at : ℕ → ℕ → Entry → Bool
is_at index sub e = eqb e.index index && eqb e.sub sub

unfoldable pub lookup_in : List Entry → ℕ → ℕ → Bool → Result Entry LookupError
lookup_in [] index sub seen = pick seen (Err NoSubIndex) (Err NoObject)
lookup_in (e ∷ es) index sub seen = pick (is_at index sub e) (Ok e) (lookup_in es index sub (seen || eqb e.index index))

unfoldable pub lookup : List ℕ → ℕ → ℕ → Result Entry LookupError
lookup image index sub = lookup_in (entries image) index sub false

-- the value held: "its body's first length bytes"
abbrev pub value_of : List ℕ → Entry → List ℕ
value_of image e = take e.length (drop e.body image)

-- a read needs the object and the sub-index
abbrev pub readable : Result Entry LookupError → Result Entry AbortCode
readable (Err NoObject) = Err A.NoObject
readable (Err NoSubIndex) = Err A.NoSubIndex
readable (Ok e) = Ok e

-- "Each counts only if 4 bytes and not variable; otherwise 15,000 and 2."
unfoldable pub parameter_of : List ℕ → ℕ → Result Entry LookupError → ℕ
parameter_of image default (Err missing) = default
parameter_of image default (Ok e) = pick (eqb e.length 4 && not (is_variable e)) (le (value_of image e)) default

-- "Timeout is 1300 hex/0 in milliseconds; OD_IDX_SDO_RETRIES is taken as 1302 hex, sub 0."
unfoldable pub timeout_of : List ℕ → ℕ
timeout_of image = parameter_of image DEFAULT_TIMEOUT (lookup image TIMEOUT_INDEX 0)

unfoldable pub retries_of : List ℕ → ℕ
retries_of image = parameter_of image DEFAULT_RETRIES (lookup image RETRIES_INDEX 0)

-- "A write checks: object (06020000), sub-index (06090011), fixed entry and short data (06070013), any other misfit or above capacity (06070010), read-only (06010002)."
unfoldable pub writable : Result Entry LookupError → ℕ → Result Entry AbortCode
writable (Err NoObject) n = Err A.NoObject
writable (Err NoSubIndex) n = Err A.NoSubIndex
writable (Ok e) n =
    pick (not (is_variable e) && ltb n e.capacity) (Err A.LengthTooLow)
    (pick (ltb e.capacity n) (Err A.LengthMisfit) (pick (is_read_only e) (Err A.ReadOnly) (Ok e)))

-- "It changes only the data's bytes and the length."
unfoldable pub write_image : List ℕ → Entry → List ℕ → List ℕ
write_image image e bytes = splice (e.place + 10) (le_bytes 2 (length bytes)) (splice e.body bytes image)
