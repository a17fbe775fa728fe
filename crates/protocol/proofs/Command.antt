-- Laws of a command's bytes: both round trips, over the flags' places.
use Prim.Native.Nat.{ℕ, ◌+◌, ◌-◌, ◌/◌, ◌%◌, ◌≤◌, ◌<◌}
use native.Mathlib.Omega.{arith}
use native.Mathlib.Nat.{zero-add}
use mathlib.Core.Path.{◌≡◌, refl, sym, ap, ◌∙◌}
use mathlib.Core.Bool.{Bool, true, false}
use mathlib.Core.List.{List, [], ◌∷◌, ◌++◌, append_assoc}
use lib.ListN.{length, get_or, take, drop, length-append, length-drop, length-set}
use lib.Seq.{take_at, take-add, drop-drop, take-append_seam, length-take-le}
use lib.Dec.{ltb, eqb}
use borrow.Author.Tests.{lt-ltb, le-ltb, ltb-false}
use Rattle.picks.specs.Pick.{pick}
use Rattle.octets.specs.Octets.{le, le_bytes, splice, AllBytes}
use Rattle.octets.proofs.Splice.{splice_splice}
use Rattle.octets.proofs.Little.{le_le_bytes_below, le_bytes_le, length_le_bytes}
use Rattle.octets.proofs.Bytes.{bytes_drop, bytes_take}
use Rattle.protocol.specs.declared.CommandId.{CommandId}
use Rattle.protocol.specs.declared.Segmentation.{Segmentation}
use Rattle.protocol.specs.declared.Segmentation.TheVariants.{Expedited, Initiate, Segment, Complete}
use Rattle.protocol.specs.declared.CommandLayerHeader.{CommandLayerHeader}
use Rattle.std.specs.Prelude.{Option, None, Some, Result, Ok, Err}
use Rattle.protocol.specs.declared.SdoCommand.{SdoCommand}
use Rattle.protocol.specs.declared.InvalidEnumValue.{InvalidEnumValue}
use Rattle.protocol.specs.Coding.{refused, value}
use Rattle.protocol.specs.Command.{Command, FlagPlaces, Separate, WellFormed, decoded, undecodable, kept_flags, clear_reserved, segmentation_of, id_byte, id_of, known_ids, header_length, total_number, total_bytes, total_of, is_initiate, is_present, fixed_header, header_of, payload_of, command_of, with_payload, encode_command, decode_with, decode_id, decode_command}
use Rattle.protocol.proofs.Coding.{past_test}
use Rattle.protocol.proofs.Flags.{response_back, aborted_back, segmentation_flag_back, flags_kept, id_back, id_number}

pub header_at_least : (s : Segmentation) → 8 ≤ header_length s
header_at_least Expedited = omega arith
header_at_least Initiate = omega arith
header_at_least Segment = omega arith
header_at_least Complete = omega arith

pub header_at_most : (s : Segmentation) → header_length s ≤ 12
header_at_most Expedited = omega arith
header_at_most Initiate = omega arith
header_at_most Segment = omega arith
header_at_most Complete = omega arith

-- the length of the total's bytes, and of a whole command's
total_length : (s : Segmentation) (d : Option ℕ) → 8 + length (total_bytes s d) ≡ header_length s
unfolding le_bytes
total_length Expedited d = refl
total_length Initiate d = refl
total_length Segment d = refl
total_length Complete d = refl

fixed_length : (P : FlagPlaces) (h : CommandLayerHeader) → length (fixed_header P h) ≡ 8
unfolding fixed_header le_bytes
fixed_length P h = refl

framed_length : (P : FlagPlaces) (h : CommandLayerHeader) (d : Option ℕ) (q : List ℕ) → length (fixed_header P h ++ total_bytes h.segmentation d ++ q) ≡ header_length h.segmentation + length q
unfolding fixed_header le_bytes
framed_length P h d q = simp length-append (omega (arith, total_length h.segmentation d))

pub encoded_length : (P : FlagPlaces) (c : Command) → length (encode_command P c) ≡ header_length c.header.segmentation + length c.payload
unfolding encode_command
encoded_length P c = framed_length P c.header c.total c.payload

-- the header, the total and the payload stored one behind the other are the command
pub stored_command : (P : FlagPlaces) (c : SdoCommand) (p d : List ℕ) → splice (header_length c.header.segmentation) p (splice 8 (total_bytes c.header.segmentation c.total) (splice 0 (fixed_header P c.header) d)) ≡ splice 0 (encode_command P (with_payload c p)) d
unfolding encode_command
stored_command P c p d =
    let f = fixed_header P c.header in
    let s = c.header.segmentation in
    let t = total_bytes s c.total in
    let l : length f ≡ 8 = fixed_length P c.header in
    let m : header_length s ≡ 0 + length (f ++ t) = simp length-append (omega (arith, l, total_length s c.total)) in
    let e : splice 8 t (splice 0 f d) ≡ splice 0 (f ++ t) d = rw (← l, ← zero-add (length f)) (splice_splice 0 f t d) in
    rw (e, m) (splice_splice 0 (f ++ t) p d)

-- what stands behind the header is the payload, and the total reads back
behind_header : (P : FlagPlaces) (h : CommandLayerHeader) (d : Option ℕ) (q : List ℕ) (s : Segmentation) → drop (header_length s) (fixed_header P h ++ total_bytes s d ++ q) ≡ q
unfolding fixed_header le_bytes
behind_header P h d q Expedited = refl
behind_header P h d q Initiate = refl
behind_header P h d q Segment = refl
behind_header P h d q Complete = refl

total_back : (P : FlagPlaces) (h : CommandLayerHeader) (q : List ℕ) (s : Segmentation) (d : Option ℕ) → is_present d ≡ is_initiate s → total_number d < 4294967296 → total_of s (fixed_header P h ++ total_bytes s d ++ q) ≡ d
unfolding fixed_header le_bytes
total_back P h q Expedited None e l = refl
total_back P h q Segment None e l = refl
total_back P h q Complete None e l = refl
total_back P h q Initiate (Some n) e l = ap Some (ap le (take_at (le_bytes 4 n) q 4 (length_le_bytes 4 n)) ∙ le_le_bytes_below 4 n l)
total_back P h q Expedited (Some n) e l = absurd (let z : ◌≡◌ {A = ℕ} 0 1 = cc in omega arith)
total_back P h q Segment (Some n) e l = absurd (let z : ◌≡◌ {A = ℕ} 0 1 = cc in omega arith)
total_back P h q Complete (Some n) e l = absurd (let z : ◌≡◌ {A = ℕ} 0 1 = cc in omega arith)
total_back P h q Initiate None e l = absurd (let z : ◌≡◌ {A = ℕ} 0 1 = cc in omega arith)

-- what decoding finds, by its tests
module _ (P : FlagPlaces) (b : List ℕ) where
  pub decode_short : length b < 8 → decode_command P b ≡ refused 5
  unfolding decode_command pick
  decode_short l = rw (lt-ltb (length b) 8 l)

  pub decode_unknown : 8 ≤ length b → id_of (get_or b 3 0) ≡ Err (record {}) → decode_command P b ≡ value undecodable
  unfolding decode_command decode_id pick
  decode_unknown l e = rw (le-ltb (length b) 8 l, e)

  pub decode_known : (i : CommandId) → 8 ≤ length b → id_of (get_or b 3 0) ≡ Ok i → decode_command P b ≡ decode_with (header_of P i b) b
  unfolding decode_command decode_id pick
  decode_known i l e = rw (le-ltb (length b) 8 l, e)

module _ (h : CommandLayerHeader) (b : List ℕ) where
  pub decode_header_cut : length b < header_length h.segmentation → decode_with h b ≡ refused 5
  unfolding decode_with pick
  decode_header_cut l = rw (lt-ltb (length b) (header_length h.segmentation) l)

  pub decode_payload_cut : header_length h.segmentation ≤ length b → length b < header_length h.segmentation + h.size → decode_with h b ≡ value undecodable
  unfolding decode_with pick
  decode_payload_cut l m =
      let n = header_length h.segmentation in
      rw (le-ltb (length b) n l, lt-ltb (length b) (n + h.size) m)

  pub decode_whole : header_length h.segmentation + h.size ≤ length b → decode_with h b ≡ value (decoded (command_of h b))
  unfolding decode_with pick
  decode_whole m =
      let n = header_length h.segmentation in
      rw (le-ltb (length b) n (omega arith), le-ltb (length b) (n + h.size) m)

module _ (P : FlagPlaces) (apart : Separate P) where
  -- the header reads back
  header_back : (h : CommandLayerHeader) (q : List ℕ) → h.size < 65536 → header_of P h.id (fixed_header P h ++ q) ≡ h
  unfolding fixed_header le_bytes
  header_back h q l =
      let r = h.response in
      let a = h.aborted in
      let s = h.segmentation in
      rw (
        response_back P apart r a s,
        aborted_back P apart r a s,
        segmentation_flag_back P apart r a s,
        le_le_bytes_below 2 h.size l,
      )

  -- "Decoding an encoded command gives it back", whatever follows
  pub decode_encode : (c : Command) (r : List ℕ) → WellFormed c → decode_command P (encode_command P c ++ r) ≡ value (decoded c)
  unfolding encode_command fixed_header le_bytes
  decode_encode c r w =
      let h = c.header in
      let s = h.segmentation in
      let t = total_bytes s c.total in
      let q = c.payload ++ r in
      let b = fixed_header P h ++ t ++ q in
      let e : encode_command P c ++ r ≡ b = append_assoc (fixed_header P h ++ t) c.payload r in
      let g : header_of P h.id b ≡ h = header_back h (t ++ q) w.narrow in
      let l : header_length s + h.size ≤ length b = rw (framed_length P h c.total q, w.size) (simp length-append (omega arith)) in
      let p : payload_of h b ≡ c.payload = rw (behind_header P h c.total q s, w.size) (take-append_seam c.payload r) in
      rw e (decode_known P b h.id (omega (arith, header_at_least s)) (id_back h.id) ∙ ap (λ (x : CommandLayerHeader). decode_with x b) g ∙ decode_whole h b l ∙ rw (total_back P h q s c.total w.present w.total, p))

-- what a decoded command says of its bytes
pub record Decodes (P : FlagPlaces) (b : List ℕ) (c : Command) : Type 0 where
  pub id : CommandId
  pub known : id_of (get_or b 3 0) ≡ Ok id
  pub whole : header_length (header_of P id b).segmentation + (header_of P id b).size ≤ length b
  pub command : command_of (header_of P id b) b ≡ c

past_cut : (t : Bool) (x c : Command) → pick t (value undecodable) (value (decoded x)) ≡ value (decoded c) → (t ≡ false) × (x ≡ c)
unfolding pick
past_cut true x c e = absurd (let z : ◌≡◌ {A = ℕ} 0 1 = cc in omega arith)
past_cut false x c e = (refl, cc)

inverts_whole : (h : CommandLayerHeader) (b : List ℕ) (c : Command) → decode_with h b ≡ value (decoded c) → (header_length h.segmentation + h.size ≤ length b) × (command_of h b ≡ c)
unfolding decode_with
inverts_whole h b c e = let w = past_cut _ _ _ (past_test _ _ _ _ e).1 in (ltb-false _ _ w.0, w.1)

pub decode_inverts : (P : FlagPlaces) (b : List ℕ) (c : Command) → decode_command P b ≡ value (decoded c) → Decodes P b c
unfolding decode_command decode_id
decode_inverts P b c e = by_id (id_of (get_or b 3 0)) refl (past_test _ _ _ _ e).1
  where
    by_id : (k : Result CommandId InvalidEnumValue) → id_of (get_or b 3 0) ≡ k → decode_id P k b ≡ value (decoded c) → Decodes P b c
    by_id (Err u) g f = absurd (let z : ◌≡◌ {A = ℕ} 0 1 = cc in omega arith)
    by_id (Ok i) g f = let w = inverts_whole (header_of P i b) b c f in record { id = i; known = g; whole = w.0; command = w.1 }

-- the total's bytes and the payload are what stands from byte 8 on
total_payload : (b : List ℕ) (n : ℕ) → AllBytes b → (s : Segmentation) → header_length s + n ≤ length b → total_bytes s (total_of s b) ++ take n (drop (header_length s) b) ≡ take (header_length s - 8 + n) (drop 8 b)
total_payload b n g Expedited l = rw (zero-add n)
total_payload b n g Segment l = rw (zero-add n)
total_payload b n g Complete l = rw (zero-add n)
total_payload b n g Initiate l =
    let m : length (take 4 (drop 8 b)) ≡ 4 = length-take-le 4 (drop 8 b) (simp length-drop (omega arith)) in
    rw (le_bytes_le 4 (take 4 (drop 8 b)) m (bytes_take 4 (drop 8 b) (bytes_drop 8 b g)), take-add 4 n (drop 8 b), drop-drop 4 8 b)

-- what holds of every list of eight bytes and a rest holds of every list that long
of_eight : (Q : List ℕ → Type 0) → ((x0 x1 x2 x3 x4 x5 x6 x7 : ℕ) (r : List ℕ) → Q (x0 ∷ x1 ∷ x2 ∷ x3 ∷ x4 ∷ x5 ∷ x6 ∷ x7 ∷ r)) → (b : List ℕ) → 8 ≤ length b → Q b
of_eight Q f (x0 ∷ x1 ∷ x2 ∷ x3 ∷ x4 ∷ x5 ∷ x6 ∷ x7 ∷ r) h = f x0 x1 x2 x3 x4 x5 x6 x7 r
of_eight Q f [] h = absurd (omega arith)
of_eight Q f (x0 ∷ []) h = absurd (omega arith)
of_eight Q f (x0 ∷ x1 ∷ []) h = absurd (omega arith)
of_eight Q f (x0 ∷ x1 ∷ x2 ∷ []) h = absurd (omega arith)
of_eight Q f (x0 ∷ x1 ∷ x2 ∷ x3 ∷ []) h = absurd (omega arith)
of_eight Q f (x0 ∷ x1 ∷ x2 ∷ x3 ∷ x4 ∷ []) h = absurd (omega arith)
of_eight Q f (x0 ∷ x1 ∷ x2 ∷ x3 ∷ x4 ∷ x5 ∷ []) h = absurd (omega arith)
of_eight Q f (x0 ∷ x1 ∷ x2 ∷ x3 ∷ x4 ∷ x5 ∷ x6 ∷ []) h = absurd (omega arith)

module _ (P : FlagPlaces) (i : CommandId) where
  abbrev Encodes : List ℕ → Type 0
  Encodes b =
      AllBytes b → id_byte i ≡ get_or b 3 0 → header_length (header_of P i b).segmentation + (header_of P i b).size ≤ length b → encode_command P (command_of (header_of P i b) b) ≡ clear_reserved P (take (header_length (header_of P i b).segmentation + (header_of P i b).size) b)

  encodes : (x0 x1 x2 x3 x4 x5 x6 x7 : ℕ) (r : List ℕ) → Encodes (x0 ∷ x1 ∷ x2 ∷ x3 ∷ x4 ∷ x5 ∷ x6 ∷ x7 ∷ r)
  unfolding encode_command fixed_header
  encodes x0 x1 x2 x3 x4 x5 x6 x7 r g k l =
      let b = x0 ∷ x1 ∷ x2 ∷ x3 ∷ x4 ∷ x5 ∷ x6 ∷ x7 ∷ r in
      let h = header_of P i b in
      let s = h.segmentation in
      let m : header_length s + h.size ≡ 8 + (header_length s - 8 + h.size) = omega (arith, header_at_least s) in
      let two : AllBytes (x4 ∷ x5 ∷ []) = bytes_take 2 (drop 4 b) (bytes_drop 4 b g) in
      rw (m, take-add 8 (header_length s - 8 + h.size) b, flags_kept P x2, k, le_bytes_le 2 (x4 ∷ x5 ∷ []) refl two, ← total_payload b h.size g s l)

-- "encoding a decoded one gives its bytes up to the payload's end, reserved bits 0"
pub encode_decode : (P : FlagPlaces) (b : List ℕ) (c : Command) → AllBytes b → decode_command P b ≡ value (decoded c) → encode_command P c ≡ clear_reserved P (take (header_length c.header.segmentation + c.header.size) b)
unfolding id_of
encode_decode P b c g e =
    let d = decode_inverts P b c e in
    let l : 8 ≤ length b = omega (arith, d.whole, header_at_least (header_of P d.id b).segmentation) in
    rw (← d.command) (of_eight (Encodes P d.id) (encodes P d.id) b l g (id_number known_ids (get_or b 3 0) d.id d.known) d.whole)

-- behind its header a command is read from byte 8 on
module _ (a b : List ℕ) (e : drop 8 a ≡ drop 8 b) where
  same_total : (s : Segmentation) → total_of s a ≡ total_of s b
  same_total Expedited = refl
  same_total Initiate = rw e
  same_total Segment = refl
  same_total Complete = refl

  same_rest : (s : Segmentation) → drop (header_length s) a ≡ drop (header_length s) b
  same_rest Expedited = e
  same_rest Initiate = sym (drop-drop 4 8 a) ∙ ap (drop 4) e ∙ drop-drop 4 8 b
  same_rest Segment = e
  same_rest Complete = e

  same_command : (h : CommandLayerHeader) → length a ≡ length b → decode_with h a ≡ decode_with h b
  unfolding decode_with
  same_command h l = rw (l, same_total h.segmentation, same_rest h.segmentation)

-- reserved bytes and bits are not looked at
module _ (P : FlagPlaces) (apart : Separate P) where
  clear_header : (i : CommandId) (x1 x2 x3 x4 x5 : ℕ) (r t : List ℕ) (x0 x6 x7 : ℕ) → header_of P i (0 ∷ x1 ∷ kept_flags P x2 ∷ x3 ∷ x4 ∷ x5 ∷ 0 ∷ 0 ∷ r) ≡ header_of P i (x0 ∷ x1 ∷ x2 ∷ x3 ∷ x4 ∷ x5 ∷ x6 ∷ x7 ∷ t)
  clear_header i x1 x2 x3 x4 x5 r t x0 x6 x7 =
      let a = eqb (x2 / P.response % 2) 1 in
      let c = eqb (x2 / P.aborted % 2) 1 in
      let s = segmentation_of (x2 / P.segmentation % 4) in
      rw (← flags_kept P x2, response_back P apart a c s, aborted_back P apart a c s, segmentation_flag_back P apart a c s)

  clear_eight : (x0 x1 x2 x3 x4 x5 x6 x7 : ℕ) (r : List ℕ) → decode_command P (clear_reserved P (x0 ∷ x1 ∷ x2 ∷ x3 ∷ x4 ∷ x5 ∷ x6 ∷ x7 ∷ r)) ≡ decode_command P (x0 ∷ x1 ∷ x2 ∷ x3 ∷ x4 ∷ x5 ∷ x6 ∷ x7 ∷ r)
  unfolding decode_command decode_id
  clear_eight x0 x1 x2 x3 x4 x5 x6 x7 r = rw (by_id (id_of x3))
    where
      by_id : (k : Result CommandId InvalidEnumValue) → decode_id P k (0 ∷ x1 ∷ kept_flags P x2 ∷ x3 ∷ x4 ∷ x5 ∷ 0 ∷ 0 ∷ r) ≡ decode_id P k (x0 ∷ x1 ∷ x2 ∷ x3 ∷ x4 ∷ x5 ∷ x6 ∷ x7 ∷ r)
      by_id (Err u) = refl
      by_id (Ok i) =
          let h = header_of P i (x0 ∷ x1 ∷ x2 ∷ x3 ∷ x4 ∷ x5 ∷ x6 ∷ x7 ∷ r) in
          ap (λ (y : CommandLayerHeader). decode_with y (0 ∷ x1 ∷ kept_flags P x2 ∷ x3 ∷ x4 ∷ x5 ∷ 0 ∷ 0 ∷ r)) (clear_header i x1 x2 x3 x4 x5 r r x0 x6 x7)
          ∙ same_command (0 ∷ x1 ∷ kept_flags P x2 ∷ x3 ∷ x4 ∷ x5 ∷ 0 ∷ 0 ∷ r) (x0 ∷ x1 ∷ x2 ∷ x3 ∷ x4 ∷ x5 ∷ x6 ∷ x7 ∷ r) refl h refl

  pub decode_clear : (b : List ℕ) → decode_command P (clear_reserved P b) ≡ decode_command P b
  unfolding decode_command pick
  decode_clear b = go (ltb (length b) 8) refl
    where
      go : (t : Bool) → ltb (length b) 8 ≡ t → decode_command P (clear_reserved P b) ≡ decode_command P b
      go true e = simp (length-set, e)
      go false e = of_eight (λ x. decode_command P (clear_reserved P x) ≡ decode_command P x) clear_eight b (ltb-false _ _ e)
