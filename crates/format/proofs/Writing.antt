-- How long the bytes are, and what is laid into a buffer.
use Prim.Native.Nat.{ℕ, suc, ◌+◌, ◌*◌, ◌<◌}
use native.Mathlib.Omega.{arith}
use mathlib.Core.Path.{◌≡◌, refl, sym}
use mathlib.Core.List.{List, [], ◌∷◌, ◌++◌, append-nil, append_assoc}
use lib.ListN.{length, get_or, take, set, replicate, length-append, drop_of_length-le}
use lib.Seq.{take-suc, length-take-le}
use Rattle.octets.specs.Octets.{le_bytes, splice}
use Rattle.octets.proofs.Splice.{set_splice, splice_splice, splice_fits}
use Rattle.protocol.specs.declared.SdoClientInfo.{SdoClientInfo}
use Rattle.protocol.specs.declared.SdoClientInfo.TheVariants.{Asnd, Udp}
use Rattle.protocol.specs.declared.SdoTransferState.{SdoTransferState}
use Rattle.protocol.specs.declared.SdoServerState.{SdoServerState}
use Rattle.protocol.specs.declared.SdoServerState.TheVariants.{Closed, Opening, Established, SegmentedDownload, SegmentedUpload}
use Rattle.protocol.specs.declared.Connection.{Connection}
use Rattle.format.specs.Format.{big_bytes, client_bytes, transfer_bytes, state_bytes, record_bytes, table_bytes, deadline_flag, deadline_time, flag}

pub length_client : (k : SdoClientInfo) → length (client_bytes k) ≡ 8
unfolding client_bytes big_bytes le_bytes
length_client (Asnd n m) = refl
length_client (Udp a p) = refl

pub length_state : (s : SdoServerState) → length (state_bytes s) ≡ 26
unfolding state_bytes transfer_bytes le_bytes
length_state Closed = refl
length_state Opening = refl
length_state Established = refl
length_state (SegmentedUpload t) = refl
length_state (SegmentedDownload t) = refl

pub length_record : (c : Connection) → length (record_bytes c) ≡ 40
unfolding record_bytes
length_record c = simp (length-append, length_client, length_state)

pub length_table : (t : List Connection) → length (table_bytes t) ≡ 40 * length t
unfolding table_bytes
length_table [] = refl
length_table (c ∷ t) = rw (length-append (record_bytes c) (table_bytes t), length_record c, length_table t) (omega arith)

-- a list laid over one of the same length
pub splice_whole : (xs ys : List ℕ) → length xs ≡ length ys → splice 0 xs ys ≡ xs
splice_whole xs ys e = rw (splice_fits 0 xs ys (omega arith), drop_of_length-le ys {i = 0 + length xs} (omega arith)) (append-nil xs)

-- a store behind one at the start
laid_next : (at : ℕ) (a b z : List ℕ) → length a ≡ at → splice at b (splice 0 a z) ≡ splice 0 (a ++ b) z
laid_next at a b z e = let f : at ≡ 0 + length a = omega arith in rw f (splice_splice 0 a b z)

-- the parts of a record's bytes, one behind the other over 40 bytes
pub record_laid : (u : ℕ) (a b d z : List ℕ) → length a ≡ 8 → length b ≡ 4 → length d ≡ 26 → length z ≡ 40 → set (splice 13 d (splice 9 b (splice 1 a (set z 0 u)))) 39 0 ≡ u ∷ (a ++ b ++ d ++ (0 ∷ []))
record_laid u a b d z ea eb ed ez =
    let la : length (u ∷ a) ≡ 9 = omega arith in
    let lb : length ((u ∷ a) ++ b) ≡ 13 = simp length-append (omega arith) in
    let ld : length ((u ∷ a) ++ b ++ d) ≡ 39 = simp length-append (omega arith) in
    let lz : length ((u ∷ a) ++ b ++ d ++ (0 ∷ [])) ≡ length z = simp length-append (omega arith) in
    rw (set_splice 0 u z, laid_next 1 (u ∷ []) a z refl, laid_next 9 (u ∷ a) b z la, laid_next 13 ((u ∷ a) ++ b) d z lb, set_splice 39 0 (splice 0 ((u ∷ a) ++ b ++ d) z), laid_next 39 ((u ∷ a) ++ b ++ d) (0 ∷ []) z ld) (splice_whole ((u ∷ a) ++ b ++ d ++ (0 ∷ [])) z lz)

-- the bytes of one record more
table_snoc : (t : List Connection) (c : Connection) → table_bytes (t ++ (c ∷ [])) ≡ table_bytes t ++ record_bytes c
unfolding table_bytes
table_snoc [] c = append-nil (record_bytes c)
table_snoc (x ∷ t) c = rw (table_snoc t c) (sym (append_assoc (record_bytes x) (table_bytes t) (record_bytes c)))

pub table_more : (t : List Connection) (i : ℕ) (d : Connection) (b : List ℕ) → i < length t → splice (40 * i) (record_bytes (get_or t i d)) (splice 0 (table_bytes (take i t)) b) ≡ splice 0 (table_bytes (take (suc i) t)) b
table_more t i d b h =
    let e : length (table_bytes (take i t)) ≡ 40 * i = rw (length_table (take i t), length-take-le i t (omega arith)) in
    rw (take-suc t i d h, table_snoc (take i t) (get_or t i d)) (laid_next (40 * i) (table_bytes (take i t)) (record_bytes (get_or t i d)) b e)

-- a transfer's bytes, one behind the other over 26 zeros
pub transfer_laid : (t : SdoTransferState) → set (splice 21 (le_bytes 4 t.retries) (splice 13 (le_bytes 8 (deadline_time t.deadline)) (splice 11 (t.sub ∷ deadline_flag t.deadline ∷ []) (splice 9 (le_bytes 2 t.index) (splice 5 (le_bytes 4 t.offset) (splice 1 (le_bytes 4 t.total) (set (replicate 26 0) 0 t.transaction))))))) 25 (flag t.stored) ≡ transfer_bytes t
unfolding transfer_bytes le_bytes
transfer_laid t =
    let z : List ℕ = replicate 26 0 in
    let a = t.transaction ∷ [] in
    let b = le_bytes 4 t.total in
    let c = le_bytes 4 t.offset in
    let d = le_bytes 2 t.index in
    let e = t.sub ∷ deadline_flag t.deadline ∷ [] in
    let f = le_bytes 8 (deadline_time t.deadline) in
    let g = le_bytes 4 t.retries in
    rw (
      set_splice 0 t.transaction z,
      laid_next 1 a b z refl,
      laid_next 5 (a ++ b) c z refl,
      laid_next 9 (a ++ b ++ c) d z refl,
      laid_next 11 (a ++ b ++ c ++ d) e z refl,
      laid_next 13 (a ++ b ++ c ++ d ++ e) f z refl,
      laid_next 21 (a ++ b ++ c ++ d ++ e ++ f) g z refl,
      splice_fits 0 (a ++ b ++ c ++ d ++ e ++ f ++ g) z (omega arith),
    )
