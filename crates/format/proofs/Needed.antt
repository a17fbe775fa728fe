-- No table reads back but one whose numbers fit: the round trip asks no more than it must.
use Prim.Native.Nat.{ℕ, zero, suc, ◌/◌, ◌%◌, ◌^◌, ◌<◌}
use native.Mathlib.Omega.{arith}
use native.Mathlib.Nat.{pow-succ', mod-lt}
use mathlib.Core.Path.{◌≡◌, refl, sym, ap, ◌∙◌}
use mathlib.Core.List.{List, [], ◌∷◌, ◌++◌, append_assoc, map}
use lib.ListN.{length}
use lib.Dec.{eqb, lit<}
use lib.Seq.{get_or_at}
use Rattle.picks.specs.Pick.{pick}
use Rattle.octets.specs.Octets.{le, le_bytes}
use Rattle.octets.proofs.Little.{le_le_bytes, pow_pos}
use Rattle.protocol.specs.declared.SdoClientInfo.{SdoClientInfo}
use Rattle.protocol.specs.declared.SdoClientInfo.TheVariants.{Asnd, Udp}
use Rattle.std.specs.Prelude.{Option, None, Some}
use Rattle.protocol.specs.declared.SdoTransferState.{SdoTransferState}
use Rattle.protocol.specs.declared.SdoServerState.{SdoServerState}
use Rattle.protocol.specs.declared.SdoServerState.TheVariants.{Closed, Opening, Established, SegmentedDownload, SegmentedUpload}
use Rattle.protocol.specs.declared.Connection.{Connection}
use Rattle.format.specs.Format.{big, big_bytes, flag, client_bytes, client_of, state_number, deadline_flag, deadline_time, transfer_bytes, state_bytes, record_bytes, transfer_of, state_of, record_of, table_bytes, table_of}
use Rattle.format.specs.Fits.{FitsClient, FitsDeadline, FitsTransfer, FitsState, FitsRecord, FitsTable}
use Rattle.format.proofs.RoundTrip.{length_big, behind, client_eight, X, Z, S, joined, table_rows}

-- a number that is read from its bytes is below the power of 256
le_below : (n v w : ℕ) → le (le_bytes n v) ≡ w → w < 256 ^ n
le_below n v w e = rw (← e, le_le_bytes n v) (mod-lt v (pow_pos n))

big_below : (n v : ℕ) (ys : List ℕ) → big n (big_bytes n v ++ ys) < 256 ^ n
unfolding big big_bytes
big_below zero v ys = lit< tt
big_below (suc n) v ys =
    let q = big_bytes n (v / 256) in
    rw (append_assoc q (v % 256 ∷ []) ys, get_or_at q (v % 256) ys 0 n (length_big n (v / 256))) (omega (arith, big_below n (v / 256) (v % 256 ∷ ys), pow-succ' 256 n))

client_needed : (k : SdoClientInfo) (ys : List ℕ) → client_of (client_bytes k ++ ys) ≡ k → FitsClient k
unfolding client_of client_bytes pick big_bytes le_bytes
client_needed (Asnd n m) ys e = let p : big 6 (big_bytes 6 m ++ ys) ≡ m = cc in rw (← p) (big_below 6 m ys)
client_needed (Udp a p) ys e =
    let r = le_bytes 2 p ++ (0 ∷ []) ++ ys in
    let q : big 4 (big_bytes 4 a ++ r) ≡ a = cc in
    let o : le (le_bytes 2 p) ≡ p = cc in
    (rw (← q) (big_below 4 a r), le_below 2 p p o)

deadline_needed : (d : Option ℕ) (n : ℕ) → n ≡ le (le_bytes 8 (deadline_time d)) → pick (eqb (deadline_flag d) 1) (Some n) None ≡ d → FitsDeadline d
unfolding pick
deadline_needed None n f e = tt
deadline_needed (Some m) n f e = let p : n ≡ m = cc in le_below 8 m m (sym f ∙ p)

module _ (p0 p1 p2 p3 p4 p5 p6 p7 p8 p9 p10 p11 : ℕ) where
  abbrev first : ℕ → List ℕ → List ℕ
  first n xs = behind p0 p1 p2 p3 p4 p5 p6 p7 p8 p9 p10 p11 n xs

  transfer_needed : (n : ℕ) (t : SdoTransferState) (ys : List ℕ) → transfer_of (first n (transfer_bytes t ++ ys)) ≡ t → FitsTransfer t
  unfolding transfer_of transfer_bytes le_bytes
  transfer_needed n t ys e = record {
    total = le_below 4 t.total t.total (ap (λ (x : SdoTransferState). x.total) e);
    offset = le_below 4 t.offset t.offset (ap (λ (x : SdoTransferState). x.offset) e);
    index = le_below 2 t.index t.index (ap (λ (x : SdoTransferState). x.index) e);
    deadline = deadline_needed t.deadline (le (le_bytes 8 (deadline_time t.deadline))) refl (ap (λ (x : SdoTransferState). x.deadline) e);
    retries = le_below 4 t.retries t.retries (ap (λ (x : SdoTransferState). x.retries) e);
  }

  state_needed : (s : SdoServerState) (ys : List ℕ) → state_of (first (state_number s) (state_bytes s ++ ys)) ≡ s → FitsState s
  unfolding state_of state_bytes pick
  state_needed Closed ys e = tt
  state_needed Opening ys e = tt
  state_needed Established ys e = tt
  state_needed (SegmentedUpload t) ys e = transfer_needed 3 t ys (let p : transfer_of (first 3 (transfer_bytes t ++ ys)) ≡ t = cc in p)
  state_needed (SegmentedDownload t) ys e = transfer_needed 4 t ys (let p : transfer_of (first 4 (transfer_bytes t ++ ys)) ≡ t = cc in p)

record_needed : (c : Connection) → record_of (record_bytes c) ≡ c → FitsRecord c
unfolding record_of record_bytes
record_needed c e = (
  client_needed c.client (X c ++ (S c ++ Z c)) (ap client_of (sym (joined c)) ∙ ap (λ (x : Connection). x.client) e),
  client_eight c.client (λ k. state_of (flag c.used ∷ (k ++ X c ++ S c ++ Z c)) ≡ c.state → FitsState c.state) (λ p1 p2 p3 p4 p5 p6 p7 p8 f. state_needed (flag c.used) p1 p2 p3 p4 p5 p6 p7 p8 c.area c.send c.receive c.state (Z c) f) (ap (λ (x : Connection). x.state) e),
)

all_needed : (t : List Connection) → map record_of (map record_bytes t) ≡ t → FitsTable t
all_needed [] e = tt
all_needed (c ∷ t) e =
    let p : record_of (record_bytes c) ≡ c = cc in
    let q : map record_of (map record_bytes t) ≡ t = cc in
    (record_needed c p, all_needed t q)

pub fits_needed : (t : List Connection) → length t ≡ 8 → table_of (table_bytes t) ≡ t → FitsTable t
unfolding table_of
fits_needed t l e = all_needed t (rw (← table_rows t l) e)
