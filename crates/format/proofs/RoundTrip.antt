-- What is written reads back, and bytes that are written are a table.
use Prim.Native.Nat.{ℕ, zero, suc, ◌+◌, ◌/◌, ◌%◌, ◌^◌, ◌<◌}
use native.Mathlib.Omega.{arith}
use native.Mathlib.Nat.{pow-succ'}
use mathlib.Core.Path.{◌≡◌, refl, ap, ◌∙◌}
use mathlib.Core.Bool.{Bool, true, false, ◌&&◌, ◌||◌}
use mathlib.Core.List.{List, [], ◌∷◌, ◌++◌, append_assoc, map}
use lib.ListN.{length, get_or, take, drop, length-append}
use lib.Dec.{ltb, eqb, lit<}
use borrow.Author.Tests.{eq-eqb}
use lib.Seq.{get_or_at, take_at, drop_at}
use Rattle.picks.specs.Pick.{pick, every}
use Rattle.picks.proofs.Keep.{both}
use Rattle.octets.specs.Octets.{le_bytes}
use Rattle.octets.proofs.Little.{le_le_bytes_below}
use Rattle.protocol.specs.declared.SdoClientInfo.{SdoClientInfo}
use Rattle.protocol.specs.declared.SdoClientInfo.TheVariants.{Asnd, Udp}
use Rattle.std.specs.Prelude.{Option, None, Some}
use Rattle.protocol.specs.declared.SdoTransferState.{SdoTransferState}
use Rattle.protocol.specs.declared.SdoServerState.{SdoServerState}
use Rattle.protocol.specs.declared.SdoServerState.TheVariants.{Closed, Opening, Established, SegmentedDownload, SegmentedUpload}
use Rattle.protocol.specs.declared.Connection.{Connection}
use Rattle.format.specs.Format.{byte_at, number_at, flag, big, big_bytes, client_bytes, client_of, is_client, state_number, deadline_flag, deadline_time, transfer_bytes, state_bytes, record_bytes, transfer_of, state_of, record_of, is_record, table_bytes, rows, table_of, is_table}
use Rattle.format.specs.Fits.{FitsClient, FitsDeadline, FitsTransfer, FitsState, FitsRecord, FitsTable}
use Rattle.format.proofs.Writing.{length_record, length_table}

-- a number with its first byte the most significant
pub length_big : (n v : ℕ) → length (big_bytes n v) ≡ n
unfolding big_bytes
length_big zero v = refl
length_big (suc n) v = rw (length-append (big_bytes n (v / 256)) (v % 256 ∷ []), length_big n (v / 256)) (omega arith)

pub big_big_bytes : (n v : ℕ) (ys : List ℕ) → v < 256 ^ n → big n (big_bytes n v ++ ys) ≡ v
unfolding big big_bytes
big_big_bytes zero v ys h = omega arith
big_big_bytes (suc n) v ys h =
    let q = big_bytes n (v / 256) in
    let w : v / 256 < 256 ^ n = omega (arith, h, pow-succ' 256 n) in
    rw (append_assoc q (v % 256 ∷ []) ys, big_big_bytes n (v / 256) (v % 256 ∷ ys) w, get_or_at q (v % 256) ys 0 n (length_big n (v / 256))) (omega arith)

-- a client, with anything behind it
port_back : (a p : ℕ) (ys : List ℕ) → p < 256 ^ 2 → number_at 2 5 (client_bytes (Udp a p) ++ ys) ≡ p
unfolding client_bytes big_bytes le_bytes
port_back a p ys h = le_le_bytes_below 2 p h

ip_back : (a : ℕ) (xs zs ys : List ℕ) → a < 256 ^ 4 → big 4 (big_bytes 4 a ++ xs ++ zs ++ ys) ≡ a
ip_back a xs zs ys h = rw (append_assoc (big_bytes 4 a ++ xs) zs ys, append_assoc (big_bytes 4 a) xs (zs ++ ys)) (big_big_bytes 4 a (xs ++ (zs ++ ys)) h)

pub client_back : (k : SdoClientInfo) (ys : List ℕ) → FitsClient k → client_of (client_bytes k ++ ys) ≡ k
unfolding client_of client_bytes pick
client_back (Asnd n m) ys h = rw (big_big_bytes 6 m ys h)
client_back (Udp a p) ys h = rw (ip_back a (le_bytes 2 p) (0 ∷ []) ys h.0) (ap (λ q. Udp a q) (port_back a p ys h.1))

-- a flag, and a deadline
flag_back : (b : Bool) → eqb (flag b) 1 ≡ b
flag_back false = refl
flag_back true = refl

deadline_back : (d : Option ℕ) (n : ℕ) → n ≡ deadline_time d → pick (eqb (deadline_flag d) 1) (Some n) None ≡ d
unfolding pick
deadline_back None n e = refl
deadline_back (Some m) n e = ap Some e

time_fits : (d : Option ℕ) → FitsDeadline d → deadline_time d < 256 ^ 8
time_fits None h = lit< tt
time_fits (Some n) h = h

-- the tests of a record's flags and state
flag_small : (b : Bool) → ltb (flag b) 2 ≡ true
flag_small false = refl
flag_small true = refl

deadline_small : (d : Option ℕ) → ltb (deadline_flag d) 2 ≡ true
deadline_small None = refl
deadline_small (Some n) = refl

abbrev flags_in : List ℕ → Bool
flags_in s = ltb (byte_at 25 s) 2 && ltb (byte_at 38 s) 2

abbrev state_in : List ℕ → Bool
state_in s = ltb (byte_at 12 s) 3 || (ltb (byte_at 12 s) 5 && flags_in s)

-- records with the same fields
abbrev transfer_with : ℕ → ℕ → ℕ → ℕ → ℕ → Option ℕ → ℕ → Bool → SdoTransferState
transfer_with a b c d e f g h = record { transaction = a; total = b; offset = c; index = d; sub = e; deadline = f; retries = g; stored = h }

same_transfer : (a b c d e : ℕ) (f : Option ℕ) (g : ℕ) (h : Bool) (t : SdoTransferState) → a ≡ t.transaction → b ≡ t.total → c ≡ t.offset → d ≡ t.index → e ≡ t.sub → f ≡ t.deadline → g ≡ t.retries → h ≡ t.stored → transfer_with a b c d e f g h ≡ t
same_transfer a b c d e f g h t e1 e2 e3 e4 e5 e6 e7 e8 = rw (e1, e2, e3, e4, e5, e6, e7, e8)

abbrev record_with : Bool → SdoClientInfo → ℕ → ℕ → ℕ → SdoServerState → Connection
record_with u k a s r q = record { used = u; client = k; area = a; send = s; receive = r; state = q }

same_record : (u : Bool) (k : SdoClientInfo) (a s r : ℕ) (q : SdoServerState) (c : Connection) → u ≡ c.used → k ≡ c.client → a ≡ c.area → s ≡ c.send → r ≡ c.receive → q ≡ c.state → record_with u k a s r q ≡ c
same_record u k a s r q c e1 e2 e3 e4 e5 e6 = rw (e1, e2, e3, e4, e5, e6)

-- a transfer and a state behind the first bytes of a record
module _ (p0 p1 p2 p3 p4 p5 p6 p7 p8 p9 p10 p11 : ℕ) where
  abbrev pub behind : ℕ → List ℕ → List ℕ
  behind n xs = p0 ∷ p1 ∷ p2 ∷ p3 ∷ p4 ∷ p5 ∷ p6 ∷ p7 ∷ p8 ∷ p9 ∷ p10 ∷ p11 ∷ n ∷ xs

  transfer_back : (n : ℕ) (t : SdoTransferState) (ys : List ℕ) → FitsTransfer t → transfer_of (behind n (transfer_bytes t ++ ys)) ≡ t
  unfolding transfer_of transfer_bytes le_bytes
  transfer_back n t ys h =
      same_transfer _ _ _ _ _ _ _ _ t refl
      (le_le_bytes_below 4 t.total h.total)
      (le_le_bytes_below 4 t.offset h.offset)
      (le_le_bytes_below 2 t.index h.index)
      refl
      (deadline_back t.deadline _ (le_le_bytes_below 8 (deadline_time t.deadline) (time_fits t.deadline h.deadline)))
      (le_le_bytes_below 4 t.retries h.retries)
      (flag_back t.stored)

  state_back : (s : SdoServerState) (ys : List ℕ) → FitsState s → state_of (behind (state_number s) (state_bytes s ++ ys)) ≡ s
  unfolding state_of state_bytes pick
  state_back Closed ys h = refl
  state_back Opening ys h = refl
  state_back Established ys h = refl
  state_back (SegmentedUpload t) ys h = ap SegmentedUpload (transfer_back 3 t ys h)
  state_back (SegmentedDownload t) ys h = ap SegmentedDownload (transfer_back 4 t ys h)

  transfer_flags : (n : ℕ) (t : SdoTransferState) (ys : List ℕ) → flags_in (behind n (transfer_bytes t ++ ys)) ≡ true
  unfolding transfer_bytes le_bytes
  transfer_flags n t ys = both (deadline_small t.deadline) (flag_small t.stored)

  state_small : (s : SdoServerState) (ys : List ℕ) → state_in (behind (state_number s) (state_bytes s ++ ys)) ≡ true
  unfolding state_bytes
  state_small Closed ys = refl
  state_small Opening ys = refl
  state_small Established ys = refl
  state_small (SegmentedUpload t) ys = transfer_flags 3 t ys
  state_small (SegmentedDownload t) ys = transfer_flags 4 t ys

-- a client's bytes are eight, and the first is its kind
pub client_eight : (k : SdoClientInfo) (P : List ℕ → Type 0) → ((a b c d e f g h : ℕ) → P (a ∷ b ∷ c ∷ d ∷ e ∷ f ∷ g ∷ h ∷ [])) → P (client_bytes k)
unfolding client_bytes big_bytes le_bytes
client_eight (Asnd n m) P f = f _ _ _ _ _ _ _ _
client_eight (Udp a p) P f = f _ _ _ _ _ _ _ _

pub client_kind : (k : SdoClientInfo) (ys : List ℕ) → is_client (client_bytes k ++ ys) ≡ true
unfolding client_bytes
client_kind (Asnd n m) ys = refl
client_kind (Udp a p) ys = refl

-- a record
module _ (c : Connection) where
  abbrev pub X : List ℕ
  X = c.area ∷ c.send ∷ c.receive ∷ state_number c.state ∷ []

  abbrev pub Z : List ℕ
  Z = 0 ∷ []

  abbrev pub S : List ℕ
  S = state_bytes c.state

  abbrev pub K : List ℕ
  K = client_bytes c.client

  pub joined : K ++ X ++ S ++ Z ≡ K ++ (X ++ (S ++ Z))
  joined = append_assoc (K ++ X) S Z ∙ append_assoc K X (S ++ Z)

  pub record_back : FitsRecord c → record_of (record_bytes c) ≡ c
  unfolding record_of record_bytes
  record_back h =
      same_record _ _ _ _ _ _ c (flag_back c.used) (ap client_of joined ∙ client_back c.client (X ++ (S ++ Z)) h.0)
      (client_eight c.client (λ k. get_or (k ++ X ++ S ++ Z) 8 0 ≡ c.area) (λ p1 p2 p3 p4 p5 p6 p7 p8. refl))
      (client_eight c.client (λ k. get_or (k ++ X ++ S ++ Z) 9 0 ≡ c.send) (λ p1 p2 p3 p4 p5 p6 p7 p8. refl))
      (client_eight c.client (λ k. get_or (k ++ X ++ S ++ Z) 10 0 ≡ c.receive) (λ p1 p2 p3 p4 p5 p6 p7 p8. refl))
      (client_eight c.client (λ k. state_of (flag c.used ∷ (k ++ X ++ S ++ Z)) ≡ c.state) (λ p1 p2 p3 p4 p5 p6 p7 p8. state_back (flag c.used) p1 p2 p3 p4 p5 p6 p7 p8 c.area c.send c.receive c.state Z h.1))

  pub record_is : is_record (record_bytes c) ≡ true
  unfolding is_record record_bytes
  record_is =
      both (both (flag_small c.used) (ap is_client joined ∙ client_kind c.client (X ++ (S ++ Z))))
      (client_eight c.client (λ k. state_in (flag c.used ∷ (k ++ X ++ S ++ Z)) ≡ true) (λ p1 p2 p3 p4 p5 p6 p7 p8. state_small (flag c.used) p1 p2 p3 p4 p5 p6 p7 p8 c.area c.send c.receive c.state Z))

-- a table's rows are its records' bytes
rows_of : (p : List ℕ) (at : ℕ) (t : List Connection) → length p ≡ at → rows (length t) at (p ++ table_bytes t) ≡ map record_bytes t
unfolding rows table_bytes
rows_of p at [] e = refl
rows_of p at (c ∷ t) e =
    let r = record_bytes c in
    let q = table_bytes t in
    let f : take 40 (drop at (p ++ (r ++ q))) ≡ r = rw (drop_at p (r ++ q) at e) (take_at r q 40 (length_record c)) in
    let g : length (p ++ r) ≡ at + 40 = rw (length-append p r, length_record c, e) in
    rw (f, ← append_assoc p r q, rows_of (p ++ r) (at + 40) t g)

pub table_rows : (t : List Connection) → length t ≡ 8 → rows 8 0 (table_bytes t) ≡ map record_bytes t
table_rows t e = rw e at (rows_of [] 0 t refl)

all_back : (t : List Connection) → FitsTable t → map record_of (map record_bytes t) ≡ t
all_back [] h = refl
all_back (c ∷ t) h = rw (record_back c h.0, all_back t h.1)

all_are : (t : List Connection) → every is_record (map record_bytes t) ≡ true
unfolding every
all_are [] = refl
all_are (c ∷ t) = both (record_is c) (all_are t)

-- a table of eight records whose numbers fit reads back
pub table_back : (t : List Connection) → length t ≡ 8 → FitsTable t → table_of (table_bytes t) ≡ t
unfolding table_of
table_back t e h = rw (table_rows t e) (all_back t h)

-- the bytes of eight records are a table, whatever their numbers
pub table_is : (t : List Connection) → length t ≡ 8 → is_table (table_bytes t) ≡ true
unfolding is_table
table_is t e = both (eq-eqb (length (table_bytes t)) 320 (rw (length_table t, e))) (rw (table_rows t e) (all_are t))
