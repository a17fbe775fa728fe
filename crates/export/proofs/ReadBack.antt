-- After a call that leaves records, the table's bytes are a table, and read back as the table that the call on records left.
use Prim.Native.Nat.{ℕ, zero, suc, ◌+◌, ◌≤◌, ◌<◌, ◌^◌, max}
use Prim.{Unit}
use native.Mathlib.Omega.{arith}
use mathlib.Core.Path.{◌≡◌, refl, ◌∙◌}
use mathlib.Core.Bool.{Bool, true, false, ◌&&◌, not}
use mathlib.Core.List.{List, [], ◌∷◌, ◌++◌, map, tail}
use lib.ListN.{length, get_or, set, take, drop, replicate, length-set}
use lib.Dec.{ltb, leb, eqb, lit<}
use borrow.Author.Tests.{leb-true}
use Rattle.picks.specs.Pick.{pick, keep, every}
use Rattle.picks.proofs.Picks.{pick_elim, pick_f}
use Rattle.picks.proofs.Keep.{left, right, of_every, not_both}
use Rattle.octets.specs.Octets.{AllBytes, le, le_bytes}
use Rattle.octets.proofs.Bytes.{bytes_drop, bytes_take, bytes_le_bytes}
use Rattle.protocol.specs.declared.SdoClientInfo.{SdoClientInfo}
use Rattle.protocol.specs.declared.SdoTransferState.{SdoTransferState}
use Rattle.protocol.specs.declared.SdoServerState.{SdoServerState}
use Rattle.protocol.specs.declared.SdoServerState.TheVariants.{Closed, Opening, Established, SegmentedDownload, SegmentedUpload}
use Rattle.protocol.specs.declared.Connection.{Connection}
use Rattle.protocol.specs.Constants.{SHARE, FIRST_MAX, REQUEST_MAX, RECORDS}
use Rattle.protocol.specs.Coding.{Answer, refused, value}
use Rattle.protocol.specs.ConnectionRecord.{Reply, Served}
use Rattle.protocol.specs.ConnectionTable.{fresh, before, is_known, holds, is_closed, used_of, unused_of, has_deadline, sound_download, sound_state, sound_record, sound_table, ordered, areas_once, place_of, joining, insert, join, release, update, Ticking, idle, ticks, tick_record}
use Rattle.protocol.specs.Calls.{Verdict, refuse, accept, verdict}
use Rattle.protocol.specs.Request.{request_tests, answer_with, request_served, accepted, on_verdict, request_of}
use Rattle.protocol.specs.Tick.{tick_tests, tick_told, ticked, on_tick_verdict, tick_of}
use Rattle.protocol.proofs.ConnectionTable.{release_length}
use Rattle.protocol.proofs.RecordSound.{upload_sending}
use Rattle.protocol.proofs.Requests.{Accepted, accepted_by, seat, own, own_share, served, served_kept, stored, stored_long, laid}
use Rattle.protocol.proofs.Ticks.{TickAccepted, tick_accepted_by, place, due, due_share, due_there, due_kept}
use Rattle.protocol.proofs.StaysSound.{request_keeps_sound, tick_keeps_sound}
use Rattle.format.specs.Format.{big, client_bytes, client_of, is_client, state_of, record_of, rows, is_table, table_of, table_bytes}
use Rattle.format.specs.Fits.{FitsClient, FitsState, FitsTable}
use Rattle.format.proofs.RoundTrip.{table_back, table_is}
use Rattle.format.proofs.Ranges.{client_fits, table_fits, length_table_of}
use Rattle.outcomes.specs.Outcomes.{request_answer, tick_answer, no_table, row_of, table_left}
use Rattle.export.specs.Exported.{Left, request_through, request_bytes, tick_through, tick_bytes}
use Rattle.export.proofs.Through.{client_number_back}
use Rattle.export.proofs.Narrow.{NarrowState, serve_narrow, tick_narrow}

-- a client that fits its bytes and that its number names, as every client does that was read from bytes
abbrev pub NamedClient : SdoClientInfo → Type 0
NamedClient k = FitsClient k × (client_of (le_bytes 8 (le (client_bytes k))) ≡ k)

pub client_named : (s : List ℕ) → AllBytes s → NamedClient (client_of s)
client_named s b = (client_fits s b, client_number_back s b)

-- a record whose client and numbers are within their bytes, and every record of a row
abbrev pub NarrowRecord : Connection → Type 0
NarrowRecord c = NamedClient c.client × NarrowState c.state

abbrev pub All : List Connection → Type 0
All [] = Unit
All (c ∷ t) = NarrowRecord c × All t

fresh_narrow : (n : ℕ) → NarrowRecord (fresh n)
unfolding client_of big pick
fresh_narrow n = (client_named [] (λ i. lit< tt), tt)

all_append : (s t : List Connection) → All s → All t → All (s ++ t)
all_append [] t h g = g
all_append (c ∷ s) t h g = (h.0, all_append s t h.1 g)

all_keep : (f : Connection → Bool) (t : List Connection) → All t → All (keep f t)
unfolding keep
all_keep f [] h = tt
all_keep f (c ∷ t) h = pick_elim All (f c) (c ∷ keep f t) (keep f t) (λ e. (h.0, all_keep f t h.1)) (λ e. all_keep f t h.1)

all_tail : (t : List Connection) → All t → All (tail t)
all_tail [] h = tt
all_tail (c ∷ t) h = h.1

all_set : (t : List Connection) (i : ℕ) (c : Connection) → All t → NarrowRecord c → All (set t i c)
all_set [] i c h n = tt
all_set (x ∷ t) zero c h n = (n, h.1)
all_set (x ∷ t) (suc i) c h n = (h.0, all_set t i c h.1 n)

pub all_at : (t : List Connection) (i : ℕ) → All t → NarrowRecord (get_or t i (fresh 0))
all_at [] i h = fresh_narrow 0
all_at (x ∷ t) zero h = h.0
all_at (x ∷ t) (suc i) h = all_at t i h.1

all_insert : (c : Connection) (t : List Connection) → NarrowRecord c → All t → All (insert c t)
unfolding insert
all_insert c [] n h = (n, tt)
all_insert c (x ∷ t) n h =
    pick_elim All (before x.client c.client) (x ∷ insert c t) (c ∷ x ∷ t) (λ e. (h.0, all_insert c t n h.1)) (λ e. (n, h))

pub all_fresh : (t : List Connection) → All (map (λ r. fresh r.area) t)
all_fresh [] = tt
all_fresh (c ∷ t) = (fresh_narrow c.area, all_fresh t)

all_join : (k : SdoClientInfo) (t : List Connection) → NamedClient k → All t → All (join k t)
unfolding join
all_join k t f h =
    all_append (insert (joining k (get_or (unused_of t) 0 (fresh 0)).area) (used_of t)) (tail (unused_of t))
    (all_insert (joining k (get_or (unused_of t) 0 (fresh 0)).area) (used_of t) (f, tt) (all_keep _ t h))
    (all_tail (unused_of t) (all_keep _ t h))

all_release : (gone : Connection → Bool) (t : List Connection) → All t → All (release gone t)
unfolding release
all_release gone t h =
    all_append (keep (λ r. not (gone r)) (used_of t) ++ unused_of t) (map (λ r. fresh r.area) (keep gone (used_of t)))
    (all_append (keep (λ r. not (gone r)) (used_of t)) (unused_of t) (all_keep _ (used_of t) (all_keep _ t h)) (all_keep _ t h))
    (all_fresh (keep gone (used_of t)))

-- with soundness, all numbers fit
small_total : SHARE < 256 ^ 4
unfolding SHARE
small_total = lit< tt

small_first : FIRST_MAX < 256 ^ 4
unfolding FIRST_MAX REQUEST_MAX
small_first = lit< tt

download_bounds : (t : SdoTransferState) → sound_download t ≡ true → (t.total ≤ SHARE) × (t.offset ≤ max t.total FIRST_MAX)
unfolding sound_download
download_bounds t e =
    let a = left (leb 1 t.total && leb t.total SHARE && leb t.offset (max t.total FIRST_MAX)) (has_deadline t.deadline) e in
    (leb-true _ _ (right (leb 1 t.total) (leb t.total SHARE) (left _ (leb t.offset (max t.total FIRST_MAX)) a)), leb-true _ _ (right (leb 1 t.total && leb t.total SHARE) _ a))

state_fits : (s : SdoServerState) → sound_state s ≡ true → NarrowState s → FitsState s
state_fits Closed e n = tt
state_fits Opening e n = tt
state_fits Established e n = tt
state_fits (SegmentedDownload t) e n =
    let d = download_bounds t e in
    record { total = omega (arith, d.0, small_total); offset = omega (arith, d.0, d.1, small_total, small_first); index = n.0; deadline = n.1; retries = n.2 }
state_fits (SegmentedUpload t) e n =
    let d = upload_sending t e in
    record { total = omega (arith, d.fits, small_total); offset = omega (arith, d.fits, d.left, small_total); index = n.0; deadline = n.1; retries = n.2 }

records_fit : (t : List Connection) → every sound_record t ≡ true → All t → FitsTable t
unfolding sound_record
records_fit [] e h = tt
records_fit (c ∷ t) e h =
    let p = of_every sound_record c t e in
    ((h.0.0.0, state_fits c.state (right (leb c.send 63 && leb c.receive 63) (sound_state c.state) p.0) h.0.1), records_fit t p.1 h.1)

pub row_fits : (t : List Connection) → sound_table t ≡ true → All t → FitsTable t
unfolding sound_table
row_fits t e h = records_fit t (right (ordered t && areas_once t) (every sound_record t) e) h

state_narrow : (s : SdoServerState) → FitsState s → NarrowState s
state_narrow Closed h = tt
state_narrow Opening h = tt
state_narrow Established h = tt
state_narrow (SegmentedDownload t) h = (h.index, h.deadline, h.retries)
state_narrow (SegmentedUpload t) h = (h.index, h.deadline, h.retries)

rows_narrow : (n at : ℕ) (s : List ℕ) → AllBytes s → FitsTable (map record_of (rows n at s)) → All (map record_of (rows n at s))
unfolding rows record_of
rows_narrow zero at s b h = tt
rows_narrow (suc n) at s b h =
    let r = take 40 (drop at s) in
    ((client_named (drop 1 r) (bytes_drop 1 r (bytes_take 40 (drop at s) (bytes_drop at s b))), state_narrow (state_of r) h.0.1), rows_narrow n (at + 40) s b h.1)

table_narrow : (s : List ℕ) → AllBytes s → All (table_of s)
unfolding table_of
table_narrow s b = rows_narrow 8 0 s b (table_fits s b)

-- the row that is taken, and the row after a call: eight records that fit their bytes
pub record Written (t : List Connection) : Type 0 where
  pub long : length t ≡ 8
  pub fits : FitsTable t
  pub narrow : All t

fresh_fit : (n : ℕ) → FitsTable (replicate n (fresh 0))
fresh_fit zero = tt
fresh_fit (suc n) = ((lit< tt, tt), fresh_fit n)

row_written : (known : Bool) (table : List ℕ) → AllBytes table → Written (row_of known table)
unfolding row_of
row_written known table b = pick_elim Written (known && is_table table) (table_of table) no_table (λ e. record { long = length_table_of table; fits = table_fits table b; narrow = table_narrow table b }) (λ e. record { long = refl; fits = fresh_fit 8; narrow = all_fresh no_table })

module _ (client : SdoClientInfo) (clock : ℕ) (request image answer : List ℕ) (row : List Connection) (area : List ℕ) (nc : NamedClient client) (bi : AllBytes image) (br : AllBytes request) (w : Written row) where
  answer_long : (t : List Connection) (area' : List ℕ) (s : Served) (x : Answer Reply) → length t ≡ 8 → length (answer_with client clock request image answer row area t area' s x).table ≡ 8
  unfolding answer_with
  answer_long t area' s (refused n) e = e
  answer_long t area' s (value y) e = pick_elim (λ u. length u ≡ 8) (is_closed s.connection.state) (release (holds client) t) t (λ f. release_length (holds client) t ∙ e) (λ f. e)

  answer_all : (t : List Connection) (area' : List ℕ) (s : Served) (x : Answer Reply) → All t → All (answer_with client clock request image answer row area t area' s x).table
  unfolding answer_with
  answer_all t area' s (refused n) h = h
  answer_all t area' s (value y) h = pick_elim All (is_closed s.connection.state) (release (holds client) t) t (λ f. all_release (holds client) t h) (λ f. h)

  module _ (ok : Accepted client clock request image answer row area) where
    seat_all : All (seat client clock request image answer row area ok)
    seat_all = pick_elim All (is_known client row) row (join client row) (λ e. w.narrow) (λ e. all_join client row nc w.narrow)

    own_narrow : NarrowRecord (own client clock request image answer row area ok)
    own_narrow = all_at (seat client clock request image answer row area ok) (place_of client (seat client clock request image answer row area ok)) seat_all

    served_narrow : NarrowRecord (served client clock request image answer row area ok).connection
    served_narrow =
        let o = own client clock request image answer row area ok in
        (rw (served_kept client clock request image answer row area ok).client own_narrow.0, serve_narrow o (own_share client clock request image answer row area ok) image clock request own_narrow.1 bi br)

    stored_all : All (stored client clock request image answer row area ok)
    unfolding update
    stored_all = let t = seat client clock request image answer row area ok in all_set t (place_of client t) (served client clock request image answer row area ok).connection seat_all served_narrow

    accepted_long : length (accepted client clock request image answer row area).table ≡ 8
    unfolding accepted request_served RECORDS
    accepted_long =
        let s = served client clock request image answer row area ok in
        answer_long (stored client clock request image answer row area ok) (laid client clock request image answer row area ok) s s.said (stored_long client clock request image answer row area ok)

    accepted_all : All (accepted client clock request image answer row area).table
    unfolding accepted request_served
    accepted_all =
        let s = served client clock request image answer row area ok in
        answer_all (stored client clock request image answer row area ok) (laid client clock request image answer row area ok) s s.said stored_all

  pub request_written : Written (request_of client clock request image answer row area).table
  unfolding request_of on_verdict
  request_written = by_verdict (verdict (request_tests client clock request image answer row area)) refl
    where
      by_verdict : (v : Verdict) → verdict (request_tests client clock request image answer row area) ≡ v → Written (on_verdict client clock request image answer row area v).table
      by_verdict (refuse x) e = w
      by_verdict accept e =
          let ok = accepted_by client clock request image answer row area e in
          let s : sound_table (on_verdict client clock request image answer row area (verdict (request_tests client clock request image answer row area))).table ≡ true = request_keeps_sound client clock request image answer row area ok.table_sound in
          record { long = accepted_long ok; fits = row_fits (accepted client clock request image answer row area).table (rw e at s) (accepted_all ok); narrow = accepted_all ok }

module _ (clock : ℕ) (image answer : List ℕ) (row : List Connection) (area : List ℕ) (bi : AllBytes image) (w : Written row) where
  module _ (ok : TickAccepted clock image answer row area) where
    abbrev at : ℕ
    at = place clock image answer row area ok

    abbrev now : Connection
    now = due clock image answer row area ok

    abbrev share : List ℕ
    share = due_share clock image answer row area ok

    told_written_lem : (x : Ticking) → tick_record now share image clock ≡ x → (length (tick_told clock image answer row area at now x).table ≡ 8) × All (tick_told clock image answer row area at now x).table
    unfolding tick_told
    told_written_lem idle e = (release_length _ row ∙ w.long, all_release _ row w.narrow)
    told_written_lem (ticks r' reply) e =
        let inside = due_there clock image answer row area ok r' reply e in
        let k = ((due_kept clock image answer row area ok inside).kept r' reply e).0 in
        let q = all_at row at w.narrow in
        let m : NarrowState r'.state = rw e at (tick_narrow now share image clock q.1 bi) in
        (release_length _ (set row at r') ∙ length-set row at r' ∙ w.long, all_release _ (set row at r') (all_set row at r' w.narrow (rw k.client q.0, m)))

  pub tick_written : Written (tick_of clock image answer row area).table
  unfolding tick_of on_tick_verdict ticked
  tick_written = by_verdict (verdict (tick_tests clock image answer row area)) refl
    where
      by_verdict : (v : Verdict) → verdict (tick_tests clock image answer row area) ≡ v → Written (on_tick_verdict clock image answer row area v).table
      by_verdict (refuse x) e = w
      by_verdict accept e =
          let ok = tick_accepted_by clock image answer row area e in
          let s : sound_table (on_tick_verdict clock image answer row area (verdict (tick_tests clock image answer row area))).table ≡ true = tick_keeps_sound clock image answer row area ok.table_sound in
          let t = told_written_lem ok (tick_record (now ok) (share ok) image clock) refl in
          record { long = t.0; fits = row_fits (ticked clock image answer row area).table (rw e at s) t.1; narrow = t.1 }

-- an outcome that is none of 1 to 7 leaves the bytes of the table that the call on records left
abbrev pub ReadsBack : List Connection → Left → Type 0
ReadsBack t x = (ltb 0 x.returned.outcome && ltb x.returned.outcome 8) ≡ false → (is_table x.table ≡ true) × (table_of x.table ≡ t)

left_reads_back : (n : ℕ) (t : List Connection) (table : List ℕ) → Written t → (ltb 0 n && ltb n 8) ≡ false → (is_table (table_left n t table) ≡ true) × (table_of (table_left n t table) ≡ t)
unfolding table_left
left_reads_back n t table w e =
    let q : table_bytes t ≡ table_left n t table = pick_f (ltb 0 n && ltb n 8) (table_bytes t) table (table_bytes t) e refl in
    rw (← q) (table_is t w.long, table_back t w.long w.fits)

pub request_reads_back : (client clock : ℕ) (request image answer table area : List ℕ) → AllBytes table → AllBytes image → AllBytes request → ReadsBack (request_through client clock request image answer table area).table (request_bytes client clock request image answer table area)
unfolding request_bytes
request_reads_back client clock request image answer table area bt bi br =
    let k = le_bytes 8 client in
    let c = request_through client clock request image answer table area in
    let w = request_written (client_of k) clock request image answer (row_of (is_client k) table) area (client_named k (bytes_le_bytes 8 client)) bi br (row_written (is_client k) table bt) in
    pick_elim (ReadsBack c.table) (eqb (length table) 320) _ _ (λ e. left_reads_back (request_answer c.returned).outcome c.table table w) (λ e f. not_both refl f)

pub tick_reads_back : (clock : ℕ) (image answer table area : List ℕ) → AllBytes table → AllBytes image → ReadsBack (tick_through clock image answer table area).table (tick_bytes clock image answer table area)
unfolding tick_bytes
tick_reads_back clock image answer table area bt bi =
    let c = tick_through clock image answer table area in
    let w = tick_written clock image answer (row_of true table) area bi (row_written true table bt) in
    pick_elim (ReadsBack c.table) (eqb (length table) 320) _ _ (λ e. left_reads_back (tick_answer c.returned).outcome c.table table w) (λ e f. not_both refl f)
