-- Demand 3 about the calls that C makes: what a series of them sends is what a series of the definitions' calls sends, so `every_upload_spells` speaks of it.
use Prim.Native.Nat.{ℕ, ◌<◌}
use native.Mathlib.Omega.{arith}
use mathlib.Core.Path.{◌≡◌, refl, sym, ap, ◌∙◌, subst}
use mathlib.Core.Bool.{true, ◌&&◌, not}
use mathlib.Core.List.{List, [], ◌∷◌, ◌++◌, map}
use mathlib.Core.Option.{Option, none}
use lib.ListN.{length, get_or, take}
use lib.Dec.{ltb, eqb, lit<}
use borrow.Author.Tests.{eq-eqb, ne_eqb}
use Rattle.picks.specs.Pick.{pick}
use Rattle.picks.proofs.Picks.{pick_elim}
use Rattle.octets.specs.Octets.{le_bytes, splice}
use Rattle.octets.proofs.Bytes.{bytes_le_bytes}
use Rattle.protocol.specs.declared.Refusal.{Refusal}
use Rattle.protocol.specs.declared.Refusal.TheVariants as N
use Rattle.protocol.specs.declared.SdoClientInfo.{SdoClientInfo}
use Rattle.protocol.specs.declared.Connection.{Connection}
use Rattle.protocol.specs.Coding.{Answer, refused, value, refusal_number}
use Rattle.protocol.specs.DictionaryImage.{sound_image}
use Rattle.protocol.specs.ConnectionRecord.{Reply, Served}
use Rattle.protocol.specs.ConnectionTable.{fresh, empty_table, chosen, Ticking, idle, ticks}
use Rattle.protocol.specs.Calls.{To, Called, Verdict, refuse, accept, verdict, lent_wrong, frame}
use Rattle.protocol.specs.Request.{request_tests, answer_with, request_served, accepted, on_verdict, request_of}
use Rattle.protocol.specs.Tick as T
use Rattle.protocol.specs.Tick.{Told, tick_tests, tick_told, on_tick_verdict, tick_of}
use Rattle.protocol.specs.Series as S
use Rattle.protocol.specs.Series.{Call, Server, Sent, Done, start, held_by, sent_to, sent_tick, request_done, tick_done, step, run}
use Rattle.protocol.specs.EveryUpload.{AllDecode, AllSpell, frames_of}
use Rattle.protocol.proofs.ConnectionTable.{empty_sound}
use Rattle.protocol.proofs.Requests.{accepted_by}
use Rattle.protocol.proofs.StaysSound.{accepted_numbers}
use Rattle.protocol.proofs.Series.{every_upload_spells}
use Rattle.format.specs.Format.{client_of, is_client, table_bytes}
use Rattle.format.proofs.Writing.{length_table}
use Rattle.format.proofs.RoundTrip.{table_back, table_is}
use Rattle.outcomes.specs.Outcomes.{only, answers_to, request_answer, tick_answer, no_table, row_of, table_left}
use Rattle.export.specs.Exported.{Left, left_by, request_bytes, tick_bytes}
use Rattle.export.specs.BytesSeries.{Turn, requested, ticked, queried, Kept, start_bytes, Contract, LentBytes, next_of, Ran, sent_as, sent_by, sent_all}
use Rattle.export.proofs.Refusals.{late_left, no_table_number, request_no_table}
use Rattle.export.proofs.ReadBack.{NamedClient, client_named, all_at, all_fresh, row_fits, Written, request_written, tick_written}

-- the call that a turn stands for: a request whose number is no client is refused and leaves all, as a query does
abbrev pub call_of : Turn → Call
call_of (requested client clock bytes image answer r table' area' image' answer') = pick (is_client (le_bytes 8 client)) (S.request (client_of (le_bytes 8 client)) clock bytes image answer) S.query
call_of (ticked clock image answer r table' answer') = S.tick clock image answer
call_of (queried r) = S.query

-- a server's records and area as the caller keeps them
abbrev pub kept_of : Server → Kept
kept_of s = record { table = table_bytes s.table; area = s.area }

-- what a call left and sent is what the definitions' call did
abbrev Does : Kept → List Sent → Done → Type 0
Does k sent d = (k ≡ kept_of d.server) × (sent ≡ d.sent)

abbrev LeftDoes : Option (List ℕ) → Left → Done → Type 0
LeftDoes held x d = Does (record { table = x.table; area = x.area }) (sent_as x.returned x.answer held) d

-- and the records that it left fit their bytes
record Follows (k : Kept) (sent : List Sent) (d : Done) : Type 0 where
  does : Does k sent d
  written : Written d.server.table

-- what is sent: nothing at a number that is not 0, and an answer as the definitions send it
sent_none : (n : ℕ) (answer : List ℕ) (held : Option (List ℕ)) → 0 < n → sent_as (only n) answer held ≡ []
unfolding pick
sent_none n answer held h = rw (ne_eqb n 0 (λ e. omega arith))

sent_one : (to : To) (answer : List ℕ) (held : Option (List ℕ)) → NamedClient to.client → sent_as (answers_to to) answer held ≡ record { client = to.client; bytes = take to.size answer; held = held } ∷ []
unfolding pick
sent_one to answer held n = rw n.1

refusal_positive : (x : Refusal) → 0 < refusal_number x
refusal_positive N.Lent = lit< tt
refusal_positive N.Image = lit< tt
refusal_positive N.Table = lit< tt
refusal_positive N.Clock = lit< tt
refusal_positive N.Short = lit< tt
refusal_positive N.Long = lit< tt
refusal_positive N.Full = lit< tt
refusal_positive N.Sequence = lit< tt
refusal_positive N.EmptyCommand = lit< tt

no_table_positive : (image answer area : List ℕ) → 0 < no_table_number image answer area
no_table_positive image answer area =
    pick_elim (λ n. 0 < n) (lent_wrong no_table area answer) _ _ (λ e. lit< tt) (λ e. pick_elim (λ n. 0 < n) (not (sound_image image)) _ _ (λ f. lit< tt) (λ f. lit< tt))

-- where the records are left, so are their bytes, whether they are stored or not
row_left : (n : ℕ) (row : List Connection) → table_left n row (table_bytes row) ≡ table_bytes row
unfolding table_left
row_left n row = pick_elim (λ b. b ≡ table_bytes row) (ltb 0 n && ltb n 8) _ _ (λ e. refl) (λ e. refl)

-- the bytes of a row stand for the row
row_back : (row : List Connection) → Written row → row_of true (table_bytes row) ≡ row
unfolding row_of pick
row_back row w = rw (table_is row w.long) (table_back row w.long w.fits)

row_long : (row : List Connection) → Written row → eqb (length (table_bytes row)) 320 ≡ true
row_long row w = eq-eqb (length (table_bytes row)) 320 (rw (length_table row, w.long))

kept_table : {a b : List ℕ} (area : List ℕ) → a ≡ b → ◌≡◌ {A = Kept} (record { table = a; area = area }) (record { table = b; area = area })
kept_table area e = rw e

-- a request
module _ (client : SdoClientInfo) (clock : ℕ) (bytes image answer : List ℕ) (row : List Connection) (area : List ℕ) (n : NamedClient client) where
  abbrev held : Option (List ℕ)
  held = held_by bytes image

  abbrev RequestDoes : Called To → Type 0
  RequestDoes c = LeftDoes held (left_by request_answer (table_bytes row) c) (request_done held c)

  answer_does : (t : List Connection) (area' : List ℕ) (s : Served) (x : Answer Reply) → ((m : ℕ) → (answer_with client clock bytes image answer row area t area' s x).returned ≡ refused m → 7 < m) → RequestDoes (answer_with client clock bytes image answer row area t area' s x)
  unfolding answer_with sent_to table_left pick
  answer_does t area' s (refused m) late =
      let h = late m refl in
      (kept_table area' (sym (late_left m t (table_bytes row) h)), sent_none m answer held (omega arith))
  answer_does t area' s (value y) late = (refl, sent_one (record { client = client; size = length (frame y) }) (splice 0 (frame y) answer) held n)

  request_does : RequestDoes (request_of client clock bytes image answer row area)
  unfolding request_of on_verdict sent_to accepted request_served
  request_does = by_verdict (verdict (request_tests client clock bytes image answer row area)) refl
    where
      by_verdict : (v : Verdict) → verdict (request_tests client clock bytes image answer row area) ≡ v → RequestDoes (on_verdict client clock bytes image answer row area v)
      by_verdict (refuse x) e = (kept_table area (row_left (refusal_number x) row), sent_none (refusal_number x) answer held (refusal_positive x))
      by_verdict accept e = answer_does _ _ _ _ (λ m f. (accepted_numbers client clock bytes image answer row area (accepted_by client clock bytes image answer row area e) m f).0)

-- a tick
module _ (clock : ℕ) (image answer : List ℕ) (row : List Connection) (area : List ℕ) (w : Written row) where
  abbrev TickDoes : Called Told → Type 0
  TickDoes c = LeftDoes none (left_by tick_answer (table_bytes row) c) (tick_done c)

  told_does : (i : ℕ) (x : Ticking) → TickDoes (tick_told clock image answer row area i (get_or row i (fresh 0)) x)
  unfolding tick_told sent_tick table_left pick
  told_does i idle = (refl, refl)
  told_does i (ticks r' y) = (refl, sent_one (record { client = (get_or row i (fresh 0)).client; size = length (frame y) }) (splice 0 (frame y) answer) none (all_at row i w.narrow).0)

  tick_does : TickDoes (tick_of clock image answer row area)
  unfolding tick_of on_tick_verdict sent_tick T.ticked
  tick_does = by_verdict (verdict (tick_tests clock image answer row area))
    where
      by_verdict : (v : Verdict) → TickDoes (on_tick_verdict clock image answer row area v)
      by_verdict (refuse x) = (kept_table area (row_left (refusal_number x) row), sent_none (refusal_number x) answer none (refusal_positive x))
      by_verdict accept = told_does (chosen row clock) _

-- the calls on the bytes of a row
module _ (row : List Connection) (w : Written row) (clock : ℕ) (image answer area : List ℕ) where
  request_on_lem : (client : ℕ) (bytes : List ℕ) → is_client (le_bytes 8 client) ≡ true → request_bytes client clock bytes image answer (table_bytes row) area ≡ left_by request_answer (table_bytes row) (request_of (client_of (le_bytes 8 client)) clock bytes image answer row area)
  unfolding request_bytes pick
  request_on_lem client bytes e = rw (row_long row w, e, row_back row w)

  tick_on_lem : tick_bytes clock image answer (table_bytes row) area ≡ left_by tick_answer (table_bytes row) (tick_of clock image answer row area)
  unfolding tick_bytes pick
  tick_on_lem = rw (row_long row w, row_back row w)

-- a turn that keeps its contract does what its call does
turn_follows : (s : Server) (t : Turn) → Written s.table → LentBytes t → Contract (kept_of s) t → Follows (next_of (kept_of s) t) (sent_by t) (step s (call_of t))
unfolding step
turn_follows s (requested client clock bytes image answer r table' area' image' answer') w b e =
    let k = le_bytes 8 client in
    let n = client_named k (bytes_le_bytes 8 client) in
    let held = held_by bytes image in
    let c = request_of (client_of k) clock bytes image answer s.table s.area in
    pick_elim (λ x. Follows (record { table = table'; area = area' }) (sent_as r answer' held) (step s x)) (is_client k) (S.request (client_of k) clock bytes image answer) S.query
    (λ y. record {
      does = subst (λ x. LeftDoes held x (request_done held c)) (sym (e ∙ request_on_lem s.table w clock image answer s.area client bytes y)) (request_does (client_of k) clock bytes image answer s.table s.area n);
      written = request_written (client_of k) clock bytes image answer s.table s.area n b.1 b.0 w;
    })
    (λ y.
    let l : length (table_bytes s.table) ≡ 320 = rw (length_table s.table, w.long) in
    let z = request_no_table clock image answer (table_bytes s.table) s.area client bytes l (rw y) in
    record { does = subst (λ x. LeftDoes held x (step s S.query)) (z ∙ sym e) (refl, sent_none (no_table_number image answer s.area) answer held (no_table_positive image answer s.area)); written = w })
turn_follows s (ticked clock image answer r table' answer') w b e = record {
  does = subst (λ x. LeftDoes none x (tick_done (tick_of clock image answer s.table s.area))) (sym (e ∙ tick_on_lem s.table w clock image answer s.area)) (tick_does clock image answer s.table s.area w);
  written = tick_written clock image answer s.table s.area b w;
}
turn_follows s (queried r) w b e = record { does = (refl, refl); written = w }

-- the series of the bytes' calls is the definitions'
pub bytes_run : (ts : List Turn) (s : Server) (log : List Sent) → Written s.table → Ran (kept_of s) ts → run s (map call_of ts) log ≡ sent_all ts log
unfolding run
bytes_run [] s log w ran = refl
bytes_run (t ∷ ts) s log w ran =
    let d = step s (call_of t) in
    let f = turn_follows s t w ran.0 ran.1 in
    bytes_run ts d.server (d.sent ++ log) f.written (subst (λ k. Ran k ts) f.does.0 ran.2) ∙ ap (λ sent. sent_all ts (sent ++ log)) (sym f.does.1)

empty_written : Written empty_table
unfolding empty_table
empty_written = let h = all_fresh empty_table in record { long = refl; fits = row_fits empty_table empty_sound h; narrow = h }

-- every answer that the three calls for C sent decodes, and every client's finished uploads spell the value held when they began
pub bytes_spell : (ts : List Turn) (area : List ℕ) → Ran (start_bytes area) ts → AllDecode (sent_all ts []) × ((c : SdoClientInfo) → AllSpell (frames_of c (sent_all ts [])))
bytes_spell ts area ran =
    let claim = every_upload_spells (map call_of ts) area in
    subst (λ sent. AllDecode sent × ((c : SdoClientInfo) → AllSpell (frames_of c sent))) (bytes_run ts (start area) [] empty_written ran) (claim.decodes, claim.spells)
