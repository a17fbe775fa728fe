-- A call through the records' bytes is the call on the records.
use Prim.Native.Nat.{ℕ}
use mathlib.Core.Bool.{true, false, ◌&&◌}
use mathlib.Core.Path.{◌≡◌, sym, ap, ◌∙◌}
use mathlib.Core.List.{List, [], append-nil}
use lib.ListN.{length, replicate}
use borrow.Author.Tests.{eq-eqb}
use Rattle.picks.proofs.Picks.{pick_t}
use Rattle.octets.specs.Octets.{le, le_bytes, splice, AllBytes}
use Rattle.octets.proofs.Little.{length_le_bytes, le_bytes_le}
use Rattle.protocol.specs.declared.Connection.{Connection}
use Rattle.protocol.specs.declared.Answered.{Answered}
use Rattle.protocol.specs.declared.Called.{Called}
use Rattle.std.specs.Prelude.{Option, Ok}
use Rattle.protocol.specs.Coding.{Answer, refused}
use Rattle.protocol.specs.ConnectionTable.{sound_table, earliest}
use Rattle.protocol.specs.DeadlineQuery.{told_next_action, query_of}
use Rattle.server.proofs.Calls.{query_sound, query_unsound}
use Rattle.protocol.specs.Calls.{To}
use Rattle.protocol.specs.Request.{request_of}
use Rattle.protocol.specs.Tick.{told_ticked, told_ticked_row, tick_of}
use Rattle.format.specs.Format.{client_bytes, client_of, is_client, table_bytes, table_of, is_table}
use Rattle.format.proofs.Writing.{length_client, splice_whole}
use Rattle.format.proofs.RoundTrip.{client_back}
use Rattle.format.proofs.Ranges.{client_fits, bytes_client, length_table_of}
use Rattle.outcomes.specs.declared.SdoAnswer.{SdoAnswer}
use Rattle.outcomes.specs.Outcomes.{request_answer, tick_answer, query_answer, row_of, table_left}
use Rattle.export.specs.Exported.{left, left_by, request_bytes, tick_bytes, query_bytes}
use Rattle.server.specs.Tables.{left_in, kept_or_made}
use Rattle.outcomes.proofs.Rows.{eight_row, sound_row, row_is}
use Rattle.export.proofs.Testing.{left_of, kept_is}

-- a client's number laid as its eight bytes
pub client_laid : (client : ℕ) → splice 0 (le_bytes 8 client) (replicate 8 0) ≡ le_bytes 8 client
client_laid client = splice_whole (le_bytes 8 client) (replicate 8 0) (length_le_bytes 8 client)

-- the number of a client that was read from bytes names the same client
pub client_number_back : (s : List ℕ) → AllBytes s → client_of (le_bytes 8 (le (client_bytes (client_of s)))) ≡ client_of s
client_number_back s b =
    let k = client_of s in
    rw (le_bytes_le 8 (client_bytes k) (length_client k) (bytes_client s b), ← append-nil (client_bytes k)) (client_back k [] (client_fits s b))

-- a request on the table's bytes
pub request_through_lem : (client clock : ℕ) (request image answer table area who t t' area' image' answer' : List ℕ) (told : SdoAnswer) (r : Answer To) → length table ≡ 320 → who ≡ le_bytes 8 client → t ≡ table → told ≡ request_answer r → left_in r answer' t' area' image' ≡ kept_or_made table_bytes t (request_of (client_of who) clock request image answer (row_of (is_client who) t) area) → left told t' area' image' answer' ≡ request_bytes client clock request image answer table area
unfolding request_bytes
request_through_lem client clock request image answer table area who t t' area' image' answer' told r long ew et eo e =
    let f : left_by request_answer t (request_of (client_of who) clock request image answer (row_of (is_client who) t) area) ≡ left_by request_answer table (request_of (client_of (le_bytes 8 client)) clock request image answer (row_of (is_client (le_bytes 8 client)) table) area) = rw (et, ew) in
    pick_t _ _ _ _ (eq-eqb _ _ long) (ap (λ x. left x t' area' image' answer') eo ∙ ap left_of e ∙ kept_is t (request_of (client_of who) clock request image answer (row_of (is_client who) t) area) ∙ f)

-- a tick on the table's bytes, and on the row of the bytes
pub tick_through_lem : (clock : ℕ) (image answer table area t t' answer' : List ℕ) (told : SdoAnswer) → length table ≡ 320 → t ≡ table → left told t' area image answer' ≡ left_by tick_answer t (tick_of clock image answer (row_of true t) area) → left told t' area image answer' ≡ tick_bytes clock image answer table area
unfolding tick_bytes
tick_through_lem clock image answer table area t t' answer' told long et e =
    let f : left_by tick_answer t (tick_of clock image answer (row_of true t) area) ≡ left_by tick_answer table (tick_of clock image answer (row_of true table) area) = rw et in
    pick_t _ _ _ _ (eq-eqb _ _ long) (e ∙ f)

pub tick_by_row : (clock : ℕ) (image answer t area : List ℕ) (row : List Connection) (done : Called (Option Answered)) (told : SdoAnswer) (t' answer' : List ℕ) → row ≡ row_of true t → told_ticked_row done answer' area image ≡ tick_of clock image answer row area → told ≡ tick_answer (told_ticked done.outcome) → t' ≡ table_left told.outcome done.table t → left told t' area image answer' ≡ left_by tick_answer t (tick_of clock image answer (row_of true t) area)
tick_by_row clock image answer t area row done told t' answer' er e et el =
    let f : tick_of clock image answer row area ≡ tick_of clock image answer (row_of true t) area = rw er in
    let g : left told t' area image answer' ≡ left_by tick_answer t (told_ticked_row done answer' area image) = rw (el, et) in
    g ∙ ap (left_by tick_answer t) (e ∙ f)

-- the deadline query on the table's bytes
pub query_sound_bytes : (table t : List ℕ) (d : Option ℕ) → length table ≡ 320 → t ≡ table → d ≡ earliest (table_of t) → (is_table t && sound_table (table_of t)) ≡ true → query_answer (told_next_action (Ok d)) ≡ query_bytes table
unfolding query_bytes
query_sound_bytes table t d long et ed s =
    let row : row_of true t ≡ table_of t = row_is true t (sym (sound_row true t) ∙ s) in
    let f : told_next_action (Ok d) ≡ query_of (table_of t) = ap (λ e. told_next_action (Ok e)) ed ∙ query_sound (table_of t) (length_table_of t) (ap sound_table (sym row) ∙ sym (sound_row true t) ∙ s) in
    pick_t _ _ _ _ (eq-eqb _ _ long) (ap query_answer (f ∙ ap query_of (sym row)) ∙ ap (λ b. query_answer (query_of (row_of true b))) et)

pub query_unsound_bytes : (table t : List ℕ) → length table ≡ 320 → t ≡ table → (is_table t && sound_table (table_of t)) ≡ false → query_answer (refused 3) ≡ query_bytes table
unfolding query_bytes
query_unsound_bytes table t long et s =
    pick_t _ _ _ _ (eq-eqb _ _ long) (ap query_answer (query_unsound (row_of true t) (eight_row true t) (sym (sound_row true t) ∙ s)) ∙ ap (λ b. query_answer (query_of (row_of true b))) et)
