-- A request that passed the tests, on a table in any form: what its parts give together is what the definitions leave.
use Prim.Native.Nat.{ℕ, ◌+◌, ◌*◌, ◌<◌}
use native.Mathlib.Omega.{arith}
use mathlib.Core.Path.{◌≡◌, refl, sym, ap, ◌∙◌}
use mathlib.Core.Bool.{Bool, true, false, ◌&&◌}
use mathlib.Core.List.{List}
use lib.ListN.{length}
use lib.Dec.{ltb}
use borrow.Author.Tests.{le-leb, le-ltb}
use Rattle.picks.specs.Pick.{pick}
use Rattle.picks.proofs.Picks.{pick_t, pick_f, pick_elim}
use Rattle.protocol.specs.declared.SdoClientInfo.{SdoClientInfo}
use Rattle.protocol.specs.declared.Connection.{Connection}
use Rattle.protocol.specs.declared.Refusal.{Refusal}
use Rattle.protocol.specs.declared.SdoResponseData.{SdoResponseData}
use Rattle.protocol.specs.declared.Left.{Left}
use Rattle.std.specs.Prelude.{Option, Result, Ok, Err}
use Rattle.protocol.specs.Constants.{SHARE, ANSWER_MIN}
use Rattle.protocol.specs.Coding.{Answer, refused, value, refusal_number}
use Rattle.protocol.specs.ConnectionRecord.{Served, serve, told_handled, told_said, told_reply}
use Rattle.protocol.specs.ConnectionTable.{record_of, holds, is_closed, sound_table, update, release, share_of, with_share}
use Rattle.protocol.specs.Calls.{Verdict, refuse, accept, verdict, To, Called, addressed, answer_written, answer_left}
use Rattle.protocol.specs.Request.{seated, answer_with, accepted, request_tests, on_verdict, request_of}
use Rattle.protocol.proofs.ConnectionTable.{of_holds, holds_by, known_holds}
use Rattle.protocol.proofs.Requests.{Accepted, accepted_by, seat_of, served_kept}
use Rattle.protocol.proofs.StaysSound.{accepted_numbers}
use Rattle.seats.specs.declared.Seat.{Seat}
use Rattle.seats.specs.Seats.{seat_in, back_row, settled_in}
use Rattle.seats.proofs.Seats.{seat_own, seat_back, seat_dropped}
use Rattle.server.specs.Admitted.{Admitted}
use Rattle.server.specs.Left.{holds_share}
use Rattle.server.specs.Tables.{LeftIn, left_in, number_of, made_of, kept_or_made}
use Rattle.server.proofs.Calls.{share_inside, accepted_is, stored_is}
use Rattle.server.proofs.Testing.{early, in_tests, request_small}

-- what is left by equal parts
same_left : {T : Type 0} {r r' : Answer To} {t t' : T} {a a' b b' : List ℕ} (i : List ℕ) → r ≡ r' → t ≡ t' → a ≡ a' → b ≡ b' → left_in r b t a i ≡ left_in r' b' t' a' i
same_left i e f g h = rw (e, f, g, h)

-- an answer or a late refusal leaves the table of the records
both_not : (a : Bool) {b : Bool} → b ≡ false → (a && b) ≡ false
both_not true e = e
both_not false e = refl

pub late_kept : {T : Type 0} (n : ℕ) (old new : T) → 7 < n → pick (ltb 0 n && ltb n 8) old new ≡ new
late_kept n old new late = sym (pick_f _ _ _ _ (both_not (ltb 0 n) (le-ltb n 8 (omega arith))) refl)

late_made : {T : Type 0} (a : Answer To) (old new : T) → ((n : ℕ) → a ≡ refused n → 7 < n) → pick (ltb 0 (number_of a) && ltb (number_of a) 8) old new ≡ new
unfolding pick
late_made (value x) old new late = refl
late_made (refused n) old new late = late_kept n old new (late n refl)

module _ {T : Type 0} (made : List Connection → T) (old : T) (client : SdoClientInfo) (clock : ℕ) (request image answer : List ℕ) (row : List Connection) (area : List ℕ) where
  abbrev tests : Verdict
  tests = verdict (request_tests client clock request image answer row area)

  abbrev on : Verdict → Called To
  on = on_verdict client clock request image answer row area

  -- a request that a test refuses
  pub refused_kept : (x : Refusal) → refuse x ≡ tests → left_in (refused (refusal_number x)) answer old area image ≡ kept_or_made made old (request_of client clock request image answer row area)
  unfolding request_of on_verdict
  refused_kept x v =
      let k = in_tests early (request_tests client clock request image answer row area) x (request_small clock image answer row area client request) (sym v) in
      ap (λ b. left_in (refused (refusal_number x)) answer b area image) (pick_t _ _ _ _ k refl) ∙ ap (λ w. kept_or_made made old (on w)) v

  -- and one that passed them
  pub accepted_made : (l : LeftIn T) → l ≡ made_of made (accepted client clock request image answer row area) → accept ≡ tests → l ≡ kept_or_made made old (request_of client clock request image answer row area)
  unfolding request_of on_verdict
  accepted_made l e v =
      let c = accepted client clock request image answer row area in
      let late = λ (n : ℕ) (f : c.returned ≡ refused n). (accepted_numbers client clock request image answer row area (accepted_by client clock request image answer row area (sym v)) n f).0 in
      e ∙ ap (λ b. left_in c.returned c.answer b c.area c.image) (sym (late_made c.returned old (made c.table) late)) ∙ ap (λ w. kept_or_made made old (on w)) v

-- a table that is the row itself
module _ (client : SdoClientInfo) (clock : ℕ) (request image answer : List ℕ) (row : List Connection) (area : List ℕ) where
  pub row_left : kept_or_made (λ t. t) row (request_of client clock request image answer row area) ≡ made_of (λ t. t) (request_of client clock request image answer row area)
  unfolding request_of on_verdict
  row_left = by_verdict (verdict (request_tests client clock request image answer row area)) refl
    where
      same : (b : Bool) → pick b row row ≡ row
      same b = pick_elim (λ t. t ≡ row) b row row (λ e. refl) (λ e. refl)

      by_verdict : (v : Verdict) → verdict (request_tests client clock request image answer row area) ≡ v → kept_or_made (λ t. t) row (on_verdict client clock request image answer row area v) ≡ made_of (λ t. t) (on_verdict client clock request image answer row area v)
      by_verdict (refuse x) e = ap (λ t. left_in (refused (refusal_number x)) answer t area image) (same (early x))
      by_verdict accept e =
          let c = accepted client clock request image answer row area in
          let late = λ (n : ℕ) (f : c.returned ≡ refused n). (accepted_numbers client clock request image answer row area (accepted_by client clock request image answer row area e) n f).0 in
          ap (λ b. left_in c.returned c.answer b c.area c.image) (late_made c.returned row c.table late)

-- what is left of a row is what a call leaves
abbrev pub called_of : LeftIn (List Connection) → Called To
called_of l = record { returned = l.returned; answer = l.answer; table = l.table; area = l.area; image = l.image }

module _ {T : Type 0} (made : List Connection → T) (client : SdoClientInfo) (clock : ℕ) (request image answer : List ℕ) (R : List Connection) (area : List ℕ) (place free : Option ℕ) (v : Admitted client place free clock request image answer R area) (s : Seat) (es : s ≡ seat_in client place free R) where
  abbrev S : List Connection
  S = seated client clock request image answer R area

  abbrev c : Connection
  c = s.own

  ok : Accepted client clock request image answer R area
  ok = accepted_by client clock request image answer R area v.0

  own : c ≡ record_of client S
  own = ap (λ (z : Seat). z.own) es ∙ seat_own client clock request image answer R area ok place free v.1 v.2 v.3

  -- the area holds the record's own part
  pub own_inside : holds_share c area ≡ true
  own_inside = le-leb (SHARE * c.area + SHARE) (length area) (share_inside client clock request image answer R area S c refl own ok)

  abbrev on_own : Connection → Served
  on_own k = serve k (share_of area k.area) image clock request

  module _ (h : Left (Result SdoResponseData Refusal)) (area' image' : List ℕ) (told : told_handled h (share_of area' c.area) image' ≡ serve c (share_of area c.area) image clock request) (laid : area' ≡ with_share area c.area (share_of area' c.area)) where
    abbrev X : Served
    X = told_handled h (share_of area' c.area) image'

    abbrev U : List Connection
    U = update client X.connection S

    -- what was done, by what was said
    done_as : (said : Result SdoResponseData Refusal) → h.said ≡ said → answer_with client clock request image answer R area U (with_share area c.area X.share) X (told_said said (share_of area' c.area) image') ≡ accepted client clock request image answer R area
    done_as said e =
        ap (λ z. answer_with client clock request image answer R area U (with_share area c.area X.share) X (told_said z (share_of area' c.area) image')) (sym e) ∙ accepted_is client clock request image answer R area S c refl own X (sym told)

    sound : sound_table U ≡ true
    sound = stored_is client clock request image answer R area S c refl own X (sym told) ok

    number : X.connection.area ≡ c.area
    number =
        let f : on_own (record_of client S) ≡ X = ap on_own (sym own) ∙ sym told in
        ap (λ (z : Served). z.connection.area) (sym f) ∙ (served_kept client clock request image answer R area ok).area ∙ ap (λ (k : Connection). k.area) (sym own)

    held : holds client X.connection ≡ true
    held =
        let f : on_own (record_of client S) ≡ X = ap on_own (sym own) ∙ sym told in
        let k = served_kept client clock request image answer R area ok in
        let w = of_holds client (record_of client S) (known_holds client S (seat_of client clock request image answer R area ok).known) in
        ap (λ (z : Served). holds client z.connection) (sym f) ∙ holds_by client (on_own (record_of client S)).connection (k.used ∙ w.0) (k.client ∙ w.1)

    settled : settled_in s.place X.connection R ≡ pick (is_closed X.connection.state) (release (holds client) U) U
    settled =
        let n = X.connection in
        let b = is_closed n.state in
        ap (λ (z : Seat). settled_in z.place n R) es ∙ ap (λ t. pick b t (back_row (seat_in client place free R).place n R)) (seat_dropped client clock request image answer R area ok place free v.1 v.2 v.3 n (number ∙ ap (λ (z : Seat). z.own.area) es) held sound) ∙ ap (pick b (release (holds client) U)) (seat_back client clock request image answer R area ok place free v.1 v.2 v.3 n)

  -- a record that refuses the frame
  pub refused_left : (h : Left (Result SdoResponseData Refusal)) (x : Refusal) (area' image' : List ℕ) (t' : T) → h.said ≡ Err x → told_handled h (share_of area' c.area) image' ≡ serve c (share_of area c.area) image clock request → area' ≡ with_share area c.area (share_of area' c.area) → t' ≡ made (back_row s.place h.connection R) → left_in (refused (refusal_number x)) answer t' area' image' ≡ made_of made (accepted client clock request image answer R area)
  unfolding answer_with
  refused_left h x area' image' t' i e f g =
      same_left image' refl (g ∙ ap (λ (z : Seat). made (back_row z.place h.connection R)) es ∙ ap made (seat_back client clock request image answer R area ok place free v.1 v.2 v.3 h.connection)) f refl ∙ ap (made_of made) (done_as h area' image' e f (Err x) i)

  -- one that answers it: the buffer has room, so the answer is whole
  pub answered_left : (h : Left (Result SdoResponseData Refusal)) (r : SdoResponseData) (area' image' answer' : List ℕ) (t' : T) (told : Answer To) → h.said ≡ Ok r → told_handled h (share_of area' c.area) image' ≡ serve c (share_of area c.area) image clock request → area' ≡ with_share area c.area (share_of area' c.area) → t' ≡ made (settled_in s.place h.connection R) → told ≡ addressed client (answer_written (told_reply r (share_of area' c.area) image') answer) → answer' ≡ answer_left (told_reply r (share_of area' c.area) image') answer → left_in told answer' t' area' image' ≡ made_of made (accepted client clock request image answer R area)
  unfolding answer_with
  answered_left h r area' image' answer' t' told i e f g w l =
      let short : ltb (length answer) ANSWER_MIN ≡ false = le-ltb _ _ ok.room in
      same_left image' (w ∙ ap (addressed client) (sym (pick_f _ _ _ _ short refl))) (g ∙ ap made (settled h area' image' e f)) f (l ∙ sym (pick_f _ _ _ _ short refl)) ∙ ap (made_of made) (done_as h area' image' e f (Ok r) i)
