-- Document 01: a request.
use Rattle.std.specs.Prelude.{ℕ, ◌&&◌, not, List, [], ◌∷◌, length, ltb, eqb, Result, Ok, Err}
use Rattle.picks.specs.Pick.{pick}
use Rattle.octets.specs.Octets.{splice}
use Rattle.protocol.specs.declared.Refusal.{Refusal}
use Rattle.protocol.specs.declared.Refusal.TheVariants as N
use Rattle.protocol.specs.declared.Answered.{Answered}
use Rattle.protocol.specs.declared.Called as L
use Rattle.protocol.specs.declared.SdoClientInfo.{SdoClientInfo}
use Rattle.protocol.specs.declared.Connection.{Connection}
use Rattle.protocol.specs.Constants.{REQUEST_MAX, CLOCK_MAX}
use Rattle.protocol.specs.Coding.{Answer, refused, value, refusal_number}
use Rattle.protocol.specs.DictionaryImage.{sound_image}
use Rattle.protocol.specs.ConnectionRecord.{Reply, Served, serve}
use Rattle.protocol.specs.ConnectionTable.{sound_table, record_of, is_known, holds, unused_of, update, join, release, is_closed, share_of, with_share}
use Rattle.protocol.specs.Calls.{Test, test, Verdict, refuse, accept, verdict, lent_wrong, To, Called, frame}

-- 5: "request under 4 bytes"; 6: "request above 1,500"; 7: "eight used records, Closed ones included, none this client's"
module _ (client : SdoClientInfo) (clock : ℕ) (request image answer : List ℕ) (table : List Connection) (area : List ℕ) where
  unfoldable pub request_tests : List Test
  request_tests = test (lent_wrong table area answer) N.Lent ∷ test (not (sound_image image)) N.Image ∷ test (not (sound_table table)) N.Table ∷ test (ltb CLOCK_MAX clock) N.Clock ∷ test (ltb (length request) 4) N.Short ∷ test (ltb REQUEST_MAX (length request)) N.Long ∷ test (not (is_known client table) && eqb (length (unused_of table)) 0) N.Full ∷ []

  -- the client's record, joined where it has none
  abbrev pub seated : List Connection
  seated = pick (is_known client table) table (join client table)

  -- "An answered request that ends Closed drops its record; a refused one drops none."
  abbrev pub dropped : List Connection → Connection → List Connection
  dropped t r = pick (is_closed r.state) (release (holds client) t) t

  unfoldable pub answer_with : List Connection → List ℕ → Served → Answer Reply → Called To
  answer_with t area' s (refused n) = record { returned = refused n; answer = answer; table = t; area = area'; image = s.image }
  answer_with t area' s (value r) = record { returned = value (record { client = client; size = length (frame r) }); answer = splice 0 (frame r) answer; table = dropped t s.connection; area = area'; image = s.image }

  unfoldable pub request_served : Connection → Served → Called To
  request_served r s = answer_with (update client s.connection seated) (with_share area r.area s.share) s s.said

  unfoldable pub accepted : Called To
  accepted =
      let r = record_of client seated in
      request_served r (serve r (share_of area r.area) image clock request)

  unfoldable pub on_verdict : Verdict → Called To
  on_verdict (refuse x) = record { returned = refused (refusal_number x); answer = answer; table = table; area = area; image = image }
  on_verdict accept = accepted

  unfoldable pub request_of : Called To
  request_of = on_verdict (verdict request_tests)

-- the number and the values of each case of the code's answer
abbrev pub told_outcome : Result Answered Refusal → Answer To
told_outcome (Err x) = refused (refusal_number x)
told_outcome (Ok a) = value (record { client = a.client; size = a.length })

-- what the code returns, with all that was lent to it as it is left
abbrev pub told_requested : L.Called Answered → List ℕ → List ℕ → List ℕ → Called To
told_requested r answer area image = record { returned = told_outcome r.outcome; answer = answer; table = r.table; area = area; image = image }
