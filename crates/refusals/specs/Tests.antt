-- The tests of a call by what is told of the table: whether it is sound, and whether it is full for the client. `tick_tests` and `request_tests` are these for a table of eight (crates/server/proofs/Laws).
use Rattle.std.specs.Prelude.{ℕ, Bool, ◌||◌, not, List, [], ◌∷◌, length, ltb, eqb}
use Rattle.protocol.specs.declared.Refusal.TheVariants as N
use Rattle.protocol.specs.Constants.{ANSWER_MIN, AREA, REQUEST_MAX, CLOCK_MAX}
use Rattle.protocol.specs.DictionaryImage.{sound_image}
use Rattle.protocol.specs.Calls.{Test, test}

abbrev pub lent_tests : Bool → ℕ → List ℕ → List ℕ → List ℕ → List Test
lent_tests sound clock image answer area = test (ltb (length answer) ANSWER_MIN || not (eqb (length area) AREA)) N.Lent ∷ test (not (sound_image image)) N.Image ∷ test (not sound) N.Table ∷ test (ltb CLOCK_MAX clock) N.Clock ∷ []

abbrev pub frame_tests : ℕ → Bool → List Test
frame_tests n full = test (ltb n 4) N.Short ∷ test (ltb REQUEST_MAX n) N.Long ∷ test full N.Full ∷ []
