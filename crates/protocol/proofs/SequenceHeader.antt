-- Laws of the sequence header: both round trips, and the step of a number.
use Prim.Native.Nat.{ℕ, zero, suc, ◌+◌, ◌*◌, ◌/◌, ◌%◌, ◌<◌}
use native.Mathlib.Omega.{arith}
use mathlib.Core.Path.{◌≡◌, refl, ◌∙◌}
use mathlib.Core.Logic.{◌≢◌}
use mathlib.Core.Bool.{false}
use mathlib.Core.List.{List, [], ◌∷◌, ◌++◌}
use lib.ListN.{length, get_or}
use lib.Dec.{lit<, ltb}
use borrow.Author.Tests.{le-ltb}
use Rattle.picks.specs.Pick.{pick}
use Rattle.octets.specs.Octets.{AllBytes}
use Rattle.protocol.specs.declared.ReceiveConnState.{ReceiveConnState}
use Rattle.protocol.specs.declared.ReceiveConnState.TheVariants as R
use Rattle.protocol.specs.declared.SendConnState.{SendConnState}
use Rattle.protocol.specs.declared.SendConnState.TheVariants as S
use Rattle.protocol.specs.declared.SequenceLayerHeader.{SequenceLayerHeader}
use Rattle.protocol.specs.Coding.{value}
use Rattle.protocol.proofs.Coding.{value_one, past_test}
use Rattle.protocol.specs.SequenceHeader.{receive_mark, send_mark, receive_mark_of, send_mark_of, encode_header, decode_header, next}

-- a mark is below 4
pub receive_mark_lt : (m : ReceiveConnState) → receive_mark m < 4
receive_mark_lt R.NoConnection = lit< tt
receive_mark_lt R.Initialization = lit< tt
receive_mark_lt R.ConnectionValid = lit< tt
receive_mark_lt R.ErrorResponse = lit< tt

pub send_mark_lt : (m : SendConnState) → send_mark m < 4
send_mark_lt S.NoConnection = lit< tt
send_mark_lt S.Initialization = lit< tt
send_mark_lt S.ConnectionValid = lit< tt
send_mark_lt S.ConnectionValidAckRequest = lit< tt

-- a byte of a number and a mark gives both back
low : (n k : ℕ) → k < 4 → (n % 64 * 4 + k) % 4 ≡ k
low n k h = omega arith

high : (n k : ℕ) → k < 4 → (n % 64 * 4 + k) / 4 % 64 ≡ n % 64
high n k h = omega arith

receive_mark_back : (m : ReceiveConnState) → receive_mark_of (receive_mark m) ≡ m
unfolding receive_mark_of pick
receive_mark_back R.NoConnection = refl
receive_mark_back R.Initialization = refl
receive_mark_back R.ConnectionValid = refl
receive_mark_back R.ErrorResponse = refl

send_mark_back : (m : SendConnState) → send_mark_of (send_mark m) ≡ m
unfolding send_mark_of pick
send_mark_back S.NoConnection = refl
send_mark_back S.Initialization = refl
send_mark_back S.ConnectionValid = refl
send_mark_back S.ConnectionValidAckRequest = refl

receive_number_back : (k : ℕ) → k < 4 → receive_mark (receive_mark_of k) ≡ k
unfolding receive_mark_of pick
receive_number_back zero h = refl
receive_number_back (suc zero) h = refl
receive_number_back (suc (suc zero)) h = refl
receive_number_back (suc (suc (suc zero))) h = refl
receive_number_back (suc (suc (suc (suc k)))) h = absurd (omega arith)

send_number_back : (k : ℕ) → k < 4 → send_mark (send_mark_of k) ≡ k
unfolding send_mark_of pick
send_number_back zero h = refl
send_number_back (suc zero) h = refl
send_number_back (suc (suc zero)) h = refl
send_number_back (suc (suc (suc zero))) h = refl
send_number_back (suc (suc (suc (suc k)))) h = absurd (omega arith)

-- the header with its numbers modulo 64
abbrev pub modulo64 : SequenceLayerHeader → SequenceLayerHeader
modulo64 h = record { receive = h.receive % 64; rcon = h.rcon; send = h.send % 64; scon = h.scon }

-- decoding an encoded header, with any bytes behind it, gives it with its numbers modulo 64
pub decode_encode_modulo : (h : SequenceLayerHeader) (r : List ℕ) → decode_header (encode_header h ++ r) ≡ value (modulo64 h)
unfolding decode_header encode_header pick
decode_encode_modulo h r =
    let l : ltb (length (encode_header h ++ r)) 4 ≡ false = le-ltb (length (encode_header h ++ r)) 4 (omega arith) in
    let n = receive_mark_lt h.rcon in
    let m = send_mark_lt h.scon in
    rw (
      l,
      high h.receive (receive_mark h.rcon) n,
      high h.send (send_mark h.scon) m,
      low h.receive (receive_mark h.rcon) n,
      low h.send (send_mark h.scon) m,
      receive_mark_back h.rcon,
      send_mark_back h.scon,
    )

-- and so gives it back where both numbers are below 64
pub decode_encode : (h : SequenceLayerHeader) (r : List ℕ) → h.receive < 64 → h.send < 64 → decode_header (encode_header h ++ r) ≡ value h
decode_encode h r p q =
    let a : h.receive % 64 ≡ h.receive = omega arith in
    let b : h.send % 64 ≡ h.send = omega arith in
    decode_encode_modulo h r ∙ (rw (a, b))

-- encoding a decoded header gives its two bytes and two zeros
pub encode_decode : (b : List ℕ) (h : SequenceLayerHeader) → AllBytes b → decode_header b ≡ value h → encode_header h ≡ get_or b 0 0 ∷ get_or b 1 0 ∷ 0 ∷ 0 ∷ []
unfolding decode_header encode_header
encode_decode b h g e =
    let x = get_or b 0 0 in
    let y = get_or b 1 0 in
    let w = value_one (past_test _ _ _ _ e).1 in
    let gx = g 0 in
    let gy = g 1 in
    let hx : x / 4 % 64 % 64 * 4 + x % 4 ≡ x = omega arith in
    let hy : y / 4 % 64 % 64 * 4 + y % 4 ≡ y = omega arith in
    rw (← w, receive_number_back (x % 4) (omega arith), send_number_back (y % 4) (omega arith), hx, hy)

-- the next number
pub next_below : (n : ℕ) → next n < 64
unfolding next
next_below n = omega arith

pub next_after_63 : next 63 ≡ 0
unfolding next
next_after_63 = refl

pub next_other : (n : ℕ) → next n ≢ n
unfolding next
next_other n = omega arith
