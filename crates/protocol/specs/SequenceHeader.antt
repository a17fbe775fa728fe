-- Document 01, 'Sequence header'. The sentence that a definition comes from stands above it.
use Rattle.std.specs.Prelude.{ℕ, ◌+◌, ◌*◌, ◌/◌, ◌%◌, List, [], ◌∷◌, length, get_or, drop, ltb, eqb, Result, Ok, Err}
use Rattle.picks.specs.Pick.{pick}
use Rattle.protocol.specs.declared.ReceiveConnState.{ReceiveConnState}
use Rattle.protocol.specs.declared.ReceiveConnState.TheVariants as R
use Rattle.protocol.specs.declared.SendConnState.{SendConnState}
use Rattle.protocol.specs.declared.SendConnState.TheVariants as S
use Rattle.protocol.specs.declared.SequenceLayerHeader.{SequenceLayerHeader}
use Rattle.protocol.specs.declared.BufferTooShort.{BufferTooShort}
use Rattle.protocol.specs.Coding.{Answer, refused, value}

-- "Receive marks: 0 none, 1 initialization, 2 valid, 3 error response."
abbrev pub receive_mark : ReceiveConnState → ℕ
receive_mark R.NoConnection = 0
receive_mark R.Initialization = 1
receive_mark R.ConnectionValid = 2
receive_mark R.ErrorResponse = 3

-- "Send marks: 0 none, 1 initialization, 2 valid, 3 valid with acknowledge request."
abbrev pub send_mark : SendConnState → ℕ
send_mark S.NoConnection = 0
send_mark S.Initialization = 1
send_mark S.ConnectionValid = 2
send_mark S.ConnectionValidAckRequest = 3

-- the mark of a number from 0 to 3
unfoldable pub receive_mark_of : ℕ → ReceiveConnState
receive_mark_of n = pick (eqb n 0) R.NoConnection (pick (eqb n 1) R.Initialization (pick (eqb n 2) R.ConnectionValid R.ErrorResponse))

unfoldable pub send_mark_of : ℕ → SendConnState
send_mark_of n = pick (eqb n 0) S.NoConnection (pick (eqb n 1) S.Initialization (pick (eqb n 2) S.ConnectionValid S.ConnectionValidAckRequest))

-- "Byte 0: receive number times 4 plus receive mark. Byte 1: send number times 4 plus send mark. Bytes 2 and 3: written 0 … Numbers 0 to 63, written modulo 64."
unfoldable pub encode_header : SequenceLayerHeader → List ℕ
encode_header h = (h.receive % 64 * 4 + receive_mark h.rcon) ∷ (h.send % 64 * 4 + send_mark h.scon) ∷ 0 ∷ 0 ∷ []

-- bytes 2 and 3 are "ignored on reading"; "decoding a short header, 5"
unfoldable pub decode_header : List ℕ → Answer SequenceLayerHeader
decode_header b =
    let b₀ = get_or b 0 0 in
    let b₁ = get_or b 1 0 in
    pick (ltb (length b) 4) (refused 5)
    (value (record { receive = b₀ / 4 % 64; rcon = receive_mark_of (b₀ % 4); send = b₁ / 4 % 64; scon = send_mark_of (b₁ % 4) }))

-- the number and the value of each case of the code's answer
abbrev pub told_header : Result SequenceLayerHeader BufferTooShort → Answer SequenceLayerHeader
told_header (Ok h) = value h
told_header (Err e) = refused 5

-- "The next number adds one with wrap in a u8, then takes the remainder by 64."
unfoldable pub next : ℕ → ℕ
next n = (n + 1) % 256 % 64

-- "The bytes after the first four are handed on as they lie in the request."
abbrev pub command_part : List ℕ → List ℕ
command_part request = drop 4 request
