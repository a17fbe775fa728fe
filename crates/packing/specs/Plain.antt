-- Bytes of a record that are those written of what they say, part by part.
use Rattle.std.specs.Prelude.{ℕ, ◌≡◌, List, [], ◌∷◌, ◌++◌, take, drop, replicate}
use Rattle.format.specs.Format.{client_bytes, client_of, transfer_bytes, transfer_of, state_number, state_bytes, state_of, record_bytes, record_of}

abbrev pub SameClient : List ℕ → Type 0
SameClient s = client_bytes (client_of (drop 1 s)) ≡ take 8 (drop 1 s)

-- what stands behind the state, to the end
abbrev pub NoTransfer : List ℕ → Type 0
NoTransfer s = replicate 27 0 ≡ take 27 (drop 13 s)

abbrev pub SameTransfer : List ℕ → Type 0
SameTransfer s = transfer_bytes (transfer_of s) ++ (0 ∷ []) ≡ take 27 (drop 13 s)

abbrev pub SameState : List ℕ → Type 0
SameState s = state_number (state_of s) ∷ (state_bytes (state_of s) ++ (0 ∷ [])) ≡ take 28 (drop 12 s)

abbrev pub SameRecord : List ℕ → Type 0
SameRecord s = record_bytes (record_of s) ≡ s
