-- The moves of a row by places, as the code makes them, for a row of any shape; proofs/ says where they are `join` and `release`.
use Rattle.std.specs.Prelude.{ℕ, zero, suc, Bool, true, List, [], ◌∷◌, ◌++◌, length, get_or, take, drop, ltb}
use Rattle.picks.specs.Pick.{pick, first, every}
use Rattle.protocol.specs.declared.SdoClientInfo.{SdoClientInfo}
use Rattle.protocol.specs.declared.Connection.{Connection}
use Rattle.protocol.specs.ConnectionTable.{fresh, is_unused, joining}
use Rattle.row.specs.Row.{seat_place, put_in}

-- used records come first
unfoldable pub used_first : List Connection → Bool
used_first [] = true
used_first (r ∷ rs) = pick r.used (used_first rs) (every is_unused rs)

unfoldable pub unused_place : List Connection → ℕ
unused_place t = first is_unused t

-- a client's record in its place, with the first unused one's number; a full row stays
unfoldable pub joined_row : SdoClientInfo → List Connection → List Connection
joined_row c t =
    let n = unused_place t in
    pick (ltb n (length t)) (put_in (seat_place c t) n (joining c (get_or t n (fresh 0)).area) t) t

-- the record at a place dropped, its number behind all others; past the end nothing is dropped
unfoldable pub dropped_at : ℕ → List Connection → List Connection
dropped_at i t = pick (ltb i (length t)) (take i t ++ drop (suc i) t ++ (fresh (get_or t i (fresh 0)).area ∷ [])) t

-- the first record that passes a test dropped, as many times as said
unfoldable pub drops_first : ℕ → (Connection → Bool) → List Connection → List Connection
drops_first zero f t = t
drops_first (suc n) f t = drops_first n f (dropped_at (first f t) t)
